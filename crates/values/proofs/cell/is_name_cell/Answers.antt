use Rattle.std.proofs.Common.{ap, ◌∙◌}
use Rattle.values.specs.Bytes.{leqb}
use Rattle.values.specs.Cell.{name_cell, is_name_cell}
use Rattle.values.proofs.cell.is_name_cell.Goals as goal

pub returns : goal.returns
unfolding is_name_cell
returns c = c.same_bytes.ensures ∙ ap (λ l. leqb l c.args.s.now) (c.write_name.ensures ∙ ap name_cell c.read_name.ensures.0)
