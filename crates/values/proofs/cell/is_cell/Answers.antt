use Rattle.std.proofs.Common.{ap, sym, ◌∙◌}
use Rattle.values.specs.Bytes.{leqb}
use Rattle.values.specs.Cell.{cell_width, value_cell, read_value, is_cell}
use Rattle.values.proofs.cell.is_cell.Goals as goal

pub returns : goal.returns
unfolding is_cell
returns c =
    c.same_bytes.ensures ∙ ap (λ l. leqb l c.args.s.now) (c.write_cell.ensures ∙ ap (value_cell cell_width) c.read_cell.ensures.0)
    ∙ ap (λ n. leqb (value_cell n (read_value c.args.s.now)) c.args.s.now) (sym c.requires)
