use Rattle.std.proofs.Common.{◌∙◌}
use Rattle.values.proofs.Cells.{name-clipped}
use Rattle.values.proofs.cell.read_name.Goals as goal

pub returns : goal.returns
returns c = (c.text_of.ensures.0 ∙ name-clipped _ _ _ c.from.ensures c.min-n.ensures, c.text_of.ensures.1)
