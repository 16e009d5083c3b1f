use Rattle.std.proofs.Common.{refl}
use Rattle.laid.proofs.Columns.{rest}
use Rattle.laid.proofs.catalog.default_in.Goals as goal

pub returns-then-flag : goal.returns-then-flag
returns-then-flag c = (rw (← c.flag.ensures, c.if-flag.true, c.read_cell.ensures.0, rest 27 c.args.col.now) refl, c.read_cell.ensures.1)
