use Rattle.std.proofs.Common.{refl}
use Rattle.laid.proofs.Columns.{rest}
use Rattle.laid.proofs.catalog.reference_in.Goals as goal

pub returns-then-flag : goal.returns-then-flag
returns-then-flag c = (rw (← c.flag.ensures, c.if-flag.true, c.read_name.ensures.0, rest 53 c.args.col.now) refl, c.read_name.ensures.1)
