use Rattle.std.proofs.Common.{length, ap, arith}
use Rattle.journal.proofs.Turning.{page-long}
use Rattle.journal.proofs.Writing.{width_some}
use Rattle.journal.proofs.turn.is_row_at.Goals as goal

pub bounds-place_at-0 : goal.bounds-place_at-0
bounds-place_at-0 c = omega (arith, ap length c.place_at.ensures, page-long c.args.p c.args.j.now c.args.i c.requires.1, width_some c.args.p)
