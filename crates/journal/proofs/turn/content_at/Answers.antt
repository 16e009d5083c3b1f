use Rattle.std.proofs.Common.{length, ap, arith}
use Rattle.journal.proofs.Turning.{page-long}
use Rattle.journal.proofs.Writing.{width_some}
use Rattle.journal.proofs.turn.content_at.Goals as goal

pub slice_bounds-result-count : goal.slice_bounds-result-count
slice_bounds-result-count c = omega (arith, ap length c.place_at.ensures, page-long c.args.p c.args.j.now c.args.i c.requires.1, width_some c.args.p)

pub slice_bounds-result-start : goal.slice_bounds-result-start
slice_bounds-result-start c = omega (arith, ap length c.place_at.ensures, page-long c.args.p c.args.j.now c.args.i c.requires.1, width_some c.args.p)
