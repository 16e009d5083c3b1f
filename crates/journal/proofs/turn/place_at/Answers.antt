use Rattle.journal.proofs.Turning.{page-is}
use Rattle.journal.proofs.turn.place_at.Goals as goal

pub returns : goal.returns
returns c = page-is c.args.p c.args.j.now c.args.i c.event_width.ensures c.record_at.ensures
