use Rattle.journal.proofs.Writing.{absent-long, place-put}
use Rattle.journal.proofs.page.put_absent.Goals as goal

pub returns : goal.returns
returns c = place-put c.args.p c.args.i _ c.args.j.now c.event_width-width.ensures c.requires.1 _ _ (absent-long c.args.p c.requires.0 c.args.name c.args.key c.requires.2 c.requires.3) c.fill_absent.ensures
