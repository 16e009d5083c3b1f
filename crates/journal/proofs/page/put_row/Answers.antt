use Rattle.std.proofs.Common.{sym, ◌∙◌, arith}
use Rattle.journal.proofs.Writing.{row-place, place-part, place-put}
use Rattle.journal.proofs.page.put_row.Goals as goal

pub fill_row-requires : goal.fill_row-requires
fill_row-requires c = place-part c.args.p c.args.i _ c.args.j.now c.event_width-width.ensures c.requires.2 ∙ sym (row-place c.args.p c.args.rec.now c.requires.1) ∙ omega arith

pub returns : goal.returns
returns c = place-put c.args.p c.args.i _ c.args.j.now c.event_width-width.ensures c.requires.2 _ _ (row-place c.args.p c.args.rec.now c.requires.1) c.fill_row.ensures
