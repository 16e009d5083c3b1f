use Rattle.std.proofs.Common.{length, ap, ◌∙◌, arith}
use Rattle.values.specs.Meaning.{meaning}
use Rattle.journal.specs.Turn.{page_at}
use Rattle.journal.proofs.Turning.{content-long, key-is, answer-is, turn-known, turn-place, key-found, row-its, absent_none, absent-row}
use Rattle.journal.proofs.turn.turn_absent.Goals as goal

pub content_at-requires : goal.content_at-requires
content_at-requires c = (turn-known c.requires.0.place, turn-place c.requires.0.place)

pub cell_in-key-requires : goal.cell_in-key-requires
cell_in-key-requires c = let h = c.requires.0.place in (h.batch.paging.coded, ap length c.content_at.ensures ∙ content-long c.args.p c.args.j.now c.args.i (turn-place h), omega (arith, h.batch.paging.coded.known.some-column))

pub find_row-requires : goal.find_row-requires
find_row-requires c = let h = c.requires.0.place in (h.batch.store, key-found h c.named_at-at.ensures, c.named_at-at.ensures.proper, c.cell_in-key.ensures.1)

pub returns-in_default : goal.returns-in_default
returns-in_default c = absent_none c.requires.0.place c.named_at-at.ensures c.requires.1 (key-is (page_at c.args.p c.args.j.now c.args.i) c.args.p.cell c.content_at.ensures c.cell_in-key.ensures.0) (answer-is c.in_default.is c.find_row.ensures)

pub swap_out-requires : goal.swap_out-requires
swap_out-requires c = let h = c.requires.0.place in (h.batch.store, row-its h c.named_at-at.ensures (meaning c.cell_in-key.result.value) c.in-Some.ensures, turn-place h)

pub returns : goal.returns
returns c = absent-row c.requires.0.place c.named_at-at.ensures c.requires.1 (key-is (page_at c.args.p c.args.j.now c.args.i) c.args.p.cell c.content_at.ensures c.cell_in-key.ensures.0) c.in-Some.ensures c.swap_out.ensures
