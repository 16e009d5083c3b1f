use Rattle.std.proofs.Common.{length, ap, ◌∙◌, arith}
use Rattle.laid.proofs.RowFacts.{start-table, start-least}
use Rattle.laid.proofs.Stores.{held-inside}
use Rattle.journal.proofs.Turning.{content-long, turn-known, turn-place, named-known, columns-few, key-less, key-found, count-few, flown, row-addable, row-came, row-replaceable, row-changed}
use Rattle.journal.proofs.turn.turn_row.Goals as goal

pub table_record-requires-clause-inside : goal.table_record-requires-clause-inside
table_record-requires-clause-inside c = held-inside c.args.p c.args.places c.args.s.now c.requires.0.place.batch.store

pub table_record-requires-clause-i_in_bounds : goal.table_record-requires-clause-i_in_bounds
table_record-requires-clause-i_in_bounds c = let h = c.requires.0.place in start-table c.args.p c.args.places c.args.s.now h.batch.store c.named_at-at.result.table (named-known h c.named_at-at.ensures)

pub column_count-count-requires : goal.column_count-count-requires
column_count-count-requires c = let h = c.requires.0.place in start-least c.args.p c.args.places c.args.s.now h.batch.store c.named_at-at.result.table (named-known h c.named_at-at.ensures) c.table_record.result.now c.table_record.ensures

pub content_at-requires : goal.content_at-requires
content_at-requires c = (turn-known c.requires.0.place, turn-place c.requires.0.place)

pub row_from-row-requires : goal.row_from-row-requires
row_from-row-requires c = let h = c.requires.0.place in (h.batch.paging, ap length c.content_at.ensures ∙ content-long c.args.p c.args.j.now c.args.i (turn-place h), count-few h c.named_at-at.ensures c.table_record.ensures c.column_count-count.ensures)

pub offset_bounds-deref-at : goal.offset_bounds-deref-at
offset_bounds-deref-at c = let h = c.requires.0.place in omega (arith, key-less h c.named_at-at.ensures, columns-few h c.named_at-at.ensures, h.batch.paging.most)

pub bounds-deref-at : goal.bounds-deref-at
bounds-deref-at c = let h = c.requires.0.place in let w = flown h c.named_at-at.ensures c.table_record.ensures c.column_count-count.ensures c.content_at.ensures c.row_from-row.ensures.0 c.deref.ensures c.deref.ensures in w.inside

pub find_row-requires : goal.find_row-requires
find_row-requires c = let h = c.requires.0.place in let w = flown h c.named_at-at.ensures c.table_record.ensures c.column_count-count.ensures c.content_at.ensures c.row_from-row.ensures.0 c.deref.ensures c.deref.ensures in (h.batch.store, key-found h c.named_at-at.ensures, c.named_at-at.ensures.proper, w.key_proper)

pub swap-requires-clause-laid_store : goal.swap-requires-clause-laid_store
swap-requires-clause-laid_store c = let h = c.requires.0.place in let w = flown h c.named_at-at.ensures c.table_record.ensures c.column_count-count.ensures c.content_at.ensures c.row_from-row.ensures.0 c.deref-in-Some.ensures c.deref.ensures in (h.batch.store, w.proper, row-replaceable h c.named_at-at.ensures c.requires.1 w.cells w.key c.in-Some.ensures c.requires.0.room)

pub swap-requires-clause-p_in_bounds : goal.swap-requires-clause-p_in_bounds
swap-requires-clause-p_in_bounds c = turn-place c.requires.0.place

pub swap_in-requires-clause-laid_store : goal.swap_in-requires-clause-laid_store
swap_in-requires-clause-laid_store c = let h = c.requires.0.place in let w = flown h c.named_at-at.ensures c.table_record.ensures c.column_count-count.ensures c.content_at.ensures c.row_from-row.ensures.0 c.deref-in-None.ensures c.deref.ensures in (h.batch.store, w.proper, row-addable h c.named_at-at.ensures c.requires.1 w.cells w.key c.in-None.ensures c.requires.0.room)

pub swap_in-requires-clause-paging : goal.swap_in-requires-clause-paging
swap_in-requires-clause-paging c = let h = c.requires.0.place in let w = flown h c.named_at-at.ensures c.table_record.ensures c.column_count-count.ensures c.content_at.ensures c.row_from-row.ensures.0 c.deref-in-None.ensures c.deref.ensures in (h.batch.paging, turn-place h, c.named_at-at.ensures.proper, w.key_proper)

pub returns-in-Some : goal.returns-in-Some
returns-in-Some c = let h = c.requires.0.place in let w = flown h c.named_at-at.ensures c.table_record.ensures c.column_count-count.ensures c.content_at.ensures c.row_from-row.ensures.0 c.deref-in-Some.ensures c.deref.ensures in row-changed h c.named_at-at.ensures c.requires.1 w.cells w.key c.in-Some.ensures c.swap.ensures

pub returns-in-None : goal.returns-in-None
returns-in-None c = let h = c.requires.0.place in let w = flown h c.named_at-at.ensures c.table_record.ensures c.column_count-count.ensures c.content_at.ensures c.row_from-row.ensures.0 c.deref-in-None.ensures c.deref.ensures in row-came h c.named_at-at.ensures c.requires.1 w.cells w.key c.in-None.ensures c.swap_in.ensures
