use Rattle.std.proofs.Common.{length, ap, ◌∙◌, refl, arith}
use Rattle.journal.specs.Turn.{page_at}
use Rattle.laid.specs.Row.{table_in}
use Rattle.journal.proofs.Turning.{content-long, row-key, turn-known, turn-place, columns-few, key-less, key-found, stands}
use Rattle.journal.proofs.back.is_taken.Goals as goal

pub content_at-requires : goal.content_at-requires
content_at-requires c = (turn-known c.requires.0, turn-place c.requires.0)

pub cell_in-key-requires : goal.cell_in-key-requires
cell_in-key-requires c = let h = c.requires.0 in (h.batch.paging.coded, ap length c.content_at.ensures ∙ content-long c.args.p c.args.j.now c.args.i (turn-place h), omega (arith, key-less h c.named_at-at.ensures, columns-few h c.named_at-at.ensures))

pub find_row-requires : goal.find_row-requires
find_row-requires c = let h = c.requires.0 in (h.batch.store, key-found h c.named_at-at.ensures, c.named_at-at.ensures.proper, c.cell_in-key.ensures.1)

pub returns : goal.returns
returns c =
    let h = c.requires.0 in
    let m = c.named_at-at.ensures in
    c.is_some.ensures
    ∙ stands h m c.requires.1 refl
    (row-key c.args.p.cell (length (table_in c.args.p c.args.places c.args.s.now c.named_at-at.result.table).columns) _ (page_at c.args.p c.args.j.now c.args.i) (turn-known h).cell c.content_at.ensures m.key (rw m.key at (key-less h m)) c.cell_in-key.ensures.0)
    c.find_row.result c.find_row.ensures
