use Rattle.std.proofs.Common.{arith}
use Rattle.values.specs.Meaning.{text_bytes, meaning}
use Rattle.laid.proofs.Inside.{inside-header}
use Rattle.laid.proofs.Stores.{held-inside}
use Rattle.laid.proofs.Columns.{rest-length}
use Rattle.checks.proofs.Checking.{entry-within}
use Rattle.walks.proofs.NextKey.{entry-long, tells_none, tells-key, tells-other}
use Rattle.walks.proofs.walk.next_entered.Goals as goal

pub entry_count-requires : goal.entry_count-requires
entry_count-requires c = let a = c.args in inside-header a.p a.places a.s.now (held-inside a.p a.places a.s.now c.requires.0)

pub returns-then-entry_count-i : goal.returns-then-entry_count-i
returns-then-entry_count-i c =
    let a = c.args in
    (tells_none a.p a.places a.s.now c.requires.0 (text_bytes a.name) a.column (meaning a.v) (meaning a.after) c.requires.4 _ c.entry_behind-i.ensures _ c.entry_count.ensures c.if-entry_count-i.true, tt)

pub entry_record-rec-requires-clause-inside : goal.entry_record-rec-requires-clause-inside
entry_record-rec-requires-clause-inside c = held-inside c.args.p c.args.places c.args.s.now c.requires.0

pub entry_record-rec-requires-clause-i_in_bounds : goal.entry_record-rec-requires-clause-i_in_bounds
entry_record-rec-requires-clause-i_in_bounds c = let a = c.args in entry-within a.p a.places a.s.now c.requires.0 c.entry_behind-i.result _ c.entry_count.ensures c.if-entry_count-i.false

pub is_of-requires : goal.is_of-requires
is_of-requires c =
    let a = c.args in
    (omega (arith, entry-long a.p a.places a.s.now c.requires.0 _ _ c.entry_count.ensures c.if-entry_count-i.false _ c.entry_record-rec.ensures), c.requires.1, c.requires.2)

pub returns-then-not-is_of : goal.returns-then-not-is_of
returns-then-not-is_of c =
    let a = c.args in (
      tells-other a.p a.places a.s.now c.requires.0 (text_bytes a.name) a.column (meaning a.v) (meaning a.after) c.requires.4 _ c.entry_behind-i.ensures
          (entry-within a.p a.places a.s.now c.requires.0 c.entry_behind-i.result _ c.entry_count.ensures c.if-entry_count-i.false)
          _ c.entry_record-rec.ensures _ c.is_of.ensures c.if-not-is_of.true,
      tt,
    )

pub slice_bounds-read_cell-count : goal.slice_bounds-read_cell-count
slice_bounds-read_cell-count c = let a = c.args in omega (arith, entry-long a.p a.places a.s.now c.requires.0 _ _ c.entry_count.ensures c.if-entry_count-i.false _ c.entry_record-rec.ensures)

pub slice_bounds-read_cell-start : goal.slice_bounds-read_cell-start
slice_bounds-read_cell-start c = let a = c.args in omega (arith, entry-long a.p a.places a.s.now c.requires.0 _ _ c.entry_count.ensures c.if-entry_count-i.false _ c.entry_record-rec.ensures)

pub read_cell-requires : goal.read_cell-requires
read_cell-requires c =
    let a = c.args in
    rw (rest-length 52 c.entry_record-rec.result.now) (omega (arith, entry-long a.p a.places a.s.now c.requires.0 _ _ c.entry_count.ensures c.if-entry_count-i.false _ c.entry_record-rec.ensures))

pub returns : goal.returns
returns c =
    let a = c.args in (
      tells-key a.p a.places a.s.now c.requires.0 (text_bytes a.name) a.column (meaning a.v) (meaning a.after) c.requires.4 _ c.entry_behind-i.ensures
          (entry-within a.p a.places a.s.now c.requires.0 c.entry_behind-i.result _ c.entry_count.ensures c.if-entry_count-i.false)
          _ c.entry_record-rec.ensures _ c.is_of.ensures c.if-not-is_of.false _ c.read_cell.ensures.0,
      c.read_cell.ensures.1,
    )
