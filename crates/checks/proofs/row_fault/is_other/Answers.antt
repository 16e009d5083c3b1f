-- The entry's record is read where the index has it.
use Rattle.std.proofs.Common.{arith, refl}
use Rattle.values.specs.Meaning.{text_bytes, meaning}
use Rattle.laid.proofs.Inside.{inside-header}
use Rattle.laid.proofs.Stores.{held-inside}
use Rattle.laid.proofs.Columns.{rest, rest-length}
use Rattle.checks.proofs.Checking.{entry-within, entry_past, entry_wide, at_entry}
use Rattle.checks.proofs.row_fault.is_other.Goals as goal
use Rattle.checks.proofs.row_fault.is_other.Goals.{then-update, else-update}

pub entry_count-requires : goal.entry_count-requires
entry_count-requires c = inside-header _ _ _ (held-inside _ _ _ c.requires.0)

pub returns-then-entry_count-i : goal.returns-then-entry_count-i
returns-then-entry_count-i c =
    entry_past _ _ _ c.requires.0 c.args.i (text_bytes c.args.name) c.args.column (meaning c.args.v) c.args.update (meaning c.args.key) c.entry_count.result c.entry_count.ensures c.if-entry_count-i.true

pub entry_record-rec-requires-clause-inside : goal.entry_record-rec-requires-clause-inside
entry_record-rec-requires-clause-inside c = held-inside _ _ _ c.requires.0

pub entry_record-rec-requires-clause-i_in_bounds : goal.entry_record-rec-requires-clause-i_in_bounds
entry_record-rec-requires-clause-i_in_bounds c = entry-within _ _ _ c.requires.0 c.args.i c.entry_count.result c.entry_count.ensures c.if-entry_count-i.false

pub is_of-requires : goal.is_of-requires
is_of-requires c =
    let h = entry-within _ _ _ c.requires.0 c.args.i c.entry_count.result c.entry_count.ensures c.if-entry_count-i.false in
    let l = entry_wide _ _ _ c.requires.0 c.args.i h c.entry_record-rec.result.now c.entry_record-rec.ensures in
    (omega arith, c.requires.1, c.requires.2)

pub slice_bounds-read_cell-count : goal.slice_bounds-read_cell-count
slice_bounds-read_cell-count c =
    let h = entry-within _ _ _ c.requires.0 c.args.i c.entry_count.result c.entry_count.ensures c.if-entry_count-i.false in
    let l = entry_wide _ _ _ c.requires.0 c.args.i h c.entry_record-rec.result.now c.entry_record-rec.ensures in
    omega arith

pub slice_bounds-read_cell-start : goal.slice_bounds-read_cell-start
slice_bounds-read_cell-start c =
    let h = entry-within _ _ _ c.requires.0 c.args.i c.entry_count.result c.entry_count.ensures c.if-entry_count-i.false in
    let l = entry_wide _ _ _ c.requires.0 c.args.i h c.entry_record-rec.result.now c.entry_record-rec.ensures in
    omega arith

pub read_cell-requires : goal.read_cell-requires
read_cell-requires c =
    let h = entry-within _ _ _ c.requires.0 c.args.i c.entry_count.result c.entry_count.ensures c.if-entry_count-i.false in
    let l = entry_wide _ _ _ c.requires.0 c.args.i h c.entry_record-rec.result.now c.entry_record-rec.ensures in
    rw (rest-length 52 c.entry_record-rec.result.now) (omega arith)

pub returns-after-update : goal.returns-after-update
returns-after-update c =
    let h = entry-within _ _ _ c.requires.0 c.args.i c.entry_count.result c.entry_count.ensures c.if-entry_count-i.false in
    rw (
      at_entry _ _ _ c.requires.0 c.args.i (text_bytes c.args.name) c.args.column (meaning c.args.v) c.args.update (meaning c.args.key) h c.entry_record-rec.result.now c.entry_record-rec.ensures c.is_of.result c.is_of.ensures,
      c.if-is_of.true,
      c.requires.0.coded.cells,
      ← rest 52 c.entry_record-rec.result.now,
    )
    (elim c.if-update.branch [ then-update w ↦ rw (w.result-is, w.if-update.true, w.is_same.ensures, w.read_cell.ensures.0) refl | else-update w ↦ rw (w.result-is, w.if-update.false) refl ])

pub returns-else-is_of : goal.returns-else-is_of
returns-else-is_of c =
    let h = entry-within _ _ _ c.requires.0 c.args.i c.entry_count.result c.entry_count.ensures c.if-entry_count-i.false in
    rw (
      at_entry _ _ _ c.requires.0 c.args.i (text_bytes c.args.name) c.args.column (meaning c.args.v) c.args.update (meaning c.args.key) h c.entry_record-rec.result.now c.entry_record-rec.ensures c.is_of.result c.is_of.ensures,
      c.if-is_of.false,
    )
