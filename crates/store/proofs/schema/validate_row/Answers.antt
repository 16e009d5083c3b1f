-- 26, 27, each column, 34 and 33.
use Rattle.std.proofs.Common.{◌≡◌, not, ◌&&◌, false, ap, sym, refl, ◌∙◌}
use mathlib.Core.Bool.{and-false}
use Rattle.std.proofs.lemmas.Result.{err_from_is_err_and}
use Rattle.values.specs.Value.{is_undefined}
use Rattle.values.specs.Meaning.{text_bytes}
use Rattle.laid.proofs.Stores.{laid-store}
use Rattle.checks.proofs.Fitting.{stored_is, key-undefined, key-exists, cells-refuse, place-decides}
use Rattle.store.proofs.TableAt.{record-asked, name-fits, key_fits, its-key, key-few, key-proper, key-held}
use Rattle.store.proofs.schema.validate_row.Goals as goal
use Rattle.store.proofs.schema.validate_row.Goals.{else-stored-via-then-stored+else-not-update, else-stored-via-else-stored}

pub table_record-rec-requires-clause-inside : goal.table_record-rec-requires-clause-inside
table_record-rec-requires-clause-inside c = (record-asked (laid-store _ _ _ c.requires.0) _ c.requires.1.known).0

pub table_record-rec-requires-clause-i_in_bounds : goal.table_record-rec-requires-clause-i_in_bounds
table_record-rec-requires-clause-i_in_bounds c = (record-asked (laid-store _ _ _ c.requires.0) _ c.requires.1.known).1

pub key_column-at-requires : goal.key_column-at-requires
key_column-at-requires c = key_fits (laid-store _ _ _ c.requires.0) _ c.requires.1.known c.table_record-rec.ensures

pub bounds-row-at : goal.bounds-row-at
bounds-row-at c = key-few (laid-store _ _ _ c.requires.0) _ c.requires.1.known c.table_record-rec.ensures c.key_column-at.ensures c.requires.1

pub is_undefined-requires : goal.is_undefined-requires
is_undefined-requires c = key-proper (laid-store _ _ _ c.requires.0) _ c.requires.1.known c.table_record-rec.ensures c.key_column-at.ensures c.requires.1

pub returns-then-is_undefined : goal.returns-then-is_undefined
returns-then-is_undefined c =
    let k = key-held (laid-store _ _ _ c.requires.0) _ c.requires.1.known c.table_record-rec.ensures c.key_column-at.ensures c.requires.1 in
    key-undefined _ _ _ _ c.args.update _ (sym (c.if-is_undefined.ensures ∙ ap is_undefined k))

pub read_name-requires : goal.read_name-requires
read_name-requires c = name-fits (laid-store _ _ _ c.requires.0) _ c.requires.1.known c.table_record-rec.ensures

pub is_stored-stored-requires : goal.is_stored-stored-requires
is_stored-stored-requires c = (
  laid-store _ _ _ c.requires.0,
  its-key (laid-store _ _ _ c.requires.0) _ c.requires.1.known c.table_record-rec.ensures c.key_column-at.ensures c.read_name.ensures.0,
  c.read_name.ensures.1,
  key-proper (laid-store _ _ _ c.requires.0) _ c.requires.1.known c.table_record-rec.ensures c.key_column-at.ensures c.requires.1,
)

pub returns-then-not-update : goal.returns-then-not-update
returns-then-not-update c =
    let l = laid-store _ _ _ c.requires.0 in
    let k = key-held l _ c.requires.1.known c.table_record-rec.ensures c.key_column-at.ensures c.requires.1 in
    key-exists _ _ _ _ c.args.update _ (sym (c.if-is_undefined.ensures ∙ ap is_undefined k)) c.is_stored-stored.result
    (stored_is _ _ _ _ l c.requires.1.known _ c.table_record-rec.ensures c.args.row.now c.requires.1 (text_bytes c.read_name.result) c.read_name.ensures.0 c.key_column-at.result c.key_column-at.ensures _ c.is_stored-stored.result c.is_stored-stored.ensures)
    (ap not c.if-not-update.true) c.if-stored.true

pub cells_fault-requires : goal.cells_fault-requires
cells_fault-requires c = (laid-store _ _ _ c.requires.0, c.requires.1)

pub returns-in_err-cells_fault : goal.returns-in_err-cells_fault
returns-in_err-cells_fault c =
    let p = err_from_is_err_and c.from_residual.result c.from_residual.ensures.1 in
    let l = laid-store _ _ _ c.requires.0 in
    let k = key-held l _ c.requires.1.known c.table_record-rec.ensures c.key_column-at.ensures c.requires.1 in
    let allowed : (not c.args.update && c.is_stored-stored.result) ≡ false =
    elim c.else-stored.branch [
      | else-stored-via-then-stored+else-not-update w ↦ rw w.if-not-update.false refl
      | else-stored-via-else-stored w ↦ rw w.if-stored.false (and-false (not c.args.update))
    ] in
    rw (p.1, p.2)
    (cells-refuse _ _ _ _ c.args.update _ (sym (c.if-is_undefined.ensures ∙ ap is_undefined k)) c.is_stored-stored.result
    (stored_is _ _ _ _ l c.requires.1.known _ c.table_record-rec.ensures c.args.row.now c.requires.1 (text_bytes c.read_name.result) c.read_name.ensures.0 c.key_column-at.result c.key_column-at.ensures _ c.is_stored-stored.result c.is_stored-stored.ensures)
    allowed _ c.in_err-cells_fault.ensures)

pub place_fault-requires : goal.place_fault-requires
place_fault-requires c = laid-store _ _ _ c.requires.0

pub returns : goal.returns
returns c =
    let l = laid-store _ _ _ c.requires.0 in
    let k = key-held l _ c.requires.1.known c.table_record-rec.ensures c.key_column-at.ensures c.requires.1 in
    let allowed : (not c.args.update && c.is_stored-stored.result) ≡ false =
    elim c.else-stored.branch [
      | else-stored-via-then-stored+else-not-update w ↦ rw w.if-not-update.false refl
      | else-stored-via-else-stored w ↦ rw w.if-stored.false (and-false (not c.args.update))
    ] in
    place-decides _ _ _ _ c.args.update _ (sym (c.if-is_undefined.ensures ∙ ap is_undefined k)) c.is_stored-stored.result
    (stored_is _ _ _ _ l c.requires.1.known _ c.table_record-rec.ensures c.args.row.now c.requires.1 (text_bytes c.read_name.result) c.read_name.ensures.0 c.key_column-at.result c.key_column-at.ensures _ c.is_stored-stored.result c.is_stored-stored.ensures)
    allowed c.in_ok-cells_fault.ensures _ c.place_fault.ensures
