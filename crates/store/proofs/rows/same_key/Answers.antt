-- A row without a fault takes the place of the one that has its key.
use Rattle.std.proofs.Common.{◌∙◌, refl}
use Rattle.std.proofs.lemmas.Result.{err_from_is_err_and}
use Rattle.checks.proofs.Checking.{found-some}
use Rattle.journal.proofs.Booking.{laid-books}
use Rattle.store.proofs.Settling.{roomy_of}
use Rattle.store.proofs.TableAt.{record-asked, name-fits, key_fits, its-name, its-key, key-few, key-proper, key-held}
use Rattle.store.proofs.Written.{none-at, free-place, same-refused, row-present, row-there, row-replaceable, row-replaced}
use Rattle.store.proofs.rows.same_key.Goals as goal

pub returns-in_err-put_fault : goal.returns-in_err-put_fault
returns-in_err-put_fault c =
    let p = err_from_is_err_and c.from_residual.result c.from_residual.ensures.1 in
    rw p.1 (same-refused c.requires.0 c.requires.1 c.args.n c.in_err-put_fault.field-0.0.kind c.in_err-put_fault.field-0.0.at c.in_err-put_fault.ensures _ p.2)

pub table_record-rec-requires-clause-inside : goal.table_record-rec-requires-clause-inside
table_record-rec-requires-clause-inside c = (record-asked (laid-books c.requires.0).store _ c.requires.1.known).0

pub table_record-rec-requires-clause-i_in_bounds : goal.table_record-rec-requires-clause-i_in_bounds
table_record-rec-requires-clause-i_in_bounds c = (record-asked (laid-books c.requires.0).store _ c.requires.1.known).1

pub read_name-name-requires : goal.read_name-name-requires
read_name-name-requires c = name-fits (laid-books c.requires.0).store _ c.requires.1.known c.table_record-rec.ensures

pub key_column-column-requires : goal.key_column-column-requires
key_column-column-requires c = key_fits (laid-books c.requires.0).store _ c.requires.1.known c.table_record-rec.ensures

pub bounds-row-column : goal.bounds-row-column
bounds-row-column c = key-few (laid-books c.requires.0).store _ c.requires.1.known c.table_record-rec.ensures c.key_column-column.ensures c.requires.1

pub find_row-requires : goal.find_row-requires
find_row-requires c = (
  (laid-books c.requires.0).store,
  its-key (laid-books c.requires.0).store _ c.requires.1.known c.table_record-rec.ensures c.key_column-column.ensures c.read_name-name.ensures.0,
  c.read_name-name.ensures.1,
  key-proper (laid-books c.requires.0).store _ c.requires.1.known c.table_record-rec.ensures c.key_column-column.ensures c.requires.1,
)

pub unwrap-i-requires : goal.unwrap-i-requires
unwrap-i-requires c =
    let l = (laid-books c.requires.0).store in
    found-some _ _ c.find_row.result c.find_row.ensures
    ∙ row-present c.requires.0 c.requires.1 (none-at _ _ c.in_ok-put_fault.ensures) (its-name l _ c.requires.1.known c.table_record-rec.ensures c.read_name-name.ensures.0)
    (key-held l _ c.requires.1.known c.table_record-rec.ensures c.key_column-column.ensures c.requires.1)

pub note_stored-requires : goal.note_stored-requires
note_stored-requires c =
    let l = laid-books c.requires.0 in
    let h = none-at _ _ c.in_ok-put_fault.ensures in
    let n = its-name l.store _ c.requires.1.known c.table_record-rec.ensures c.read_name-name.ensures.0 in
    let k = key-held l.store _ c.requires.1.known c.table_record-rec.ensures c.key_column-column.ensures c.requires.1 in
    (l.store, row-there c.requires.0 c.requires.1 h n k (rw c.unwrap-i.ensures at c.find_row.ensures), roomy_of l (free-place _ _ _ _ _ _ h))

pub replace_row-requires : goal.replace_row-requires
replace_row-requires c =
    let l = (laid-books c.requires.0).store in
    let h = none-at _ _ c.in_ok-put_fault.ensures in
    let n = its-name l _ c.requires.1.known c.table_record-rec.ensures c.read_name-name.ensures.0 in
    let k = key-held l _ c.requires.1.known c.table_record-rec.ensures c.key_column-column.ensures c.requires.1 in
    (l, c.requires.1.proper, row-replaceable c.requires.0 c.requires.1 h n k (rw c.unwrap-i.ensures at c.find_row.ensures))

pub returns : goal.returns
returns c =
    let l = (laid-books c.requires.0).store in
    let h = none-at _ _ c.in_ok-put_fault.ensures in
    let n = its-name l _ c.requires.1.known c.table_record-rec.ensures c.read_name-name.ensures.0 in
    let k = key-held l _ c.requires.1.known c.table_record-rec.ensures c.key_column-column.ensures c.requires.1 in
    row-replaced c.requires.0 c.requires.1 h n k (rw c.unwrap-i.ensures at c.find_row.ensures) c.replace_row.ensures c.note_stored.ensures c.args.n _ refl
