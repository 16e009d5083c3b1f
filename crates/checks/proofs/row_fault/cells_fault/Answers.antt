-- The faults from column j on are the whole.
use Rattle.std.proofs.Common.{◌<◌, length, arith}
use Rattle.std.proofs.lemmas.Result.{err_from_is_err_and}
use Rattle.values.specs.Meaning.{text_bytes}
use Rattle.laid.specs.Column.{column_of}
use Rattle.laid.proofs.Stores.{held-inside}
use Rattle.laid.proofs.Columns.{columns_of, count-byte, columns-few, record-least}
use Rattle.checks.proofs.Fitting.{schema-within, rec-bytes, key-within-columns, unique-found, count-columns, cell-proper, faults-over, fault-found, fault-none}
use Rattle.checks.proofs.row_fault.cells_fault.Goals as goal

pub table_record-rec-requires-clause-inside : goal.table_record-rec-requires-clause-inside
table_record-rec-requires-clause-inside c = held-inside _ _ _ c.requires.0

pub table_record-rec-requires-clause-i_in_bounds : goal.table_record-rec-requires-clause-i_in_bounds
table_record-rec-requires-clause-i_in_bounds c = schema-within _ _ _ _ c.requires.0 c.requires.1.known

pub read_name-name-requires : goal.read_name-name-requires
read_name-name-requires c = omega (arith, record-least _ _ (rec-bytes _ _ _ _ c.requires.0 c.requires.1.known _ c.table_record-rec.ensures))

pub key_column-at-requires : goal.key_column-at-requires
key_column-at-requires c = omega (arith, record-least _ _ (rec-bytes _ _ _ _ c.requires.0 c.requires.1.known _ c.table_record-rec.ensures))

pub bounds-row-at : goal.bounds-row-at
bounds-row-at c =
    omega (
      arith,
      key-within-columns _ _ _ _ c.requires.0 c.requires.1.known _ c.table_record-rec.ensures c.key_column-at.result c.key_column-at.ensures,
      count-columns _ _ _ _ c.requires.0 c.requires.1.known _ c.table_record-rec.ensures c.args.row.now c.requires.1,
    )

pub column_count-j-end-requires : goal.column_count-j-end-requires
column_count-j-end-requires c = record-least _ _ (rec-bytes _ _ _ _ c.requires.0 c.requires.1.known _ c.table_record-rec.ensures)

pub read_column-c-requires : goal.read_column-c-requires
read_column-c-requires c =
    let b = rec-bytes _ _ _ _ c.requires.0 c.requires.1.known _ c.table_record-rec.ensures in
    (b, omega (arith, c.loop-j-test.true, c.column_count-j-end.ensures, count-byte c.args.p c.table_record-rec.result.now, columns-few _ _ b))

pub bounds-row-j : goal.bounds-row-j
bounds-row-j c =
    omega (
      arith,
      c.loop-j-test.true,
      c.column_count-j-end.ensures,
      count-byte c.args.p c.table_record-rec.result.now,
      count-columns _ _ _ _ c.requires.0 c.requires.1.known _ c.table_record-rec.ensures c.args.row.now c.requires.1,
    )

pub cell_fault-requires-clause-laid_store : goal.cell_fault-requires-clause-laid_store
cell_fault-requires-clause-laid_store c =
    let l : c.loop-j.j < length (columns_of c.args.p c.table_record-rec.result.now) = omega (arith, c.loop-j-test.true, c.column_count-j-end.ensures, count-byte c.args.p c.table_record-rec.result.now) in
    let k = key-within-columns _ _ _ _ c.requires.0 c.requires.1.known _ c.table_record-rec.ensures c.key_column-at.result c.key_column-at.ensures in
    let e = count-columns _ _ _ _ c.requires.0 c.requires.1.known _ c.table_record-rec.ensures c.args.row.now c.requires.1 in (
      c.requires.0,
      c.read_name-name.ensures.1,
      cell-proper _ _ _ _ c.requires.0 c.requires.1.known _ c.table_record-rec.ensures c.args.row.now c.requires.1 c.key_column-at.result k _,
      c.read_column-c.ensures.proper,
      cell-proper _ _ _ _ c.requires.0 c.requires.1.known _ c.table_record-rec.ensures c.args.row.now c.requires.1 c.loop-j.j l _,
      omega arith,
    )

pub cell_fault-requires-clause-unique_indexed : goal.cell_fault-requires-clause-unique_indexed
cell_fault-requires-clause-unique_indexed c =
    let l : c.loop-j.j < length (columns_of c.args.p c.table_record-rec.result.now) = omega (arith, c.loop-j-test.true, c.column_count-j-end.ensures, count-byte c.args.p c.table_record-rec.result.now) in
    unique-found _ _ _ _ c.requires.0 c.requires.1.known _ c.table_record-rec.ensures (text_bytes c.read_name-name.result) c.read_name-name.ensures.0 c.key_column-at.result c.key_column-at.ensures c.loop-j.j l
    (column_of c.read_column-c.result) c.read_column-c.ensures.is

pub returns-in_err-cell_fault : goal.returns-in_err-cell_fault
returns-in_err-cell_fault c =
    let p = err_from_is_err_and c.from_residual.result c.from_residual.ensures.1 in
    let l : c.loop-j.j < length (columns_of c.args.p c.table_record-rec.result.now) = omega (arith, c.loop-j-test.true, c.column_count-j-end.ensures, count-byte c.args.p c.table_record-rec.result.now) in
    rw (p.1, p.2)
    (fault-found _ _ _ _ c.requires.0 c.requires.1.known _ c.table_record-rec.ensures c.args.row.now c.requires.1 c.args.update (text_bytes c.read_name-name.result) c.read_name-name.ensures.0
    c.key_column-at.result c.key_column-at.ensures _ c.loop-j.j l (column_of c.read_column-c.result) c.read_column-c.ensures.is _ c.in_err-cell_fault.ensures c.loop-j.invariant)

pub loop-j-preserved : goal.loop-j-preserved
loop-j-preserved c =
    let l : c.loop-j.j < length (columns_of c.args.p c.table_record-rec.result.now) = omega (arith, c.loop-j-test.true, c.column_count-j-end.ensures, count-byte c.args.p c.table_record-rec.result.now) in
    fault-none _ _ _ _ c.requires.0 c.requires.1.known _ c.table_record-rec.ensures c.args.row.now c.requires.1 c.args.update (text_bytes c.read_name-name.result) c.read_name-name.ensures.0
    c.key_column-at.result c.key_column-at.ensures _ c.loop-j.j l (column_of c.read_column-c.result) c.read_column-c.ensures.is c.in_ok-cell_fault.ensures c.loop-j.invariant

pub returns : goal.returns
returns c =
    faults-over _ _ _ _ c.requires.0 c.requires.1.known _ c.table_record-rec.ensures c.args.row.now c.requires.1 c.args.update c.loop-j.j
    (omega (arith, c.loop-j-test.false, c.column_count-j-end.ensures, count-byte c.args.p c.table_record-rec.result.now)) c.loop-j.invariant
