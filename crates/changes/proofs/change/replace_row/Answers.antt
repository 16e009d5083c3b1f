-- The entries of values that changed are exchanged column by column, then the record is written.
use Rattle.std.proofs.Common.{arith}
use Rattle.changes.proofs.Changing.{Begun, Place, record-asked, record-least, begun, write-asked}
use Rattle.changes.proofs.RowReplaced.{swap-below, swap-start, swap-place, swap-whole, swap-table, swap-row, swap-cell, swap-read, swap-past, swap-requires, swap-next}
use Rattle.changes.proofs.change.replace_row.Goals as goal
use Rattle.changes.proofs.change.replace_row.Goals.{After-key_column-column, After-rows_at, then-c, else-c}

-- its name and key column, read
opened : (c : After-key_column-column) → Begun c.args.p c.args.places c.args.s.now c.args.t c.read_name-name.result c.key_column-column.result
opened c = begun c.requires.0 c.requires.2.row.known c.table_record-table.ensures c.read_name-name.ensures c.key_column-column.ensures

-- the place of the row
place : (c : After-rows_at) → Place c.args.p c.args.s.now c.loop-j.s c.rows_at.result c.row_width-width.result c.args.i
place c = swap-place c.loop-j.invariant c.loop-j-test.false c.rows_at.ensures c.row_width-width.ensures

pub table_record-table-requires : goal.table_record-table-requires
table_record-table-requires c = let a = record-asked c.requires.0 c.requires.2.row.known in record { inside = a.0; i_in_bounds = a.1 }

pub read_name-name-requires : goal.read_name-name-requires
read_name-name-requires c = omega (arith, record-least c.requires.0 c.requires.2.row.known c.table_record-table.ensures)

pub key_column-column-requires : goal.key_column-column-requires
key_column-column-requires c = omega (arith, record-least c.requires.0 c.requires.2.row.known c.table_record-table.ensures)

pub bounds-row-column : goal.bounds-row-column
bounds-row-column c = swap-below (opened (goal.at.bounds-row-column c).After-key_column-column) c.requires.1 c.requires.2

pub loop-j-init : goal.loop-j-init
loop-j-init c = swap-start (opened (goal.at.loop-j-init c).After-key_column-column) c.requires.1 c.requires.2

pub table_record-requires : goal.table_record-requires
table_record-requires c = let a = swap-table c.loop-j.invariant c.loop-j-test.true in record { inside = a.0; i_in_bounds = a.1 }

pub read_column-c-requires : goal.read_column-c-requires
read_column-c-requires c = swap-read c.loop-j.invariant c.loop-j-test.true c.table_record.ensures

pub row_record-requires : goal.row_record-requires
row_record-requires c = let a = swap-row c.loop-j.invariant c.loop-j-test.true in record { inside = a.0; i_in_bounds = a.1 }

pub cell_in-old-requires : goal.cell_in-old-requires
cell_in-old-requires c = swap-cell c.loop-j.invariant c.loop-j-test.true c.row_record.ensures

pub exchange-requires : goal.exchange-requires
exchange-requires c =
    swap-requires c.loop-j.invariant c.loop-j-test.true c.table_record.ensures c.read_column-c.ensures c.if-c.true c.row_record.ensures c.cell_in-old.result c.cell_in-old.ensures

pub loop-j-preserved : goal.loop-j-preserved
loop-j-preserved c =
    elim c.if-c.branch [
      | then-c w ↦
          swap-next c.loop-j.invariant c.loop-j-test.true c.table_record.ensures c.read_column-c.ensures w.if-c.true w.row_record.ensures w.cell_in-old.result w.cell_in-old.ensures
          w.exchange.ensures w.s-is
      | else-c w ↦ swap-past c.loop-j.invariant c.loop-j-test.true c.table_record.ensures c.read_column-c.ensures w.if-c.false w.s-is
    ]

pub overflow_mul-at : goal.overflow_mul-at
overflow_mul-at c = omega (arith, (place (goal.at.overflow_mul-at c).After-rows_at).small)

pub overflow_add-at : goal.overflow_add-at
overflow_add-at c = omega (arith, (place (goal.at.overflow_add-at c).After-rows_at).small)

pub overflow_add-at-2 : goal.overflow_add-at-2
overflow_add-at-2 c = omega (arith, (place (goal.at.overflow_add-at-2 c).After-rows_at).small)

pub slice_bounds-write_row-end : goal.slice_bounds-write_row-end
slice_bounds-write_row-end c = (place (goal.at.slice_bounds-write_row-end c).After-rows_at).inside

pub write_row-requires : goal.write_row-requires
write_row-requires c = write-asked c.loop-j.invariant.news c.loop-j.invariant.proper (place (goal.at.write_row-requires c).After-rows_at)

pub returns : goal.returns
returns c = swap-whole c.loop-j.invariant c.loop-j-test.false c.rows_at.ensures c.row_width-width.ensures c.write_row.ensures
