-- The entries are taken out column by column, then the record.
use Rattle.std.proofs.Common.{arith}
use Rattle.changes.proofs.Changing.{Begun, record-asked, record-least, record-count, begun}
use Rattle.changes.proofs.RowRemoved.{remove_key, remove-start, remove-shrinks, remove-done, turn-table, turn-row, turn-cell, turn-read, turn-past, turn-requires, turn-next}
use Rattle.changes.proofs.change.remove_row.Goals as goal
use Rattle.changes.proofs.change.remove_row.Goals.{After-key_column-column, then-c, else-c}

-- its name and key column, read
opened : (c : After-key_column-column) → Begun c.args.p c.args.places c.args.s.now c.args.t c.read_name-name.result c.key_column-column.result
opened c = begun c.requires.0 c.requires.1.known c.table_record-table.ensures c.read_name-name.ensures c.key_column-column.ensures

pub table_record-table-requires : goal.table_record-table-requires
table_record-table-requires c = let a = record-asked c.requires.0 c.requires.1.known in record { inside = a.0; i_in_bounds = a.1 }

pub read_name-name-requires : goal.read_name-name-requires
read_name-name-requires c = omega (arith, record-least c.requires.0 c.requires.1.known c.table_record-table.ensures)

pub key_column-column-requires : goal.key_column-column-requires
key_column-column-requires c = omega (arith, record-least c.requires.0 c.requires.1.known c.table_record-table.ensures)

pub column_count-count-requires : goal.column_count-count-requires
column_count-count-requires c = record-least c.requires.0 c.requires.1.known c.table_record-table.ensures

pub cell_at-key-requires : goal.cell_at-key-requires
cell_at-key-requires c = remove_key c.requires.0 c.requires.1 (opened (goal.at.cell_at-key-requires c).After-key_column-column)

pub loop-j-init : goal.loop-j-init
loop-j-init c =
    remove-start c.requires.0 c.requires.1 (opened (goal.at.loop-j-init c).After-key_column-column)
    (record-count c.requires.0 c.requires.1.known c.table_record-table.ensures c.column_count-count.ensures)
    c.cell_at-key.result c.cell_at-key.ensures

pub table_record-requires : goal.table_record-requires
table_record-requires c = let a = turn-table c.loop-j.invariant c.loop-j-test.true in record { inside = a.0; i_in_bounds = a.1 }

pub read_column-c-requires : goal.read_column-c-requires
read_column-c-requires c = turn-read c.loop-j.invariant c.loop-j-test.true c.table_record.ensures

pub row_record-requires : goal.row_record-requires
row_record-requires c = let a = turn-row c.loop-j.invariant c.loop-j-test.true in record { inside = a.0; i_in_bounds = a.1 }

pub cell_in-v-requires : goal.cell_in-v-requires
cell_in-v-requires c = turn-cell c.loop-j.invariant c.loop-j-test.true c.row_record.ensures

pub remove_entry-requires : goal.remove_entry-requires
remove_entry-requires c =
    turn-requires c.loop-j.invariant c.loop-j-test.true c.table_record.ensures c.read_column-c.ensures c.if-c.true c.row_record.ensures c.cell_in-v.result c.cell_in-v.ensures

pub loop-j-preserved : goal.loop-j-preserved
loop-j-preserved c =
    elim c.if-c.branch [
      | then-c w ↦
          turn-next c.loop-j.invariant c.loop-j-test.true c.table_record.ensures c.read_column-c.ensures w.if-c.true w.row_record.ensures w.cell_in-v.result w.cell_in-v.ensures
          w.remove_entry.ensures w.s-is
      | else-c w ↦ turn-past c.loop-j.invariant c.loop-j-test.true c.table_record.ensures c.read_column-c.ensures w.if-c.false w.s-is
    ]

pub close_counted-requires : goal.close_counted-requires
close_counted-requires c = remove-shrinks c.loop-j.invariant c.loop-j-test.false c.rows_at.ensures c.row_width.ensures

pub returns : goal.returns
returns c = remove-done c.loop-j.invariant c.loop-j-test.false c.rows_at.ensures c.row_width.ensures c.close_counted.ensures
