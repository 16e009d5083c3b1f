-- The entries are put in column by column, then the record at its place.
use Rattle.std.proofs.Common.{arith}
use Rattle.changes.proofs.Changing.{Begun, Place, record-asked, record-least, begun, write-asked}
use Rattle.changes.proofs.RowAdded.{add-below, add-ranked, add_start, add-grows, add-place, add_done, add-asked, add_read, add-past, add-requires, add-next}
use Rattle.changes.proofs.change.add_row.Goals as goal
use Rattle.changes.proofs.change.add_row.Goals.{After-key_column-column, After-open_counted, then-c, else-c}

-- its name and key column, read
opened : (c : After-key_column-column) → Begun c.args.p c.args.places c.args.s.now c.args.t c.read_name-name.result c.key_column-column.result
opened c = begun c.requires.0 c.requires.2.known c.table_record-table.ensures c.read_name-name.ensures c.key_column-column.ensures

-- the place made for the row
place : (c : After-open_counted) → Place c.args.p c.args.s.now c.open_counted.new.s c.rows_at-from.result c.row_width-width.result c.rank_of-i.result
place c = add-place c.loop-j.invariant c.loop-j-test.false c.rows_at-from.ensures c.row_width-width.ensures c.open_counted.ensures

pub table_record-table-requires : goal.table_record-table-requires
table_record-table-requires c = let a = record-asked c.requires.0 c.requires.2.known in record { inside = a.0; i_in_bounds = a.1 }

pub read_name-name-requires : goal.read_name-name-requires
read_name-name-requires c = omega (arith, record-least c.requires.0 c.requires.2.known c.table_record-table.ensures)

pub key_column-column-requires : goal.key_column-column-requires
key_column-column-requires c = omega (arith, record-least c.requires.0 c.requires.2.known c.table_record-table.ensures)

pub bounds-row-column : goal.bounds-row-column
bounds-row-column c = add-below (opened (goal.at.bounds-row-column c).After-key_column-column) c.requires.1 c.requires.2

pub rank_of-i-requires : goal.rank_of-i-requires
rank_of-i-requires c = add-ranked (opened (goal.at.rank_of-i-requires c).After-key_column-column) c.requires.1 c.requires.2

pub loop-j-init : goal.loop-j-init
loop-j-init c = add_start (opened (goal.at.loop-j-init c).After-key_column-column) c.requires.1 c.requires.2 c.rank_of-i.ensures

pub table_record-requires : goal.table_record-requires
table_record-requires c = let a = add-asked c.loop-j.invariant c.loop-j-test.true in record { inside = a.0; i_in_bounds = a.1 }

pub read_column-c-requires : goal.read_column-c-requires
read_column-c-requires c = add_read c.loop-j.invariant c.loop-j-test.true c.table_record.ensures

pub add_entry-requires : goal.add_entry-requires
add_entry-requires c = add-requires c.loop-j.invariant c.loop-j-test.true c.table_record.ensures c.read_column-c.ensures c.if-c.true

pub loop-j-preserved : goal.loop-j-preserved
loop-j-preserved c =
    elim c.if-c.branch [
      | then-c w ↦ add-next c.loop-j.invariant c.loop-j-test.true c.table_record.ensures c.read_column-c.ensures w.if-c.true w.add_entry.ensures w.s-is
      | else-c w ↦ add-past c.loop-j.invariant c.loop-j-test.true c.table_record.ensures c.read_column-c.ensures w.if-c.false w.s-is
    ]

pub open_counted-requires : goal.open_counted-requires
open_counted-requires c = add-grows c.loop-j.invariant c.loop-j-test.false c.rows_at-from.ensures c.row_width-width.ensures

pub overflow_mul-at : goal.overflow_mul-at
overflow_mul-at c = omega (arith, (place (goal.at.overflow_mul-at c).After-open_counted).small)

pub overflow_add-at : goal.overflow_add-at
overflow_add-at c = omega (arith, (place (goal.at.overflow_add-at c).After-open_counted).small)

pub overflow_add-at-2 : goal.overflow_add-at-2
overflow_add-at-2 c = omega (arith, (place (goal.at.overflow_add-at-2 c).After-open_counted).small)

pub slice_bounds-write_row-end : goal.slice_bounds-write_row-end
slice_bounds-write_row-end c = (place (goal.at.slice_bounds-write_row-end c).After-open_counted).inside

pub write_row-requires : goal.write_row-requires
write_row-requires c = write-asked c.loop-j.invariant.facts c.loop-j.invariant.proper (place (goal.at.write_row-requires c).After-open_counted)

pub returns : goal.returns
returns c =
    add_done c.loop-j.invariant c.loop-j-test.false c.rows_at-from.ensures c.row_width-width.ensures c.open_counted.ensures c.write_row.ensures
