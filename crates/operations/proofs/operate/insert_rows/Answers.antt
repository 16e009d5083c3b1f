use native.Mathlib.Omega.{arith}
use Rattle.std.proofs.lemmas.Result.{err_from_is_err_and}
use Rattle.laid.proofs.Stores.{store-inside}
use Rattle.operations.proofs.Inserting.{inserting-end, inserting-place, inserting-inside, inserting-walks, inserting-record, inserting-fills, inserting-full, inserting-stops, inserting-next}
use Rattle.operations.proofs.operate.insert_rows.Goals as goal

pub table_record-table-requires : goal.table_record-table-requires
table_record-table-requires c = record { inside = store-inside _ _ _ c.loop-i.invariant.books.store; i_in_bounds = inserting-place c.loop-i.invariant }

pub counted-requires : goal.counted-requires
counted-requires c = inserting-inside c.loop-i.invariant (omega arith)

pub fill-requires : goal.fill-requires
fill-requires c = (inserting-record c.loop-i.invariant (omega arith) c.table_record-table.ensures, c.requires.booked.0.paging.most, c.requires.booked.2)

pub unreachable-requires : goal.unreachable-requires
unreachable-requires c = inserting-fills c.loop-i.invariant (omega arith) c.table_record-table.ensures c.counted.ensures c.in_default.ensures.0

pub insert-requires : goal.insert-requires
insert-requires c = (
  c.loop-i.invariant.books,
  rw c.deref.ensures (inserting-full c.loop-i.invariant (omega arith) c.table_record-table.ensures c.counted.ensures c.in-Some.ensures.0 c.in-Some.ensures.1.0),
)

pub returns-in_err-insert : goal.returns-in_err-insert
returns-in_err-insert c =
    let p = err_from_is_err_and c.from_residual.result c.from_residual.ensures.1 in
    rw (p.1, p.2)
    (inserting-stops c.loop-i.invariant (omega arith) c.table_record-table.ensures c.counted.ensures c.in-Some.ensures.0 c.in-Some.ensures.1.0 (rw c.deref.ensures at c.insert.ensures)
    c.in_err-insert.was)

pub unreachable-requires-in_default-values_end : goal.unreachable-requires-in_default-values_end
unreachable-requires-in_default-values_end c = inserting-walks c.loop-i.invariant (omega arith) c.in_default-values_end.ensures

pub loop-i-preserved : goal.loop-i-preserved
loop-i-preserved c =
    inserting-next c.loop-i.invariant (omega arith) c.table_record-table.ensures c.counted.ensures c.in-Some.ensures.0 c.in-Some.ensures.1.0 (rw c.deref.ensures at c.insert.ensures)
    c.in_ok-insert.was c.in-Ok.ensures

pub returns : goal.returns
returns c = inserting-end c.loop-i.invariant (omega arith)
