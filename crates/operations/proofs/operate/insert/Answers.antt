use mathlib.Core.Path.{refl}
use native.Mathlib.Omega.{arith}
use Rattle.laid.proofs.Columns.{record-least}
use Rattle.laid.proofs.Stores.{store-catalog, store-inside}
use Rattle.operations.proofs.Naming.{named-below, named-place, named-bytes}
use Rattle.operations.proofs.Operands.{insert-unnamed}
use Rattle.operations.proofs.InsertRead.{map-got, map-whole, insert-said, acted-unknown, acted-bad, acted-fills, acted-faulty, acted-rows}
use Rattle.operations.proofs.operate.insert.Goals as goal

pub unreachable-requires : goal.unreachable-requires
unreachable-requires c = insert-unnamed c.in_default.ensures c.requires.1

pub unreachable-requires-in_default-map_end : goal.unreachable-requires-in_default-map_end
unreachable-requires-in_default-map_end c = map-whole c.requires.1 c.in-Ok.ensures c.in_default-map_end.ensures

pub get_table-requires : goal.get_table-requires
get_table-requires c = (store-catalog _ _ _ c.requires.0.store, c.in-Ok.ensures.proper)

pub returns-in_default-get_table : goal.returns-in_default-get_table
returns-in_default-get_table c =
    acted-unknown c.requires.0 _ ((insert-said c.requires.1 c.in-Ok.ensures c.in-Ok-map_end.ensures).asks _ refl _ refl) c.in_default-get_table.ensures c.new.ensures

pub read_map-m-requires : goal.read_map-m-requires
read_map-m-requires c = map-got c.requires.1 c.in-Ok.ensures

pub table_record-table-requires : goal.table_record-table-requires
table_record-table-requires c = record {
  inside = store-inside _ _ _ c.requires.0.store;
  i_in_bounds = named-place c.requires.0.store _ c.in-Some.ensures;
}

pub column_count-requires : goal.column_count-requires
column_count-requires c = record-least _ _ (named-bytes c.requires.0.store _ c.in-Some.ensures c.table_record-table.ensures)

pub returns-then-is_bad_map : goal.returns-then-is_bad_map
returns-then-is_bad_map c =
    acted-bad c.requires.0 _ ((insert-said c.requires.1 c.in-Ok.ensures c.in-Ok-map_end.ensures).asks _ refl _ c.read_map-m.ensures.0) c.in-Some.ensures c.table_record-table.ensures
    c.column_count.ensures c.if-is_bad_map.ensures c.new-then-is_bad_map.ensures

pub overflow_add-from : goal.overflow_add-from
overflow_add-from c = omega (arith, (insert-said c.requires.1 c.in-Ok.ensures c.in-Ok-map_end.ensures).inside)

pub fills_fault-requires : goal.fills_fault-requires
fills_fault-requires c = (
  named-bytes c.requires.0.store _ c.in-Some.ensures c.table_record-table.ensures,
  c.requires.0.paging.most,
  c.read_map-m.ensures.1,
  (insert-said c.requires.1 c.in-Ok.ensures c.in-Ok-map_end.ensures).rows _ c.byte_of-n.ensures,
)

pub returns-in-Err : goal.returns-in-Err
returns-in-Err c =
    acted-faulty c.requires.0 _ ((insert-said c.requires.1 c.in-Ok.ensures c.in-Ok-map_end.ensures).asks _ c.byte_of-n.ensures _ c.read_map-m.ensures.0) c.in-Some.ensures c.table_record-table.ensures
    c.column_count.ensures c.if-is_bad_map.ensures c.in-Err.ensures c.new-in-Err.ensures

pub insert_rows-requires : goal.insert_rows-requires
insert_rows-requires c = record {
  booked = (
    c.requires.0,
    named-below c.requires.0.store _ c.in-Some.ensures,
    c.read_map-m.ensures.1,
    (insert-said c.requires.1 c.in-Ok.ensures c.in-Ok-map_end.ensures).rows _ c.byte_of-n.ensures,
  );
  at_value =
      acted-fills c.requires.0 _ ((insert-said c.requires.1 c.in-Ok.ensures c.in-Ok-map_end.ensures).asks _ c.byte_of-n.ensures _ c.read_map-m.ensures.0) c.in-Some.ensures c.table_record-table.ensures
      c.in_default-fills_fault.ensures;
}

pub returns : goal.returns
returns c =
    acted-rows c.requires.0 _ ((insert-said c.requires.1 c.in-Ok.ensures c.in-Ok-map_end.ensures).asks _ c.byte_of-n.ensures _ c.read_map-m.ensures.0) c.in-Some.ensures c.table_record-table.ensures
    c.column_count.ensures c.if-is_bad_map.ensures c.in_default-fills_fault.ensures c.insert_rows.ensures
