use mathlib.Core.Path.{refl}
use native.Mathlib.Omega.{arith}
use Rattle.laid.proofs.Stores.{store-catalog, store-inside}
use Rattle.operations.proofs.InTurn.{refused-by}
use Rattle.operations.proofs.Naming.{named-below, named-place, named-bytes}
use Rattle.operations.proofs.Operands.{update-unnamed, update-read, pairs-got, update-inside, update-missed, update-not-rising, update-sized, update-not-sized, update-in-turn}
use Rattle.operations.proofs.operate.update.Goals as goal

pub unreachable-requires : goal.unreachable-requires
unreachable-requires c = update-unnamed c.in_default.ensures c.requires.1

pub get_table-requires : goal.get_table-requires
get_table-requires c = (store-catalog _ _ _ c.requires.0.store, c.in-Ok.ensures.proper)

pub returns-in_default-get_table : goal.returns-in_default-get_table
returns-in_default-get_table c =
    update-missed c.requires.0 _ (update-read c.in-Ok.ensures c.requires.1 _ refl) c.in_default-get_table.ensures c.new.ensures

pub overflow_add-from : goal.overflow_add-from
overflow_add-from c = omega (arith, update-inside c.in-Ok.ensures c.requires.1)

pub rising_fault-requires : goal.rising_fault-requires
rising_fault-requires c = pairs-got c.in-Ok.ensures c.requires.1 _ c.byte_of-n.ensures

pub returns-in_err-rising_fault : goal.returns-in_err-rising_fault
returns-in_err-rising_fault c =
    update-not-rising c.requires.0 _ (update-read c.in-Ok.ensures c.requires.1 _ c.byte_of-n.ensures) c.in-Some.ensures c.in_err-rising_fault.ensures
    (refused-by _ _ _ c.from_residual.ensures.1)

pub table_record-requires : goal.table_record-requires
table_record-requires c = record {
  inside = store-inside _ _ _ c.requires.0.store;
  i_in_bounds = named-place c.requires.0.store _ c.in-Some.ensures;
}

pub size_fault-requires : goal.size_fault-requires
size_fault-requires c = (named-bytes c.requires.0.store _ c.in-Some.ensures c.table_record.ensures, pairs-got c.in-Ok.ensures c.requires.1 _ c.byte_of-n.ensures)

pub returns-in_err-size_fault : goal.returns-in_err-size_fault
returns-in_err-size_fault c =
    update-not-sized c.requires.0 _ (update-read c.in-Ok.ensures c.requires.1 _ c.byte_of-n.ensures) c.in-Some.ensures c.table_record.ensures c.in_ok-rising_fault.ensures
    c.in_err-size_fault.ensures (refused-by _ _ _ c.from_residual-in_err-size_fault.ensures.1)

pub update_pairs-requires : goal.update_pairs-requires
update_pairs-requires c = record {
  booked = (c.requires.0, named-below c.requires.0.store _ c.in-Some.ensures, pairs-got c.in-Ok.ensures c.requires.1 _ c.byte_of-n.ensures);
  at_value =
      update-sized c.requires.0 _ (update-read c.in-Ok.ensures c.requires.1 _ c.byte_of-n.ensures) c.in-Some.ensures c.table_record.ensures c.in_ok-size_fault.ensures;
}

pub returns : goal.returns
returns c =
    update-in-turn c.requires.0 _ (update-read c.in-Ok.ensures c.requires.1 _ c.byte_of-n.ensures) c.in-Some.ensures c.table_record.ensures c.in_ok-rising_fault.ensures
    c.in_ok-size_fault.ensures c.update_pairs.ensures
