-- The first of the keys that are left is counted where it counts.
use Rattle.std.proofs.Common.{length, arith, ap}
use Rattle.checks.proofs.KeysRead.{values-few}
use Rattle.store.proofs.RemovalsCounted.{count-one, count_none, count-end}
use Rattle.store.proofs.TableAt.{record-asked, name-fits, key_fits, its-name, its-key}
use Rattle.store.proofs.removals.removal_count.Goals as goal

pub table_record-rec-requires-clause-inside : goal.table_record-rec-requires-clause-inside
table_record-rec-requires-clause-inside c = (record-asked c.requires.0 _ c.requires.1).0

pub table_record-rec-requires-clause-i_in_bounds : goal.table_record-rec-requires-clause-i_in_bounds
table_record-rec-requires-clause-i_in_bounds c = (record-asked c.requires.0 _ c.requires.1).1

pub read_name-name-requires : goal.read_name-name-requires
read_name-name-requires c = name-fits c.requires.0 _ c.requires.1 c.table_record-rec.ensures

pub key_column-column-requires : goal.key_column-column-requires
key_column-column-requires c = key_fits c.requires.0 _ c.requires.1 c.table_record-rec.ensures

pub is_counted-requires : goal.is_counted-requires
is_counted-requires c = (
  c.requires.0,
  its-key c.requires.0 _ c.requires.1 c.table_record-rec.ensures c.key_column-column.ensures c.read_name-name.ensures.0,
  c.read_name-name.ensures.1,
  c.in-Some.ensures.steps.1,
)

pub overflow_add-rows : goal.overflow_add-rows
overflow_add-rows c = omega (arith, c.loop-cell.invariant.few, ap length c.in-Some.ensures.steps.0, values-few c.args.values)

pub loop-cell-preserved-then-is_counted : goal.loop-cell-preserved-then-is_counted
loop-cell-preserved-then-is_counted c =
    count-one _ _ _ _ _ c.loop-cell.invariant c.in-Some.ensures.steps.0 (its-name c.requires.0 _ c.requires.1 c.table_record-rec.ensures c.read_name-name.ensures.0) c.is_counted.ensures c.if-is_counted.true

pub loop-cell-preserved : goal.loop-cell-preserved
loop-cell-preserved c =
    count_none _ _ _ _ _ c.loop-cell.invariant c.in-Some.ensures.steps.0 (its-name c.requires.0 _ c.requires.1 c.table_record-rec.ensures c.read_name-name.ensures.0) c.is_counted.ensures c.if-is_counted.false

pub returns : goal.returns
returns c = count-end _ _ _ _ _ c.loop-cell.invariant c.in_default.ensures.steps.0
