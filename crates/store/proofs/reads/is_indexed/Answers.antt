use Rattle.std.proofs.Common.{◌∙◌}
use borrow.Author.Tests.{le-ltb}
use Rattle.laid.proofs.Stores.{held-inside}
use Rattle.laid.proofs.Columns.{record-least}
use Rattle.checks.proofs.Fitting.{schema-within, rec-bytes}
use Rattle.store.proofs.Lookups.{past-columns, among-columns, index_read}
use Rattle.store.proofs.reads.is_indexed.Goals as goal

pub table_record-rec-requires-clause-inside : goal.table_record-rec-requires-clause-inside
table_record-rec-requires-clause-inside c = held-inside _ _ _ c.requires.0

pub table_record-rec-requires-clause-i_in_bounds : goal.table_record-rec-requires-clause-i_in_bounds
table_record-rec-requires-clause-i_in_bounds c = schema-within _ _ _ _ c.requires.0 c.requires.1

pub column_count-requires : goal.column_count-requires
column_count-requires c = record-least _ _ (rec-bytes _ _ _ _ c.requires.0 c.requires.1 _ c.table_record-rec.ensures)

pub read_column-requires : goal.read_column-requires
read_column-requires c = (
  rec-bytes _ _ _ _ c.requires.0 c.requires.1 _ c.table_record-rec.ensures,
  among-columns _ _ _ c.requires.0 _ c.requires.1 _ c.table_record-rec.ensures c.column_count.result c.column_count.ensures c.args.column c.if-column-column_count.true,
)

pub returns-then-column-column_count : goal.returns-then-column-column_count
returns-then-column-column_count c =
    index_read _ _ _ c.requires.0 _ c.requires.1 _ c.table_record-rec.ensures c.column_count.result c.column_count.ensures c.args.column c.if-column-column_count.true c.read_column.result c.read_column.ensures.is

pub returns-else-column-column_count : goal.returns-else-column-column_count
returns-else-column-column_count c =
    le-ltb c.args.column c.column_count.result c.if-column-column_count.false
    ∙ past-columns _ _ _ c.requires.0 _ c.requires.1 _ c.table_record-rec.ensures c.column_count.result c.column_count.ensures c.args.column c.if-column-column_count.false
