-- 2, 20, or its entries, its rows and its schema go.
use Rattle.std.proofs.Common.{refl}
use Rattle.values.specs.Meaning.{text_bytes}
use Rattle.laid.proofs.Stores.{store-catalog}
use Rattle.store.proofs.Dropped.{unknown-kept, unknown-passed, referenced-kept, entries-in, rows_in, table-shrinks, table-dropped}
use Rattle.store.proofs.local.drop_table.Goals as goal

pub get_table-requires : goal.get_table-requires
get_table-requires c = (store-catalog _ _ _ c.requires.0, c.requires.1)

pub returns-then-lenient : goal.returns-then-lenient
returns-then-lenient c = unknown-passed c.requires.0 (text_bytes c.args.name) c.if-lenient.true c.in_default.ensures _ refl

pub returns-else-lenient : goal.returns-else-lenient
returns-else-lenient c = unknown-kept c.requires.0 (text_bytes c.args.name) c.if-lenient.false c.in_default.ensures _ c.new.ensures

pub table_references-requires : goal.table_references-requires
table_references-requires c = (store-catalog _ _ _ c.requires.0, c.requires.1)

pub returns-in-Some-table_references : goal.returns-in-Some-table_references
returns-in-Some-table_references c = referenced-kept c.requires.0 (text_bytes c.args.name) c.args.lenient c.in-Some.ensures _ c.in-Some-table_references.ensures.0 _ c.carrying.ensures

pub drop_entries-requires : goal.drop_entries-requires
drop_entries-requires c = (entries-in c.requires.0 (text_bytes c.args.name), c.requires.1)

pub drop_rows-requires : goal.drop_rows-requires
drop_rows-requires c = (rows_in c.requires.0 (text_bytes c.args.name) c.drop_entries.ensures, c.requires.1)

pub close_counted-requires : goal.close_counted-requires
close_counted-requires c = table-shrinks c.requires.0 (text_bytes c.args.name) c.drop_entries.ensures c.drop_rows.ensures c.in-Some.ensures c.schema_width.ensures

pub returns : goal.returns
returns c =
    table-dropped c.requires.0 (text_bytes c.args.name) c.drop_entries.ensures c.drop_rows.ensures c.in-Some.ensures c.schema_width.ensures c.args.lenient c.in_default-table_references.ensures.0
    c.close_counted.ensures _ refl
