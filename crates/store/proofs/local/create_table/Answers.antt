-- 3, 4 to 18, 19, or the record is put in at its place.
use Rattle.std.proofs.Common.{arith, refl, sym}
use Rattle.std.proofs.lemmas.Result.{err_from_is_err_and}
use Rattle.values.specs.Meaning.{text_bytes}
use Rattle.rules.specs.Layout.{Schemas}
use Rattle.rules.proofs.Laid.{laid-header}
use Rattle.laid.proofs.Columns.{record-least}
use Rattle.laid.proofs.Inside.{name-within}
use Rattle.laid.proofs.Runs.{run-searched}
use Rattle.laid.proofs.Stores.{store-catalog, store_laid}
use Rattle.store.proofs.Created.{place-given, none-given, known_kept, faulty-kept, full-kept, schemas-in, taken, table-grows, record-fits, table-created}
use Rattle.store.proofs.local.create_table.Goals as goal

pub read_name-name-requires : goal.read_name-name-requires
read_name-name-requires c = omega (arith, record-least _ _ c.requires.1)

pub get_table-requires : goal.get_table-requires
get_table-requires c = (store-catalog _ _ _ c.requires.0, c.read_name-name.ensures.1)

pub returns-then-is_some : goal.returns-then-is_some
returns-then-is_some c =
    known_kept c.requires.0 c.requires.1 c.read_name-name.ensures.0 (place-given c.get_table.result c.get_table.ensures (sym c.if-is_some.ensures)).1 _ c.new.ensures

pub validate-requires : goal.validate-requires
validate-requires c = (store-catalog _ _ _ c.requires.0, c.requires.1)

pub returns-in_err-validate : goal.returns-in_err-validate
returns-in_err-validate c =
    let p = err_from_is_err_and c.from_residual.result c.from_residual.ensures.1 in
    rw p.1
    (faulty-kept c.requires.0 c.requires.1 c.read_name-name.ensures.0 (none-given c.get_table.result c.get_table.ensures (sym c.if-is_some.ensures)) _ _ c.in_err-validate.ensures _ p.2)

pub table_count-count-requires : goal.table_count-count-requires
table_count-count-requires c = laid-header _ _ _ _ (store_laid _ _ _ c.requires.0)

pub returns-then-p-count : goal.returns-then-p-count
returns-then-p-count c =
    full-kept c.requires.0 c.requires.1 c.read_name-name.ensures.0 (none-given c.get_table.result c.get_table.ensures (sym c.if-is_some.ensures)) c.in_ok-validate.ensures c.table_count-count.ensures
    c.if-p-count.true _ c.new-then-p-count.ensures

pub slice_bounds-named_before-count : goal.slice_bounds-named_before-count
slice_bounds-named_before-count c = laid-header _ _ _ _ (store_laid _ _ _ c.requires.0)

pub slice_bounds-named_before-start : goal.slice_bounds-named_before-start
slice_bounds-named_before-start c = laid-header _ _ _ _ (store_laid _ _ _ c.requires.0)

pub named_before-i-requires-clause-name_width_le_width : goal.named_before-i-requires-clause-name_width_le_width
named_before-i-requires-clause-name_width_le_width c = (omega (arith, c.schema_width-width.ensures, name-within c.args.p Schemas), c.read_name-name.ensures.1)

pub named_before-i-requires-clause-search_in : goal.named_before-i-requires-clause-search_in
named_before-i-requires-clause-search_in c =
    run-searched _ _ Schemas (text_bytes c.read_name-name.result) _ (schemas-in _ _ _ c.requires.0 (text_bytes c.read_name-name.result)) 12 c.schema_width-width.result c.args.p.tables refl
    c.schema_width-width.ensures refl c.table_count-count.result c.table_count-count.ensures

pub open_counted-requires : goal.open_counted-requires
open_counted-requires c =
    table-grows
    (taken c.requires.0 c.requires.1 c.read_name-name.ensures.0 (none-given c.get_table.result c.get_table.ensures (sym c.if-is_some.ensures)) c.in_ok-validate.ensures c.table_count-count.ensures
    c.if-p-count.false c.schema_width-width.ensures c.named_before-i.ensures)

pub write_record-requires : goal.write_record-requires
write_record-requires c =
    record-fits
    (taken c.requires.0 c.requires.1 c.read_name-name.ensures.0 (none-given c.get_table.result c.get_table.ensures (sym c.if-is_some.ensures)) c.in_ok-validate.ensures c.table_count-count.ensures
    c.if-p-count.false c.schema_width-width.ensures c.named_before-i.ensures)
    c.open_counted.ensures

pub returns : goal.returns
returns c =
    table-created
    (taken c.requires.0 c.requires.1 c.read_name-name.ensures.0 (none-given c.get_table.result c.get_table.ensures (sym c.if-is_some.ensures)) c.in_ok-validate.ensures c.table_count-count.ensures
    c.if-p-count.false c.schema_width-width.ensures c.named_before-i.ensures)
    c.open_counted.ensures c.write_record.ensures _ refl
