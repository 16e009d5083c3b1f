-- The record at the place that the search ends at is the table's, or the table is not stored.
use Rattle.std.proofs.Common.{arith, ap, refl, length}
use Rattle.std.proofs.lemmas.Bool.{le-ltb}
use Rattle.values.specs.Meaning.{text_bytes}
use Rattle.values.proofs.Orders.{is_eq-ordering}
use Rattle.rules.specs.Layout.{Schemas}
use Rattle.laid.proofs.Inside.{name-within, inside-header, record-wide}
use Rattle.laid.proofs.Searching.{tables-searched, table-past, table-within, table-told}
use Rattle.laid.proofs.catalog.get_table.Goals as goal
use Rattle.laid.proofs.catalog.get_table.Goals.{then-i-count, else-i-count}

pub table_count-count-requires : goal.table_count-count-requires
table_count-count-requires c = inside-header _ _ _ c.requires.0.inside

pub slice_bounds-named_before-count : goal.slice_bounds-named_before-count
slice_bounds-named_before-count c = inside-header _ _ _ c.requires.0.inside

pub slice_bounds-named_before-start : goal.slice_bounds-named_before-start
slice_bounds-named_before-start c = inside-header _ _ _ c.requires.0.inside

pub named_before-i-requires-clause-name_width_le_width : goal.named_before-i-requires-clause-name_width_le_width
named_before-i-requires-clause-name_width_le_width c = (omega (arith, name-within c.args.p Schemas), c.requires.1)

pub named_before-i-requires-clause-search_in : goal.named_before-i-requires-clause-search_in
named_before-i-requires-clause-search_in c =
    tables-searched _ _ _ c.requires.0 (text_bytes c.args.name) _ _ c.table_count-count.ensures c.schema_width-width.ensures

pub table_record-requires-clause-i_in_bounds : goal.table_record-requires-clause-i_in_bounds
table_record-requires-clause-i_in_bounds c =
    table-within _ _ _ c.requires.0 (text_bytes c.args.name) _ _ c.table_count-count.ensures c.schema_width-width.ensures _ c.named_before-i.ensures c.if-i-count.true

pub compare_named-requires : goal.compare_named-requires
compare_named-requires c =
    let l = table-within _ _ _ c.requires.0 (text_bytes c.args.name) _ _ c.table_count-count.ensures c.schema_width-width.ensures _ c.named_before-i.ensures c.if-i-count.true in
    let r = record-wide c.args.p c.args.places c.args.s.now c.requires.0.inside Schemas 12 c.schema_width-width.result c.named_before-i.result refl c.schema_width-width.ensures l in
    (omega (arith, ap length c.table_record.ensures, r, name-within c.args.p Schemas), c.requires.1)

pub returns : goal.returns
returns c =
    elim c.if-i-count.branch [
      | then-i-count w ↦
          rw (c.then_some.ensures, w.found-is, w.is_eq-found.ensures, is_eq-ordering w.compare_named.result, w.compare_named.ensures)
          (table-told _ _ _ c.requires.0 (text_bytes c.args.name) _ _ c.table_count-count.ensures c.schema_width-width.ensures _ c.named_before-i.ensures w.if-i-count.true _ w.table_record.ensures _ refl)
      | else-i-count w ↦
          rw (c.then_some.ensures, w.found-is, le-ltb _ _ w.if-i-count.false)
          (table-past _ _ _ c.requires.0 (text_bytes c.args.name) _ _ c.table_count-count.ensures c.schema_width-width.ensures _ c.named_before-i.ensures w.if-i-count.false)
    ]
