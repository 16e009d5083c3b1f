use Rattle.std.proofs.Common.{refl, sym, ◌∙◌, arith}
use Rattle.values.specs.Meaning.{text_bytes}
use Rattle.values.proofs.Orders.{is_eq-ordering}
use Rattle.rules.specs.Layout.{Rows}
use Rattle.laid.proofs.Inside.{name-within, inside-header, area-start}
use Rattle.laid.proofs.Keyed.{row_within, row-bytes}
use Rattle.laid.proofs.Runs.{run-searched}
use Rattle.laid.proofs.Stores.{held-inside}
use Rattle.walks.proofs.Scanned.{rows_run}
use Rattle.walks.proofs.NextRow.{next-within, next_past, next_here, next-elsewhere}
use Rattle.walks.proofs.walk.next_row.Goals as goal

pub row_count-count-requires : goal.row_count-count-requires
row_count-count-requires c = let a = c.args in inside-header a.p a.places a.s.now (held-inside a.p a.places a.s.now c.requires.0)

pub slice_bounds-rows-count : goal.slice_bounds-rows-count
slice_bounds-rows-count c = let a = c.args in area-start a.p a.places a.s.now (held-inside a.p a.places a.s.now c.requires.0) Rows c.rows_at.result c.rows_at.ensures

pub slice_bounds-rows-start : goal.slice_bounds-rows-start
slice_bounds-rows-start c = let a = c.args in area-start a.p a.places a.s.now (held-inside a.p a.places a.s.now c.requires.0) Rows c.rows_at.result c.rows_at.ensures

pub named_before-requires-clause-name_width_le_width : goal.named_before-requires-clause-name_width_le_width
named_before-requires-clause-name_width_le_width c = (omega (arith, c.row_width-width.ensures, name-within c.args.p Rows), c.requires.1)

pub named_before-requires-clause-search_in : goal.named_before-requires-clause-search_in
named_before-requires-clause-search_in c =
    let a = c.args in
    run-searched a.p a.places Rows (text_bytes a.name) a.s.now (rows_run a.p a.places a.s.now c.requires.0 (text_bytes a.name)) _ _ a.places c.rows_at.ensures c.row_width-width.ensures refl _ c.row_count-count.ensures

pub returns-then-count-i : goal.returns-then-count-i
returns-then-count-i c =
    let a = c.args in
    next_past a.p a.places a.s.now c.requires.0 (text_bytes a.name) _ _ c.rows_at.ensures c.row_width-width.ensures _ c.row_count-count.ensures _ c.named_before.ensures a.from _ c.max-i.ensures c.if-count-i.true

pub row_record-requires-clause-inside : goal.row_record-requires-clause-inside
row_record-requires-clause-inside c = held-inside c.args.p c.args.places c.args.s.now c.requires.0

pub row_record-requires-clause-i_in_bounds : goal.row_record-requires-clause-i_in_bounds
row_record-requires-clause-i_in_bounds c =
    let a = c.args in
    row_within a.p a.places a.s.now c.requires.0 c.max-i.result (next-within a.p a.places a.s.now c.requires.0 (text_bytes a.name) _ c.row_count-count.ensures c.max-i.result c.if-count-i.false)

pub compare_named-requires : goal.compare_named-requires
compare_named-requires c =
    let a = c.args in
    let h = next-within a.p a.places a.s.now c.requires.0 (text_bytes a.name) _ c.row_count-count.ensures c.max-i.result c.if-count-i.false in
    (omega (arith, row-bytes a.p a.places a.s.now c.requires.0 c.max-i.result h c.row_record.result.now c.row_record.ensures, name-within a.p Rows), c.requires.1)

pub returns-then-not-is_eq : goal.returns-then-not-is_eq
returns-then-not-is_eq c =
    let a = c.args in
    let h = next-within a.p a.places a.s.now c.requires.0 (text_bytes a.name) _ c.row_count-count.ensures c.max-i.result c.if-count-i.false in
    next-elsewhere a.p a.places a.s.now c.requires.0 (text_bytes a.name) _ _ c.rows_at.ensures c.row_width-width.ensures _ c.row_count-count.ensures _ c.named_before.ensures a.from _ c.max-i.ensures h _ c.row_record.ensures _ c.compare_named.ensures
    (sym (is_eq-ordering _) ∙ sym c.is_eq.ensures ∙ c.if-not-is_eq.true)

pub returns : goal.returns
returns c =
    let a = c.args in
    let h = next-within a.p a.places a.s.now c.requires.0 (text_bytes a.name) _ c.row_count-count.ensures c.max-i.result c.if-count-i.false in
    next_here a.p a.places a.s.now c.requires.0 (text_bytes a.name) _ _ c.rows_at.ensures c.row_width-width.ensures _ c.row_count-count.ensures _ c.named_before.ensures a.from _ c.max-i.ensures h _ c.row_record.ensures _ c.compare_named.ensures
    (sym (is_eq-ordering _) ∙ sym c.is_eq.ensures ∙ c.if-not-is_eq.false)
