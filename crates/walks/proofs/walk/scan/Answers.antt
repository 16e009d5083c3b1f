use Rattle.std.proofs.Common.{refl, arith}
use Rattle.values.specs.Meaning.{text_bytes}
use Rattle.rules.specs.Layout.{Rows}
use Rattle.laid.proofs.Inside.{name-within, inside-header, area-start}
use Rattle.laid.proofs.Runs.{run_inside, run-searched, run-place}
use Rattle.laid.proofs.Stores.{held-inside}
use Rattle.walks.proofs.Scanned.{rows_run, span_small, span-is}
use Rattle.walks.proofs.walk.scan.Goals as goal

pub row_count-count-requires : goal.row_count-count-requires
row_count-count-requires c = let a = c.args in inside-header a.p a.places a.s.now (held-inside a.p a.places a.s.now c.requires.0)

pub slice_bounds-rows-count : goal.slice_bounds-rows-count
slice_bounds-rows-count c = let a = c.args in area-start a.p a.places a.s.now (held-inside a.p a.places a.s.now c.requires.0) Rows c.rows_at.result c.rows_at.ensures

pub slice_bounds-rows-start : goal.slice_bounds-rows-start
slice_bounds-rows-start c = let a = c.args in area-start a.p a.places a.s.now (held-inside a.p a.places a.s.now c.requires.0) Rows c.rows_at.result c.rows_at.ensures

pub named_before-from-requires-clause-name_width_le_width : goal.named_before-from-requires-clause-name_width_le_width
named_before-from-requires-clause-name_width_le_width c = (omega (arith, c.row_width-width.ensures, name-within c.args.p Rows), c.requires.1)

pub named_before-from-requires-clause-search_in : goal.named_before-from-requires-clause-search_in
named_before-from-requires-clause-search_in c =
    let a = c.args in
    run-searched a.p a.places Rows (text_bytes a.name) a.s.now (rows_run a.p a.places a.s.now c.requires.0 (text_bytes a.name)) _ _ a.places c.rows_at.ensures c.row_width-width.ensures refl _ c.row_count-count.ensures

pub run_from-requires : goal.run_from-requires
run_from-requires c =
    let a = c.args in
    let r = rows_run a.p a.places a.s.now c.requires.0 (text_bytes a.name) in (
      omega (arith, c.row_width-width.ensures, name-within a.p Rows),
      run_inside a.p a.places Rows (text_bytes a.name) a.s.now r _ _ a.places c.rows_at.ensures c.row_width-width.ensures refl _ c.row_count-count.ensures,
      run-place a.p a.places Rows (text_bytes a.name) a.s.now r _ _ a.places c.rows_at.ensures c.row_width-width.ensures refl _ c.row_count-count.ensures _ c.named_before-from.ensures,
      c.requires.1,
    )

pub overflow_add-to : goal.overflow_add-to
overflow_add-to c =
    let a = c.args in
    omega (arith, span_small a.p a.places a.s.now c.requires.0 (text_bytes a.name) _ _ c.rows_at.ensures c.row_width-width.ensures _ c.row_count-count.ensures _ c.named_before-from.ensures _ c.run_from.ensures)

pub returns : goal.returns
returns c =
    let a = c.args in
    span-is a.p a.places a.s.now c.requires.0 (text_bytes a.name) _ _ c.rows_at.ensures c.row_width-width.ensures _ c.row_count-count.ensures _ c.named_before-from.ensures _ c.run_from.ensures
