-- The run of the table's rows is gone.
use Rattle.std.proofs.Common.{refl}
use Rattle.laid.proofs.Runs.{run-searched, run-shrinks, run-gone, run-counter, run-begins, run-wide}
use Rattle.laid.proofs.run.drop_rows.Goals as goal

pub count_at-count-requires : goal.count_at-count-requires
count_at-count-requires c = run-counter c.requires.0 (record { counted = refl; bytes = refl; start = c.rows_at-from.ensures; room = refl; wide = c.row_width-width.ensures })

pub slice_bounds-run_of-count : goal.slice_bounds-run_of-count
slice_bounds-run_of-count c = run-begins c.requires.0 (record { counted = refl; bytes = refl; start = c.rows_at-from.ensures; room = refl; wide = c.row_width-width.ensures })

pub slice_bounds-run_of-start : goal.slice_bounds-run_of-start
slice_bounds-run_of-start c = run-begins c.requires.0 (record { counted = refl; bytes = refl; start = c.rows_at-from.ensures; room = refl; wide = c.row_width-width.ensures })

pub run_of-i-requires-clause-name_width_le_width : goal.run_of-i-requires-clause-name_width_le_width
run_of-i-requires-clause-name_width_le_width c =
    (run-wide c.requires.0 (record { counted = refl; bytes = refl; start = c.rows_at-from.ensures; room = refl; wide = c.row_width-width.ensures }), c.requires.1)

pub run_of-i-requires-clause-search_in : goal.run_of-i-requires-clause-search_in
run_of-i-requires-clause-search_in c = run-searched _ _ _ _ _ c.requires.0 _ _ _ c.rows_at-from.ensures c.row_width-width.ensures refl _ c.count_at-count.ensures

pub close_counted-requires : goal.close_counted-requires
close_counted-requires c = run-shrinks _ _ _ _ _ c.requires.0 _ _ _ c.rows_at-from.ensures c.row_width-width.ensures refl _ c.count_at-count.ensures _ c.run_of-i.ensures.0 _ c.run_of-i.ensures.1

pub returns : goal.returns
returns c = run-gone _ _ _ _ _ c.requires.0 _ _ _ c.rows_at-from.ensures c.row_width-width.ensures refl _ c.count_at-count.ensures _ c.run_of-i.ensures.0 _ c.run_of-i.ensures.1 _ c.close_counted.ensures
