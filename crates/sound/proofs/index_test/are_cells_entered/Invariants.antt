-- What the loop of `index_test::are_cells_entered` has found. Assumes nothing.
use Rattle.std.proofs.Common.{◌≡◌, drop, length}
use Rattle.rules.specs.Layout.{parse, read_table, read_row}
use Rattle.rules.specs.Sound.{every_cell}
use Rattle.sound.specs.Tested.{cells_in, entered_cell}
use Rattle.laid.specs.Entered.{entries_in}
use Rattle.sound.proofs.index_test.are_cells_entered.Given as goal

abbrev pub invariant-loop-i : goal.invariant-loop-i
invariant-loop-i l =
    every_cell (entered_cell (entries_in l.p l.places l.s) (read_row l.p (parse l.p l.places l.s).tables l.row)) 0 (read_table l.p l.rec).columns (cells_in (length (read_table l.p l.rec).columns) l.row)
    ≡ every_cell (entered_cell (entries_in l.p l.places l.s) (read_row l.p (parse l.p l.places l.s).tables l.row)) l.i (drop l.i (read_table l.p l.rec).columns) (drop l.i (cells_in (length (read_table l.p l.rec).columns) l.row))
