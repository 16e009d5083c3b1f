-- What the loop of `row_test::are_fitting` has found. Assumes nothing.
use Rattle.std.proofs.Common.{◌≡◌, drop, length}
use Rattle.rules.specs.Layout.{read_table}
use Rattle.rules.specs.Sound.{every_cell}
use Rattle.sound.specs.Tested.{fitting, cells_in}
use Rattle.sound.proofs.row_test.are_fitting.Given as goal

abbrev pub invariant-loop-i : goal.invariant-loop-i
invariant-loop-i l =
    every_cell fitting 0 (read_table l.p l.rec).columns (cells_in (length (read_table l.p l.rec).columns) l.row)
    ≡ every_cell fitting l.i (drop l.i (read_table l.p l.rec).columns) (drop l.i (cells_in (length (read_table l.p l.rec).columns) l.row))
