-- What the loop of `row_test::are_cells` has found. Assumes nothing.
use Rattle.std.proofs.Common.{◌≡◌, drop}
use Rattle.areas.specs.Records.{records}
use Rattle.values.specs.Cell.{is_cell}
use Rattle.rules.specs.Sound.{every}
use Rattle.sound.proofs.row_test.are_cells.Given as goal

abbrev pub invariant-loop-i : goal.invariant-loop-i
invariant-loop-i l =
    every is_cell (records 26 l.count (drop 25 l.row)) ≡ every is_cell (drop l.i (records 26 l.count (drop 25 l.row)))
