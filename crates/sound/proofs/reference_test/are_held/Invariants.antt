-- What the loop of `reference_test::are_held` has found. Assumes nothing.
use Rattle.std.proofs.Common.{◌≡◌, ℕ, drop, length}
use Rattle.rules.specs.Layout.{parse, read_table}
use Rattle.rules.specs.Sound.{every_cell, held}
use Rattle.sound.specs.Tested.{cells_in}
use Rattle.values.specs.Value.{Value}
use Rattle.rules.specs.State.{Column}
use Rattle.sound.proofs.reference_test.are_held.Given as goal

abbrev pub invariant-loop-i : goal.invariant-loop-i
invariant-loop-i l =
    every_cell (λ (i : ℕ) (c : Column) (v : Value). held (parse l.p l.places l.s).rows c.reference v) 0 (read_table l.p l.rec).columns (cells_in (length (read_table l.p l.rec).columns) l.row)
    ≡ every_cell (λ (i : ℕ) (c : Column) (v : Value). held (parse l.p l.places l.s).rows c.reference v) l.i (drop l.i (read_table l.p l.rec).columns) (drop l.i (cells_in (length (read_table l.p l.rec).columns) l.row))
