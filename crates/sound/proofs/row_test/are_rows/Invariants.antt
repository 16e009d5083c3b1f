-- What the loop of `row_test::are_rows` has found. Assumes nothing.
use Rattle.std.proofs.Common.{◌≡◌, drop}
use Rattle.rules.specs.Layout.{lists, parse}
use Rattle.rules.specs.Sound.{every}
use Rattle.sound.specs.Tested.{is_row}
use Rattle.sound.proofs.row_test.are_rows.Given as goal

abbrev pub invariant-loop-i : goal.invariant-loop-i
invariant-loop-i l =
    every (is_row l.p (parse l.p l.places l.s).tables) (lists l.p l.places l.s).rows ≡ every (is_row l.p (parse l.p l.places l.s).tables) (drop l.i (lists l.p l.places l.s).rows)
