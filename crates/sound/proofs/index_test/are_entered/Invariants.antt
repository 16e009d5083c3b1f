-- What the loop of `index_test::are_entered` has found. Assumes nothing.
use Rattle.std.proofs.Common.{◌≡◌, drop}
use Rattle.rules.specs.Layout.{parse}
use Rattle.rules.specs.Sound.{every}
use Rattle.sound.specs.Tested.{entered_row}
use Rattle.laid.specs.Entered.{entries_in}
use Rattle.sound.proofs.index_test.are_entered.Given as goal

abbrev pub invariant-loop-i : goal.invariant-loop-i
invariant-loop-i l =
    every (entered_row (parse l.p l.places l.s).tables (entries_in l.p l.places l.s)) (parse l.p l.places l.s).rows ≡ every (entered_row (parse l.p l.places l.s).tables (entries_in l.p l.places l.s)) (drop l.i (parse l.p l.places l.s).rows)
