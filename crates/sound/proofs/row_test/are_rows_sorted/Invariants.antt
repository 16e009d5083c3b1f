-- What the loop of `row_test::are_rows_sorted` has found. Assumes nothing.
use Rattle.std.proofs.Common.{◌≡◌, ◌-◌, drop}
use Rattle.rules.specs.Layout.{parse}
use Rattle.rules.specs.Sound.{sorted}
use Rattle.rules.specs.State.{cmp_row}
use Rattle.sound.proofs.row_test.are_rows_sorted.Given as goal

abbrev pub invariant-loop-i : goal.invariant-loop-i
invariant-loop-i l =
    sorted cmp_row (parse l.p l.places l.s).rows ≡ sorted cmp_row (drop (l.i - 1) (parse l.p l.places l.s).rows)
