-- What the loop of `reference_test::are_linked` has found. Assumes nothing.
use Rattle.std.proofs.Common.{◌≡◌, drop}
use Rattle.rules.specs.Layout.{parse}
use Rattle.rules.specs.Sound.{every, references_held}
use Rattle.sound.proofs.reference_test.are_linked.Given as goal

abbrev pub invariant-loop-i : goal.invariant-loop-i
invariant-loop-i l =
    every (references_held (parse l.p l.places l.s).tables (parse l.p l.places l.s).rows) (parse l.p l.places l.s).rows ≡ every (references_held (parse l.p l.places l.s).tables (parse l.p l.places l.s).rows) (drop l.i (parse l.p l.places l.s).rows)
