-- What the loop of `index_test::are_entries` has found. Assumes nothing.
use Rattle.std.proofs.Common.{◌≡◌, drop}
use Rattle.rules.specs.Layout.{lists}
use Rattle.rules.specs.Sound.{every}
use Rattle.sound.specs.Tested.{is_entry}
use Rattle.sound.proofs.index_test.are_entries.Given as goal

abbrev pub invariant-loop-i : goal.invariant-loop-i
invariant-loop-i l =
    every (is_entry l.p) (lists l.p l.places l.s).entries ≡ every (is_entry l.p) (drop l.i (lists l.p l.places l.s).entries)
