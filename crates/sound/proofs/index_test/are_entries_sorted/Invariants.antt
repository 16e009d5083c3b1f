-- What the loop of `index_test::are_entries_sorted` has found. Assumes nothing.
use Rattle.std.proofs.Common.{◌≡◌, ◌-◌, drop}
use Rattle.laid.specs.Entered.{entries_in}
use Rattle.rules.specs.Index.{cmp_entry}
use Rattle.rules.specs.Sound.{sorted}
use Rattle.sound.proofs.index_test.are_entries_sorted.Given as goal

abbrev pub invariant-loop-i : goal.invariant-loop-i
invariant-loop-i l =
    sorted cmp_entry (entries_in l.p l.places l.s) ≡ sorted cmp_entry (drop (l.i - 1) (entries_in l.p l.places l.s))
