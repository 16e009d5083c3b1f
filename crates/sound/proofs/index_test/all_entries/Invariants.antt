-- What the loop of `index_test::all_entries` has found. Assumes nothing.
use Rattle.std.proofs.Common.{◌≡◌, ◌*◌, ◌+◌, ◌≤◌, drop}
use Rattle.rules.specs.Layout.{parse}
use Rattle.sound.specs.Tested.{entries_wanted}
use Rattle.sound.proofs.index_test.all_entries.Given as goal

abbrev pub invariant-loop-i : goal.invariant-loop-i
invariant-loop-i l =
    (l.n + entries_wanted (parse l.p l.places l.s).tables (drop l.i (parse l.p l.places l.s).rows) ≡ entries_wanted (parse l.p l.places l.s).tables (parse l.p l.places l.s).rows)
    × (l.n ≤ l.i * 255)
