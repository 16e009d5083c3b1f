-- What the loop of `index_test::indexed_columns` has found. Assumes nothing.
use Rattle.std.proofs.Common.{◌≡◌, ◌+◌, ◌≤◌}
use Rattle.rules.specs.Index.{indexed_count}
use Rattle.rules.specs.Layout.{read_table}
use Rattle.sound.proofs.Linking.{indexed_from}
use Rattle.sound.proofs.index_test.indexed_columns.Given as goal

abbrev pub invariant-loop-i : goal.invariant-loop-i
invariant-loop-i l =
    (l.n + indexed_from l.p l.rec l.i ≡ indexed_count (read_table l.p l.rec).columns) × (l.n ≤ l.i)
