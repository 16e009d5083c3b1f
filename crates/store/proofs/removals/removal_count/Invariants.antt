-- The rows counted, and those that go with the keys that are left, are all.
use Rattle.std.proofs.Common.{length}
use Rattle.checks.specs.Keys.{values_of}
use Rattle.store.proofs.RemovalsCounted.{CountTurn}
use Rattle.store.proofs.removals.removal_count.Given as goal

abbrev pub invariant-loop-cell : goal.invariant-loop-cell
invariant-loop-cell l = CountTurn l.p l.places l.s l.t (values_of l.values) (values_of l.keys) l.rows

abbrev pub decreases-loop-cell : goal.decreases-loop-cell
decreases-loop-cell l = length (values_of l.keys)
