-- The store keeps its length, and each case is longer than nothing.
use Rattle.std.proofs.Common.{length, ◌-◌, ◌≡◌}
use Rattle.spoiled.proofs.all_cases.Given as goal

abbrev pub invariant-loop-at : goal.invariant-loop-at
invariant-loop-at g l = length l.s ≡ length l.fn.s

abbrev pub decreases-loop-at : goal.decreases-loop-at
decreases-loop-at g l = length l.list - l.at
