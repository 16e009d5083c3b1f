-- What was read is within the slice, which keeps its length; each turn that goes on leaves less room.
use Rattle.std.proofs.Common.{length, ◌-◌, ◌≡◌, ◌≤◌}
use Rattle.spoiled.proofs.read_full.Given as goal

abbrev pub invariant-loop-count : goal.invariant-loop-count
invariant-loop-count g l = (l.count ≤ length l.s) × (length l.s ≡ length l.fn.s)

abbrev pub decreases-loop-count : goal.decreases-loop-count
decreases-loop-count g l = length l.s - l.count
