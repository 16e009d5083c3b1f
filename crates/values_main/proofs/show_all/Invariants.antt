-- The value before is a proper one, and each value that is read ends past its start.
use Rattle.std.proofs.Common.{length, ◌-◌}
use Rattle.values.specs.Meaning.{ProperCell}
use Rattle.values_main.proofs.show_all.Given as goal

abbrev pub invariant-loop-at : goal.invariant-loop-at
invariant-loop-at g l = ProperCell l.before

abbrev pub decreases-loop-at : goal.decreases-loop-at
decreases-loop-at g l = length l.s - l.at
