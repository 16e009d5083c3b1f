-- The values that the iterator still holds tell whether the value is among all of them.
use Rattle.std.proofs.Common.{◌≡◌}
use Rattle.values.specs.Value.{among}
use Rattle.values.specs.Meaning.{meaning}
use Rattle.checks.specs.Keys.{values_of}
use Rattle.checks.proofs.keys.is_among.Given as goal

abbrev pub invariant-loop-cell : goal.invariant-loop-cell
invariant-loop-cell l = among (meaning l.v) (values_of l.cell-iterator) ≡ among (meaning l.v) (values_of l.values)
