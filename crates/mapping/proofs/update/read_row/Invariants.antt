use Rattle.std.proofs.Common.{◌≡◌, length}
use Rattle.checks.specs.Keys.{values_of}
use Rattle.laid.specs.Row.{in_flight}
use Rattle.mapping.proofs.Pairs.{SoFar}
use Rattle.mapping.proofs.update.read_row.Given as goal

abbrev pub invariant-loop-cell : goal.invariant-loop-cell
invariant-loop-cell l = SoFar (values_of l.values) (in_flight l.row) (values_of l.cell-iterator) × (l.row.count ≡ length (in_flight l.row))
