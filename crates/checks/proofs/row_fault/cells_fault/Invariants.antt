-- The faults from column j on are the whole.
use Rattle.std.proofs.Common.{◌≡◌}
use Rattle.checks.proofs.Fitting.{faults_on}
use Rattle.checks.proofs.row_fault.cells_fault.Given as goal

abbrev pub invariant-loop-j : goal.invariant-loop-j
invariant-loop-j l = faults_on l.p l.places l.s l.t l.update l.row l.j ≡ faults_on l.p l.places l.s l.t l.update l.row 0
