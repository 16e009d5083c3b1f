-- The faults from column i on are the whole.
use Rattle.std.proofs.Common.{◌≡◌}
use Rattle.rules.specs.Layout.{read_table, parse}
use Rattle.rules.specs.Schema.{columns_fault}
use Rattle.laid.proofs.Columns.{columns_of}
use Rattle.checks.proofs.Validating.{faults_from}
use Rattle.checks.proofs.schema_fault.columns_fault.Given as goal

abbrev pub invariant-loop-i : goal.invariant-loop-i
invariant-loop-i l = faults_from l.p l.rec (parse l.p l.places l.s).tables l.i-counter ≡ columns_fault (parse l.p l.places l.s).tables (read_table l.p l.rec) 0 (columns_of l.p l.rec)
