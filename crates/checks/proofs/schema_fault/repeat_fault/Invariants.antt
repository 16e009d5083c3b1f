-- What repeats from column i on is the whole.
use Rattle.std.proofs.Common.{◌≡◌, []}
use Rattle.rules.specs.Schema.{repeat_fault}
use Rattle.laid.proofs.Columns.{columns_of}
use Rattle.checks.proofs.Validating.{repeats_from}
use Rattle.checks.proofs.schema_fault.repeat_fault.Given as goal

abbrev pub invariant-loop-i : goal.invariant-loop-i
invariant-loop-i l = repeats_from l.p l.rec l.i ≡ repeat_fault [] 0 (columns_of l.p l.rec)
