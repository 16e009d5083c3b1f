-- The names from column j on decide.
use Rattle.std.proofs.Common.{◌≡◌}
use Rattle.laid.specs.Column.{name_before}
use Rattle.checks.proofs.Validating.{names_from}
use Rattle.checks.proofs.schema_fault.repeats.Given as goal

abbrev pub invariant-loop-j : goal.invariant-loop-j
invariant-loop-j l = names_from l.p l.rec l.fn.i l.j ≡ name_before l.p l.rec l.fn.i
