-- No table before place i references it.
use Rattle.std.proofs.Common.{◌≡◌, drop}
use Rattle.values.specs.Meaning.{text_bytes}
use Rattle.rules.specs.Layout.{parse}
use Rattle.rules.specs.Rows.{table_referenced}
use Rattle.store.proofs.local.table_references.Given as goal

abbrev pub invariant-loop-i : goal.invariant-loop-i
invariant-loop-i l =
    table_referenced (text_bytes l.name) (parse l.p l.places l.s).tables ≡ table_referenced (text_bytes l.name) (drop l.i (parse l.p l.places l.s).tables)
