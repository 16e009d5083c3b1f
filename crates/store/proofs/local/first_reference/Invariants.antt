-- No column before j refers to the table.
use Rattle.std.proofs.Common.{◌≡◌, drop}
use Rattle.values.specs.Meaning.{text_bytes}
use Rattle.rules.specs.Rows.{first_reference}
use Rattle.laid.proofs.Columns.{columns_of}
use Rattle.store.proofs.local.first_reference.Given as goal

abbrev pub invariant-loop-j : goal.invariant-loop-j
invariant-loop-j l =
    first_reference (text_bytes l.name) 0 (columns_of l.p l.rec) ≡ first_reference (text_bytes l.name) l.j (drop l.j (columns_of l.p l.rec))
