use Prim.Native.Nat.{◌+◌}
use mathlib.Core.Path.{◌≡◌}
use lib.ListN.{length}
use Rattle.values.specs.Meaning.{text_bytes}
use Rattle.rules.specs.Layout.{parse}
use Rattle.rules.specs.Step.{found}
use Rattle.checks.specs.Keys.{values_of}
use Rattle.operations.proofs.operate.found_count.Given as goal

-- the keys found so far, with those of the values that remain, are all
abbrev pub invariant-loop-cell : goal.invariant-loop-cell
invariant-loop-cell l =
    let rs = (parse l.fn.p l.fn.places l.s).rows in
    l.n + length (found rs (text_bytes l.name) (values_of l.cell-iterator)) ≡ length (found rs (text_bytes l.name) (values_of l.fn.values))
