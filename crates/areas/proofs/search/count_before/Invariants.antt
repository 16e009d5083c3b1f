use Prim.Native.Nat.{Ordering as Three}
use Rattle.std.proofs.Common.{ℕ, List, ◌≤◌, ◌-◌}
use Rattle.values.specs.Basic.{is_lt}
use Rattle.areas.specs.Search.{SearchIn, ComparesBy}
use Rattle.areas.proofs.Halving.{Bracket}
use Rattle.areas.proofs.search.count_before.Given as goal

-- `lo` and `hi` bracket the number
abbrev pub invariant-loop-lo : goal.invariant-loop-lo
invariant-loop-lo g l =
    (l.hi ≤ l.count) × ((cmp : List ℕ → Three) → ComparesBy g.F.Fn l.width l.compare cmp → SearchIn (λ r. is_lt (cmp r)) l.area l.count l.width → Bracket cmp l.area l.count l.width l.lo l.hi)

abbrev pub decreases-loop-lo : goal.decreases-loop-lo
decreases-loop-lo g l = l.hi - l.lo
