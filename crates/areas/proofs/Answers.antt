-- What a comparison and then another answer, and what the value cell in the rest of a record compares as. Assumes nothing.
use mathlib.Core.Path.{◌≡◌, ◌∙◌}
use mathlib.Core.List.{List}
use Prim.Native.Nat.{ℕ, ◌-◌, Ordering}
use native.Mathlib.Omega.{arith}
use lib.ListN.{length, take, drop, length-drop}
use lib.Seq.{take_all}
use Rattle.std.specs.Ordering.{MatchOrdering}
use Rattle.values.specs.Basic.{and_then}
use Rattle.values.specs.Cell.{read_value}
use Rattle.values.specs.Meaning.{ordering}
use Rattle.values.specs.Value.{Value, cmp_value}
use Rattle.std.specs.declared.cmp.Ordering.{Ordering as Compared}
use Rattle.std.specs.declared.cmp.Ordering.TheVariants.{Less, Equal, Greater}

-- a comparison that was read as r, and where it is equal another, which has Q
pub then-compared : (r s : Compared) (o p : Ordering) {Q : Type 0} → ordering r ≡ o → MatchOrdering r (s ≡ Less) Q (s ≡ Greater) → (Q → ordering s ≡ p) → ordering s ≡ and_then o p
then-compared Less s o p e m f = rw (m, ← e)
then-compared Equal s o p e m f = rw (← e) (f m)
then-compared Greater s o p e m f = rw (m, ← e)

-- the value cell in the rest of a record was read as v, which compares so with w
pub rest-compared : (o : Ordering) (v w : Value) (s : List ℕ) (at : ℕ) → v ≡ read_value (take (length s - at) (drop at s)) → o ≡ cmp_value v w
    → o ≡ cmp_value (read_value (drop at s)) w
rest-compared o v w s at e f =
    let a : take (length s - at) (drop at s) ≡ drop at s = take_all (length s - at) (drop at s) (rw length-drop (omega arith)) in
    f ∙ rw (e, a)
