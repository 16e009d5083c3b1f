-- Tests of bytes: all zero, the same. Assumes nothing.
use mathlib.Core.Path.{◌≡◌, refl, ap}
use mathlib.Core.Bool.{Bool, true, false, ◌&&◌, false≢true}
use mathlib.Core.List.{List, [], ◌∷◌}
use Prim.Native.Nat.{ℕ}
use borrow.Author.Tests.{eq-eqb, eqb-true}
use lib.Dec.{eqb}
use Rattle.std.specs.Prelude.{nat_eq}
use Rattle.std.specs.List.{list_all}
use Rattle.std.specs.Cmp.Lexicographic.{pointwise}
use Rattle.values.specs.Bytes.{leqb, zeros}

pub zeros-all : (s : List ℕ) → zeros s ≡ list_all (λ x. eqb x 0) s
unfolding zeros
zeros-all [] = refl
zeros-all (x ∷ s) = ap (λ (b : Bool). eqb x 0 && b) (zeros-all s)

pub leqb-pointwise : (s t : List ℕ) → leqb s t ≡ pointwise nat_eq s t
unfolding leqb
leqb-pointwise [] [] = refl
leqb-pointwise [] (y ∷ t) = refl
leqb-pointwise (x ∷ s) [] = refl
leqb-pointwise (x ∷ s) (y ∷ t) = ap (λ (b : Bool). eqb x y && b) (leqb-pointwise s t)

pub and-true : (a b : Bool) → (a && b) ≡ true → (a ≡ true) × (b ≡ true)
and-true true b h = (refl, h)
and-true false b h = absurd (false≢true h)

-- ---- leqb is equality

pub leqb-refl : (s : List ℕ) → leqb s s ≡ true
unfolding leqb
leqb-refl [] = refl
leqb-refl (x ∷ s) = rw (eq-eqb x x refl) (leqb-refl s)

pub leqb-eq : (s t : List ℕ) → leqb s t ≡ true → s ≡ t
unfolding leqb
leqb-eq [] [] h = refl
leqb-eq [] (y ∷ t) h = absurd (false≢true h)
leqb-eq (x ∷ s) [] h = absurd (false≢true h)
leqb-eq (x ∷ s) (y ∷ t) h =
    let p = and-true (eqb x y) (leqb s t) h in
    let q = leqb-eq s t p.1 in
    let r : x ≡ y = eqb-true x y p.0 in
    cc
