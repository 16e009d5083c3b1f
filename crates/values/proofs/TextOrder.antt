-- Two texts compare by their words and lengths as by their bytes, a prefix before its extension. Assumes nothing.
use mathlib.Core.Path.{◌≡◌, refl, sym, ap, ◌∙◌}
use mathlib.Core.Bool.{true}
use mathlib.Core.List.{List, [], ◌∷◌}
use Prim.Native.Nat.Ordering.{eq}
use Prim.Native.Nat.Ordering.{gt}
use Prim.Native.Nat.Ordering.{lt}
use Prim.Native.Nat.compare
use Prim.Native.Nat.{ℕ, zero, suc, ◌/◌, ◌%◌, ◌^◌, ◌≤◌, ◌<◌, compare, Ordering}
use native.Mathlib.Nat.{pow-suc}
use native.Mathlib.Omega.{arith}
use borrow.Author.Tests.{eqb-true}
use lib.Dec.{eqb}
use lib.ListN.{length, take, drop, replicate}
use Rattle.values.specs.Basic.{and_then, cmp_bytes}
use Rattle.values.specs.Bytes.{be, zeros}
use Rattle.values.specs.Meaning.{words, text_bytes, Packed}
use Rattle.values.specs.declared.value.Text.{Text}
use Rattle.values.proofs.Scans.{and-true}
use Rattle.values.proofs.Packing.{zeros-are, words_long}
use Rattle.values.proofs.Orders.{opp, opp-and_then, ord_bytes, self, of_lt, of_eq, of-gt, Tri, less, level, more, tri, passes, and_assoc}

-- ---- numbers of k bytes

two_digits : (a b : ℕ) (o : Ordering) → and_then (compare (a / 256) (b / 256)) (and_then (compare (a % 256) (b % 256)) o) ≡ and_then (compare a b) o
two_digits a b o = go (tri (a / 256) (b / 256)) (tri (a % 256) (b % 256))
  where
    go : Tri (a / 256) (b / 256) → Tri (a % 256) (b % 256) → and_then (compare (a / 256) (b / 256)) (and_then (compare (a % 256) (b % 256)) o) ≡ and_then (compare a b) o
    go (less h) k = rw (of_lt _ _ h, of_lt a b (omega arith))
    go (more h) k = rw (of-gt _ _ h, of-gt a b (omega arith))
    go (level h) (less k) = rw (of_eq _ _ h, of_lt _ _ k, of_lt a b (omega arith))
    go (level h) (more k) = rw (of_eq _ _ h, of-gt _ _ k, of-gt a b (omega arith))
    go (level h) (level k) = rw (of_eq _ _ h, of_eq _ _ k, of_eq a b (omega arith))

cmp-be : (k a b : ℕ) (r s : List ℕ) → a < 256 ^ k → b < 256 ^ k → cmp_bytes (be k a r) (be k b s) ≡ and_then (compare a b) (cmp_bytes r s)
unfolding be cmp_bytes
cmp-be zero a b r s h l = let e : a ≡ b = omega arith in sym (passes a b (cmp_bytes r s) e)
cmp-be (suc k) a b r s h l =
    let p = pow-suc 256 k in
    cmp-be k (a / 256) (b / 256) (a % 256 ∷ r) (b % 256 ∷ s) (omega arith) (omega arith) ∙ two_digits a b (cmp_bytes r s)

-- ---- padded bytes, and then their lengths

-- no bytes are before zeros
zeros-first : (x y : List ℕ) → zeros x ≡ true → length x ≡ length y → and_then (cmp_bytes x y) lt ≡ lt
unfolding zeros cmp_bytes
zeros-first [] [] z l = refl
zeros-first [] (b ∷ y) z l = refl
zeros-first (a ∷ x) [] z l = absurd (omega arith)
zeros-first (a ∷ x) (b ∷ y) z l =
    let e : a ≡ 0 = eqb-true a 0 (and-true (eqb a 0) (zeros x) z).0 in
    rw e (go b (zeros-first x y (and-true (eqb a 0) (zeros x) z).1 (omega arith)))
  where
    go : (b : ℕ) → and_then (cmp_bytes x y) lt ≡ lt → and_then (and_then (compare 0 b) (cmp_bytes x y)) lt ≡ lt
    go zero ih = ih
    go (suc b) ih = rw compare.zero-suc

zeros-last : (x y : List ℕ) → zeros y ≡ true → length x ≡ length y → and_then (cmp_bytes x y) gt ≡ gt
zeros-last x y z l =
    ap (λ (o : Ordering). and_then o gt) (ord_bytes.flip y x) ∙ opp-and_then (cmp_bytes y x) lt ∙ ap opp (zeros-first y x z (sym l))

zeros-same : (x y : List ℕ) → zeros x ≡ true → zeros y ≡ true → length x ≡ length y → x ≡ y
zeros-same x y z w l = zeros-are x z ∙ ap (λ (n : ℕ). replicate n 0) l ∙ sym (zeros-are y w)

by_bytes : (x y : List ℕ) (n m : ℕ) → length x ≡ length y → n ≤ length x → m ≤ length y → zeros (drop n x) ≡ true → zeros (drop m y) ≡ true
    → and_then (cmp_bytes x y) (compare n m) ≡ cmp_bytes (take n x) (take m y)
unfolding cmp_bytes
by_bytes x y zero zero l p q z w = rw (zeros-same x y z w l) (rw (self ord_bytes y))
by_bytes x [] zero (suc m) l p q z w = absurd (omega arith)
by_bytes x (b ∷ y) zero (suc m) l p q z w = rw compare.zero-suc (zeros-first x (b ∷ y) z l)
by_bytes [] y (suc n) m l p q z w = absurd (omega arith)
by_bytes (a ∷ x) y (suc n) zero l p q z w = rw compare.suc-zero (zeros-last (a ∷ x) y w l)
by_bytes (a ∷ x) [] (suc n) (suc m) l p q z w = absurd (omega arith)
by_bytes (a ∷ x) (b ∷ y) (suc n) (suc m) l p q z w =
    rw compare.suc-suc
    (and_assoc (compare a b) (cmp_bytes x y) (compare n m)
    ∙ ap (and_then (compare a b)) (by_bytes x y n m (omega arith) (omega arith) (omega arith) z w))

-- ---- texts

by-words : (x y : Text) → Packed x → Packed y
    → cmp_bytes (words x) (words y) ≡ and_then (compare x.a y.a) (and_then (compare x.b y.b) (and_then (compare x.c y.c) eq))
unfolding words cmp_bytes
by-words x y p q =
    cmp-be 8 x.a y.a (be 8 x.b (be 8 x.c [])) (be 8 y.b (be 8 y.c [])) p.a-fits q.a-fits
    ∙ ap (and_then (compare x.a y.a))
    (cmp-be 8 x.b y.b (be 8 x.c []) (be 8 y.c []) p.b-fits q.b-fits ∙ ap (and_then (compare x.b y.b)) (cmp-be 8 x.c y.c [] [] p.c-fits q.c-fits))

pub text-order : (x y : Text) → Packed x → Packed y
    → cmp_bytes (text_bytes x) (text_bytes y)
    ≡ and_then (compare x.a y.a) (and_then (compare x.b y.b) (and_then (compare x.c y.c) (compare x.len y.len)))
unfolding text_bytes
text-order x y p q =
    let lx = words_long x in
    let ly = words_long y in
    let sx = p.short in
    let sy = q.short in
    sym (by_bytes (words x) (words y) x.len y.len (lx ∙ sym ly) (omega arith) (omega arith) p.tail q.tail)
    ∙ ap (λ (o : Ordering). and_then o (compare x.len y.len)) (by-words x y p q)
    ∙ flat (compare x.a y.a) (compare x.b y.b) (compare x.c y.c) (compare x.len y.len)
  where
    flat : (o p q r : Ordering) → and_then (and_then o (and_then p (and_then q eq))) r ≡ and_then o (and_then p (and_then q r))
    flat lt p q r = refl
    flat gt p q r = refl
    flat eq lt q r = refl
    flat eq gt q r = refl
    flat eq eq lt r = refl
    flat eq eq eq r = refl
    flat eq eq gt r = refl
