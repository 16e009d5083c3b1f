-- The laws of three-way comparisons: those of numbers, integers, bytes and values are orders, exact up to normalised values. Assumes nothing.
use Prim.Native.Nat.Ordering.{eq}
use Prim.Native.Nat.Ordering.{gt}
use Prim.Native.Nat.Ordering.{lt}
use Prim.Native.Nat.compare
use Prim.Native.Nat.{ℕ, zero, suc, ◌+◌, ◌-◌, ◌^◌, ◌<◌, compare, Ordering}
use native.Mathlib.Nat.{not-suc-le-zero}
use native.Mathlib.Omega.{arith}
use mathlib.Core.Path.{◌≡◌, refl, sym, ◌∙◌, ap, subst}
use mathlib.Core.Bool.{Bool, true, false, cond}
use mathlib.Core.List.{List, [], ◌∷◌}
use lib.Dec.{T, compare_is_eq, eqb, ltb, eqb→eq, nltb→le}
use lib.IntN.{ℤ, pos, negsuc}
use lib.Signed.{lt_z}
use borrow.Author.Tests.{lt-ltb, le-ltb}
use Rattle.std.specs.Ordering as Std
use Rattle.std.specs.Ordering.{ordering_then, nat_cmp, int_cmp, bool_cmp}
use Rattle.std.specs.declared.cmp.Ordering.{Ordering as Compared}
use Rattle.std.specs.declared.cmp.Ordering.TheVariants.{Less, Equal, Greater}
use Rattle.values.specs.Basic.{and_then, is_lt, cmpℤ, cmp_bytes}
use Rattle.values.specs.Value.{Value, null, boolean, integer, float, text, normal_bits, normalised, kind_of, signed_bits, number_of, bytes_of, cmp_value, same, before}
use Rattle.values.specs.Meaning.{ordering}
use Rattle.values.proofs.Floats.{normal-twice}

abbrev pub opp : Ordering → Ordering
opp lt = gt
opp eq = eq
opp gt = lt

pub eq≢lt : eq ≡ lt → ⊥
eq≢lt h = subst (λ (o : Ordering). T (compare_is_eq o)) h tt

pub gt≢lt : gt ≡ lt → ⊥
gt≢lt h = subst (λ (o : Ordering). T (is_lt o)) (sym h) tt

pub gt≢eq : gt ≡ eq → ⊥
gt≢eq h = subst (λ (o : Ordering). T (compare_is_eq o)) (sym h) tt

pub record Ord {A : Type 0} (cmp : A → A → Ordering) : Type 0 where
  pub flip : (a b : A) → cmp b a ≡ opp (cmp a b)
  pub cong : (a b c : A) → cmp a b ≡ eq → cmp a c ≡ cmp b c
  pub trans : (a b c : A) → cmp a b ≡ lt → cmp b c ≡ lt → cmp a c ≡ lt

module _ {A : Type 0} {cmp : A → A → Ordering} (O : Ord cmp) where
  -- the right side too may be put for an equal one
  pub congʳ : (a b c : A) → cmp b c ≡ eq → cmp a c ≡ cmp a b
  congʳ a b c h = O.flip c a ∙ ap opp (sym (O.cong b c a h)) ∙ sym (O.flip b a)

  pub self : (a : A) → cmp a a ≡ eq
  self a = go (cmp a a) (O.flip a a)
    where
      go : (o : Ordering) → o ≡ opp o → o ≡ eq
      go lt h = cc
      go eq h = refl
      go gt h = cc

  -- what two tests of before tell
  pub lt_at : (a b : A) → is_lt (cmp a b) ≡ true → cmp a b ≡ lt
  lt_at a b h = less (cmp a b) h
    where
      less : (o : Ordering) → is_lt o ≡ true → o ≡ lt
      less lt h = refl
      less eq h = cc
      less gt h = cc

  pub gt-at : (a b : A) → is_lt (cmp b a) ≡ true → cmp a b ≡ gt
  gt-at a b h = O.flip b a ∙ ap opp (lt_at b a h)

  pub eq-at : (a b : A) → is_lt (cmp a b) ≡ false → is_lt (cmp b a) ≡ false → cmp a b ≡ eq
  eq-at a b h k = neither (cmp a b) h (rw (O.flip a b) at k)
    where
      neither : (o : Ordering) → is_lt o ≡ false → is_lt (opp o) ≡ false → o ≡ eq
      neither lt h k = cc
      neither eq h k = refl
      neither gt h k = cc

-- by a part of each side
pub pull : {A B : Type 0} {cmp : B → B → Ordering} (f : A → B) → Ord cmp → Ord (λ (a b : A). cmp (f a) (f b))
pull f O =
    record {
      flip = λ a b. O.flip (f a) (f b);
      cong = λ a b c. O.cong (f a) (f b) (f c);
      trans = λ a b c. O.trans (f a) (f b) (f c);
    }

-- ---- one comparison and then another

pub opp-and_then : (o p : Ordering) → and_then (opp o) (opp p) ≡ opp (and_then o p)
opp-and_then lt p = refl
opp-and_then eq p = refl
opp-and_then gt p = refl

pub and-eq : (o : Ordering) → and_then o eq ≡ o
and-eq lt = refl
and-eq eq = refl
and-eq gt = refl

pub and_assoc : (o p q : Ordering) → and_then (and_then o p) q ≡ and_then o (and_then p q)
and_assoc lt p q = refl
and_assoc eq p q = refl
and_assoc gt p q = refl

pub fst-eq : (o p : Ordering) → and_then o p ≡ eq → o ≡ eq
fst-eq lt p h = h
fst-eq eq p h = refl
fst-eq gt p h = h

pub snd-eq : (o p : Ordering) → and_then o p ≡ eq → p ≡ eq
snd-eq lt p h = cc
snd-eq eq p h = h
snd-eq gt p h = cc

lex-trans : (o o' o'' p p' p'' : Ordering) → (o ≡ lt → o' ≡ lt → o'' ≡ lt) → (o ≡ eq → o'' ≡ o') → (o' ≡ eq → o'' ≡ o)
    → (p ≡ lt → p' ≡ lt → p'' ≡ lt) → and_then o p ≡ lt → and_then o' p' ≡ lt → and_then o'' p'' ≡ lt
lex-trans lt lt o'' p p' p'' t l r u h k = rw (t refl refl)
lex-trans lt eq o'' p p' p'' t l r u h k = rw (r refl)
lex-trans lt gt o'' p p' p'' t l r u h k = absurd (gt≢lt k)
lex-trans eq lt o'' p p' p'' t l r u h k = rw (l refl)
lex-trans eq eq o'' p p' p'' t l r u h k = rw (l refl) (u h k)
lex-trans eq gt o'' p p' p'' t l r u h k = absurd (gt≢lt k)
lex-trans gt o' o'' p p' p'' t l r u h k = absurd (gt≢lt h)

pub lex : {A : Type 0} {c d : A → A → Ordering} → Ord c → Ord d → Ord (λ (a b : A). and_then (c a b) (d a b))
lex {A} {c} {d} C D =
    record {
      flip = λ x y. rw (C.flip x y, D.flip x y) (opp-and_then (c x y) (d x y));
      cong = λ x y z h. rw (C.cong x y z (fst-eq (c x y) (d x y) h), D.cong x y z (snd-eq (c x y) (d x y) h));
      trans = λ x y z.
          lex-trans (c x y) (c y z) (c x z) (d x y) (d y z) (d x z) (C.trans x y z) (C.cong x y z) (congʳ C x y z) (D.trans x y z);
    }

-- ---- numbers

pub exactℕ : (a b : ℕ) → compare a b ≡ eq → a ≡ b
exactℕ a b h = eqb→eq a b (subst (λ (o : Ordering). T (compare_is_eq o)) (sym h) tt)

flipℕ : (a b : ℕ) → compare b a ≡ opp (compare a b)
flipℕ zero zero = refl
flipℕ zero (suc b) = rw (compare.suc-zero, compare.zero-suc)
flipℕ (suc a) zero = rw (compare.suc-zero, compare.zero-suc)
flipℕ (suc a) (suc b) = simp compare.suc-suc (flipℕ a b)

pub lt_of : (a b : ℕ) → compare a b ≡ lt → a < b
lt_of zero zero h = absurd (eq≢lt h)
lt_of zero (suc b) h = omega arith
lt_of (suc a) zero h = absurd (gt≢lt (rw compare.suc-zero at h))
lt_of (suc a) (suc b) h = omega (arith, lt_of a b (rw compare.suc-suc at h))

pub of_lt : (a b : ℕ) → a < b → compare a b ≡ lt
of_lt a zero h = absurd (not-suc-le-zero h)
of_lt zero (suc b) h = compare.zero-suc b
of_lt (suc a) (suc b) h = rw compare.suc-suc (of_lt a b (omega arith))

pub ordℕ : Ord compare
ordℕ =
    record {
      flip = flipℕ;
      cong = λ a b c h. ap (λ (n : ℕ). compare n c) (exactℕ a b h);
      trans = λ a b c h k. of_lt a c (omega (arith, lt_of a b h, lt_of b c k));
    }

pub of_eq : (a b : ℕ) → a ≡ b → compare a b ≡ eq
of_eq a b h = ap (λ (n : ℕ). compare n b) h ∙ self ordℕ b

pub of-gt : (a b : ℕ) → b < a → compare a b ≡ gt
of-gt a b h = flipℕ b a ∙ ap opp (of_lt b a h)

-- of two numbers one is less or they are level
pub data Tri (a b : ℕ) : Type 0 where
  less : a < b → Tri a b
  level : a ≡ b → Tri a b
  more : b < a → Tri a b

pub tri : (a b : ℕ) → Tri a b
tri a b = go (compare a b) refl
  where
    go : (o : Ordering) → compare a b ≡ o → Tri a b
    go lt e = less (lt_of a b e)
    go eq e = level (exactℕ a b e)
    go gt e = more (lt_of b a (flipℕ a b ∙ ap opp e))

-- a comparison of numbers and then another
module _ (a b : ℕ) (o : Ordering) where
  pub passes : a ≡ b → and_then (compare a b) o ≡ o
  passes h = rw (of_eq a b h)

  pub decides : (a ≡ b → ⊥) → and_then (compare a b) o ≡ compare a b
  decides n = go (tri a b)
    where
      go : Tri a b → and_then (compare a b) o ≡ compare a b
      go (less h) = rw (of_lt a b h)
      go (level h) = absurd (n h)
      go (more h) = rw (of-gt a b h)

pub is-ltb : (a b : ℕ) → is_lt (compare a b) ≡ ltb a b
is-ltb a b = go (tri a b)
  where
    go : Tri a b → is_lt (compare a b) ≡ ltb a b
    go (less h) = rw (of_lt a b h, lt-ltb a b h)
    go (level h) = rw (of_eq a b h, le-ltb a b (omega arith))
    go (more h) = rw (of-gt a b h, le-ltb a b (omega arith))

pub exactℤ : (a b : ℤ) → cmpℤ a b ≡ eq → a ≡ b
exactℤ (pos a) (pos b) h = ap pos (exactℕ a b h)
exactℤ (pos a) (negsuc b) h = let z : lt ≡ gt = cc in absurd (gt≢lt (sym z))
exactℤ (negsuc a) (pos b) h = absurd (eq≢lt (sym h))
exactℤ (negsuc a) (negsuc b) h = ap negsuc (sym (exactℕ b a h))

pub ordℤ : Ord cmpℤ
ordℤ = record { flip = flipℤ; cong = λ a b c h. ap (λ (n : ℤ). cmpℤ n c) (exactℤ a b h); trans = transℤ }
  where
    flipℤ : (a b : ℤ) → cmpℤ b a ≡ opp (cmpℤ a b)
    flipℤ (pos a) (pos b) = flipℕ a b
    flipℤ (pos a) (negsuc b) = refl
    flipℤ (negsuc a) (pos b) = refl
    flipℤ (negsuc a) (negsuc b) = flipℕ b a

    transℤ : (a b c : ℤ) → cmpℤ a b ≡ lt → cmpℤ b c ≡ lt → cmpℤ a c ≡ lt
    transℤ (pos a) (pos b) (pos c) h k = ordℕ.trans a b c h k
    transℤ (pos a) (pos b) (negsuc c) h k = k
    transℤ (pos a) (negsuc b) c h k = absurd (gt≢lt h)
    transℤ (negsuc a) b (pos c) h k = refl
    transℤ (negsuc a) (pos b) (negsuc c) h k = absurd (gt≢lt k)
    transℤ (negsuc a) (negsuc b) (negsuc c) h k = ordℕ.trans c b a k h

pub is-lt_z : (a b : ℤ) → is_lt (cmpℤ a b) ≡ lt_z a b
is-lt_z (pos a) (pos b) = is-ltb a b
is-lt_z (pos a) (negsuc b) = refl
is-lt_z (negsuc a) (pos b) = refl
is-lt_z (negsuc a) (negsuc b) = is-ltb b a

-- ---- bytes

pub exact_bytes : (a b : List ℕ) → cmp_bytes a b ≡ eq → a ≡ b
unfolding cmp_bytes
exact_bytes [] [] h = refl
exact_bytes [] (y ∷ ys) h = absurd (eq≢lt (sym h))
exact_bytes (x ∷ xs) [] h = cc
exact_bytes (x ∷ xs) (y ∷ ys) h =
    cc (exactℕ x y (fst-eq (compare x y) (cmp_bytes xs ys) h), exact_bytes xs ys (snd-eq (compare x y) (cmp_bytes xs ys) h))

flip_bytes : (a b : List ℕ) → cmp_bytes b a ≡ opp (cmp_bytes a b)
unfolding cmp_bytes
flip_bytes [] [] = refl
flip_bytes [] (y ∷ ys) = refl
flip_bytes (x ∷ xs) [] = refl
flip_bytes (x ∷ xs) (y ∷ ys) = rw (flipℕ x y, flip_bytes xs ys) (opp-and_then (compare x y) (cmp_bytes xs ys))

trans_bytes : (a b c : List ℕ) → cmp_bytes a b ≡ lt → cmp_bytes b c ≡ lt → cmp_bytes a c ≡ lt
unfolding cmp_bytes
trans_bytes [] [] c h k = absurd (eq≢lt h)
trans_bytes (x ∷ xs) [] c h k = absurd (gt≢lt h)
trans_bytes a (y ∷ ys) [] h k = absurd (gt≢lt k)
trans_bytes [] (y ∷ ys) (z ∷ zs) h k = refl
trans_bytes (x ∷ xs) (y ∷ ys) (z ∷ zs) h k =
    lex-trans (compare x y) (compare y z) (compare x z) (cmp_bytes xs ys) (cmp_bytes ys zs) (cmp_bytes xs zs) (ordℕ.trans x y z)
    (ordℕ.cong x y z) (congʳ ordℕ x y z) (trans_bytes xs ys zs) h k

pub ord_bytes : Ord cmp_bytes
ord_bytes = record { flip = flip_bytes; cong = λ a b c h. ap (λ (n : List ℕ). cmp_bytes n c) (exact_bytes a b h); trans = trans_bytes }

-- ---- values

-- a value is compared by the same parts when it is normalised
kept : (v : Value) → (kind_of (normalised v) ≡ kind_of v) × (number_of (normalised v) ≡ number_of v) × (bytes_of (normalised v) ≡ bytes_of v)
kept null = (refl, refl, refl)
kept (boolean b) = (refl, refl, refl)
kept (integer i) = (refl, refl, refl)
kept (float f) = (refl, ap signed_bits (normal-twice f), refl)
kept (text t) = (refl, refl, refl)

pub cmp-normalised : (v w : Value) → cmp_value (normalised v) w ≡ cmp_value v w
unfolding cmp_value
cmp-normalised v w = rw ((kept v).0, (kept v).1, (kept v).2)

pub cmp-normalised-right : (v w : Value) → cmp_value v (normalised w) ≡ cmp_value v w
unfolding cmp_value
cmp-normalised-right v w = rw ((kept w).0, (kept w).1, (kept w).2)

-- a normalised value, from what it is compared by
back : ℕ → ℤ → List ℕ → Value
back zero z t = null
back (suc zero) z t = boolean (is_pos z)
  where
    is_pos : ℤ → Bool
    is_pos (pos n) = eqb n 1
    is_pos (negsuc n) = false
back (suc (suc zero)) z t = integer z
back (suc (suc (suc zero))) (pos n) t = float n
back (suc (suc (suc zero))) (negsuc n) t = float (n + 2 ^ 63)
back (suc (suc (suc (suc k)))) z t = text t

back_float : (b : ℕ) → back 3 (signed_bits b) [] ≡ float b
unfolding back
back_float b = go (ltb b (2 ^ 63)) refl
  where
    go : (t : Bool) → ltb b (2 ^ 63) ≡ t → back 3 (cond t (pos b) (negsuc (b - 2 ^ 63))) [] ≡ float b
    go true e = refl
    go false e = ap float (omega (arith, nltb→le b (2 ^ 63) (rw e tt)))

back_is : (v : Value) → back (kind_of v) (number_of v) (bytes_of v) ≡ normalised v
unfolding back
back_is null = refl
back_is (boolean true) = refl
back_is (boolean false) = refl
back_is (integer i) = refl
back_is (float f) = back_float (normal_bits f)
back_is (text t) = refl

pub ord_value : Ord cmp_value
unfolding cmp_value
ord_value = lex (pull kind_of ordℕ) (lex (pull number_of ordℤ) (pull bytes_of ord_bytes))

pub exact_value : (v w : Value) → cmp_value v w ≡ eq → normalised v ≡ normalised w
unfolding cmp_value
exact_value v w h =
    let c : Ordering = cmpℤ (number_of v) (number_of w) in
    let d : Ordering = cmp_bytes (bytes_of v) (bytes_of w) in
    let h' : and_then c d ≡ eq = snd-eq (compare (kind_of v) (kind_of w)) (and_then c d) h in
    let k : kind_of v ≡ kind_of w = exactℕ _ _ (fst-eq (compare (kind_of v) (kind_of w)) (and_then c d) h) in
    let n : number_of v ≡ number_of w = exactℤ _ _ (fst-eq c d h') in
    let t : bytes_of v ≡ bytes_of w = exact_bytes _ _ (snd-eq c d h') in
    cc (back_is v, back_is w)

pub same_value : (v w : Value) → normalised v ≡ normalised w → cmp_value v w ≡ eq
same_value v w h =
    sym (cmp-normalised v w) ∙ ap (λ (u : Value). cmp_value u w) h ∙ cmp-normalised w w ∙ self ord_value w

-- so the values that are `same` are those that are equal once normalised
pub same-exact : (v w : Value) → same v w ≡ true → normalised v ≡ normalised w
same-exact v w h = exact_value v w (level-of (cmp_value v w) h)
  where
    level-of : (o : Ordering) → compare_is_eq o ≡ true → o ≡ eq
    level-of lt h = cc
    level-of eq h = refl
    level-of gt h = cc

pub exact_same : (v w : Value) → normalised v ≡ normalised w → same v w ≡ true
exact_same v w h = rw (same_value v w h)

-- ---- in words: of two values one is before the other or they are equal, and never both; before is transitive

pub data Of-two (v w : Value) : Type 0 where
  this-first : before v w ≡ true → Of-two v w
  equal : same v w ≡ true → normalised v ≡ normalised w → Of-two v w
  that-first : before w v ≡ true → Of-two v w

pub of_two : (v w : Value) → Of-two v w
of_two v w = go (cmp_value v w) refl
  where
    go : (o : Ordering) → cmp_value v w ≡ o → Of-two v w
    go lt e = this-first (rw e)
    go eq e = equal (rw e) (exact_value v w e)
    go gt e = that-first (rw (ord_value.flip v w, e))

pub before-trans : (u v w : Value) → before u v ≡ true → before v w ≡ true → before u w ≡ true
before-trans u v w h k = rw (ord_value.trans u v w (lt_at ord_value _ _ h) (lt_at ord_value _ _ k))

pub never_both : (v w : Value) → before v w ≡ true → before w v ≡ true → ⊥
never_both v w h k =
    let l : cmp_value v w ≡ lt = lt_at ord_value _ _ h in
    gt≢lt (ap opp (sym l) ∙ sym (ord_value.flip v w) ∙ lt_at ord_value _ _ k)

pub never-before-itself : (v : Value) → before v v ≡ true → ⊥
never-before-itself v h = never_both v v h h

-- ---- std's comparisons and tests of an ordering

pub is_eq-ordering : (o : Compared) → Std.is_eq o ≡ compare_is_eq (ordering o)
is_eq-ordering Less = refl
is_eq-ordering Equal = refl
is_eq-ordering Greater = refl

pub is_lt-ordering : (o : Compared) → Std.is_lt o ≡ is_lt (ordering o)
is_lt-ordering Less = refl
is_lt-ordering Equal = refl
is_lt-ordering Greater = refl

pub then-ordering : (o p : Compared) → ordering (ordering_then o p) ≡ and_then (ordering o) (ordering p)
then-ordering Less p = refl
then-ordering Equal p = refl
then-ordering Greater p = refl

pub cmpℕ-ordering : (a b : ℕ) → ordering (nat_cmp a b) ≡ compare a b
cmpℕ-ordering a b = go (tri a b)
  where
    go : Tri a b → ordering (nat_cmp a b) ≡ compare a b
    go (less h) = rw (of_lt a b h, lt-ltb a b h)
    go (level h) = rw (of_eq a b h, le-ltb a b (omega arith))
    go (more h) = rw (of-gt a b h, le-ltb a b (omega arith))

signed : (a b : ℕ) → ordering (cond (ltb a b) Less (cond (ltb b a) Greater Equal)) ≡ compare a b
signed a b = go (tri a b)
  where
    go : Tri a b → ordering (cond (ltb a b) Less (cond (ltb b a) Greater Equal)) ≡ compare a b
    go (less h) = rw (of_lt a b h, lt-ltb a b h)
    go (level h) = rw (of_eq a b h, le-ltb a b (omega arith), le-ltb b a (omega arith))
    go (more h) = rw (of-gt a b h, le-ltb a b (omega arith), lt-ltb b a h)

pub cmpℤ-ordering : (a b : ℤ) → ordering (int_cmp a b) ≡ cmpℤ a b
cmpℤ-ordering (pos a) (pos b) = signed a b
cmpℤ-ordering (pos a) (negsuc b) = refl
cmpℤ-ordering (negsuc a) (pos b) = refl
cmpℤ-ordering (negsuc a) (negsuc b) = signed b a

pub cmp-bool-ordering : (a b : Bool) → ordering (bool_cmp a b) ≡ compare (cond a 1 0) (cond b 1 0)
cmp-bool-ordering false false = refl
cmp-bool-ordering false true = refl
cmp-bool-ordering true false = refl
cmp-bool-ordering true true = refl
