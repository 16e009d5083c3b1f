-- Where readings one after the other end or break, whatever they read. Assumes nothing.
use Rattle.records.specs.Walked.{Walked, walked_as, and_on, in_a_row}
use Rattle.std.specs.declared.result.Result.TheVariants.{Ok, Err}
use Rattle.forms.specs.declared.read.Broken.{Broken}
use Prim.Native.Nat.{ℕ, zero, suc, ◌+◌, ◌≤◌, ◌<◌}
use mathlib.Core.Path.{◌≡◌, refl, ap, sym, ◌∙◌}
use mathlib.Core.Bool.{Bool, true, false, cond}
use mathlib.Core.List.{List, ◌∷◌}
use native.Mathlib.Omega.{arith}
use lib.Dec.{ltb, leb}
use lib.ListN.{length, get_or}
use borrow.Author.Tests.{le-ltb, lt-ltb, ne_eqb}
use Rattle.std.specs.Result.{IsErrAnd}
use Rattle.std.proofs.lemmas.Result.{err_from_is_err_and}
use Rattle.values.specs.Value.{Value}
use Rattle.forms.specs.Read.{Read, got, broken, name_at}
use Rattle.rules.specs.Request.{Request}
use Rattle.rules.specs.declared.profile.Profile.{Profile}
use Rattle.records.specs.Reading.{and_then, times, flagged, byte_at, byte_from}
use Rattle.records.specs.Record.{values_at, keys_at, operands_at}

abbrev pub offset : Walked → ℕ
offset (Ok n) = n
offset (Err x) = x.at

abbrev pub breaks_at : ℕ → Walked
breaks_at x = Err (record { at = x })

abbrev pub ends_at : ℕ → Walked
ends_at n = Ok n

pub ends : {A : Type 0} (a : A) (n : ℕ) → ends_at n ≡ walked_as (got a n)
unfolding walked_as
ends a n = refl

-- ---- one after the other

-- what a `?` passes on
pub thrown : (r o : Walked) (x : Broken) → IsErrAnd r (λ y. y ≡ x) → Err x ≡ o → r ≡ o
thrown r o x h k = let p = err_from_is_err_and r h in p.1 ∙ ap (λ (y : Broken). Err y) p.2 ∙ k

module _ {A B : Type 0} where
  -- the first ends at p, and the second from there answers o
  pub step : (w : Read A) (f : A → ℕ → Read B) (o : Walked) (p : ℕ) → ends_at p ≡ walked_as w → ((a : A) → o ≡ walked_as (f a p))
      → o ≡ walked_as (and_then w f)
  unfolding walked_as and_then
  step (got a n) f o p e k = let h : p ≡ n = cc in k a ∙ ap (λ (j : ℕ). walked_as (f a j)) h
  step (broken x) f o p e k = absurd (let z : ◌≡◌ {A = ℕ} 0 1 = cc in omega arith)

  -- the first breaks
  pub stop : (w : Read A) (f : A → ℕ → Read B) (x : Broken) → Err x ≡ walked_as w → Err x ≡ walked_as (and_then w f)
  unfolding walked_as and_then
  stop (got a n) f x e = absurd (let z : ◌≡◌ {A = ℕ} 0 1 = cc in omega arith)
  stop (broken y) f x e = e

  -- the last one
  pub last : (w : Read A) (g : A → B) (r : Walked) → r ≡ walked_as w → r ≡ walked_as (and_then w (λ a n. got (g a) n))
  unfolding walked_as and_then
  last (got a n) g r e = e
  last (broken x) g r e = e

-- ---- a byte that was read is the one that stands there

unfoldable IsByte : ℕ → Read ℕ → Type 0
IsByte v (got b n) = v ≡ b
IsByte v (broken x) = Unit {0}

module _ (v low high at n : ℕ) where
  one : (a : Bool) → IsByte v (cond a (broken at) (got v n))
  unfolding IsByte
  one true = tt
  one false = refl

  two : (a b : Bool) → IsByte v (cond a (broken at) (cond b (broken at) (got v n)))
  unfolding IsByte
  two true b = tt
  two false b = one b

  three : (a : Bool)
      → IsByte v (and_then (cond a (broken at) (got v n)) (λ b m. cond (ltb b low) (broken at) (cond (ltb high b) (broken at) (got b m))))
  unfolding IsByte and_then
  three true = tt
  three false = two (ltb v low) (ltb high v)

step-known : {B : Type 0} (w : Read ℕ) (f : ℕ → ℕ → Read B) (o : Walked) (p v : ℕ) → IsByte v w → ends_at p ≡ walked_as w → o ≡ walked_as (f v p)
    → o ≡ walked_as (and_then w f)
unfolding walked_as and_then IsByte
step-known (got a n) f o p v b e k = let h : p ≡ n = cc in k ∙ ap (λ (j : ℕ). walked_as (f v j)) h ∙ ap (λ (x : ℕ). walked_as (f x n)) b
step-known (broken x) f o p v b e k = absurd (let z : ◌≡◌ {A = ℕ} 0 1 = cc in omega arith)

-- the byte v, and then o
module _ {B : Type 0} (s : List ℕ) (at : ℕ) (f : ℕ → ℕ → Read B) (o : Walked) (p v : ℕ) (is : v ≡ get_or s at 0) where
  pub step_byte : ends_at p ≡ walked_as (byte_at s at) → o ≡ walked_as (f v p) → o ≡ walked_as (and_then (byte_at s at) f)
  unfolding byte_at
  step_byte e k =
      step-known (byte_at s at) f o p v (rw is (one (get_or s at 0) 0 0 at (at + 1) (leb (length s) at))) e k

  pub step_from : (low high : ℕ) → ends_at p ≡ walked_as (byte_from low high s at) → o ≡ walked_as (f v p)
      → o ≡ walked_as (and_then (byte_from low high s at) f)
  unfolding byte_from byte_at
  step_from low high e k =
      step-known (byte_from low high s at) f o p v (rw is (three (get_or s at 0) low high at (at + 1) (leb (length s) at))) e k

-- ---- n in a row

module _ (f : ℕ → Walked) (n m at : ℕ) (is : n ≡ suc m) where
  pub row-on : (next : ℕ) → ends_at next ≡ f at → in_a_row f m next ≡ in_a_row f n at
  unfolding in_a_row and_on
  row-on next e = rw (is, ← e)

  pub row-stop : (x : Broken) → Err x ≡ f at → Err x ≡ in_a_row f n at
  unfolding in_a_row and_on
  row-stop x e = rw (is, ← e)

pub row_none : (f : ℕ → Walked) (n at : ℕ) → n ≡ 0 → ends_at at ≡ in_a_row f n at
unfolding in_a_row
row_none f n at e = rw e

row-head : {A : Type 0} (w : Read A) (f : ℕ → Read (List A)) (g : ℕ → Walked) → ((x : ℕ) → g x ≡ walked_as (f x))
    → and_on (walked_as w) g ≡ walked_as (and_then w (λ a b. and_then (f b) (λ rest c. got (a ∷ rest) c)))
unfolding walked_as and_on and_then
row-head (got a n) f g h = h n ∙ last (f n) (λ rest. a ∷ rest) _ refl
row-head (broken x) f g h = refl

-- walks in a row are what readings in a row are
pub row-times : {A : Type 0} (f : ℕ → Read A) (n at : ℕ) → in_a_row (λ x. walked_as (f x)) n at ≡ walked_as (times f n at)
unfolding in_a_row times walked_as
row-times f zero at = refl
row-times f (suc n) at = row-head (f at) (times f n) (in_a_row (λ x. walked_as (f x)) n) (row-times f n)

-- ---- only where it is flagged

module _ {A : Type 0} (f : ℕ → Read A) (b : Bool) (at : ℕ) where
  pub flagged-yes : (r : Walked) → b ≡ true → r ≡ walked_as (f at) → r ≡ walked_as (flagged b f at)
  unfolding flagged
  flagged-yes r h e = rw h (last (f at) _ r e)

  pub flagged-no : b ≡ false → ends_at at ≡ walked_as (flagged b f at)
  unfolding flagged
  flagged-no h = rw h (ends _ at)

-- ---- operations

then-alike : {A B C : Type 0} (w : Read A) (f : A → ℕ → Read B) (g : A → ℕ → Read C) → ((a : A) (n : ℕ) → walked_as (f a n) ≡ walked_as (g a n))
    → walked_as (and_then w f) ≡ walked_as (and_then w g)
unfolding walked_as and_then
then-alike (got a n) f g h = h a n
then-alike (broken x) f g h = refl

-- a table and keys end where they end, whatever is made of them
pub keys_alike : (s : List ℕ) (at : ℕ) (f g : List ℕ → List Value → Request) → walked_as (keys_at s f at) ≡ walked_as (keys_at s g at)
unfolding keys_at
keys_alike s at f g =
    then-alike (name_at s at) _ _ (λ name a. sym (last (values_at s a) (f name) _ refl) ∙ last (values_at s a) (g name) _ refl)

pub unknown : (s : List ℕ) (p : Profile) (k at : ℕ) → (k ≡ 1 → ⊥) → (k ≡ 2 → ⊥) → (k ≡ 3 → ⊥) → (k ≡ 4 → ⊥) → (k ≡ 5 → ⊥) → (k ≡ 6 → ⊥) → (k ≡ 7 → ⊥)
    → (k ≡ 8 → ⊥) → (k ≡ 9 → ⊥) → (k ≡ 12 → ⊥) → (k ≡ 13 → ⊥) → (k ≡ 14 → ⊥) → breaks_at 1 ≡ walked_as (operands_at s p k at)
unfolding walked_as operands_at
unknown s p k at a b c d e f g h i j l m =
    simp (ne_eqb _ _ a, ne_eqb _ _ b, ne_eqb _ _ c, ne_eqb _ _ d, ne_eqb _ _ e, ne_eqb _ _ f, ne_eqb _ _ g, ne_eqb _ _ h, ne_eqb _ _ i, ne_eqb _ _ j, ne_eqb _ _ l, ne_eqb _ _ m)

-- ---- nothing may be left over

module _ {A : Type 0} (n : ℕ) (a : A) (end : ℕ) where
  pub left_over : end < n → breaks_at end ≡ walked_as (cond (ltb end n) (broken end) (got a end))
  unfolding walked_as
  left_over h = simp (lt-ltb _ _ h)

  pub none_over : n ≤ end → ends_at end ≡ walked_as (cond (ltb end n) (broken end) (got a end))
  unfolding walked_as
  none_over h = simp (le-ltb _ _ h)
