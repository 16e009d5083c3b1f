-- Elements by place, and the place of the first that passes: in any list, and in a sorted one. Assumes nothing.
use mathlib.Core.Path.{◌≡◌, refl, sym, ap, ◌∙◌}
use mathlib.Core.Bool.{Bool, true, false, cond, ◌||◌, true≢false}
use mathlib.Core.Option
use mathlib.Core.Option.{Option, none, some, none-ne-some, some-injective}
use Prim.Native.Nat.Ordering.{eq}
use Prim.Native.Nat.Ordering.{gt}
use Prim.Native.Nat.Ordering.{lt}
use Prim.Native.Nat.{ℕ, zero, suc, ◌+◌, ◌≤◌, ◌<◌, Ordering}
use native.Mathlib.Nat.{not-suc-le-zero, le_of_suc-le-suc}
use native.Mathlib.Numerals.{one-add}
use native.Mathlib.Omega.{arith}
use mathlib.Core.List.{List, [], ◌∷◌, ◌++◌, map}
use lib.Dec.{compare_is_eq}
use lib.ListN.{length, take, drop, get_or}
use Rattle.std.specs.Bool.{then_some}
use Rattle.values.specs.Basic.{is_lt, is_nil, nth, any, find}
use Rattle.areas.specs.Sorted.{All, Sorted, count_of, Falls}
use Rattle.values.proofs.Orders.{Ord, congʳ, gt≢lt}
use Rattle.areas.proofs.Halving.{count_map}
use Rattle.areas.proofs.Placing.{rank, holds}
use Rattle.areas.proofs.Runs.{none_before}
use Rattle.areas.proofs.Sorting.{all-below}
use Rattle.rules.proofs.Lists.{any-is}
use Rattle.rules.proofs.Tests.{is_eq}
use Rattle.laid.specs.Catalog.{place_of, found_at}

-- ---- by place

module _ {A : Type 0} where
  pub drop_nth : (xs : List A) (i : ℕ) (x : A) → nth xs i ≡ some x → drop i xs ≡ x ∷ drop (suc i) xs
  drop_nth [] i x h = absurd (none-ne-some x h)
  drop_nth (y ∷ ys) zero x h = rw (some-injective y x h)
  drop_nth (y ∷ ys) (suc i) x h = drop_nth ys i x h

  pub nth_past : (xs : List A) (i : ℕ) → length xs ≤ i → nth xs i ≡ none
  nth_past [] i h = refl
  nth_past (x ∷ xs) zero h = absurd (not-suc-le-zero h)
  nth_past (x ∷ xs) (suc i) h = nth_past xs i (le_of_suc-le-suc h)

  pub nth-get_or : (xs : List A) (i : ℕ) (d : A) → i < length xs → nth xs i ≡ some (get_or xs i d)
  nth-get_or [] i d h = absurd (not-suc-le-zero h)
  nth-get_or (x ∷ xs) zero d h = refl
  nth-get_or (x ∷ xs) (suc i) d h = nth-get_or xs i d (le_of_suc-le-suc h)

  pub all-nth : (P : A → Type 0) (xs : List A) (i : ℕ) (d : A) → All P xs → i < length xs → P (get_or xs i d)
  all-nth P [] i d h l = absurd (not-suc-le-zero l)
  all-nth P (x ∷ xs) zero d h l = h.0
  all-nth P (x ∷ xs) (suc i) d h l = all-nth P xs i d h.1 (le_of_suc-le-suc l)

pub nth-map : {A B : Type 0} (f : A → B) (xs : List A) (i : ℕ) → nth (map f xs) i ≡ Option.map f (nth xs i)
nth-map f [] i = refl
nth-map f (x ∷ xs) zero = refl
nth-map f (x ∷ xs) (suc i) = nth-map f xs i

pub any_append : {A : Type 0} (q : A → Bool) (xs : List A) (y : A) → any q (xs ++ (y ∷ [])) ≡ q y || any q xs
any_append q [] y = refl
any_append q (x ∷ xs) y = ap (λ (b : Bool). q x || b) (any_append q xs y) ∙ turn (q x) (q y) (any q xs)
  where
    turn : (a b c : Bool) → (a || (b || c)) ≡ (b || (a || c))
    turn true true c = refl
    turn true false c = refl
    turn false true c = refl
    turn false false c = refl

pub nth-take : {A : Type 0} (xs : List A) (i j : ℕ) → j < i → nth (take i xs) j ≡ nth xs j
nth-take xs zero j h = absurd (not-suc-le-zero h)
nth-take [] (suc i) j h = refl
nth-take (x ∷ xs) (suc i) zero h = refl
nth-take (x ∷ xs) (suc i) (suc j) h = nth-take xs i j (le_of_suc-le-suc h)

pub take_nth : {A : Type 0} (xs : List A) (i : ℕ) (x : A) → nth xs i ≡ some x → take (suc i) xs ≡ take i xs ++ (x ∷ [])
take_nth [] i x h = absurd (none-ne-some x h)
take_nth (y ∷ ys) zero x h = rw (some-injective y x h)
take_nth (y ∷ ys) (suc i) x h = ap (λ (l : List _). y ∷ l) (take_nth ys i x h)

pub nil-of : {A : Type 0} (xs : List A) → length xs ≡ 0 → is_nil xs ≡ true
nil-of [] h = refl
nil-of (x ∷ xs) h = absurd (omega arith)

pub not-nil : {A : Type 0} (xs : List A) → (length xs ≡ 0 → ⊥) → is_nil xs ≡ false
not-nil [] h = absurd (h refl)
not-nil (x ∷ xs) h = refl

-- what passes comes first where it does of what a function makes of the elements
pub falls-unmap : {A B : Type 0} (f : A → B) (p : B → Bool) (xs : List A) → Falls p (map f xs) → Falls (λ x. p (f x)) xs
unfolding Falls
falls-unmap f p [] h = tt
falls-unmap f p (x ∷ xs) h = (λ e. sym (count_map f p xs) ∙ h.0 e, falls-unmap f p xs h.1)

-- ---- the first that passes

module _ {A : Type 0} (q : A → Bool) where
  -- the element at its place is the one found
  pub place_found : (xs : List A) (i : ℕ) → place_of q xs ≡ some i → (i < length xs) × (nth xs i ≡ find q xs)
  unfolding place_of
  place_found [] i h = absurd (none-ne-some i h)
  place_found (x ∷ xs) i h = by-test (q x) (place_of q xs) h (place_found xs)
    where
      by-test : (b : Bool) (o : Option ℕ) → cond b (some zero) (Option.map suc o) ≡ some i
          → ((j : ℕ) → o ≡ some j → (j < length xs) × (nth xs j ≡ find q xs))
          → (i < suc (length xs)) × (nth (x ∷ xs) i ≡ cond b (some x) (find q xs))
      by-test true o h r = let e : i ≡ zero = sym (some-injective zero i h) in rw e (omega arith, refl)
      by-test false none h r = absurd (none-ne-some i h)
      by-test false (some j) h r = let e : i ≡ suc j = sym (some-injective (suc j) i h) in rw e (omega (arith, (r j refl).0), (r j refl).1)

  pub place-missing : (xs : List A) → place_of q xs ≡ none → find q xs ≡ none
  unfolding place_of
  place-missing [] h = refl
  place-missing (x ∷ xs) h = by-test (q x) (place_of q xs) h (place-missing xs)
    where
      by-test : (b : Bool) (o : Option ℕ) → cond b (some zero) (Option.map suc o) ≡ none → (o ≡ none → find q xs ≡ none) → cond b (some x) (find q xs) ≡ none
      by-test true o h r = absurd (none-ne-some zero (sym h))
      by-test false none h r = r refl
      by-test false (some j) h r = absurd (none-ne-some (suc j) (sym h))

  pub no_place : (xs : List A) → any q xs ≡ false → place_of q xs ≡ none
  unfolding place_of
  no_place [] h = refl
  no_place (x ∷ xs) h = by-test (q x) h (no_place xs)
    where
      by-test : (b : Bool) → (b || any q xs) ≡ false → (any q xs ≡ false → place_of q xs ≡ none) → cond b (some zero) (Option.map suc (place_of q xs)) ≡ none
      by-test true h r = absurd (true≢false h)
      by-test false h r = ap (Option.map suc) (r h)

-- in a sorted list, the number of those before it
module _ {A : Type 0} {cmp : A → A → Ordering} (O : Ord cmp) (a : A) where
  pub place-rank : (xs : List A) → Sorted cmp xs → holds cmp a xs ≡ true → place_of (λ x. compare_is_eq (cmp x a)) xs ≡ some (rank cmp a xs)
  unfolding place_of count_of
  place-rank [] s h = absurd (true≢false (sym h))
  place-rank (x ∷ xs) s h = by-test (cmp x a) refl h (place-rank xs s.1)
    where
      by-test : (o : Ordering) → cmp x a ≡ o → (compare_is_eq o || holds cmp a xs) ≡ true
          → (holds cmp a xs ≡ true → place_of (λ x. compare_is_eq (cmp x a)) xs ≡ some (rank cmp a xs))
          → cond (compare_is_eq o) (some zero) (Option.map suc (place_of (λ x. compare_is_eq (cmp x a)) xs)) ≡ some (cond (is_lt o) 1 0 + rank cmp a xs)
      by-test lt e h r = rw (one-add, r h)
      by-test eq e h r = rw (none_before {cmp = cmp} O (λ y. y) (λ y z l e. gt≢lt (sym e ∙ l)) a x xs s (ap is_lt e))
      by-test gt e h r =
          let m = any-is (λ y. compare_is_eq (cmp y a)) xs h in
          absurd (gt≢lt (sym e ∙ congʳ O x m.0 a (is_eq (cmp m.0 a) m.2) ∙ all-below O x m.0 xs s.0 s.1 m.1))

-- what is found where a test says so
pub told_place : {A : Type 0} (q : A → Bool) (xs : List A) (i : ℕ) (b : Bool) → (b ≡ true → some i ≡ place_of q xs) → (b ≡ false → none ≡ place_of q xs) → found_at (then_some b i) ≡ place_of q xs
told_place q xs i true h g = h refl
told_place q xs i false h g = g refl
