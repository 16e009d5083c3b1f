-- Elements of a sorted list with one key stand together: `keep` takes that run out or keeps just it. Assumes nothing.
use mathlib.Core.Path.{◌≡◌, refl, sym, ap, ◌∙◌}
use mathlib.Core.Bool.{false, not, cond, true≢false}
use Prim.Native.Nat.Ordering.{eq}
use Prim.Native.Nat.Ordering.{gt}
use Prim.Native.Nat.Ordering.{lt}
use Prim.Native.Nat.{ℕ, suc, ◌+◌, ◌≤◌, zero-le, Ordering}
use native.Mathlib.Nat.{zero-add}
use native.Mathlib.Numerals.{one-add}
use native.Mathlib.Omega.{arith}
use mathlib.Core.List.{List, [], ◌∷◌}
use lib.Dec.{compare_is_eq}
use lib.ListN.{length, take, drop}
use Rattle.values.specs.Basic.{and_then, is_lt, keep_if, keep}
use Rattle.areas.specs.Sorted.{Sorted, count_of, Falls, remove_run}
use Rattle.values.proofs.Orders.{Ord, opp, congʳ, gt≢lt}
use Rattle.areas.proofs.Changes.{remove-none, remove-front, remove-behind}
use Rattle.areas.proofs.Sorting.{keep-sorted}

-- an order that looks at the key first
pub key-leads : (o p : Ordering) → and_then o p ≡ lt → o ≡ gt → ⊥
key-leads o p h e = gt≢lt (sym (ap (λ (r : Ordering). and_then r p) e) ∙ h)

module _ {A K : Type 0} (cmpKey : K → K → Ordering) (f : A → K) (k : K) where
  -- how many have a key before k, and how many have k
  abbrev pub run_at : List A → ℕ
  run_at xs = count_of (λ x. is_lt (cmpKey (f x) k)) xs

  abbrev pub run_length : List A → ℕ
  run_length xs = count_of (λ x. compare_is_eq (cmpKey (f x) k)) xs

  pub run-within : (xs : List A) → run_at xs + run_length xs ≤ length xs
  unfolding count_of
  run-within [] = zero-le
  run-within (x ∷ xs) = by-test (cmpKey (f x) k) (run-within xs)
    where
      by-test : (o : Ordering) → run_at xs + run_length xs ≤ length xs → cond (is_lt o) 1 0 + run_at xs + (cond (compare_is_eq o) 1 0 + run_length xs) ≤ suc (length xs)
      by-test lt h = omega arith
      by-test eq h = omega arith
      by-test gt h = omega arith

module _ {A K : Type 0} {cmp : A → A → Ordering} {cmpKey : K → K → Ordering} (O : Ord cmpKey) (f : A → K)
    (leads : (x y : A) → cmp x y ≡ lt → cmpKey (f x) (f y) ≡ gt → ⊥) (k : K) where
  -- the next element's key: not before k where this one's is not, behind k where this one's is
  next-behind : (x y : A) → cmp x y ≡ lt → cmpKey (f x) k ≡ gt → cmpKey (f y) k ≡ gt
  next-behind x y l h = by-test (cmpKey (f x) (f y)) refl
    where
      by-test : (o : Ordering) → cmpKey (f x) (f y) ≡ o → cmpKey (f y) k ≡ gt
      by-test lt e = O.flip k (f y) ∙ ap opp (O.trans k (f x) (f y) (O.flip (f x) k ∙ ap opp h) e)
      by-test eq e = sym (O.cong (f x) (f y) k e) ∙ h
      by-test gt e = absurd (leads x y l e)

  next_past : (x y : A) → cmp x y ≡ lt → is_lt (cmpKey (f x) k) ≡ false → is_lt (cmpKey (f y) k) ≡ false
  next_past x y l h = by-test (cmpKey (f x) k) refl
    where
      by-test : (o : Ordering) → cmpKey (f x) k ≡ o → is_lt (cmpKey (f y) k) ≡ false
      by-test lt e = absurd (true≢false (sym (ap is_lt e) ∙ h))
      by-test eq e = at-k (cmpKey (f y) k) refl
        where
          at-k : (o : Ordering) → cmpKey (f y) k ≡ o → is_lt (cmpKey (f y) k) ≡ false
          at-k lt g = absurd (leads x y l (O.flip (f y) (f x) ∙ ap opp (congʳ O (f y) k (f x) (O.flip (f x) k ∙ ap opp e) ∙ g)))
          at-k eq g = ap is_lt g
          at-k gt g = ap is_lt g
      by-test gt e = ap is_lt (next-behind x y l e)

  -- so none that follows is before k, and none behind k is k's
  pub none_before : (x : A) (xs : List A) → Sorted cmp (x ∷ xs) → is_lt (cmpKey (f x) k) ≡ false → run_at cmpKey f k xs ≡ 0
  unfolding count_of
  none_before x [] s h = refl
  none_before x (y ∷ ys) s h = let g = next_past x y s.0 h in rw (g, none_before y ys s.1 g)

  none_equal : (x : A) (xs : List A) → Sorted cmp (x ∷ xs) → cmpKey (f x) k ≡ gt → run_length cmpKey f k xs ≡ 0
  unfolding count_of
  none_equal x [] s h = refl
  none_equal x (y ∷ ys) s h = let g = next-behind x y s.0 h in rw (g, none_equal y ys s.1 g)

  pub falls-keyed : (xs : List A) → Sorted cmp xs → Falls (λ x. is_lt (cmpKey (f x) k)) xs
  unfolding Falls
  falls-keyed [] s = tt
  falls-keyed (x ∷ xs) s = (none_before x xs s, falls-keyed xs s.1)

  -- those with another key
  pub keep-outside : (xs : List A) → Sorted cmp xs → keep (λ x. not (compare_is_eq (cmpKey (f x) k))) xs ≡ remove_run (run_at cmpKey f k xs) (run_length cmpKey f k xs) xs
  unfolding count_of
  keep-outside [] s = sym (remove-none 0 0)
  keep-outside (x ∷ xs) s = by-test (cmpKey (f x) k) refl (keep-outside xs s.1)
    where
      rest : List A
      rest = keep (λ x. not (compare_is_eq (cmpKey (f x) k))) xs

      by-test : (o : Ordering) → cmpKey (f x) k ≡ o → rest ≡ remove_run (run_at cmpKey f k xs) (run_length cmpKey f k xs) xs
          → keep_if (not (compare_is_eq o)) x rest ≡ remove_run (cond (is_lt o) 1 0 + run_at cmpKey f k xs) (cond (compare_is_eq o) 1 0 + run_length cmpKey f k xs) (x ∷ xs)
      by-test lt e r = rw (one-add, zero-add, remove-behind (run_at cmpKey f k xs) (run_length cmpKey f k xs) x xs) (ap (λ (l : List A). x ∷ l) r)
      by-test eq e r =
          let z = none_before x xs s (ap is_lt e) in
          rw (z, one-add, remove-front (suc (run_length cmpKey f k xs)) (x ∷ xs)) (r ∙ rw (z, remove-front (run_length cmpKey f k xs) xs))
      by-test gt e r =
          let z = none_before x xs s (ap is_lt e) in
          let n = none_equal x xs s e in
          rw (z, n, remove-front 0 (x ∷ xs)) (ap (λ (l : List A). x ∷ l) (r ∙ rw (z, n, remove-front 0 xs)))

  -- those with that key
  pub keep_run : (xs : List A) → Sorted cmp xs → keep (λ x. compare_is_eq (cmpKey (f x) k)) xs ≡ take (run_length cmpKey f k xs) (drop (run_at cmpKey f k xs) xs)
  unfolding count_of
  keep_run [] s = refl
  keep_run (x ∷ xs) s = by-test (cmpKey (f x) k) refl (keep_run xs s.1)
    where
      rest : List A
      rest = keep (λ x. compare_is_eq (cmpKey (f x) k)) xs

      by-test : (o : Ordering) → cmpKey (f x) k ≡ o → rest ≡ take (run_length cmpKey f k xs) (drop (run_at cmpKey f k xs) xs)
          → keep_if (compare_is_eq o) x rest ≡ take (cond (compare_is_eq o) 1 0 + run_length cmpKey f k xs) (drop (cond (is_lt o) 1 0 + run_at cmpKey f k xs) (x ∷ xs))
      by-test lt e r = rw (one-add, zero-add) r
      by-test eq e r = let z = none_before x xs s (ap is_lt e) in rw (z, one-add) (ap (λ (l : List A). x ∷ l) (r ∙ rw z))
      by-test gt e r =
          let z = none_before x xs s (ap is_lt e) in
          let n = none_equal x xs s e in
          rw (z, n) (r ∙ rw (z, n))

  pub sorted-remove-run : Ord cmp → (xs : List A) → Sorted cmp xs → Sorted cmp (remove_run (run_at cmpKey f k xs) (run_length cmpKey f k xs) xs)
  sorted-remove-run P xs s = rw (keep-outside xs s) at (keep-sorted P (λ x. not (compare_is_eq (cmpKey (f x) k))) xs s)
