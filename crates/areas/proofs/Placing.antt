-- The place of an element in a sorted list is the number of those before it: `insert_by` and `keep` change the list there. Assumes nothing.
use mathlib.Core.Path.{◌≡◌, refl, sym, ap, ◌∙◌}
use mathlib.Core.Bool.{Bool, true, false, not, cond, ◌||◌, true≢false}
use mathlib.Core.Option.{none, some}
use Prim.Native.Nat.Ordering.{eq}
use Prim.Native.Nat.Ordering.{gt}
use Prim.Native.Nat.Ordering.{lt}
use Prim.Native.Nat.{ℕ, suc, ◌+◌, ◌≤◌, ◌<◌, Ordering}
use native.Mathlib.Nat.{not-suc-le-zero}
use native.Mathlib.Numerals.{one-add}
use native.Mathlib.Omega.{arith}
use mathlib.Core.List.{List, [], ◌∷◌}
use lib.Dec.{compare_is_eq}
use lib.ListN.{length, get_or}
use Rattle.values.specs.Basic.{is_lt, place, insert_by, keep_if, keep, any, find}
use Rattle.areas.specs.Sorted.{In, All, Below, Sorted, count_of, Falls, insert_at, remove_at, replace_at}
use Rattle.values.proofs.Orders.{Ord, opp, congʳ, gt≢lt}
use Rattle.areas.proofs.Sorting.{any-in, insert-sorted, keep-sorted}
use Rattle.areas.proofs.Runs.{none_before, falls-keyed}

module _ {A : Type 0} (q : A → Bool) where
  -- where none passes
  pub find-nothing : (xs : List A) → any q xs ≡ false → find q xs ≡ none
  find-nothing [] h = refl
  find-nothing (x ∷ xs) h = by-test (q x) h (find-nothing xs)
    where
      by-test : (b : Bool) → (b || any q xs) ≡ false → (any q xs ≡ false → find q xs ≡ none) → cond b (some x) (find q xs) ≡ none
      by-test true h r = absurd (true≢false h)
      by-test false h r = r h

  pub keep_all : (xs : List A) → any q xs ≡ false → keep (λ x. not (q x)) xs ≡ xs
  keep_all [] h = refl
  keep_all (x ∷ xs) h = by-test (q x) h (keep_all xs)
    where
      by-test : (b : Bool) → (b || any q xs) ≡ false → (any q xs ≡ false → keep (λ x. not (q x)) xs ≡ xs) → keep_if (not b) x (keep (λ x. not (q x)) xs) ≡ x ∷ xs
      by-test true h r = absurd (true≢false h)
      by-test false h r = ap (λ (l : List A). x ∷ l) (r h)

module _ {A : Type 0} (cmp : A → A → Ordering) (a : A) where
  -- how many are before a, and whether one is equal to it
  abbrev pub rank : List A → ℕ
  rank xs = count_of (λ x. is_lt (cmp x a)) xs

  abbrev pub holds : List A → Bool
  holds xs = any (λ x. compare_is_eq (cmp x a)) xs

module _ {A : Type 0} {cmp : A → A → Ordering} (O : Ord cmp) (a : A) where
  -- after an element that is not before a, all are behind a
  behind : (x : A) (xs : List A) → Below cmp x xs → Sorted cmp xs → is_lt (cmp x a) ≡ false → All (λ y. cmp y a ≡ gt) xs
  behind x [] b s h = tt
  behind x (y ∷ ys) b s h = let e : cmp y a ≡ gt = by-test (cmp y a) refl in (e, behind y ys s.0 s.1 (ap is_lt e))
    where
      by-test : (o : Ordering) → cmp y a ≡ o → cmp y a ≡ gt
      by-test lt e = absurd (true≢false (sym (ap is_lt (O.trans x y a b e)) ∙ h))
      by-test eq e = absurd (true≢false (sym (ap is_lt (congʳ O x y a e ∙ b)) ∙ h))
      by-test gt e = e

  none_equal : (xs : List A) → All (λ y. cmp y a ≡ gt) xs → holds cmp a xs ≡ false
  none_equal [] h = refl
  none_equal (x ∷ xs) h = rw h.0 (none_equal xs h.1)

  -- both, of what follows an element that is not before a
  rest-before : (x : A) (xs : List A) → Sorted cmp (x ∷ xs) → is_lt (cmp x a) ≡ false → rank cmp a xs ≡ 0
  rest-before x xs s h = none_before {cmp = cmp} O (λ y. y) (λ y z l e. gt≢lt (sym e ∙ l)) a x xs s h

  rest-equal : (x : A) (xs : List A) → Sorted cmp (x ∷ xs) → is_lt (cmp x a) ≡ false → holds cmp a xs ≡ false
  rest-equal x xs s h = none_equal xs (behind x xs s.0 s.1 h)

  pub falls-sorted : (xs : List A) → Sorted cmp xs → Falls (λ x. is_lt (cmp x a)) xs
  falls-sorted xs s = falls-keyed {cmp = cmp} O (λ y. y) (λ y z l e. gt≢lt (sym e ∙ l)) a xs s

  -- whether one is equal shows at the place
  pub holds_at : (d : A) (xs : List A) → Sorted cmp xs → rank cmp a xs < length xs → holds cmp a xs ≡ compare_is_eq (cmp (get_or xs (rank cmp a xs) d) a)
  unfolding count_of
  holds_at d [] s l = absurd (not-suc-le-zero l)
  holds_at d (x ∷ xs) s l = by-test (cmp x a) refl l (holds_at d xs s.1)
    where
      by-test : (o : Ordering) → cmp x a ≡ o → cond (is_lt o) 1 0 + rank cmp a xs < suc (length xs)
          → (rank cmp a xs < length xs → holds cmp a xs ≡ compare_is_eq (cmp (get_or xs (rank cmp a xs) d) a))
          → (compare_is_eq o || holds cmp a xs) ≡ compare_is_eq (cmp (get_or (x ∷ xs) (cond (is_lt o) 1 0 + rank cmp a xs) d) a)
      by-test lt e l r = rw one-add (r (omega arith))
      by-test eq e l r = rw (rest-before x xs s (ap is_lt e), e)
      by-test gt e l r = rw (rest-before x xs s (ap is_lt e), e) (rest-equal x xs s (ap is_lt e))

  pub holds-past : (xs : List A) → Sorted cmp xs → length xs ≤ rank cmp a xs → holds cmp a xs ≡ false
  unfolding count_of
  holds-past [] s l = refl
  holds-past (x ∷ xs) s l = by-test (cmp x a) refl l (holds-past xs s.1)
    where
      by-test : (o : Ordering) → cmp x a ≡ o → suc (length xs) ≤ cond (is_lt o) 1 0 + rank cmp a xs → (length xs ≤ rank cmp a xs → holds cmp a xs ≡ false)
          → (compare_is_eq o || holds cmp a xs) ≡ false
      by-test lt e l r = r (omega arith)
      by-test eq e l r = absurd (omega (arith, rest-before x xs s (ap is_lt e)))
      by-test gt e l r = absurd (omega (arith, rest-before x xs s (ap is_lt e)))

  pub holds-in : (x : A) (xs : List A) → In x xs → cmp x a ≡ eq → holds cmp a xs ≡ true
  holds-in x xs m e = any-in (λ y. compare_is_eq (cmp y a)) x xs m (ap compare_is_eq e)

  -- no element is equal
  pub insert-new : (xs : List A) → Sorted cmp xs → holds cmp a xs ≡ false → insert_by cmp a xs ≡ insert_at (rank cmp a xs) a xs
  unfolding count_of insert_at
  insert-new [] s n = refl
  insert-new (x ∷ xs) s n = rw (O.flip x a) (by-test (cmp x a) refl n (insert-new xs s.1))
    where
      by-test : (o : Ordering) → cmp x a ≡ o → (compare_is_eq o || holds cmp a xs) ≡ false → (holds cmp a xs ≡ false → insert_by cmp a xs ≡ insert_at (rank cmp a xs) a xs)
          → place (opp o) a x xs (insert_by cmp a xs) ≡ insert_at (cond (is_lt o) 1 0 + rank cmp a xs) a (x ∷ xs)
      by-test lt e n r = rw one-add (ap (λ (l : List A). x ∷ l) (r n))
      by-test eq e n r = absurd (true≢false n)
      by-test gt e n r = rw (rest-before x xs s (ap is_lt e))

  -- one element is equal: it stands at that place
  pub found_at : (d : A) (xs : List A) → Sorted cmp xs → holds cmp a xs ≡ true
      → (rank cmp a xs < length xs) × (find (λ x. compare_is_eq (cmp x a)) xs ≡ some (get_or xs (rank cmp a xs) d))
  unfolding count_of
  found_at d [] s n = absurd (true≢false (sym n))
  found_at d (x ∷ xs) s n = by-test (cmp x a) refl n (found_at d xs s.1)
    where
      by-test : (o : Ordering) → cmp x a ≡ o → (compare_is_eq o || holds cmp a xs) ≡ true
          → (holds cmp a xs ≡ true → (rank cmp a xs < length xs) × (find (λ x. compare_is_eq (cmp x a)) xs ≡ some (get_or xs (rank cmp a xs) d)))
          → (cond (is_lt o) 1 0 + rank cmp a xs < suc (length xs))
          × (cond (compare_is_eq o) (some x) (find (λ x. compare_is_eq (cmp x a)) xs) ≡ some (get_or (x ∷ xs) (cond (is_lt o) 1 0 + rank cmp a xs) d))
      by-test lt e n r = (omega (arith, (r n).0), rw one-add (r n).1)
      by-test eq e n r = (omega (arith, rest-before x xs s (ap is_lt e)), rw (rest-before x xs s (ap is_lt e)))
      by-test gt e n r = absurd (true≢false (sym n ∙ rest-equal x xs s (ap is_lt e)))

  pub insert-old : (xs : List A) → Sorted cmp xs → holds cmp a xs ≡ true → insert_by cmp a xs ≡ replace_at (rank cmp a xs) a xs
  unfolding count_of replace_at
  insert-old [] s n = absurd (true≢false (sym n))
  insert-old (x ∷ xs) s n = rw (O.flip x a) (by-test (cmp x a) refl n (insert-old xs s.1))
    where
      by-test : (o : Ordering) → cmp x a ≡ o → (compare_is_eq o || holds cmp a xs) ≡ true → (holds cmp a xs ≡ true → insert_by cmp a xs ≡ replace_at (rank cmp a xs) a xs)
          → place (opp o) a x xs (insert_by cmp a xs) ≡ replace_at (cond (is_lt o) 1 0 + rank cmp a xs) a (x ∷ xs)
      by-test lt e n r = rw one-add (ap (λ (l : List A). x ∷ l) (r n))
      by-test eq e n r = rw (rest-before x xs s (ap is_lt e))
      by-test gt e n r = absurd (true≢false (sym n ∙ rest-equal x xs s (ap is_lt e)))

  pub keep-others : (xs : List A) → Sorted cmp xs → holds cmp a xs ≡ true → keep (λ x. not (compare_is_eq (cmp x a))) xs ≡ remove_at (rank cmp a xs) xs
  unfolding count_of remove_at
  keep-others [] s n = absurd (true≢false (sym n))
  keep-others (x ∷ xs) s n = by-test (cmp x a) refl n (keep-others xs s.1)
    where
      by-test : (o : Ordering) → cmp x a ≡ o → (compare_is_eq o || holds cmp a xs) ≡ true
          → (holds cmp a xs ≡ true → keep (λ x. not (compare_is_eq (cmp x a))) xs ≡ remove_at (rank cmp a xs) xs)
          → keep_if (not (compare_is_eq o)) x (keep (λ x. not (compare_is_eq (cmp x a))) xs) ≡ remove_at (cond (is_lt o) 1 0 + rank cmp a xs) (x ∷ xs)
      by-test lt e n r = rw one-add (ap (λ (l : List A). x ∷ l) (r n))
      by-test eq e n r = rw (rest-before x xs s (ap is_lt e)) (keep_all (λ x. compare_is_eq (cmp x a)) xs (rest-equal x xs s (ap is_lt e)))
      by-test gt e n r = absurd (true≢false (sym n ∙ rest-equal x xs s (ap is_lt e)))

  -- so a list stays sorted
  pub sorted-insert-at : (xs : List A) → Sorted cmp xs → holds cmp a xs ≡ false → Sorted cmp (insert_at (rank cmp a xs) a xs)
  sorted-insert-at xs s n = rw (insert-new xs s n) at (insert-sorted O a xs s)

  pub sorted-replace-at : (xs : List A) → Sorted cmp xs → holds cmp a xs ≡ true → Sorted cmp (replace_at (rank cmp a xs) a xs)
  sorted-replace-at xs s n = rw (insert-old xs s n) at (insert-sorted O a xs s)

  pub sorted-remove-at : (xs : List A) → Sorted cmp xs → holds cmp a xs ≡ true → Sorted cmp (remove_at (rank cmp a xs) xs)
  sorted-remove-at xs s n = rw (keep-others xs s n) at (keep-sorted O (λ x. not (compare_is_eq (cmp x a))) xs s)
