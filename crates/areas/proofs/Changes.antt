-- An element put in, taken out and replaced at a place of a list, and a run of elements taken out, over any element type. Assumes nothing.
use mathlib.Core.Path.{◌≡◌, refl, sym, ap, ◌∙◌}
use Prim.Native.Nat.{ℕ, zero, suc, ◌+◌, ◌-◌, ◌≤◌, ◌<◌}
use native.Mathlib.Nat.{not-suc-le-zero, le_of_suc-le-suc, zero-add, suc-add}
use native.Mathlib.Numerals.{add-one}
use native.Mathlib.Omega.{arith}
use mathlib.Core.List.{List, [], ◌∷◌, map}
use lib.ListN.{length, take, drop, length-append, length-take, length-drop}
use lib.Seq.{take-nil, drop-nil}
use Rattle.areas.specs.Sorted.{insert_at, remove_run, remove_at, replace_at}

module _ {A : Type 0} where
  pub length-insert-at : (i : ℕ) (x : A) (xs : List A) → i ≤ length xs → length (insert_at i x xs) ≡ length xs + 1
  unfolding insert_at
  length-insert-at i x xs h = length-append (take i xs) (x ∷ drop i xs) ∙ simp (length-take, length-drop) (omega arith)

  pub length-remove-run : (i k : ℕ) (xs : List A) → i + k ≤ length xs → length (remove_run i k xs) ≡ length xs - k
  unfolding remove_run
  length-remove-run i k xs h = length-append (take i xs) (drop (i + k) xs) ∙ simp (length-take, length-drop) (omega arith)

  -- one element is a run of one
  pub remove-one : (i : ℕ) (xs : List A) → remove_at i xs ≡ remove_run i 1 xs
  unfolding remove_at remove_run
  remove-one i xs = rw add-one

  pub length-remove-at : (i : ℕ) (xs : List A) → i < length xs → length (remove_at i xs) ≡ length xs - 1
  length-remove-at i xs h = ap length (remove-one i xs) ∙ length-remove-run i 1 xs (omega arith)

  -- a run out of nothing, one in front, and one behind the first element
  pub remove-none : (i k : ℕ) → remove_run {A = A} i k [] ≡ []
  unfolding remove_run
  remove-none i k = rw (take-nil i, drop-nil (i + k))

  pub remove-front : (k : ℕ) (xs : List A) → remove_run 0 k xs ≡ drop k xs
  unfolding remove_run
  remove-front k xs = rw zero-add

  pub remove-behind : (i k : ℕ) (x : A) (xs : List A) → remove_run (suc i) k (x ∷ xs) ≡ x ∷ remove_run i k xs
  unfolding remove_run
  remove-behind i k x xs = rw suc-add

  pub length-replace-at : (i : ℕ) (x : A) (xs : List A) → i < length xs → length (replace_at i x xs) ≡ length xs
  unfolding replace_at
  length-replace-at i x xs h = length-append (take i xs) (x ∷ drop (suc i) xs) ∙ simp (length-take, length-drop) (omega arith)

  -- a place that was opened is filled
  pub replace-insert : (i : ℕ) (x y : A) (xs : List A) → i ≤ length xs → replace_at i x (insert_at i y xs) ≡ insert_at i x xs
  unfolding insert_at replace_at
  replace-insert zero x y xs h = refl
  replace-insert (suc i) x y [] h = absurd (not-suc-le-zero h)
  replace-insert (suc i) x y (z ∷ xs) h = ap (λ (l : List A). z ∷ l) (replace-insert i x y xs (le_of_suc-le-suc h))

-- the same of what a function makes of the elements
module _ {A B : Type 0} (f : A → B) where
  pub map-insert-at : (i : ℕ) (x : A) (xs : List A) → map f (insert_at i x xs) ≡ insert_at i (f x) (map f xs)
  unfolding insert_at
  map-insert-at zero x xs = refl
  map-insert-at (suc i) x [] = refl
  map-insert-at (suc i) x (z ∷ xs) = ap (λ (l : List B). f z ∷ l) (map-insert-at i x xs)

  map-drop : (k : ℕ) (xs : List A) → map f (drop k xs) ≡ drop k (map f xs)
  map-drop zero xs = refl
  map-drop (suc k) [] = refl
  map-drop (suc k) (z ∷ xs) = map-drop k xs

  pub map-remove-run : (i k : ℕ) (xs : List A) → map f (remove_run i k xs) ≡ remove_run i k (map f xs)
  map-remove-run zero k xs = rw (remove-front k xs, remove-front k (map f xs)) (map-drop k xs)
  map-remove-run (suc i) k [] = ap (map f) (remove-none (suc i) k) ∙ sym (remove-none (suc i) k)
  map-remove-run (suc i) k (z ∷ xs) =
      ap (map f) (remove-behind i k z xs) ∙ ap (λ (l : List B). f z ∷ l) (map-remove-run i k xs) ∙ sym (remove-behind i k (f z) (map f xs))

  pub map-remove-at : (i : ℕ) (xs : List A) → map f (remove_at i xs) ≡ remove_at i (map f xs)
  map-remove-at i xs = ap (map f) (remove-one i xs) ∙ map-remove-run i 1 xs ∙ sym (remove-one i (map f xs))

  pub map-replace-at : (i : ℕ) (x : A) (xs : List A) → map f (replace_at i x xs) ≡ replace_at i (f x) (map f xs)
  unfolding replace_at
  map-replace-at zero x [] = refl
  map-replace-at zero x (z ∷ xs) = refl
  map-replace-at (suc i) x [] = refl
  map-replace-at (suc i) x (z ∷ xs) = ap (λ (l : List B). f z ∷ l) (map-replace-at i x xs)
