-- Strictly sorted lists over any comparison; members; an element at a place put in, a run of them taken out. Assumes nothing.
use Rattle.std.specs.Prelude.{◌≡◌, Bool, false, cond, ◌⊎◌, List, [], ◌∷◌, ◌++◌, take, drop}
use Prim.Native.Nat.{ℕ, suc, ◌+◌, Ordering}

module _ {A : Type 0} where
  abbrev pub In : A → List A → Type 0
  In a [] = ⊥
  In a (x ∷ xs) = (a ≡ x) ⊎ In a xs

  abbrev pub All : (A → Type 0) → List A → Type 0
  All P [] = Unit {0}
  All P (x ∷ xs) = P x × All P xs

  -- how many elements pass a test
  unfoldable pub count_of : (A → Bool) → List A → ℕ
  count_of p [] = 0
  count_of p (x ∷ xs) = cond (p x) 1 0 + count_of p xs

  -- once an element fails, no later one passes
  unfoldable pub Falls : (A → Bool) → List A → Type 0
  Falls p [] = Unit {0}
  Falls p (x ∷ xs) = (p x ≡ false → count_of p xs ≡ 0) × Falls p xs

  unfoldable pub insert_at : ℕ → A → List A → List A
  insert_at i x xs = take i xs ++ (x ∷ drop i xs)

  -- k elements from place i on taken out, and one
  unfoldable pub remove_run : ℕ → ℕ → List A → List A
  remove_run i k xs = take i xs ++ drop (i + k) xs

  unfoldable pub remove_at : ℕ → List A → List A
  remove_at i xs = take i xs ++ drop (suc i) xs

  unfoldable pub replace_at : ℕ → A → List A → List A
  replace_at i x xs = take i xs ++ (x ∷ drop (suc i) xs)

module _ {A : Type 0} (cmp : A → A → Ordering) where
  abbrev pub Below : A → List A → Type 0
  Below a [] = Unit {0}
  Below a (x ∷ xs) = cmp a x ≡ Ordering.lt

  abbrev pub Sorted : List A → Type 0
  Sorted [] = Unit {0}
  Sorted (x ∷ xs) = Below x xs × Sorted xs
