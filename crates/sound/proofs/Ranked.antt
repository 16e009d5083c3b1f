-- Sorted lists over any order: one that lies within another of no greater length is that list; what stands next to an element; and, of orders
-- put together, what lies between two elements that agree. Assumes nothing.
use mathlib.Core.Path.{◌≡◌, refl, sym, ap, ◌∙◌}
use mathlib.Core.Logic.{◌⊎◌, inl, inr}
use mathlib.Core.List.{List, [], ◌∷◌}
use mathlib.Core.Option.{some, none-ne-some, some-injective}
use Prim.Native.Nat.Ordering.{eq}
use Prim.Native.Nat.Ordering.{gt}
use Prim.Native.Nat.Ordering.{lt}
use Prim.Native.Nat.{ℕ, zero, suc, ◌≤◌, Ordering}
use native.Mathlib.Nat.{le_of_suc-le-suc, not-suc-le-zero}
use native.Mathlib.Omega.{arith}
use lib.Dec.{compare_is_eq}
use lib.ListN.{length, get_or}
use Rattle.values.specs.Basic.{and_then, nth}
use Rattle.areas.specs.Sorted.{In, Sorted}
use Rattle.values.proofs.Orders.{Ord, self, congʳ, eq≢lt, gt≢lt, opp}
use Rattle.areas.proofs.Sorting.{all-below, one_place, find-in}
use Rattle.areas.proofs.Placing.{rank, found_at, holds-in}
use Rattle.rules.proofs.Tests.{is_eq}
use Rattle.rules.proofs.Lists.{nth_in}
use Rattle.laid.proofs.Finding.{nth-get_or}

module _ {A : Type 0} {cmp : A → A → Ordering} (O : Ord cmp) where
  never : (a b : A) → cmp a b ≡ lt → cmp b a ≡ lt → ⊥
  never a b h k = gt≢lt (sym (ap opp h) ∙ sym (O.flip a b) ∙ k)

  irreflexive : (a b : A) → a ≡ b → cmp a b ≡ lt → ⊥
  irreflexive a b e h = eq≢lt (sym (self O a) ∙ ap (cmp a) e ∙ h)

  -- ---- one list within another

  within : (xs ys : List A) → Sorted cmp xs → Sorted cmp ys → ((a : A) → In a xs → In a ys) → (length xs ≤ length ys) × (length ys ≤ length xs → xs ≡ ys)
  within [] [] s t f = (omega arith, λ h. refl)
  within [] (y ∷ ys) s t f = (omega arith, λ h. absurd (not-suc-le-zero h))
  within (x ∷ xs) [] s t f = absurd (f x (inl refl))
  within (x ∷ xs) (y ∷ ys) s t f = on (f x (inl refl)) (λ g. within xs ys s.1 t.1 g) (λ g. within (x ∷ xs) ys s t.1 g)
    where
      tail : x ≡ y → (a : A) → In a xs → In a (y ∷ ys) → In a ys
      tail e a m (inl q) = absurd (irreflexive x a (e ∙ sym q) (all-below O x a xs s.0 s.1 m))
      tail e a m (inr n) = n

      -- the first is behind y, so all are
      later : In x ys → (a : A) → In a (x ∷ xs) → In a (y ∷ ys) → In a ys
      later n a m (inr k) = k
      later n a (inl e) (inl q) = absurd (irreflexive y x (sym q ∙ e) (all-below O y x ys t.0 t.1 n))
      later n a (inr m) (inl q) =
          absurd (never y x (all-below O y x ys t.0 t.1 n) (ap (cmp x) (sym q) ∙ all-below O x a xs s.0 s.1 m))

      on : In x (y ∷ ys) → (((a : A) → In a xs → In a ys) → (length xs ≤ length ys) × (length ys ≤ length xs → xs ≡ ys))
          → (((a : A) → In a (x ∷ xs) → In a ys) → (suc (length xs) ≤ length ys) × (length ys ≤ suc (length xs) → x ∷ xs ≡ ys))
          → (suc (length xs) ≤ suc (length ys)) × (suc (length ys) ≤ suc (length xs) → x ∷ xs ≡ y ∷ ys)
      on (inl e) r q =
          let w = r (λ a m. tail e a m (f a (inr m))) in
          (omega (arith, w.0), λ h. rw (e, w.1 (le_of_suc-le-suc h)))
      on (inr n) r q =
          let w = q (λ a m. later n a m (f a m)) in
          (omega (arith, w.0), λ h. absurd (omega (arith, w.0, h)))

  pub within-is : (xs ys : List A) → Sorted cmp xs → Sorted cmp ys → ((a : A) → In a xs → In a ys) → length ys ≤ length xs → xs ≡ ys
  within-is xs ys s t f h = (within xs ys s t f).1 h

  -- ---- the element at a place, and the next

  pub place_of : (d a : A) (xs : List A) → Sorted cmp xs → In a xs → nth xs (rank cmp a xs) ≡ some a
  place_of d a xs s m =
      let q = found_at O a d xs s (holds-in O a a xs m (self O a)) in
      let f = find-in (λ x. compare_is_eq (cmp x a)) xs (get_or xs (rank cmp a xs) d) q.1 in
      nth-get_or xs (rank cmp a xs) d q.0 ∙ ap some (one_place O (get_or xs (rank cmp a xs) d) a xs s f.0 m (is_eq _ f.1))

  pub next-behind : (xs : List A) (i : ℕ) (a b : A) → Sorted cmp xs → nth xs i ≡ some a → nth xs (suc i) ≡ some b → cmp a b ≡ lt
  next-behind [] i a b s h k = absurd (none-ne-some a h)
  next-behind (x ∷ []) zero a b s h k = absurd (none-ne-some b k)
  next-behind (x ∷ y ∷ ys) zero a b s h k = ap (λ (z : A). cmp z b) (sym (some-injective x a h)) ∙ ap (cmp x) (sym (some-injective y b k)) ∙ s.0
  next-behind (x ∷ xs) (suc i) a b s h k = next-behind xs i a b s.1 h k

  -- the next lies no further than any element behind
  pub next-before : (xs : List A) (i : ℕ) (a f : A) → Sorted cmp xs → nth xs i ≡ some a → In f xs → cmp a f ≡ lt
      → (g : A) × (nth xs (suc i) ≡ some g) × ((g ≡ f) ⊎ (cmp g f ≡ lt))
  next-before [] i a f s h m l = absurd m
  next-before (x ∷ xs) zero a f s h (inl e) l = absurd (irreflexive a f (sym (some-injective x a h) ∙ sym e) l)
  next-before (x ∷ []) zero a f s h (inr m) l = absurd m
  next-before (x ∷ y ∷ ys) zero a f s h (inr (inl e)) l = (y, refl, inl (sym e))
  next-before (x ∷ y ∷ ys) zero a f s h (inr (inr m)) l = (y, refl, inr (all-below O y f ys s.1.0 s.1.1 m))
  next-before (x ∷ xs) (suc i) a f s h (inl e) l = absurd (never x a (all-below O x a xs s.0 s.1 (nth_in xs i a h)) (ap (cmp a) (sym e) ∙ l))
  next-before (x ∷ xs) (suc i) a f s h (inr m) l = next-before xs i a f s.1 h m l

  -- ---- between two elements that agree in the first of two orders

  pub between : (e g f : A) (q r : Ordering) → cmp e f ≡ eq → and_then (cmp e g) q ≡ lt → and_then (cmp g f) r ≡ lt → (cmp e g ≡ eq) × (q ≡ lt) × (r ≡ lt)
  between e g f q r h k l = on (cmp e g) (cmp g f) refl refl k l
    where
      on : (o p : Ordering) → cmp e g ≡ o → cmp g f ≡ p → and_then o q ≡ lt → and_then p r ≡ lt → (o ≡ eq) × (q ≡ lt) × (r ≡ lt)
      on lt lt a b k l = absurd (eq≢lt (sym h ∙ O.trans e g f a b))
      on lt eq a b k l = absurd (eq≢lt (sym h ∙ congʳ O e g f b ∙ a))
      on lt gt a b k l = absurd (gt≢lt l)
      on eq lt a b k l = absurd (eq≢lt (sym h ∙ O.cong e g f a ∙ b))
      on eq eq a b k l = (refl, k, l)
      on eq gt a b k l = absurd (gt≢lt l)
      on gt p a b k l = absurd (gt≢lt k)
