-- Strictly sorted lists over any comparison with the laws of `Ord`: `insert_by` and `keep` leave them sorted; their members. Assumes nothing.
use Prim.Native.Nat.Ordering.{eq}
use Prim.Native.Nat.Ordering.{gt}
use Prim.Native.Nat.Ordering.{lt}
use Prim.Native.Nat.{suc, ◌≤◌, Ordering}
use native.Mathlib.Omega.{arith}
use mathlib.Core.Path.{◌≡◌, refl, sym, ◌∙◌, ap}
use mathlib.Core.Bool.{Bool, true, false, cond, ◌||◌, false≢true}
use mathlib.Core.Logic.{◌⊎◌, inl, inr}
use mathlib.Core.Option.{none, some, none-ne-some, some-ne-none}
use mathlib.Core.List.{List, [], ◌∷◌}
use lib.ListN.{length}
use Rattle.values.specs.Basic.{place, insert_by, keep_if, keep, any, find}
use Rattle.areas.specs.Sorted.{In, Below, Sorted}
use Rattle.values.proofs.Orders.{Ord, opp, eq≢lt, gt≢eq}

or-false-left : (a b : Bool) → (a || b) ≡ false → a ≡ false
or-false-left true b h = h
or-false-left false b h = refl

or-false-right : (a b : Bool) → (a || b) ≡ false → b ≡ false
or-false-right true b h = cc
or-false-right false b h = h

or-true : (a b : Bool) → b ≡ true → (a || b) ≡ true
or-true true b h = refl
or-true false b h = h

module _ {A : Type 0} {cmp : A → A → Ordering} (O : Ord cmp) where
  pub below-trans : (a x : A) (xs : List A) → cmp a x ≡ lt → Below cmp x xs → Below cmp a xs
  below-trans a x [] h b = tt
  below-trans a x (y ∷ ys) h b = O.trans a x y h b

  insert-below : (a b : A) (xs : List A) → cmp b a ≡ lt → Below cmp b xs → Below cmp b (insert_by cmp a xs)
  insert-below a b [] h k = h
  insert-below a b (x ∷ xs) h k = go (cmp a x)
    where
      go : (o : Ordering) → Below cmp b (place o a x xs (insert_by cmp a xs))
      go lt = h
      go eq = h
      go gt = k

  pub insert-sorted : (a : A) (xs : List A) → Sorted cmp xs → Sorted cmp (insert_by cmp a xs)
  insert-sorted a [] s = (tt, tt)
  insert-sorted a (x ∷ xs) s = go (cmp a x) refl (insert-sorted a xs s.1)
    where
      at_x : (ys : List A) → cmp a x ≡ eq → Below cmp x ys → Below cmp a ys
      at_x [] e b = tt
      at_x (y ∷ ys) e b = O.cong a x y e ∙ b

      go : (o : Ordering) → cmp a x ≡ o → Sorted cmp (insert_by cmp a xs) → Sorted cmp (place o a x xs (insert_by cmp a xs))
      go lt e r = (e, s)
      go eq e r = (at_x xs e s.0, s.1)
      go gt e r = (insert-below a x xs (O.flip a x ∙ ap opp e) s.0, r)

  keep-below : (p : A → Bool) (b : A) (xs : List A) → Below cmp b xs → Sorted cmp xs → Below cmp b (keep p xs)
  keep-below p b [] h s = tt
  keep-below p b (x ∷ xs) h s = go (p x) (keep-below p b xs (below-trans b x xs h s.0) s.1)
    where
      go : (q : Bool) → Below cmp b (keep p xs) → Below cmp b (keep_if q x (keep p xs))
      go true r = h
      go false r = r

  pub keep-sorted : (p : A → Bool) (xs : List A) → Sorted cmp xs → Sorted cmp (keep p xs)
  keep-sorted p [] s = tt
  keep-sorted p (x ∷ xs) s = go (p x) (keep-sorted p xs s.1)
    where
      go : (q : Bool) → Sorted cmp (keep p xs) → Sorted cmp (keep_if q x (keep p xs))
      go true r = (keep-below p x xs s.0 s.1, r)
      go false r = r

module _ {A : Type 0} where
  pub insert-length : (cmp : A → A → Ordering) (a : A) (xs : List A) → length (insert_by cmp a xs) ≤ suc (length xs)
  insert-length cmp a [] = omega arith
  insert-length cmp a (x ∷ xs) = go (cmp a x) (insert-length cmp a xs)
    where
      go : (o : Ordering) → length (insert_by cmp a xs) ≤ suc (length xs) → length (place o a x xs (insert_by cmp a xs)) ≤ suc (suc (length xs))
      go lt h = omega arith
      go eq h = omega arith
      go gt h = omega arith

  pub keep-length : (p : A → Bool) (xs : List A) → length (keep p xs) ≤ length xs
  keep-length p [] = omega arith
  keep-length p (x ∷ xs) = go (p x) (keep-length p xs)
    where
      go : (q : Bool) → length (keep p xs) ≤ length xs → length (keep_if q x (keep p xs)) ≤ suc (length xs)
      go true h = omega arith
      go false h = omega arith

-- ---- members

module _ {A : Type 0} where
  pub in-keep : (p : A → Bool) (a : A) (xs : List A) → In a (keep p xs) → In a xs × (p a ≡ true)
  in-keep p a [] m = absurd m
  in-keep p a (x ∷ xs) m = go (p x) refl m (in-keep p a xs)
    where
      go : (b : Bool) → p x ≡ b → In a (keep_if b x (keep p xs)) → (In a (keep p xs) → In a xs × (p a ≡ true)) → In a (x ∷ xs) × (p a ≡ true)
      go true e (inl h) r = (inl h, cc)
      go true e (inr m') r = (inr (r m').0, (r m').1)
      go false e m' r = (inr (r m').0, (r m').1)

  pub keep-in : (p : A → Bool) (a : A) (xs : List A) → In a xs → p a ≡ true → In a (keep p xs)
  keep-in p a [] m h = absurd m
  keep-in p a (x ∷ xs) m h = go (p x) refl m (λ n. keep-in p a xs n h)
    where
      go : (b : Bool) → p x ≡ b → In a (x ∷ xs) → (In a xs → In a (keep p xs)) → In a (keep_if b x (keep p xs))
      go true e (inl q) r = inl q
      go true e (inr q) r = inr (r q)
      go false e (inl q) r = absurd (false≢true (sym e ∙ ap p (sym q) ∙ h))
      go false e (inr q) r = r q

  pub find_none : (p : A → Bool) (a : A) (xs : List A) → find p xs ≡ none → In a xs → p a ≡ false
  find_none p a [] h m = absurd m
  find_none p a (x ∷ xs) h m = go (p x) refl h m (find_none p a xs)
    where
      go : (b : Bool) → p x ≡ b → cond b (some x) (find p xs) ≡ none → In a (x ∷ xs) → (find p xs ≡ none → In a xs → p a ≡ false) → p a ≡ false
      go true e k n r = absurd (some-ne-none x k)
      go false e k (inl q) r = ap p q ∙ e
      go false e k (inr q) r = r k q

  -- the new element is there, and so is each old one that stands elsewhere
  pub in-insert-new : (cmp : A → A → Ordering) (a : A) (xs : List A) → In a (insert_by cmp a xs)
  in-insert-new cmp a [] = inl refl
  in-insert-new cmp a (x ∷ xs) = go (cmp a x) (in-insert-new cmp a xs)
    where
      go : (o : Ordering) → In a (insert_by cmp a xs) → In a (place o a x xs (insert_by cmp a xs))
      go lt r = inl refl
      go eq r = inl refl
      go gt r = inr r

  pub in-insert-old : (cmp : A → A → Ordering) (a b : A) (xs : List A) → In b xs → (cmp a b ≡ eq → ⊥) → In b (insert_by cmp a xs)
  in-insert-old cmp a b [] m ne = absurd m
  in-insert-old cmp a b (x ∷ xs) m ne = go (cmp a x) refl m (λ n. in-insert-old cmp a b xs n ne)
    where
      go : (o : Ordering) → cmp a x ≡ o → In b (x ∷ xs) → (In b xs → In b (insert_by cmp a xs)) → In b (place o a x xs (insert_by cmp a xs))
      go lt e n r = inr n
      go eq e (inl q) r = absurd (ne (ap (cmp a) q ∙ e))
      go eq e (inr q) r = inr q
      go gt e (inl q) r = inl q
      go gt e (inr q) r = inr (r q)

  pub find-in : (p : A → Bool) (xs : List A) (a : A) → find p xs ≡ some a → In a xs × (p a ≡ true)
  find-in p [] a h = absurd (none-ne-some a h)
  find-in p (x ∷ xs) a h = go (p x) refl h (find-in p xs a)
    where
      go : (b : Bool) → p x ≡ b → cond b (some x) (find p xs) ≡ some a → (find p xs ≡ some a → In a xs × (p a ≡ true)) → In a (x ∷ xs) × (p a ≡ true)
      go true e k r = (inl (cc), cc)
      go false e k r = (inr (r k).0, (r k).1)

  pub any-in : (p : A → Bool) (a : A) (xs : List A) → In a xs → p a ≡ true → any p xs ≡ true
  any-in p a [] m h = absurd m
  any-in p a (x ∷ xs) (inl e) h = rw (sym (ap p e) ∙ h)
  any-in p a (x ∷ xs) (inr m) h = or-true (p x) (any p xs) (any-in p a xs m h)

  pub any_false : (p : A → Bool) (a : A) (xs : List A) → any p xs ≡ false → In a xs → p a ≡ false
  any_false p a [] h m = absurd m
  any_false p a (x ∷ xs) h (inl e) = ap p e ∙ or-false-left (p x) (any p xs) h
  any_false p a (x ∷ xs) h (inr m) = any_false p a xs (or-false-right (p x) (any p xs) h) m

module _ {A : Type 0} {cmp : A → A → Ordering} (O : Ord cmp) where
  pub all-below : (x y : A) (xs : List A) → Below cmp x xs → Sorted cmp xs → In y xs → cmp x y ≡ lt
  all-below x y [] b s m = absurd m
  all-below x y (z ∷ zs) b s (inl e) = ap (cmp x) e ∙ b
  all-below x y (z ∷ zs) b s (inr m) = all-below x y zs (below-trans O x z zs b s.0) s.1 m

  -- a member after an insert is the new element, or an old one that stands elsewhere
  pub in_insert : (a b : A) (xs : List A) → Sorted cmp xs → In b (insert_by cmp a xs) → (b ≡ a) ⊎ (In b xs × (cmp a b ≡ eq → ⊥))
  in_insert a b [] s m = m_nil m
    where
      m_nil : (b ≡ a) ⊎ ⊥ → (b ≡ a) ⊎ (⊥ × (cmp a b ≡ eq → ⊥))
      m_nil (inl e) = inl e
      m_nil (inr n) = absurd n
  in_insert a b (x ∷ xs) s m = go (cmp a x) refl m (in_insert a b xs s.1)
    where
      apart : cmp a b ≡ lt → cmp a b ≡ eq → ⊥
      apart h k = eq≢lt (sym k ∙ h)

      behind : cmp a x ≡ lt → In b (x ∷ xs) → cmp a b ≡ lt
      behind h (inl e) = ap (cmp a) e ∙ h
      behind h (inr m') = O.trans a x b h (all-below x b xs s.0 s.1 m')

      go : (o : Ordering) → cmp a x ≡ o → In b (place o a x xs (insert_by cmp a xs)) → (In b (insert_by cmp a xs) → (b ≡ a) ⊎ (In b xs × (cmp a b ≡ eq → ⊥)))
          → (b ≡ a) ⊎ (In b (x ∷ xs) × (cmp a b ≡ eq → ⊥))
      go lt e (inl h) r = inl h
      go lt e (inr m') r = inr (m', apart (behind e m'))
      go eq e (inl h) r = inl h
      go eq e (inr m') r = inr (inr m', apart (O.cong a x b e ∙ all-below x b xs s.0 s.1 m'))
      go gt e (inl h) r = inr (inl h, λ k. gt≢eq (sym e ∙ ap (cmp a) (sym h) ∙ k))
      go gt e (inr m') r = up (r m')
        where
          up : (b ≡ a) ⊎ (In b xs × (cmp a b ≡ eq → ⊥)) → (b ≡ a) ⊎ (In b (x ∷ xs) × (cmp a b ≡ eq → ⊥))
          up (inl h) = inl h
          up (inr h) = inr (inr h.0, h.1)

  -- equal members are one
  pub one_place : (a b : A) (xs : List A) → Sorted cmp xs → In a xs → In b xs → cmp a b ≡ eq → a ≡ b
  one_place a b [] s m n h = absurd m
  one_place a b (x ∷ xs) s (inl e) (inl f) h = e ∙ sym f
  one_place a b (x ∷ xs) s (inl e) (inr n) h = absurd (eq≢lt (sym h ∙ ap (λ (y : A). cmp y b) e ∙ all-below x b xs s.0 s.1 n))
  one_place a b (x ∷ xs) s (inr m) (inl f) h =
      absurd (eq≢lt (sym (ap opp h) ∙ sym (O.flip a b) ∙ ap (λ (y : A). cmp y a) f ∙ all-below x a xs s.0 s.1 m))
  one_place a b (x ∷ xs) s (inr m) (inr n) h = one_place a b xs s.1 m n h

  -- in place of an equal element nothing grows
  pub replace-length : (a x : A) (xs : List A) → Sorted cmp xs → In x xs → cmp a x ≡ eq → length (insert_by cmp a xs) ≡ length xs
  replace-length a x [] s m h = absurd m
  replace-length a x (y ∷ ys) s m h = go (cmp a y) refl m (λ n. replace-length a x ys s.1 n h)
    where
      go : (o : Ordering) → cmp a y ≡ o → In x (y ∷ ys) → (In x ys → length (insert_by cmp a ys) ≡ length ys) → length (place o a y ys (insert_by cmp a ys)) ≡ suc (length ys)
      go lt e (inl q) r = absurd (eq≢lt (sym h ∙ ap (cmp a) q ∙ e))
      go lt e (inr q) r = absurd (eq≢lt (sym h ∙ O.trans a y x e (all-below y x ys s.0 s.1 q)))
      go eq e q r = refl
      go gt e (inl q) r = absurd (gt≢eq (sym e ∙ ap (cmp a) (sym q) ∙ h))
      go gt e (inr q) r = ap suc (r q)
