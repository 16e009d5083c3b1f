-- Small functions on orders, options and lists that the definitions are written with. Assumes nothing.
use Prim.Native.Nat.{ℕ, zero, suc, compare, Ordering}
use Rattle.std.specs.Prelude.{Bool, true, false, cond, ◌||◌, List, [], ◌∷◌, ℤ, pos, negsuc}
use Rattle.std.proofs.Math.Option.{Option, none, some}

-- ---- orders: each is a three-way comparison

-- the first comparison decides unless it says equal
abbrev pub and_then : Ordering → Ordering → Ordering
and_then Ordering.lt o = Ordering.lt
and_then Ordering.eq o = o
and_then Ordering.gt o = Ordering.gt

abbrev pub is_lt : Ordering → Bool
is_lt Ordering.lt = true
is_lt Ordering.eq = false
is_lt Ordering.gt = false

abbrev pub cmpℤ : ℤ → ℤ → Ordering
cmpℤ (pos a) (pos b) = compare a b
cmpℤ (pos a) (negsuc b) = Ordering.gt
cmpℤ (negsuc a) (pos b) = Ordering.lt
cmpℤ (negsuc a) (negsuc b) = compare b a

-- byte by byte, a prefix before its extension
unfoldable pub cmp_bytes : List ℕ → List ℕ → Ordering
cmp_bytes [] [] = Ordering.eq
cmp_bytes [] (y ∷ ys) = Ordering.lt
cmp_bytes (x ∷ xs) [] = Ordering.gt
cmp_bytes (x ∷ xs) (y ∷ ys) = and_then (compare x y) (cmp_bytes xs ys)

module _ {A : Type 0} where
  infixr 25 ◌or_else◌
  -- ---- options

  abbrev pub is_some : Option A → Bool
  is_some none = false
  is_some (some a) = true

  abbrev pub is_none : Option A → Bool
  is_none none = true
  is_none (some a) = false

  unfoldable pub ◌or_else◌ : Option A → Option A → Option A
  none or_else o = o
  some a or_else o = some a

  abbrev pub or_default : Option A → A → A
  or_default none d = d
  or_default (some a) d = a

  abbrev pub only_if : Bool → A → Option A
  only_if b a = cond b (some a) none

  -- ---- lists

  abbrev pub is_nil : List A → Bool
  is_nil [] = true
  is_nil (x ∷ xs) = false

  abbrev pub any : (A → Bool) → List A → Bool
  any p [] = false
  any p (x ∷ xs) = p x || any p xs

  -- the first element that passes
  abbrev pub find : (A → Bool) → List A → Option A
  find p [] = none
  find p (x ∷ xs) = cond (p x) (some x) (find p xs)

  abbrev pub keep_if : Bool → A → List A → List A
  keep_if true a l = a ∷ l
  keep_if false a l = l

  -- the elements that pass
  abbrev pub keep : (A → Bool) → List A → List A
  keep p [] = []
  keep p (x ∷ xs) = keep_if (p x) x (keep p xs)

  abbrev pub nth : List A → ℕ → Option A
  nth [] i = none
  nth (x ∷ xs) zero = some x
  nth (x ∷ xs) (suc i) = nth xs i

  -- where a stands: before x, in x's place or behind it
  abbrev pub place : Ordering → A → A → List A → List A → List A
  place Ordering.lt a x xs r = a ∷ x ∷ xs
  place Ordering.eq a x xs r = a ∷ xs
  place Ordering.gt a x xs r = x ∷ r

  -- into a sorted list; an equal element is replaced
  abbrev pub insert_by : (A → A → Ordering) → A → List A → List A
  insert_by cmp a [] = a ∷ []
  insert_by cmp a (x ∷ xs) = place (cmp a x) a x xs (insert_by cmp a xs)

-- by cases on an option; shut, so that a proof can read its arguments off a goal
unfoldable pub maybe : {A B : Type 0} → Option A → B → (A → B) → B
maybe none b f = b
maybe (some a) b f = f a
