-- A search by halving over the records of a sorted list finds how many of its elements are before a probe, in whichever area. Assumes nothing.
use mathlib.Core.Path.{◌≡◌, refl, sym, ap, ◌∙◌}
use Prim.Native.Nat.{ℕ, ◌-◌, Ordering}
use mathlib.Core.Logic.{inl, inr}
use mathlib.Core.List.{List, [], ◌∷◌, map}
use lib.ListN.{length, take, drop}
use Rattle.values.specs.Basic.{is_lt}
use Rattle.areas.specs.Counted.{count_at}
use Rattle.areas.specs.Records.{records}
use Rattle.areas.specs.Search.{SearchIn}
use Rattle.areas.specs.Sorted.{In, All, Sorted, count_of, Falls}
use Rattle.values.proofs.Orders.{Ord}
use Rattle.areas.proofs.Halving.{count_same, falls-same, count_map, falls-map}
use Rattle.areas.proofs.Placing.{rank, falls-sorted}
use Rattle.rules.specs.declared.profile.Profile.{Profile}
use Rattle.rules.specs.Layout.{lists, Area, count_place, count_width, area_at, record_width, in_area}
use Rattle.laid.specs.Store.{Inside}
use Rattle.laid.proofs.Inside.{area-lists, records-within}
use Rattle.laid.proofs.Columns.{rest}

pub all_of : {A : Type 0} (P : A → Type 0) (xs : List A) → ((x : A) → In x xs → P x) → All P xs
all_of P [] h = tt
all_of P (x ∷ xs) h = (h x (inl refl), all_of P xs (λ y m. h y (inr m)))

-- records that compare with the probe as the elements do
module _ {A : Type 0} {cmp : A → A → Ordering} (O : Ord cmp) (f : A → List ℕ) (q : List ℕ → Ordering) (a : A) (xs : List A) (agree : (x : A) → In x xs → q (f x) ≡ cmp x a) where
  pub map-ranked : count_of (λ r. is_lt (q r)) (map f xs) ≡ rank cmp a xs
  map-ranked =
      count_map f (λ r. is_lt (q r)) xs
      ∙ count_same (λ x. is_lt (q (f x))) (λ x. is_lt (cmp x a)) xs (all_of _ xs (λ x m. ap is_lt (agree x m)))

  pub map-falls : Sorted cmp xs → Falls (λ r. is_lt (q r)) (map f xs)
  map-falls s =
      falls-map f (λ r. is_lt (q r)) xs
      (falls-same (λ x. is_lt (cmp x a)) (λ x. is_lt (q (f x))) xs (all_of _ xs (λ x m. ap is_lt (sym (agree x m)))) (falls-sorted O a xs s))

-- and the area that holds them, with the code's own numbers
module _ (p : Profile) (R : ℕ) (s : List ℕ) (i : Inside p R s) (a : Area) (from w count : ℕ) (ef : from ≡ area_at p R a) (ew : w ≡ record_width p a) (ec : count ≡ count_at (count_place a) (count_width a) s) where
  pub area-read : records w count (take (length s - from) (drop from s)) ≡ in_area a (lists p R s)
  area-read = rw (rest from s, ef, ew, ec) (sym (area-lists p R s a))

  pub area-inside : (q : List ℕ → Ordering) → Falls (λ r. is_lt (q r)) (in_area a (lists p R s)) → SearchIn (λ r. is_lt (q r)) (take (length s - from) (drop from s)) count w
  area-inside q h = record { inside = rw (rest from s, ef, ew, ec) (records-within p R s i a); falls = rw area-read h }
