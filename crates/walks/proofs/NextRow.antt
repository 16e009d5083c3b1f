-- The first row of a table at a place or behind it: in sorted rows it stands at that place or at the first place of the table, or nowhere.
-- Assumes nothing.
use mathlib.Core.Path.{◌≡◌, refl, sym, ap, ◌∙◌}
use mathlib.Core.Bool.{Bool, true, false, cond}
use mathlib.Core.Option.{Option, none, some, map, none-ne-some, some-injective}
use Prim.Native.Nat.Ordering.{eq}
use Prim.Native.Nat.Ordering.{gt}
use Prim.Native.Nat.Ordering.{lt}
use Prim.Native.Nat.{ℕ, zero, suc, ◌+◌, ◌-◌, ◌≤◌, ◌<◌, zero-le, Ordering}
use native.Mathlib.Numerals.{one-add}
use native.Mathlib.Omega.{arith}
use mathlib.Core.List.{List, [], ◌∷◌}
use lib.Dec.{compare_is_eq, ltb}
use borrow.Author.Tests.{ltb-true, ltb-false}
use Rattle.std.proofs.Common.{max}
use lib.ListN.{length, take, drop, get_or, drop_of_length-le}
use Rattle.values.specs.Basic.{is_lt, cmp_bytes, nth}
use Rattle.values.specs.Cell.{read_name}
use Rattle.areas.specs.Counted.{count_at}
use Rattle.areas.specs.Records.{records}
use Rattle.areas.specs.Search.{cmp_named}
use Rattle.areas.specs.Sorted.{Sorted, count_of}
use Rattle.values.proofs.Orders.{ord_bytes}
use Rattle.areas.proofs.Runs.{run_at, none_before}
use Rattle.rules.specs.declared.profile.Profile.{Profile}
use Rattle.rules.specs.Profile.{rows_at, row_width}
use Rattle.rules.specs.State.{Name, Row, cmp_row, of_table}
use Rattle.rules.specs.Layout.{lists, rows_count, parse}
use Rattle.rules.proofs.Trip.{row-name}
use Rattle.laid.specs.Store.{LaidStore}
use Rattle.laid.specs.Catalog.{place_of, run_from, before}
use Rattle.laid.specs.Row.{row_in}
use Rattle.walks.proofs.ByName.{row-leads}
use Rattle.laid.proofs.Finding.{no_place}
use Rattle.laid.proofs.Keyed.{rows-counted, row_at, row_read, row-good}
use Rattle.laid.proofs.Runs.{none-behind}
use Rattle.walks.proofs.Scanned.{placed}
use Rattle.laid.proofs.Stores.{held-state}

-- ---- the first that passes, from a place on

-- its place among all
abbrev pub place_from : {A : Type 0} → (A → Bool) → List A → ℕ → Option ℕ
place_from q xs i = map (λ (j : ℕ). i + j) (place_of q (drop i xs))

map-suc : (n : ℕ) (o : Option ℕ) → map (λ (j : ℕ). suc n + j) o ≡ map suc (map (λ (j : ℕ). n + j) o)
map-suc n none = refl
map-suc n (some i) = ap some (omega arith)

suc-first : (o : Option ℕ) → map (λ (j : ℕ). 0 + j) (map suc o) ≡ map suc (map (λ (j : ℕ). 0 + j) o)
suc-first none = refl
suc-first (some i) = ap some (omega arith)

module _ {A : Type 0} (q : A → Bool) where
  place-later : (x : A) (xs : List A) → q x ≡ false → place_of q (x ∷ xs) ≡ map suc (place_of q xs)
  unfolding place_of
  place-later x xs h = rw h

  none-placed : (xs : List A) → count_of q xs ≡ 0 → place_of q xs ≡ none
  unfolding place_of count_of
  none-placed [] h = refl
  none-placed (x ∷ xs) h = by-test (q x) h (none-placed xs)
    where
      by-test : (b : Bool) → cond b 1 0 + count_of q xs ≡ 0 → (count_of q xs ≡ 0 → place_of q xs ≡ none) → cond b (some zero) (map suc (place_of q xs)) ≡ none
      by-test true h r = absurd (omega arith)
      by-test false h r = ap (map suc) (r (omega arith))

-- ---- those with one name, in a list sorted by name first

module _ {A : Type 0} {cmp : A → A → Ordering} (name : A → List ℕ)
    (leads : (x y : A) → cmp x y ≡ lt → cmp_bytes (name x) (name y) ≡ gt → ⊥) (n : List ℕ) where
  abbrev has : A → Bool
  has x = compare_is_eq (cmp_bytes (name x) n)

  abbrev first : List A → ℕ
  first xs = run_at cmp_bytes name n xs

  first-behind : (x : A) (xs : List A) → cmp_bytes (name x) n ≡ lt → first (x ∷ xs) ≡ suc (first xs)
  unfolding count_of
  first-behind x xs e = rw (e, one-add)

  first-here : (x : A) (xs : List A) → Sorted cmp (x ∷ xs) → is_lt (cmp_bytes (name x) n) ≡ false → first (x ∷ xs) ≡ 0
  unfolding count_of
  first-here x xs s h = rw (h, none_before ord_bytes name leads n x xs s h)

  -- those before the first are passed over
  place-skip : (xs : List A) → Sorted cmp xs → (from : ℕ) → from ≤ first xs → place_from has xs from ≡ place_from has xs (first xs)
  unfolding count_of
  place-skip [] s zero l = refl
  place-skip [] s (suc j) l = absurd (omega arith)
  place-skip (x ∷ xs) s from l = by-test (cmp_bytes (name x) n) refl from l (place-skip xs s.1)
    where
      by-test : (o : Ordering) → cmp_bytes (name x) n ≡ o → (from : ℕ) → from ≤ first (x ∷ xs)
          → ((j : ℕ) → j ≤ first xs → place_from has xs j ≡ place_from has xs (first xs))
          → place_from has (x ∷ xs) from ≡ place_from has (x ∷ xs) (first (x ∷ xs))
      by-test lt e zero l r =
          ap (map (λ (j : ℕ). 0 + j)) (place-later has x xs (ap compare_is_eq e))
          ∙ suc-first (place_of has xs)
          ∙ ap (map suc) (r 0 zero-le)
          ∙ sym (map-suc (first xs) (place_of has (drop (first xs) xs)))
          ∙ ap (place_from has (x ∷ xs)) (sym (first-behind x xs e))
      by-test lt e (suc j) l r =
          map-suc j (place_of has (drop j xs))
          ∙ ap (map suc) (r j (omega (arith, first-behind x xs e)))
          ∙ sym (map-suc (first xs) (place_of has (drop (first xs) xs)))
          ∙ ap (place_from has (x ∷ xs)) (sym (first-behind x xs e))
      by-test eq e from l r = let h : from ≡ first (x ∷ xs) = omega (arith, first-here x xs s (ap is_lt e)) in ap (place_from has (x ∷ xs)) h
      by-test gt e from l r = let h : from ≡ first (x ∷ xs) = omega (arith, first-here x xs s (ap is_lt e)) in ap (place_from has (x ∷ xs)) h

  -- from the first on, the one at the place tells whether there is any
  place_at : (xs : List A) → Sorted cmp xs → (i : ℕ) (x : A) → nth xs i ≡ some x → first xs ≤ i → place_of has (drop i xs) ≡ cond (has x) (some zero) none
  unfolding place_of count_of
  place_at [] s i x h l = absurd (none-ne-some x h)
  place_at (y ∷ ys) s zero x h l = rw (← some-injective y x h) (by-test (cmp_bytes (name y) n) refl l)
    where
      by-test : (o : Ordering) → cmp_bytes (name y) n ≡ o → cond (is_lt o) 1 0 + first ys ≤ 0
          → cond (compare_is_eq o) (some zero) (map suc (place_of has ys)) ≡ cond (compare_is_eq o) (some zero) none
      by-test lt e l = absurd (omega arith)
      by-test eq e l = refl
      by-test gt e l = ap (map suc) (none-placed has ys (none-behind name name leads n y ys s e))
  place_at (y ∷ ys) s (suc i) x h l = place_at ys s.1 i x h (by-test (cmp_bytes (name y) n) refl l)
    where
      by-test : (o : Ordering) → cmp_bytes (name y) n ≡ o → cond (is_lt o) 1 0 + first ys ≤ suc i → first ys ≤ i
      by-test lt e l = omega arith
      by-test eq e l = omega (arith, none_before ord_bytes name leads n y ys s (ap is_lt e))
      by-test gt e l = omega (arith, none_before ord_bytes name leads n y ys s (ap is_lt e))

-- ---- the rows of a store, with the code's own numbers

module _ (p : Profile) (R : ℕ) (s : List ℕ) (b : LaidStore p R s) (n : Name) where
  abbrev rows : List Row
  rows = (parse p R s).rows

  in_order : Sorted cmp_row rows
  in_order = (held-state p R s b).rows-sorted

  pub next-within : (count : ℕ) → count ≡ count_at rows_count 2 s → (i : ℕ) → i < count → i < length rows
  next-within count ec i h = omega (arith, ec, rows-counted p R s b)

  -- i is the greater of the table's first place and `from`
  module _ (start w : ℕ) (es : start ≡ rows_at p) (ew : w ≡ row_width p) (count : ℕ) (ec : count ≡ count_at rows_count 2 s)
      (top : ℕ) (et : top ≡ count_of (before n) (records w count (take (length s - start) (drop start s))))
      (from i : ℕ) (begun : i ≡ max from top) where
    ranked : top ≡ run_at cmp_bytes (λ (r : Row). r.table) n rows
    ranked = placed p R s b n start w es ew count ec top et (run_from n (drop top (records w count (take (length s - start) (drop start s))))) refl

    low : run_at cmp_bytes (λ (r : Row). r.table) n rows ≤ i
    low = omega (arith, ranked, begun)

    moved : place_from (of_table n) rows from ≡ place_from (of_table n) rows i
    moved = by-test (ltb from top) refl
      where
        by-test : (x : Bool) → ltb from top ≡ x → place_from (of_table n) rows from ≡ place_from (of_table n) rows i
        by-test true h =
            let e : run_at cmp_bytes (λ (r : Row). r.table) n rows ≡ i = omega (arith, ranked, begun, ltb-true from top h) in
            place-skip (λ (r : Row). r.table) row-leads n rows in_order from (omega (arith, ranked, ltb-true from top h)) ∙ ap (place_from (of_table n) rows) e
        by-test false h = let e : from ≡ i = omega (arith, begun, ltb-false from top h) in ap (place_from (of_table n) rows) e

    pub next_past : count ≤ i → none ≡ place_from (of_table n) rows from
    next_past h =
        let l : length rows ≤ i = omega (arith, ec, rows-counted p R s b) in
        sym
        (moved
        ∙ ap (λ (x : List Row). map (λ (j : ℕ). i + j) (place_of (of_table n) x)) (drop_of_length-le rows l)
        ∙ ap (map (λ (j : ℕ). i + j)) (no_place (of_table n) [] refl))

    -- the record at the place, which compares as o
    module _ (h : i < length rows) (rec : List ℕ) (er : rec ≡ get_or (lists p R s).rows i []) (o : Ordering) (eo : o ≡ cmp_named rec n) where
      named : compare_is_eq o ≡ of_table n (row_in p R s i)
      unfolding cmp_named
      named =
          ap compare_is_eq eo
          ∙ ap (λ (r : List ℕ). compare_is_eq (cmp_bytes (read_name r) n)) (er ∙ row_read p R s b i h)
          ∙ ap (λ (m : List ℕ). compare_is_eq (cmp_bytes m n)) (row-name p b.coded.known.cell (row_in p R s i) (row-good p R s b i h))

      told : place_from (of_table n) rows from ≡ map (λ (j : ℕ). i + j) (cond (compare_is_eq o) (some zero) none)
      told =
          moved
          ∙ ap (map (λ (j : ℕ). i + j)) (place_at (λ (r : Row). r.table) row-leads n rows in_order i (row_in p R s i) (row_at p R s b i h) low)
          ∙ ap (λ (t : Bool). map (λ (j : ℕ). i + j) (cond t (some zero) none)) (sym named)

      pub next_here : compare_is_eq o ≡ true → some i ≡ place_from (of_table n) rows from
      next_here e =
          let z : i ≡ i + 0 = omega arith in
          ap some z ∙ sym (told ∙ ap (λ (t : Bool). map (λ (j : ℕ). i + j) (cond t (some zero) none)) e)

      pub next-elsewhere : compare_is_eq o ≡ false → none ≡ place_from (of_table n) rows from
      next-elsewhere e = sym (told ∙ ap (λ (t : Bool). map (λ (j : ℕ). i + j) (cond t (some zero) none)) e)
