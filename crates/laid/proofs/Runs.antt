-- Runs of records that start with one name: counted record by record, and taken out of a sorted list of what they stand for. Assumes nothing.
use mathlib.Core.Path.{◌≡◌, refl, sym, ap, ◌∙◌}
use mathlib.Core.Bool.{Bool, true, false, not, cond, false≢true}
use mathlib.Core.Logic.{inl}
use Prim.Native.Nat.Ordering.{eq}
use Prim.Native.Nat.Ordering.{gt}
use Prim.Native.Nat.Ordering.{lt}
use Prim.Native.Nat.{ℕ, zero, suc, ◌+◌, ◌-◌, ◌*◌, ◌≤◌, ◌<◌, zero-le, Ordering}
use native.Mathlib.Nat.{zero-add, mul-le-mul, le_refl}
use native.Mathlib.Numerals.{add-one, one-add}
use native.Mathlib.Omega.{arith}
use mathlib.Core.List.{List, [], ◌∷◌, map}
use lib.Dec.{compare_is_eq}
use lib.ListN.{length, take, drop, get_or, length-drop, drop_of_length-le}
use lib.Seq.{drop-cons}
use Rattle.std.specs.Ordering.{is_eq}
use Rattle.std.specs.declared.cmp.Ordering.{Ordering as Compared}
use Rattle.values.specs.Basic.{is_lt, cmp_bytes, keep}
use Rattle.values.specs.Meaning.{ordering}
use Rattle.values.specs.Cell.{read_name}
use Rattle.areas.specs.Records.{records}
use Rattle.areas.specs.Search.{cmp_named, SearchIn}
use Rattle.areas.specs.Counted.{count_at, Shrinks, shrunk}
use Rattle.areas.specs.Sorted.{All, Sorted, count_of, Falls}
use Rattle.values.proofs.Orders.{ord_bytes, is_eq-ordering}
use Rattle.areas.proofs.Records.{length-records, part-record}
use Rattle.areas.proofs.Halving.{count-le, count_same, falls-same, count_map, falls-map}
use Rattle.areas.proofs.Changes.{map-remove-run}
use Rattle.areas.proofs.Runs.{run_at, run_length, none_before, falls-keyed, keep-outside, keep_run}
use Rattle.areas.proofs.Sorting.{in-keep}
use Rattle.rules.specs.declared.profile.Profile.{Profile}
use Rattle.rules.specs.Layout.{lists, Area, Schemas, Rows, Entries, count_place, count_width, area_at, record_width, area_places, in_area}
use Rattle.rules.proofs.Widths.{area-within}
use Rattle.rules.proofs.Laid.{laid-header, laid-length, laid-count, laid-few, laid-records, laid-shrinks, laid-shrunk}
use Rattle.laid.specs.Catalog.{run_from, before, without_run, RunIn, RunOut, AreaIs}
use Rattle.laid.proofs.Columns.{rest}
use Rattle.laid.proofs.Inside.{name-within}

-- ---- counting

-- records from `at` to `end` start with the name
pub record RunTo (n : List ℕ) (w count : ℕ) (s : List ℕ) (at end : ℕ) : Type 0 where
  pub from : at ≤ end
  pub within : end ≤ count
  pub run : run_from n (drop at (records w count s)) ≡ end - at + run_from n (drop end (records w count s))

run_step : (n : List ℕ) (rs : List (List ℕ)) (i : ℕ) (o : Ordering) → i < length rs → o ≡ cmp_named (get_or rs i []) n
    → run_from n (drop i rs) ≡ cond (compare_is_eq o) (suc (run_from n (drop (suc i) rs))) 0
unfolding run_from
run_step n rs i o h e = rw (drop-cons rs i [] h, e)

run_none : (n : List ℕ) (rs : List (List ℕ)) (i : ℕ) → length rs ≤ i → run_from n (drop i rs) ≡ 0
unfolding run_from
run_none n rs i h = rw (drop_of_length-le rs h)

module _ (n : List ℕ) (w count : ℕ) (s : List ℕ) (at : ℕ) where
  pub run-start : at ≤ count → RunTo n w count s at at
  run-start h = record { from = omega arith; within = h; run = omega arith }

  module _ (end : ℕ) (r : RunTo n w count s at end) where
    pub run_past : count ≤ end → count - at ≡ run_from n (drop at (records w count s))
    run_past h = let z = run_none n (records w count s) end (omega (arith, length-records w count s)) in omega (arith, r.run, r.within)

    -- the record at `end`, which compares as o
    module _ (l : end < count) (o : Compared) (e : ordering o ≡ cmp_named (take (end * w + w - end * w) (drop (end * w) s)) n) where
      next : run_from n (drop end (records w count s)) ≡ cond (is_eq o) (suc (run_from n (drop (suc end) (records w count s)))) 0
      next =
          rw (is_eq-ordering o)
          (run_step n (records w count s) end (ordering o) (omega (arith, length-records w count s))
          (e ∙ ap (λ (x : List ℕ). cmp_named x n) (part-record w count end s l)))

      pub run_on : true ≡ is_eq o → RunTo n w count s at (end + 1)
      run_on t =
          let g : run_from n (drop end (records w count s)) ≡ suc (run_from n (drop (end + 1) (records w count s))) = rw add-one (next ∙ rw (← t)) in
          record { from = omega (arith, r.from); within = omega arith; run = omega (arith, r.run, r.from) }

      pub run-over : false ≡ is_eq o → end - at ≡ run_from n (drop at (records w count s))
      run-over t = let g : run_from n (drop end (records w count s)) ≡ 0 = next ∙ rw (← t) in omega (arith, r.run)

-- ---- the records of a sorted list

module _ {A : Type 0} {cmp : A → A → Ordering} (rec : A → List ℕ) (name : A → List ℕ)
    (leads : (x y : A) → cmp x y ≡ lt → cmp_bytes (name x) (name y) ≡ gt → ⊥) (n : List ℕ) where
  -- after one with a later name none has this one
  pub none-behind : (x : A) (xs : List A) → Sorted cmp (x ∷ xs) → cmp_bytes (name x) n ≡ gt → run_length cmp_bytes name n xs ≡ 0
  unfolding count_of
  none-behind x xs s h = go (run_length cmp_bytes name n xs) refl
    where
      kept : keep (λ y. compare_is_eq (cmp_bytes (name y) n)) xs ≡ take (run_length cmp_bytes name n xs) (x ∷ xs)
      kept =
          sym (rw h)
          ∙ keep_run ord_bytes name leads n (x ∷ xs) s
          ∙ rw (h, none_before ord_bytes name leads n x xs s (ap is_lt h), zero-add)

      go : (k : ℕ) → run_length cmp_bytes name n xs ≡ k → k ≡ 0
      go zero e = refl
      go (suc k) e =
          absurd
          (false≢true
          (sym (ap compare_is_eq h)
          ∙ (in-keep (λ y. compare_is_eq (cmp_bytes (name y) n)) x xs (rw kept (rw e (inl refl)))).1))

  -- the run at its start is all of it
  pub leading : (xs : List A) → Sorted cmp xs → All (λ x. read_name (rec x) ≡ name x) xs
      → run_from n (drop (run_at cmp_bytes name n xs) (map rec xs)) ≡ run_length cmp_bytes name n xs
  unfolding count_of run_from cmp_named
  leading [] s h = refl
  leading (x ∷ xs) s h = by-test (cmp_bytes (name x) n) refl (leading xs s.1 h.1)
    where
      by-test : (o : Ordering) → cmp_bytes (name x) n ≡ o
          → run_from n (drop (run_at cmp_bytes name n xs) (map rec xs)) ≡ run_length cmp_bytes name n xs
          → run_from n (drop (cond (is_lt o) 1 0 + run_at cmp_bytes name n xs) (rec x ∷ map rec xs)) ≡ cond (compare_is_eq o) 1 0 + run_length cmp_bytes name n xs
      by-test lt e r = rw (one-add, zero-add) r
      by-test eq e r =
          let z = none_before ord_bytes name leads n x xs s (ap is_lt e) in
          rw (z, h.0, e, one-add) (ap suc (sym (rw z) ∙ r))
      by-test gt e r =
          let z = none_before ord_bytes name leads n x xs s (ap is_lt e) in
          rw (z, h.0, e, none-behind x xs s e)

  module _ (xs : List A) (s : Sorted cmp xs) (named : All (λ x. read_name (rec x) ≡ name x) xs) where
    same_tests : (ys : List A) → All (λ x. read_name (rec x) ≡ name x) ys → All (λ x. is_lt (cmp_bytes (name x) n) ≡ before n (rec x)) ys
    unfolding cmp_named
    same_tests [] h = tt
    same_tests (y ∷ ys) h = (ap (λ (m : List ℕ). is_lt (cmp_bytes m n)) (sym h.0), same_tests ys h.1)

    pub run-falls : Falls (before n) (map rec xs)
    run-falls =
        falls-map rec (before n) xs
        (falls-same (λ x. is_lt (cmp_bytes (name x) n)) (λ x. before n (rec x)) xs (same_tests xs named) (falls-keyed ord_bytes name leads n xs s))

    pub run-at : count_of (before n) (map rec xs) ≡ run_at cmp_bytes name n xs
    run-at =
        count_map rec (before n) xs
        ∙ sym (count_same (λ x. is_lt (cmp_bytes (name x) n)) (λ x. before n (rec x)) xs (same_tests xs named))

    pub run_out : without_run n (map rec xs) ≡ map rec (keep (λ x. not (compare_is_eq (cmp_bytes (name x) n))) xs)
    unfolding without_run
    run_out =
        rw (run-at, leading xs s named, keep-outside ord_bytes name leads n xs s)
        (sym (map-remove-run rec (run_at cmp_bytes name n xs) (run_length cmp_bytes name n xs) xs))

-- ---- a run taken out of an area, with the code's own numbers

run-le : (n : List ℕ) (rs : List (List ℕ)) → run_from n rs ≤ length rs
unfolding run_from
run-le n [] = zero-le
run-le n (r ∷ rs) = by-test (compare_is_eq (cmp_named r n)) (run-le n rs)
  where
    by-test : (b : Bool) → run_from n rs ≤ length rs → cond b (suc (run_from n rs)) 0 ≤ suc (length rs)
    by-test true h = omega arith
    by-test false h = zero-le

module _ (p : Profile) (R : ℕ) (a : Area) (n : List ℕ) (s : List ℕ) (r : RunIn p R a n s) (from w m : ℕ) (ef : from ≡ area_at p R a) (ew : w ≡ record_width p a) (em : m ≡ area_places p R a) where
  pub area-start : from ≤ length s
  area-start = omega (arith, ef, laid-length p R s (lists p R s) r.laid, area-within p R a)

  module _ (count : ℕ) (ec : count ≡ count_at (count_place a) (count_width a) s) where
    abbrev area_bytes : List ℕ
    area_bytes = take (length s - from) (drop from s)

    counted : count ≡ length (in_area a (lists p R s))
    counted = ec ∙ laid-count p R s (lists p R s) r.laid a

    pub read : records w count area_bytes ≡ in_area a (lists p R s)
    read = rw (rest from s) (laid-records p R s (lists p R s) r.laid a from w m ef ew em count ec)

    pub run_inside : count * w ≤ length area_bytes
    run_inside =
        let h : count * w ≤ area_places p R a * w = mul-le-mul (omega (arith, counted, laid-few p R s (lists p R s) r.laid a from w m ef ew em)) (le_refl w) in
        let g : from + area_places p R a * w ≤ length s = rw (ef, ew, laid-length p R s (lists p R s) r.laid) (area-within p R a) in
        rw (rest from s) (simp length-drop (omega arith))

    pub run-searched : SearchIn (before n) area_bytes count w
    run-searched = record { inside = run_inside; falls = rw read r.falls }

    module _ (i : ℕ) (ei : i ≡ count_of (before n) (records w count area_bytes)) where
      -- the place among the records that the bytes stand for
      pub run-ranked : i ≡ count_of (before n) (in_area a (lists p R s))
      run-ranked = ei ∙ ap (count_of (before n)) read

      pub run-place : i ≤ count
      run-place = omega (arith, ei, count-le (before n) (records w count area_bytes), length-records w count area_bytes)

      module _ (k : ℕ) (ek : k ≡ run_from n (drop i (records w count area_bytes))) where
        within : i + k ≤ length (in_area a (lists p R s))
        within =
            let h : k ≤ count - i = rw ek (omega (arith, run-le n (drop i (records w count area_bytes)), length-drop i (records w count area_bytes), length-records w count area_bytes)) in
            omega (arith, run-place, counted)

        pub run-shrinks : Shrinks s (count_place a) (count_width a) from m w i k
        run-shrinks = laid-shrinks p R s (lists p R s) r.laid a from w m ef ew em i k within

        pub run-gone : (t : List ℕ) → t ≡ shrunk (count_place a) (count_width a) from m w i k s → RunOut p R a n s t
        unfolding without_run
        run-gone t et =
            let e = run-ranked in
            let f : k ≡ run_from n (drop i (in_area a (lists p R s))) = ek ∙ ap (λ (x : List (List ℕ)). run_from n (drop i x)) read in
            rw (← e, ← f, et) (laid-shrunk p R s (lists p R s) r.laid a from w m ef ew em i k within)

-- an area's numbers as the code hands them on
module _ {p : Profile} {R : ℕ} {a : Area} {n s : List ℕ} (r : RunIn p R a n s) {cat k from m w : ℕ} (x : AreaIs p R a cat k from m w) where
  pub run-counter : (k ≤ 8) × (cat + k ≤ length s)
  run-counter = rw (x.counted, x.bytes) (by_area a)
    where
      by_area : (a : Area) → (count_width a ≤ 8) × (count_place a + count_width a ≤ length s)
      by_area Schemas = (omega arith, omega (arith, laid-header p R s (lists p R s) r.laid))
      by_area Rows = (omega arith, omega (arith, laid-header p R s (lists p R s) r.laid))
      by_area Entries = (omega arith, omega (arith, laid-header p R s (lists p R s) r.laid))

  pub run-begins : from ≤ length s
  run-begins = area-start p R a n s r from w m x.start x.wide x.room

  pub run-wide : 25 ≤ w
  run-wide = omega (arith, x.wide, name-within p a)

  pub run-counted : {count : ℕ} → count ≡ count_at cat k s → count ≡ count_at (count_place a) (count_width a) s
  run-counted e = rw (← x.counted, ← x.bytes) e
