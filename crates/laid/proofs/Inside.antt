-- What a buffer of the right length with counts within their areas gives: its records lie inside, and are read by place. Assumes nothing.
use mathlib.Core.Path.{◌≡◌, refl, sym, ap, ◌∙◌}
use Prim.Native.Nat.{ℕ, ◌+◌, ◌*◌, ◌≤◌, ◌<◌}
use native.Mathlib.Nat.{mul-le-mul, le_refl}
use native.Mathlib.Omega.{arith}
use mathlib.Core.List.{List, []}
use lib.ListN.{length, take, drop, get_or, length-drop}
use lib.Seq.{drop-drop}
use Rattle.values.specs.Area.{record_at}
use Rattle.values.specs.Cell.{name_width}
use Rattle.areas.specs.Records.{Wide, records}
use Rattle.areas.specs.Counted.{count_at}
use Rattle.areas.proofs.Records.{length-records, get_or-records, wide-records, wide_at}
use Rattle.rules.specs.declared.profile.Profile.{Profile}
use Rattle.rules.specs.Profile.{header_width, schema_width, row_width, entry_width}
use Rattle.rules.specs.Layout.{lists, Area, Schemas, Rows, Entries, count_place, count_width, area_at, record_width, area_places, in_area}
use Rattle.rules.proofs.Widths.{header-within, area-within, place-within}
use Rattle.laid.specs.Store.{Inside}

-- a bound on a product, at the code's own number for a width
pub times-most : {w v : ℕ} (n m : ℕ) → w ≡ v → n * v ≤ m → n * w ≤ m
times-most n m e h = rw e h

-- each record has room for the name that it starts with
pub name-within : (p : Profile) (a : Area) → name_width ≤ record_width p a
unfolding schema_width row_width entry_width
name-within p Schemas = omega arith
name-within p Rows = omega arith
name-within p Entries = omega arith

module _ (p : Profile) (R : ℕ) (s : List ℕ) where
  -- an area's count, as any bytes have it
  abbrev pub count_of_area : Area → ℕ
  count_of_area a = count_at (count_place a) (count_width a) s

  -- the records of an area, as they are read
  pub area-lists : (a : Area) → in_area a (lists p R s) ≡ records (record_width p a) (count_of_area a) (drop (area_at p R a) s)
  unfolding lists
  area-lists Schemas = refl
  area-lists Rows = refl
  area-lists Entries = refl

  pub area-count : (a : Area) → length (in_area a (lists p R s)) ≡ count_of_area a
  area-count a = ap length (area-lists a) ∙ length-records (record_width p a) (count_of_area a) (drop (area_at p R a) s)

  module _ (i : Inside p R s) where
    pub inside-header : header_width ≤ length s
    inside-header = omega (arith, i.long, header-within p R)

    pub count-within : (a : Area) → count_of_area a ≤ area_places p R a
    count-within Schemas = i.tables-le
    count-within Rows = i.rows-le
    count-within Entries = i.entries-le

    pub area-start : (a : Area) (from : ℕ) → from ≡ area_at p R a → from ≤ length s
    area-start a from e = omega (arith, e, i.long, area-within p R a)

    -- an area's records lie behind its start
    pub records-within : (a : Area) → count_of_area a * record_width p a ≤ length (drop (area_at p R a) s)
    records-within a =
        let h : count_of_area a * record_width p a ≤ area_places p R a * record_width p a = mul-le-mul (count-within a) (le_refl (record_width p a)) in
        simp length-drop (omega (arith, i.long, area-within p R a))

    pub area-wide : (a : Area) → Wide (record_width p a) (in_area a (lists p R s))
    area-wide a = rw (area-lists a) (wide-records (record_width p a) (count_of_area a) (drop (area_at p R a) s) (records-within a))

    module _ (a : Area) (from w n : ℕ) (ef : from ≡ area_at p R a) (ew : w ≡ record_width p a) (h : n < length (in_area a (lists p R s))) where
      pub record-within : from + n * w + w ≤ length s
      record-within = rw (ef, ew, i.long) (place-within p R a n (omega (arith, area-count a, count-within a)))

      pub record-read : record_at from w n s ≡ get_or (in_area a (lists p R s)) n []
      unfolding record_at
      record-read =
          rw (ef, ew, area-lists a)
          (sym (get_or-records (record_width p a) (count_of_area a) n (drop (area_at p R a) s) (omega (arith, area-count a))
          ∙ ap (take (record_width p a)) (drop-drop (n * record_width p a) (area_at p R a) s)))

      pub record-wide : length (get_or (in_area a (lists p R s)) n []) ≡ w
      record-wide = rw ew (wide_at (record_width p a) n (in_area a (lists p R s)) (area-wide a) h)
