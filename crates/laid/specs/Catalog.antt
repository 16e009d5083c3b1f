-- The catalog in a lent buffer, and what the code's answers about it say. Assumes nothing.
use Rattle.std.specs.Prelude.{◌≡◌, Bool, true, cond, ℕ, zero, suc, List, [], ◌∷◌, length, drop}
use Rattle.std.proofs.Math.Option.{Option, none, some, map}
use Rattle.std.proofs.Math.Dec.{compare_is_eq}
use Rattle.values.specs.Basic.{is_lt, nth}
use Rattle.areas.specs.Sorted.{All, Sorted, count_of, Falls, remove_run}
use Rattle.areas.specs.Search.{cmp_named}
use Rattle.values.specs.declared.value.Text.{Text}
use Rattle.values.specs.Meaning.{text_bytes, Packed, option_of}
use Rattle.rules.specs.declared.profile.Profile.{Profile}
use Rattle.rules.specs.Profile.{schema_width}
use Rattle.rules.specs.State.{Table, cmp_table}
use Rattle.rules.specs.Layout.{lists, Laid, Area, count_place, count_width, area_at, record_width, area_places, in_area, with_area, table_record, read_table, parse}
use Rattle.rules.specs.Sound.{good_table}
use Rattle.laid.specs.Store.{Coded, Inside}
use Rattle.std.specs.declared.option.Option.{Option as Held}

-- the bytes are a table's record
pub record TableBytes (p : Profile) (rec : List ℕ) : Type 0 where
  pub coded : Coded p
  pub long : length rec ≡ schema_width p
  pub whole : table_record p (read_table p rec) ≡ rec
  pub good : good_table p (read_table p rec) ≡ true

-- the schemas of a buffer are tables' records, sorted by name
pub record Catalog (p : Profile) (R : ℕ) (s : List ℕ) : Type 0 where
  pub inside : Inside p R s
  pub records : All (TableBytes p) (lists p R s).schemas
  pub sorted : Sorted cmp_table (parse p R s).tables

-- ---- places

module _ {A : Type 0} where
  -- the place of the first element that passes
  unfoldable pub place_of : (A → Bool) → List A → Option ℕ
  place_of q [] = none
  place_of q (x ∷ xs) = cond (q x) (some zero) (map suc (place_of q xs))

abbrev pub found_at : Held ℕ → Option ℕ
found_at = option_of

-- ---- runs

-- how many records at the front start with the name
unfoldable pub run_from : List ℕ → List (List ℕ) → ℕ
run_from n [] = 0
run_from n (r ∷ rs) = cond (compare_is_eq (cmp_named r n)) (suc (run_from n rs)) 0

-- a record's name is before it
abbrev pub before : List ℕ → List ℕ → Bool
before n r = is_lt (cmp_named r n)

-- the run of records that start with the name taken out of sorted ones
unfoldable pub without_run : List ℕ → List (List ℕ) → List (List ℕ)
without_run n rs = let i : ℕ = count_of (before n) rs in remove_run i (run_from n (drop i rs)) rs

-- a laid-out store in an area of which records with earlier names come first, and the store without the run in that area
pub record RunIn (p : Profile) (R : ℕ) (a : Area) (n : List ℕ) (s : List ℕ) : Type 0 where
  pub coded : Coded p
  pub laid : Laid p R s (lists p R s)
  pub falls : Falls (before n) (in_area a (lists p R s))

abbrev pub RunOut : Profile → ℕ → Area → List ℕ → List ℕ → List ℕ → Type 0
RunOut p R a n s t = Laid p R t (with_area a (without_run n (in_area a (lists p R s))) (lists p R s))

-- an area in numbers: where its records are counted and in how many bytes, where they start, how many have room, how wide they are
pub record AreaIs (p : Profile) (R : ℕ) (a : Area) (cat k from places width : ℕ) : Type 0 where
  pub counted : cat ≡ count_place a
  pub bytes : k ≡ count_width a
  pub start : from ≡ area_at p R a
  pub room : places ≡ area_places p R a
  pub wide : width ≡ record_width p a

-- the name of the table at place i
pub record TableName (p : Profile) (R : ℕ) (s : List ℕ) (i : ℕ) (t : Text) : Type 0 where
  pub is : some (text_bytes t) ≡ map (λ (x : Table). x.name) (nth (parse p R s).tables i)
  pub proper : Packed t
