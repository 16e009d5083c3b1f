-- The places of a lent journal as the code asks for them: which numbers fit, a place at whose key nothing stood, and one place after the other.
-- Assumes nothing.
use Prim.Native.Nat.{ℕ, ◌+◌, ◌-◌, ◌*◌, ◌≤◌, ◌<◌}
use native.Mathlib.Nat.{mul-le-mul, suc-mul}
use native.Mathlib.Numerals.{add-one}
use native.Mathlib.Omega.{arith}
use Rattle.std.specs.declared.option.Option.{Option as Found}
use Rattle.std.specs.declared.option.Option.TheVariants.{None, Some}
use Rattle.std.specs.Option.{is_some as is_held}
use mathlib.Core.Path.{◌≡◌, refl, sym, ap, ◌∙◌}
use mathlib.Core.Bool.{Bool, true}
use mathlib.Core.List.{List, [], ◌∷◌}
use mathlib.Core.Option.{Option, none, some}
use lib.Dec.{eqb}
use lib.ListN.{length, get_or, take, drop, length-drop}
use lib.Seq.{drop-drop, length-take-le}
use Rattle.values.specs.Basic.{is_some}
use Rattle.values.specs.Bytes.{zeros}
use Rattle.values.specs.Cell.{read_name, is_name_cell, is_cell}
use Rattle.values.specs.Area.{record_at}
use Rattle.areas.specs.Counted.{count_at}
use Rattle.areas.proofs.Records.{length-records, get_or-records}
use Rattle.rules.specs.declared.profile.Profile.{Profile}
use Rattle.rules.specs.Profile.{row_width, Known}
use Rattle.rules.specs.State.{Name, Table, is_named, table_named}
use Rattle.rules.specs.Layout.{unknown}
use Rattle.rules.specs.Sound.{all}
use Rattle.rules.specs.Pages.{used_at, event_width, journal_places, right_journal}
use Rattle.laid.specs.Catalog.{place_of, found_at}
use Rattle.laid.proofs.Columns.{rest}
use Rattle.laid.proofs.Finding.{nth-get_or, place_found, place-missing}
use Rattle.journal.specs.Turn.{page_at}
use Rattle.sound.specs.Journal.{is_absent, pages_in}
use Rattle.sound.proofs.Walks.{every_next, every_past}
use Rattle.sound.proofs.JournalVerdict.{used-inside, right-journal, journal_long}

-- ---- numbers that fit

pub width-most : (p : Profile) → Known p → event_width p ≤ 1050
unfolding event_width row_width
width-most p k = let q : p.columns * p.cell ≤ 16 * 64 = mul-le-mul k.columns k.cell-most in omega arith

pub places-fit : (p : Profile) → Known p → (n w : ℕ) → w ≡ event_width p → n ≤ 8192 → n * w ≤ 8601600
places-fit p k n w e l =
    let m : w ≤ 1050 = omega (arith, width-most p k, e) in
    let q : n * w ≤ 8192 * 1050 = mul-le-mul l m in
    omega arith

-- ---- a place at whose key nothing stood

pub stored_is : (ts : List Table) (n : Name) → is_some (table_named ts n) ≡ is_some (place_of (is_named n) ts)
stored_is ts n = on (place_of (is_named n) ts) refl
  where
    on : (o : Option ℕ) → place_of (is_named n) ts ≡ o → is_some (table_named ts n) ≡ is_some o
    on none f = ap is_some (place-missing (is_named n) ts f)
    on (some t) f =
        let q = place_found (is_named n) ts t f in
        ap is_some (sym q.1 ∙ nth-get_or ts t (unknown []) q.0)

-- with the slices that the code takes
pub absent_is : (ts : List Table) (r : List ℕ) (o : Bool) → o ≡ is_some (place_of (is_named (read_name (take (length r - 1) (drop 1 r)))) ts) → is_absent ts r
    ≡ all (eqb 1 (get_or r 0 0) ∷ is_name_cell (take 25 (drop 1 r)) ∷ is_cell (take 26 (drop 26 r)) ∷ zeros (take (length r - 52) (drop 52 r)) ∷ o ∷ [])
unfolding is_absent
absent_is ts r o e = rw (rest 52 r, e, rest 1 r, stored_is ts (read_name (drop 1 r))) refl

-- what a search by name found
pub found_some : (f : Found ℕ) (o : Option ℕ) → found_at f ≡ o → is_held f ≡ is_some o
found_some None o e = ap is_some e
found_some (Some i) o e = ap is_some e

-- ---- one place after the other

module _ (p : Profile) (j : List ℕ) where
  pub pages_many : length (pages_in p j) ≡ count_at used_at 2 j
  unfolding pages_in
  pages_many = length-records (event_width p) (count_at used_at 2 j) (drop 3 j)

  module _ (i : ℕ) (h : i < count_at used_at 2 j) where
    pub page_is : get_or (pages_in p j) i [] ≡ page_at p j i
    unfolding pages_in page_at record_at
    page_is = get_or-records (event_width p) (count_at used_at 2 j) i (drop 3 j) h ∙ ap (take (event_width p)) (drop-drop (i * event_width p) 3 j)

    pub page_inside : right_journal p j ≡ true → count_at used_at 2 j ≤ journal_places p j → 3 + i * event_width p + event_width p ≤ length j
    page_inside r l =
        let e : (i + 1) * event_width p ≡ i * event_width p + event_width p = ap (λ (m : ℕ). m * event_width p) (add-one i) ∙ suc-mul i (event_width p) in
        omega (arith, used-inside p j (i + 1) (event_width p) refl r (omega arith), e)

    pub page_wide : right_journal p j ≡ true → count_at used_at 2 j ≤ journal_places p j → length (page_at p j i) ≡ event_width p
    unfolding page_at record_at
    page_wide r l = length-take-le (event_width p) (drop (3 + i * event_width p) j) (simp length-drop (omega (arith, page_inside r l)))

pub ruleset pages = (journal_long, pages_many, page_is, page_wide, every_next, every_past)

pub ruleset header = (rest, journal_long)
