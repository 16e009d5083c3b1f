-- A journal in a lent buffer, and what is promised of its bytes. Assumes nothing.
use Rattle.std.specs.Prelude.{◌≡◌, Bool, true, false, not, cond, List, [], ◌∷◌, ◌++◌, map, ℕ, ◌-◌, ◌≤◌, eqb, leb, length, get_or, replicate}
use Rattle.std.proofs.Math.Option
use Rattle.std.proofs.Math.Option.{none}
use Rattle.values.specs.Basic.{maybe}
use Rattle.values.specs.Area.{with_record}
use Rattle.areas.specs.Records.{Wide}
use Rattle.areas.specs.Counted.{count_at, grown, Grows}
use Rattle.rules.specs.declared.profile.Profile.{Profile}
use Rattle.rules.specs.Profile.{Known}
use Rattle.rules.specs.Journal.{Event, Journal, lacks}
use Rattle.rules.specs.Pages.{journal_most, used_at, journal_header, event_width, event_record, journal_image, journal_places}
use Rattle.laid.specs.Store.{Coded}

-- a profile whose rows fit a row in flight
pub record Paging (p : Profile) : Type 0 where
  pub coded : Coded p
  pub most : p.columns ≤ 8

-- the places in use
abbrev pub in_use : Journal → List Event
in_use x = maybe x.batch [] (λ es. es)

-- the bytes are those of a journal
pub record Journaled (p : Profile) (x : Journal) (j : List ℕ) : Type 0 where
  pub paging : Paging p
  pub most : x.places ≤ journal_most
  pub few : length (in_use x) ≤ x.places
  pub wide : Wide (event_width p) (map (event_record p) (in_use x))
  pub bytes : j ≡ journal_image p x

-- of some journal, and one that has a place more
pub record Paged (p : Profile) (j : List ℕ) : Type 0 where
  pub journal : Journal
  pub holds : Journaled p journal j

pub record Roomy (p : Profile) (j : List ℕ) : Type 0 where
  pub journal : Journal
  pub holds : Journaled p journal j
  pub room : lacks journal 1 ≡ false

abbrev pub closed_of : ℕ → Journal
closed_of J = record { places = J; batch = none }

-- one place more, while a batch is open
abbrev pub noting : Event → Journal → Journal
noting e x = record { places = x.places; batch = Option.map (λ (es : List Event). es ++ (e ∷ [])) x.batch }

-- ---- as bytes

-- byte 0 says that a batch is open
abbrev pub opens : List ℕ → Bool
opens j = not (eqb (get_or j 0 0) 0)

-- no batch is open, or the open one has n more places
unfoldable pub has_places : Profile → ℕ → List ℕ → Bool
has_places p n j = cond (opens j) (leb n (journal_places p j - count_at used_at 2 j)) true

-- with a place more, of zeros; of bytes r while a batch is open
unfoldable pub with_zeros : Profile → List ℕ → List ℕ
with_zeros p j = grown used_at 2 journal_header (journal_places p j) (count_at used_at 2 j) (replicate (event_width p) 0) j

unfoldable pub with_place : Profile → List ℕ → List ℕ → List ℕ
with_place p r j = cond (opens j) (with_record journal_header (count_at used_at 2 j) r (with_zeros p j)) j

-- an event is noted, while a batch is open
pub record Noted (p : Profile) (e : Event) (j j₁ : List ℕ) : Type 0 where
  pub wide : length (event_record p e) ≡ event_width p
  pub bytes : j₁ ≡ with_place p (event_record p e) j

pub record Spacious (p : Profile) (j : List ℕ) : Type 0 where
  pub known : Known p
  pub long : journal_header ≤ length j
  pub grows : Grows j used_at 2 journal_header (journal_places p j) (count_at used_at 2 j) (event_width p)

pub record Opened (p : Profile) (j : List ℕ) (i : ℕ) (j₁ : List ℕ) : Type 0 where
  pub place : i ≡ count_at used_at 2 j
  pub bytes : j₁ ≡ with_zeros p j
