-- Places turned one after the other: a batch taken back as far as the store has room, and put forth again. Assumes nothing.
use Rattle.std.specs.Prelude.{◌≡◌, Bool, true, false, List, ◌++◌, ℕ, ◌≤◌, leb, eqb, length, take, drop}
use Rattle.rules.specs.declared.profile.Profile.{Profile}
use Rattle.rules.specs.State.{Row}
use Rattle.rules.specs.Journal.{Event, absent, stood, put, stand, unwound, turned, roomy}
use Rattle.rules.specs.Layout.{parse}
use Rattle.rules.specs.Pages.{journal_places}
use Rattle.journal.specs.Turn.{event_at, events_in, Batch}

-- the rows of a store, and the places in use of the journal beside it
abbrev pub rows_of : Profile → ℕ → List ℕ → List Row
rows_of p R s = (parse p R s).rows

abbrev pub events_of : Profile → ℕ → List ℕ → List ℕ → List Event
events_of p R s j = events_in p (parse p R s).tables j

abbrev pub is_stood : Event → Bool
is_stood (absent n k) = false
is_stood (stood r) = true

-- a row stands at the key of place i
abbrev pub taken : Profile → ℕ → List ℕ → List ℕ → ℕ → Bool
taken p R s j i = is_stood (stand (event_at p (parse p R s).tables j i) (rows_of p R s))

-- the store has room for what stood there
abbrev pub fits : Profile → ℕ → List ℕ → List ℕ → ℕ → Bool
fits p R s j i = leb (length (put (event_at p (parse p R s).tables j i) (rows_of p R s))) R

-- store and journal s₀, j₀ are taken back from place i on: the rows are those of before, and the places from i on hold what they took the place of
pub record Halfway (p : Profile) (R : ℕ) (s₀ j₀ : List ℕ) (i : ℕ) (s j : List ℕ) : Type 0 where
  pub before : Batch p R s₀ j₀
  pub inside : i ≤ length (events_of p R s₀ j₀)
  pub room : roomy R (drop i (events_of p R s₀ j₀)) (rows_of p R s₀) ≡ true
  pub batch : Batch p R s j
  pub state : parse p R s ≡ record { tables = (parse p R s₀).tables; rows = unwound (drop i (events_of p R s₀ j₀)) (rows_of p R s₀) }
  pub events : events_in p (parse p R s₀).tables j ≡ take i (events_of p R s₀ j₀) ++ turned (drop i (events_of p R s₀ j₀)) (rows_of p R s₀)
  pub places : journal_places p j ≡ journal_places p j₀

-- as far as there is room
pub record Unwinds (p : Profile) (R : ℕ) (s j : List ℕ) (r : ℕ) (s₁ j₁ : List ℕ) : Type 0 where
  pub half : Halfway p R s j r s₁ j₁
  pub all : roomy R (events_of p R s j) (rows_of p R s) ≡ eqb r 0

-- of some buffers that were taken back; and whichever they were, they are there again
pub record Rewindable (p : Profile) (R : ℕ) (s j : List ℕ) (i : ℕ) : Type 0 where
  pub store : List ℕ
  pub journal : List ℕ
  pub half : Halfway p R store journal i s j

pub record Rewinds (p : Profile) (R : ℕ) (s j : List ℕ) (i : ℕ) (s₁ j₁ : List ℕ) : Type 0 where
  pub forth : (s₀ j₀ : List ℕ) → Halfway p R s₀ j₀ i s j → (s₁ ≡ s₀) × (j₁ ≡ j₀)
