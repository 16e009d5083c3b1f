-- A batch and its journal (document 02, T-06): a place for each row added, replaced or removed, with what stood at its key before. Taking back puts that
-- there again, from the last place to the first. Assumes nothing.
use Rattle.std.specs.Prelude.{ℕ, ◌+◌, Bool, true, false, not, ◌&&◌, List, [], ◌∷◌, ◌++◌, leb, ltb, length}
use Rattle.std.proofs.Math.Option.{Option, none, map}
use Rattle.values.specs.Basic.{keep, maybe, is_some, insert_by}
use Rattle.values.specs.Value.{Value}
use Rattle.rules.specs.State.{Name, Row, State, empty, cmp_row, is_row, row_with}

-- what stood at a key: nothing, or a row
pub data Event : Type 0 where
  absent : Name → Value → Event
  stood : Row → Event

-- what a search for a key finds
abbrev pub finding : Name → Value → Option Row → Event
finding n k o = maybe o (absent n k) stood

-- what stands at its key now
unfoldable pub stand : Event → List Row → Event
stand (absent n k) rs = finding n k (row_with rs n k)
stand (stood r) rs = finding r.table r.key (row_with rs r.table r.key)

-- it stands there again
unfoldable pub put : Event → List Row → List Row
put (absent n k) rs = keep (λ r. not (is_row n k r)) rs
put (stood r) rs = insert_by cmp_row r rs

-- ---- taken back: from the last place to the first

unfoldable pub unwound : List Event → List Row → List Row
unwound [] rs = rs
unwound (e ∷ es) rs = put e (unwound es rs)

-- the places on the way back, each with what it took the place of, so that the way can be gone forth again
unfoldable pub turned : List Event → List Row → List Event
turned [] rs = []
turned (e ∷ es) rs = stand e (unwound es rs) ∷ turned es rs

-- forth again: from the first place to the last
unfoldable pub rewound : List Event → List Row → List Row
rewound [] rs = rs
rewound (e ∷ es) rs = rewound es (put e rs)

-- on the way no more rows than R
unfoldable pub roomy : ℕ → List Event → List Row → Bool
roomy R [] rs = true
roomy R (e ∷ es) rs = leb (length (unwound (e ∷ es) rs)) R && roomy R es rs

-- ---- the journal: how many places it has and, while a batch is open, those in use

pub record Journal : Type 0 where
  pub places : ℕ
  pub batch : Option (List Event)

-- with this many places; a batch is open or not
abbrev pub batch_of : ℕ → Option (List Event) → Journal
batch_of n o = record { places = n; batch = o }

abbrev pub is_open : Journal → Bool
is_open j = is_some j.batch

-- the places in use with some behind them, while a batch is open
abbrev pub with_notes : Journal → List Event → Option (List Event)
with_notes j fs = map (λ (es : List Event). es ++ fs) j.batch

-- 43: a batch is open and has not n more places
unfoldable pub lacks : Journal → ℕ → Bool
lacks j n = maybe j.batch false (λ es. ltb j.places (length es + n))

-- the store and its journal
pub record Books : Type 0 where
  pub store : State
  pub journal : Journal

-- a fresh store, and a journal of J places with no batch open
abbrev pub fresh : ℕ → Books
fresh J = record { store = empty; journal = batch_of J none }
