-- Where an insert or an update that goes row by row or pair by pair stops, why, and what of it stays (document 01, "Numbers of refusal",
-- "Store afterwards"); when GONE is 1. Assumes nothing.
use Rattle.std.specs.Prelude.{ℕ, ◌+◌, ◌≡◌, true, false, List, [], ◌∷◌, ◌++◌, map, length}
use Rattle.std.proofs.Math.Option.{Option, none, some}
use Rattle.values.specs.Basic.{◌or_else◌}
use Rattle.values.specs.Value.{Value, same}
use Rattle.rules.specs.declared.profile.Profile.{Profile}
use Rattle.rules.specs.Refusal.{Refusal, RowReferenced}
use Rattle.rules.specs.State.{Name, Table, Row, table_named, row_with, key_of}
use Rattle.rules.specs.Journal.{Books}
use Rattle.rules.specs.Request.{Pair, Request, Update, entered_pair, no, Carried, no_carrying, with_gone}
use Rattle.rules.specs.Rows.{fills_fault, full_row, rising_fault, size_fault, row_referenced}
use Rattle.rules.specs.Step.{Change, removed, changed, removals, journal_fault, put_fault, Outcome, did, refused, is_accepted, at_place, in_turn, insert_row, pair}

-- ---- an item's turn

module _ {A : Type 0} (f : Books → A → Outcome) where
  -- items that are accepted one after the other, with their changes, and then an item's turn
  pub record Turn (s : Books) (i : ℕ) (xs : List A) : Type 0 where
    pub before : List A
    pub item : A
    pub behind : List A
    pub earlier : List Change
    pub split : xs ≡ before ++ (item ∷ behind)
    pub through : in_turn f s i before ≡ did earlier (i + length before)

  -- what is done with the item, and what a run that stops there answers
  abbrev pub outcome_at : {s : Books} {i : ℕ} {xs : List A} → Turn s i xs → Outcome
  outcome_at {s} t = f (changed t.earlier s) t.item

  abbrev pub stop_at : {s : Books} {i : ℕ} {xs : List A} → Turn s i xs → Outcome
  stop_at {s} {i} t =
      record {
        changes = t.earlier ++ (f (changed t.earlier s) t.item).changes;
        lines = [];
        reply = at_place (i + length t.before) (f (changed t.earlier s) t.item).reply;
      }

-- ---- an insert: the rows before AT, each accepted, stay

-- o is what an insert answers that was refused at a row
pub record InsertStops (p : Profile) (R : ℕ) (s : Books) (n : Name) (m : Option (List ℕ)) (rows : List (List Value)) (o : Outcome)
    : Type 0 where
  pub table : Table
  pub found : table_named s.store.tables n ≡ some table
  pub filled : fills_fault table m 0 rows ≡ none
  pub turn : Turn (insert_row p R table) s 0 (map (full_row table m) rows)
  pub kind : Refusal
  pub fault : put_fault p R table (changed turn.earlier s) false turn.item ≡ some kind
  pub is : o ≡ record { changes = turn.earlier; lines = []; reply = no kind (length turn.before) }

-- ---- an update: the pairs before AT, each accepted, stay; GONE tells whether the refused pair's old row went

-- why a pair is refused, and what of it stays
pub data PairStops (p : Profile) (R : ℕ) (t : Table) (s : Books) (q : Pair) (o : Outcome) : Type 0 where
  keeps-key : (k : Refusal) → same q.old (key_of t q.row) ≡ true → put_fault p R t s true q.row ≡ some k
      → o ≡ refused (no k 0) → PairStops p R t s q o
  old-referenced : (x : Carried) → same q.old (key_of t q.row) ≡ false
      → row_referenced s.store.rows t.name (q.old ∷ []) s.store.tables ≡ some x
      → o ≡ refused (no_carrying RowReferenced 0 x) → PairStops p R t s q o
  no_place : (k : Refusal) → same q.old (key_of t q.row) ≡ false
      → row_referenced s.store.rows t.name (q.old ∷ []) s.store.tables ≡ none
      → journal_fault s.journal (length (removals s.store.rows t.name (q.old ∷ []))) ≡ some k → o ≡ refused (no k 0) → PairStops p R t s q o
  no_old : (k : Refusal) → same q.old (key_of t q.row) ≡ false
      → row_referenced s.store.rows t.name (q.old ∷ []) s.store.tables ≡ none → row_with s.store.rows t.name q.old ≡ none
      → put_fault p R t s false q.row ≡ some k → o ≡ refused (no k 0) → PairStops p R t s q o
  old-gone : (k : Refusal) (r : Row) → same q.old (key_of t q.row) ≡ false
      → row_referenced s.store.rows t.name (q.old ∷ []) s.store.tables ≡ none → row_with s.store.rows t.name q.old ≡ some r
      → journal_fault s.journal 1 ≡ none → put_fault p R t (changed (removed r ∷ []) s) false q.row ≡ some k
      → o ≡ record { changes = removed r ∷ []; lines = []; reply = with_gone true (no k 0) } → PairStops p R t s q o

-- o is what an update answers that was refused at a pair
pub record UpdateStops (p : Profile) (R : ℕ) (s : Books) (n : Name) (qs : List Pair) (o : Outcome) : Type 0 where
  pub table : Table
  pub found : table_named s.store.tables n ≡ some table
  pub rising : (rising_fault 0 qs or_else size_fault table 0 qs) ≡ none
  pub turn : Turn (pair p R table) s 0 qs
  pub stop : is_accepted (outcome_at (pair p R table) turn).reply ≡ false
  pub is : o ≡ stop_at (pair p R table) turn

-- ---- GONE is 1 exactly when a pair was refused after its old row was removed

-- another key, the old row stored and free, and the new row refused
pub record Gone (p : Profile) (R : ℕ) (t : Table) (s : Books) (q : Pair) : Type 0 where
  pub other : same q.old (key_of t q.row) ≡ false
  pub free : row_referenced s.store.rows t.name (q.old ∷ []) s.store.tables ≡ none
  pub row : Row
  pub stored : row_with s.store.rows t.name q.old ≡ some row
  pub place : journal_fault s.journal 1 ≡ none
  pub kind : Refusal
  pub fault : put_fault p R t (changed (removed row ∷ []) s) false q.row ≡ some kind

-- q is an update, and one of its pairs is such when its turn comes
pub record GoneAt (p : Profile) (R : ℕ) (s : Books) (q : Request) : Type 0 where
  pub name : Name
  pub pairs : List Pair
  pub asked : q ≡ Update name pairs
  pub table : Table
  pub found : table_named s.store.tables name ≡ some table
  pub rising : (rising_fault 0 (map entered_pair pairs) or_else size_fault table 0 (map entered_pair pairs)) ≡ none
  pub turn : Turn (pair p R table) s 0 (map entered_pair pairs)
  pub gone : Gone p R table (changed turn.earlier s) turn.item
