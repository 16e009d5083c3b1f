-- What each request does to the store and answers (document 01, "Requests", "Numbers of refusal"), and a sequence of requests.
-- Assumes nothing.
use Rattle.std.specs.Prelude.{ℕ, suc, Bool, true, false, not, ◌&&◌, cond, List, [], ◌∷◌, ◌++◌, map, eqb, leb, length}
use Rattle.std.proofs.Math.Option
use Rattle.std.proofs.Math.Option.{Option, none, some}
use Rattle.std.proofs.Math.Dec.{compare_is_eq}
use Rattle.values.specs.Basic.{is_nil, keep, nth, is_some, ◌or_else◌, or_default, insert_by, maybe}
use Rattle.values.specs.Value.{Value, text, same, among}
use Rattle.rules.specs.declared.profile.Profile.{Profile}
use Rattle.rules.specs.Refusal.{Refusal, JournalFull, InsideBatch, BatchOutOfTurn, UnknownTable, TableExists, TablesFull, TableReferenced, MapColumn, RowReferenced, NotIndexed, number_of}
use Rattle.rules.specs.Journal.{Event, absent, stood, unwound, Journal, batch_of, with_notes, is_open, lacks, Books}
use Rattle.rules.specs.State.{Name, Column, Table, Row, State, cmp_table, cmp_row, is_named, table_named, of_table, row_with, rows_of, cell_at, key_of, row_of}
use Rattle.rules.specs.Request.{Pair, Request, Create, Drop, Insert, Update, Delete, Get, Lookup, Scan, Names, Open, Keep, Back, entered, Reply, ok, no, no_carrying, with_gone}
use Rattle.rules.specs.Schema.{first, Fault, at, schema_fault}
use Rattle.rules.specs.Rows.{bad_map, fills_fault, full_row, rising_fault, size_fault, row_fault, table_referenced, row_referenced}

-- ---- changes: what a write yields. The store afterwards is their fold

pub data Change : Type 0 where
  created dropped : Table → Change
  added removed : Row → Change
  replaced : Row → Row → Change
  -- of a batch: opened, kept, and taken back to rows as they were
  opened kept : Change
  taken_back : List Row → Change

abbrev pub with_row : Row → List Row → List Row
with_row r rs = insert_by cmp_row r rs

abbrev pub without_row : Row → List Row → List Row
without_row r rs = keep (λ x. not (compare_is_eq (cmp_row x r))) rs

unfoldable pub apply : Change → State → State
apply (created t) s = record { tables = insert_by cmp_table t s.tables; rows = s.rows }
apply (dropped t) s = record { tables = keep (λ x. not (is_named t.name x)) s.tables; rows = s.rows }
apply (added r) s = record { tables = s.tables; rows = with_row r s.rows }
apply (removed r) s = record { tables = s.tables; rows = without_row r s.rows }
apply (replaced old new) s = record { tables = s.tables; rows = with_row new s.rows }
apply opened s = s
apply kept s = s
apply (taken_back rs) s = record { tables = s.tables; rows = rs }

unfoldable pub apply_all : List Change → State → State
apply_all [] s = s
apply_all (c ∷ cs) s = apply_all cs (apply c s)

-- ---- the journal: while a batch is open, each row added, replaced or removed uses a place

-- what stood at the key before the change
abbrev pub noted : Change → List Event
noted (created t) = []
noted (dropped t) = []
noted (added r) = absent r.table r.key ∷ []
noted (removed r) = stood r ∷ []
noted (replaced old new) = stood old ∷ []
noted opened = []
noted kept = []
noted (taken_back rs) = []

unfoldable pub note : Change → Journal → Journal
note (created t) j = j
note (dropped t) j = j
note (added r) j = batch_of j.places (with_notes j (noted (added r)))
note (removed r) j = batch_of j.places (with_notes j (noted (removed r)))
note (replaced old new) j = batch_of j.places (with_notes j (noted (replaced old new)))
note opened j = batch_of j.places (some [])
note kept j = batch_of j.places none
note (taken_back rs) j = batch_of j.places none

unfoldable pub note_all : List Change → Journal → Journal
note_all [] j = j
note_all (c ∷ cs) j = note_all cs (note c j)

-- the store and the journal after some changes
abbrev pub changed : List Change → Books → Books
changed cs b = record { store = apply_all cs b.store; journal = note_all cs b.journal }

-- ---- outcomes

pub record Outcome : Type 0 where
  pub changes : List Change
  pub lines : List (List Value)
  pub reply : Reply

abbrev pub did : List Change → ℕ → Outcome
did cs n = record { changes = cs; lines = []; reply = ok n }

-- a refusal that changes nothing
abbrev pub refused : Reply → Outcome
refused r = record { changes = []; lines = []; reply = r }

abbrev pub shows : List (List Value) → Outcome
shows ls = record { changes = []; lines = ls; reply = ok (length ls) }

-- a fault refuses; without one the outcome stands
abbrev pub settle : Fault → Outcome → Outcome
settle f o = maybe f o (λ x. refused (no x.0 x.1))

abbrev pub is_accepted : Reply → Bool
is_accepted r = eqb (number_of r.kind) 0

-- the number of the row or pair that was refused
abbrev pub at_place : ℕ → Reply → Reply
at_place i r =
    record { kind = r.kind; count = r.count; at = i; gone = r.gone; table = r.table; column = r.column; key = r.key }

-- the outcome of the row or pair with this number: where it is refused, the answer says the number
abbrev pub numbered : ℕ → Outcome → Outcome
numbered i o =
    record { changes = o.changes; lines = o.lines; reply = cond (is_accepted o.reply) o.reply (at_place i o.reply) }

-- where a row or pair was accepted, its changes and then the rest; else it is the answer, and earlier ones stay
unfoldable pub onward : Outcome → ℕ → (List Change → Outcome) → Outcome
onward o i rest =
    cond (is_accepted o.reply)
    (let r : Outcome = rest o.changes in record { changes = o.changes ++ r.changes; lines = []; reply = r.reply })
    (record { changes = o.changes; lines = []; reply = at_place i o.reply })

-- row by row, pair by pair: each against the store as the earlier ones left it
unfoldable pub in_turn : {A : Type 0} → (Books → A → Outcome) → Books → ℕ → List A → Outcome
in_turn f b i [] = did [] i
in_turn f b i (x ∷ xs) = onward (f b x) i (λ cs. in_turn f (changed cs b) (suc i) xs)

-- 2: unknown table
abbrev pub on_table : State → Name → (Table → Outcome) → Outcome
on_table s n f = maybe (table_named s.tables n) (refused (no UnknownTable 0)) f

-- 43: n journal places are needed
unfoldable pub journal_fault : Journal → ℕ → Option Refusal
journal_fault j n = first ((JournalFull, lacks j n) ∷ [])

-- why a row is not put in: the row's own checks, then 43
abbrev pub put_fault : Profile → ℕ → Table → Books → Bool → List Value → Option Refusal
put_fault p R t b update v = row_fault p R b.store t update v or_else journal_fault b.journal 1

-- 44: inside a batch
abbrev pub outside : Books → Outcome → Outcome
outside b o = cond (is_open b.journal) (refused (no InsideBatch 0)) o

-- ---- 1 create: 3; 4 to 18; 19

unfoldable pub create_fault : Profile → State → Table → Fault
create_fault p s t =
    at 0 (first ((TableExists, is_some (table_named s.tables t.name)) ∷ []))  -- 3
    or_else schema_fault s.tables t
    or_else at 0 (first ((TablesFull, leb p.tables (length s.tables)) ∷ []))  -- 19

unfoldable pub create : Profile → State → Table → Outcome
create p s t = settle (create_fault p s t) (did (created t ∷ []) 0)

-- ---- 2 drop: 2 unless if-exists, 20; its rows go with it

unfoldable pub drop : State → Name → Bool → Outcome
drop s n ifExists =
    maybe (table_named s.tables n)
    (cond ifExists (did [] 0) (refused (no UnknownTable 0)))
    (λ t.
    maybe (table_referenced n s.tables)
    (did (map removed (rows_of s.rows n) ++ (dropped t ∷ [])) 1)
    (λ x. refused (no_carrying TableReferenced 0 x)))

-- ---- 3 insert: 2; 24; each row 21, 22, 23; then row by row

unfoldable pub insert_row : Profile → ℕ → Table → Books → List Value → Outcome
insert_row p R t b v =
    maybe (put_fault p R t b false v) (did (added (row_of t v) ∷ []) 1) (λ k. refused (no k 0))

unfoldable pub insert : Profile → ℕ → Books → Name → Option (List ℕ) → List (List Value) → Outcome
insert p R b n m rows =
    on_table b.store n
    (λ t.
    settle
    (at 0 (first ((MapColumn, bad_map (length t.columns) m) ∷ [])) or_else fills_fault t m 0 rows)
    (in_turn (insert_row p R t) b 0 (map (full_row t m) rows)))

-- ---- 5 delete: 2; 32, 43, tested before anything is removed

-- each key's row in turn; an absent or repeated key removes nothing
unfoldable pub removals : List Row → Name → List Value → List Change
removals rs n [] = []
removals rs n (k ∷ ks) = maybe (row_with rs n k) (removals rs n ks) (λ r. removed r ∷ removals (without_row r rs) n ks)

-- 43: all places before anything is removed
abbrev pub where_noted : Books → List Change → Outcome → Outcome
where_noted b cs o = maybe (journal_fault b.journal (length cs)) o (λ k. refused (no k 0))

unfoldable pub delete : Books → Name → List Value → Outcome
delete b n ks =
    on_table b.store n
    (λ t.
    maybe (row_referenced b.store.rows n ks b.store.tables)
    (where_noted b (removals b.store.rows n ks) (did (removals b.store.rows n ks) (length ks)))
    (λ x. refused (no_carrying RowReferenced 0 x)))

-- ---- 4 update: 2; 35; 25; pair by pair

-- the row takes the place of the stored one; without one it is refused by 34
unfoldable pub same_key : Profile → ℕ → Table → Books → List Value → Outcome
same_key p R t b v =
    maybe (put_fault p R t b true v)
    (maybe (row_with b.store.rows t.name (key_of t v)) (did [] 1) (λ old. did (replaced old (row_of t v) ∷ []) 1))
    (λ k. refused (no k 0))

-- an insert after the old key's row went: GONE where there was one
unfoldable pub reinsert : Profile → ℕ → Table → Books → List Change → List Value → Outcome
reinsert p R t b cs v =
    maybe (put_fault p R t b false v)
    (did (cs ++ (added (row_of t v) ∷ [])) 1)
    (λ k. record { changes = cs; lines = []; reply = with_gone (not (is_nil cs)) (no k 0) })

-- a delete of the old key, then an insert
unfoldable pub other_key : Profile → ℕ → Table → Books → Pair → Outcome
other_key p R t b q =
    maybe (row_referenced b.store.rows t.name (q.old ∷ []) b.store.tables)
    (let cs : List Change = removals b.store.rows t.name (q.old ∷ []) in where_noted b cs (reinsert p R t (changed cs b) cs q.row))
    (λ x. refused (no_carrying RowReferenced 0 x))

unfoldable pub pair : Profile → ℕ → Table → Books → Pair → Outcome
pair p R t b q = cond (same q.old (key_of t q.row)) (same_key p R t b q.row) (other_key p R t b q)

unfoldable pub update : Profile → ℕ → Books → Name → List Pair → Outcome
update p R b n qs = on_table b.store n (λ t. settle (rising_fault 0 qs or_else size_fault t 0 qs) (in_turn (pair p R t) b 0 qs))

-- ---- 6 get, 8 scan: an unknown table has no rows; 7 lookup: 2; 37; 9 list

-- in the order asked, repeats kept
unfoldable pub found : List Row → Name → List Value → List (List Value)
found rs n [] = []
found rs n (k ∷ ks) = maybe (row_with rs n k) (found rs n ks) (λ r. r.cells ∷ found rs n ks)

-- an indexed column is in range and, by rule 10, not the key
abbrev pub is_indexed : Table → ℕ → Bool
is_indexed t i = or_default (Option.map (λ (c : Column). c.index) (nth t.columns i)) false

-- keys, rising, each once
abbrev pub looked_up : List Row → Name → ℕ → List Value → List (List Value)
looked_up rs n i vs = map (λ (r : Row). r.key ∷ []) (keep (λ r. of_table n r && among (cell_at r.cells i) vs) rs)

unfoldable pub lookup : State → Name → ℕ → List Value → Outcome
lookup s n i vs = on_table s n (λ t. settle (at 0 (first ((NotIndexed, not (is_indexed t i)) ∷ []))) (shows (looked_up s.rows n i vs)))

-- ---- 12 open, 13 keep, 14 take back: 45

abbrev pub out_of_turn : Outcome
out_of_turn = refused (no BatchOutOfTurn 0)

unfoldable pub open_batch : Books → Outcome
open_batch b = cond (is_open b.journal) out_of_turn (did (opened ∷ []) 0)

unfoldable pub keep_batch : Books → Outcome
keep_batch b = cond (is_open b.journal) (did (kept ∷ []) 0) out_of_turn

unfoldable pub take_back : Books → Outcome
take_back b = maybe b.journal.batch out_of_turn (λ es. did (taken_back (unwound es b.store.rows) ∷ []) 0)

-- ---- the step

unfoldable pub act : Profile → ℕ → Books → Request → Outcome
act p R b (Create t) = outside b (create p b.store t)
act p R b (Drop n ifExists) = outside b (drop b.store n ifExists)
act p R b (Insert n m rows) = insert p R b n m rows
act p R b (Update n qs) = update p R b n qs
act p R b (Delete n ks) = delete b n ks
act p R b (Get n ks) = shows (found b.store.rows n ks)
act p R b (Lookup n i vs) = lookup b.store n i vs
act p R b (Scan n) = shows (map (λ (r : Row). r.cells) (rows_of b.store.rows n))
act p R b Names = shows (map (λ (t : Table). text t.name ∷ []) b.store.tables)
act p R b Open = open_batch b
act p R b Keep = keep_batch b
act p R b Back = take_back b

unfoldable pub step : Profile → ℕ → Books → Request → Outcome
step p R b q = act p R b (entered q)

unfoldable pub after : Profile → ℕ → Books → Request → Books
after p R b q = changed (step p R b q).changes b

-- ---- a sequence: what is written for each, and the store at its end

pub record Written : Type 0 where
  pub lines : List (List Value)
  pub reply : Reply

unfoldable pub run : Profile → ℕ → Books → List Request → List Written
run p R b [] = []
run p R b (q ∷ qs) =
    let o : Outcome = step p R b q in
    record { lines = o.lines; reply = o.reply } ∷ run p R (changed o.changes b) qs

unfoldable pub run_after : Profile → ℕ → Books → List Request → Books
run_after p R b [] = b
run_after p R b (q ∷ qs) = run_after p R (after p R b q) qs
