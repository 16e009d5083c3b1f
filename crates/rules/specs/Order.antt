-- The order of checks (document 01, "Numbers of refusal"), by cases: where one request can break two rules, a line's request breaks both and
-- the number that is asked first is told, with its AT. Behind a line stand the others that it breaks. No line changes the store.
-- Assumes nothing.
use Rattle.std.specs.Prelude.{ℕ, true, false, List, [], ◌∷◌, ◌++◌, map}
use Rattle.std.proofs.Math.Option.{Option, none, some}
use Rattle.values.specs.Value.{Value, null, float, text}
use Rattle.rules.specs.Refusal.{Refusal, UnknownTable, TableExists, EmptyTableName, NoColumns, KeyColumnOutOfRange, EmptyColumnName, KeyNullable, KeyNotUnique, KeyIndexed, NullableWithoutDefault, NullDefault, DefaultKind, UniqueNotIndexed, ReferenceNotIndexed, UnknownTarget, TargetKind, ColumnTwice, TablesFull, TooManyValues, MapCount, NoDefault, MapColumn, RowSize, KeyUndefined, KeyExists, WrongKind, NullNotAllowed, TargetMissing, ValueExists, RowReferenced, RowsFull, RowAbsent, KeysNotRising, NotIndexed, JournalFull, InsideBatch, BatchOutOfTurn}
use Rattle.rules.specs.Ascii.{ascii}
use Rattle.rules.specs.State.{Name, Column, Table}
use Rattle.rules.specs.Layout.{bit}
use Rattle.rules.specs.Request.{Pair, Request, Create, Drop, Insert, Update, Delete, Lookup, Open, Keep, Back, Reply, ok, no, carried_by, no_carrying}
use Rattle.rules.specs.Sheet.{Case, says, int, key_column, plan}

-- Two numbers without a line never meet in a sound store:
-- - 3 and 4: no stored table has an empty name. 5 and 7 to 18: there is no column. 6 and 8 to 10: there is no key column.
-- - In one column: 8 and 12 (nullable or not); 11, 12 and 13 (no default, NULL, another value); 8 to 10, and 14 or 15 (key or not); 16 and 17
--   (a target or none). A key column that breaks 11 breaks 8 too, so that 9 or 10 and 11 don't decide.
-- - 2 and 20, 2 and 32: no column references a table that is not stored. 2 and what is asked of a table's columns or rows.
-- - 26 and 27: no stored key is undefined. 27 or 33, and 34: of new rows, and of rows that keep their key.
-- - In one column of a row: NULL breaks 29 alone. 28 and 31: stored values have their column's kind. 30 and 31: `not-both` of proofs/Never.

-- a request beside its answer
abbrev pub Line : Type 0
Line = Request × Reply

abbrev pub told : ℕ → List Line → Case
told R ls = record { places = R; asked = map (λ (l : Line). l.0) ls; written = map (λ (l : Line). says l.1) ls }

-- flags as in a record: 1 nullable, 4 unique, 8 index
abbrev pub column : Name → ℕ → ℕ → Option Value → Option Name → Column
column n k f d r = record { name = n; kind = k; nullable = bit 1 f; default = d; unique = bit 4 f; index = bit 8 f; reference = r }

abbrev pub table : Name → ℕ → List Column → Table
table n k cs = record { name = n; key = k; columns = cs }

-- a name that no table has
abbrev pub lost : Name
lost = ascii "lost"

-- ---- create: 3; 4 to 6; each column in turn 7 to 17; 18; 19

-- `plan` and fifteen more: the catalog is full, so that every line breaks 19
abbrev pub catalog : List Line
catalog =
    (Create plan, ok 0)
    ∷ map (λ (n : ℕ). (Create (table (n ∷ []) 0 (key_column (ascii "id") ∷ [])), ok 0))
    (1 ∷ 2 ∷ 3 ∷ 4 ∷ 5 ∷ 6 ∷ 7 ∷ 8 ∷ 9 ∷ 10 ∷ 11 ∷ 12 ∷ 13 ∷ 14 ∷ 15 ∷ [])

-- a text column; one with no flag, default or reference; one that can be the key
abbrev pub texts : Name → ℕ → Option Value → Option Name → Column
texts n f d r = column n 4 f d r

abbrev pub plain : Name → Column
plain n = texts n 0 none none

abbrev pub keyed : Name → Column
keyed n = texts n 4 none none

-- no target, and one whose key is an integer
abbrev pub to_lost : Option Name
to_lost = some lost

abbrev pub to_plan : Option Name
to_plan = some (ascii "plan")

-- a new table with a column c at 1: the key column, and not. Column 2 breaks 7, column 3 breaks 18
abbrev pub as_key : Column → Request
as_key c = Create (table (ascii "new") 1 (plain (ascii "a") ∷ c ∷ plain [] ∷ plain (ascii "a") ∷ []))

abbrev pub beside : Column → Request
beside c = Create (table (ascii "new") 0 (keyed (ascii "a") ∷ c ∷ plain [] ∷ plain (ascii "a") ∷ []))

-- the first as key: 7 to 11, 16; then 7, 12, 14, 15, 17; then 7, 13; and 18
abbrev pub worst : List Column
worst = texts [] 9 none to_lost ∷ texts [] 4 (some null) to_plan ∷ texts [] 0 (some (int 1)) none ∷ []

abbrev pub creates : List Line
creates =
    (Create (table (ascii "plan") 0 []), no TableExists 0)  -- 5, 6
    ∷ (Create (table (ascii "plan") 3 worst), no TableExists 0)  -- 6
    ∷ (Create (table (ascii "plan") 0 worst), no TableExists 0)  -- 7 to 18
    ∷ (Create (table [] 0 []), no EmptyTableName 0)  -- 5, 6
    ∷ (Create (table [] 3 worst), no EmptyTableName 0)  -- 6
    ∷ (Create (table [] 0 worst), no EmptyTableName 0)  -- 7 to 18
    ∷ (Create (table (ascii "new") 0 []), no NoColumns 0)  -- 6
    ∷ (Create (table (ascii "new") 3 worst), no KeyColumnOutOfRange 0)  -- 7, 11 to 18
    -- from here on each breaks 7 in a later column, and 18
    ∷ (as_key (texts [] 9 none to_lost), no EmptyColumnName 1)  -- 8 to 11, 16
    ∷ (beside (texts [] 4 (some null) to_plan), no EmptyColumnName 1)  -- 12, 14, 15, 17
    ∷ (beside (texts [] 0 (some (int 1)) none), no EmptyColumnName 1)  -- 13
    ∷ (as_key (texts (ascii "c") 9 none to_lost), no KeyNullable 1)  -- 9, 10, 11, 16
    ∷ (as_key (texts (ascii "c") 1 (some (int 1)) to_plan), no KeyNullable 1)  -- 13, 17
    ∷ (as_key (texts (ascii "c") 8 (some null) to_lost), no KeyNotUnique 1)  -- 10, 12, 16
    ∷ (as_key (texts (ascii "c") 0 (some (int 1)) to_plan), no KeyNotUnique 1)  -- 13, 17
    ∷ (as_key (texts (ascii "c") 12 (some null) to_lost), no KeyIndexed 1)  -- 12, 16
    ∷ (as_key (texts (ascii "c") 12 (some (int 1)) to_plan), no KeyIndexed 1)  -- 13, 17
    ∷ (beside (texts (ascii "c") 5 none to_lost), no NullableWithoutDefault 1)  -- 14, 15, 16
    ∷ (beside (texts (ascii "c") 5 none to_plan), no NullableWithoutDefault 1)  -- 14, 15, 17
    ∷ (beside (texts (ascii "c") 4 (some null) to_lost), no NullDefault 1)  -- 14, 15, 16
    ∷ (beside (texts (ascii "c") 4 (some null) to_plan), no NullDefault 1)  -- 14, 15, 17
    ∷ (beside (texts (ascii "c") 4 (some (int 1)) to_lost), no DefaultKind 1)  -- 14, 15, 16
    ∷ (beside (texts (ascii "c") 4 (some (int 1)) to_plan), no DefaultKind 1)  -- 14, 15, 17
    ∷ (beside (texts (ascii "c") 4 none to_lost), no UniqueNotIndexed 1)  -- 15, 16
    ∷ (beside (texts (ascii "c") 4 none to_plan), no UniqueNotIndexed 1)  -- 15, 17
    ∷ (beside (texts (ascii "c") 0 none to_lost), no ReferenceNotIndexed 1)  -- 16
    ∷ (beside (texts (ascii "c") 0 none to_plan), no ReferenceNotIndexed 1)  -- 17
    ∷ (beside (texts (ascii "c") 8 none to_lost), no UnknownTarget 1)
    ∷ (beside (texts (ascii "c") 8 none to_plan), no TargetKind 1)
    -- AT of 18: the first column that repeats a name
    ∷ (Create (table (ascii "new") 0 (keyed (ascii "a") ∷ plain (ascii "b") ∷ plain (ascii "b") ∷ plain (ascii "a") ∷ [])), no ColumnTwice 2)
    ∷ (Create (table (ascii "new") 0 (keyed (ascii "a") ∷ [])), no TablesFull 0)
    ∷ []

-- ---- `pin` in a store of two row places, both used: pin 1 refers to pin 2, pin 2 to NULL

abbrev pub pins : Name
pins = ascii "pin"

-- a takes any integer, up a pin's key or NULL, u a number once, b a pin's key
abbrev pub pin : Table
pin =
    table pins 0
    (key_column (ascii "id")
    ∷ column (ascii "a") 2 0 none none
    ∷ column (ascii "up") 2 9 (some null) (some pins)
    ∷ column (ascii "u") 2 13 (some null) none
    ∷ column (ascii "b") 2 8 none (some pins)
    ∷ [])

abbrev pub pin_one : List Value
pin_one = int 1 ∷ int 0 ∷ int 2 ∷ int 1 ∷ int 1 ∷ []

abbrev pub stored : List Line
stored =
    (Create pin, ok 0) ∷ (Insert pins none ((int 2 ∷ int 0 ∷ null ∷ int 2 ∷ int 2 ∷ []) ∷ pin_one ∷ []), ok 2) ∷ []

-- of no column's kind; an undefined key above every integer
abbrev pub word : Value
word = text (ascii "w")

abbrev pub not_number : Value
not_number = float 0x7FF8000000000000

-- the cells of a, up, u and b: 28, 30, 31, 29; what is right for pin 3
abbrev pub bad : List Value
bad = word ∷ int 9 ∷ int 1 ∷ null ∷ []

abbrev pub good : List Value
good = int 0 ∷ null ∷ int 3 ∷ int 3 ∷ []

-- cells of a new pin, with what they are told: column by column, whatever a later one breaks
abbrev pub cells : List (List Value × Refusal)
cells =
    (bad, WrongKind)  -- 30, 31, 29
    ∷ (int 0 ∷ word ∷ int 1 ∷ null ∷ [], WrongKind)  -- 30 in the same column
    ∷ (null ∷ word ∷ int 1 ∷ null ∷ [], NullNotAllowed)  -- 28, 30, 31
    ∷ (int 0 ∷ int 9 ∷ int 1 ∷ word ∷ [], TargetMissing)  -- 31, 28
    ∷ (int 0 ∷ int 9 ∷ int 3 ∷ null ∷ [], TargetMissing)  -- 29
    ∷ (int 0 ∷ null ∷ int 1 ∷ word ∷ [], ValueExists)  -- 28
    ∷ (int 0 ∷ null ∷ int 1 ∷ null ∷ [], ValueExists)  -- 29
    ∷ (int 0 ∷ null ∷ int 1 ∷ int 9 ∷ [], ValueExists)  -- 30
    ∷ []

-- ---- insert: 2; 24; each row 21, 22, 23; then row by row 26, 27, each column 28 to 31, 33

-- six values for five columns
abbrev pub too_many : List Value
too_many = null ∷ null ∷ bad

-- a row v that can't be mapped, behind one that breaks 26 or 27 and all of 28 to 33
abbrev pub behind_bad : Option (List ℕ) → List Value → Reply → List Line
behind_bad m v a = map (λ (k : Value). (Insert pins m ((k ∷ bad) ∷ v ∷ []), a)) (null ∷ int 1 ∷ [])

abbrev pub inserts : List Line
inserts =
    (Insert lost (some (0 ∷ 0 ∷ [])) (too_many ∷ []), no UnknownTable 0)  -- 24
    ∷ (Insert pins (some (0 ∷ 0 ∷ [])) (too_many ∷ []), no MapColumn 0)  -- 21, 22, 23
    ∷ (Insert pins (some (1 ∷ [])) (too_many ∷ []), no TooManyValues 0)  -- 22, 23
    ∷ (Insert pins (some (1 ∷ [])) ((null ∷ null ∷ []) ∷ too_many ∷ []), no MapCount 0)  -- 23; 21 in a later row
    ∷ (Insert pins none ([] ∷ too_many ∷ []), no NoDefault 0)  -- 21 in a later row
    ∷ behind_bad (some (0 ∷ 1 ∷ 2 ∷ 3 ∷ 4 ∷ 5 ∷ [])) [] (no MapColumn 0)
    ++ behind_bad none too_many (no TooManyValues 1)
    ++ behind_bad (some (0 ∷ 1 ∷ 2 ∷ 3 ∷ 4 ∷ [])) [] (no MapCount 1)
    ++ behind_bad none [] (no NoDefault 1)
    ++ (Insert pins none ((null ∷ bad) ∷ []), no KeyUndefined 0)  -- 28 to 31, 33
    ∷ (Insert pins none ((int 1 ∷ bad) ∷ []), no KeyExists 0)  -- 28 to 31, 33
    ∷ map (λ (c : List Value × Refusal). (Insert pins none ((int 3 ∷ c.0) ∷ []), no c.1 0)) cells  -- 33
    ++ (Insert pins none ((int 3 ∷ good) ∷ []), no RowsFull 0)
    ∷ []

-- ---- update: 2; 35; 25; pair by pair: 32 and then as an insert, or 26, each column 28 to 31, 34

abbrev pub pair : Value → List Value → Pair
pair k v = record { old = k; row = v }

-- pairs that break all of 28 to 31, and 26, 34; 34; 32, 27; 32, 33
abbrev pub bad_pairs : List Pair
bad_pairs = pair not_number (not_number ∷ bad) ∷ pair (int 3) (int 3 ∷ bad) ∷ pair (int 2) (int 1 ∷ bad) ∷ pair null (int 3 ∷ bad) ∷ []

-- a pair behind one that is accepted and changes nothing
abbrev pub second : Value → List Value → Reply → Line
second k v a = (Update pins (pair (int 1) pin_one ∷ pair k v ∷ []), a)

-- 32, with the pin that refers to the old key
abbrev pub referred_by : ℕ → ℕ → Reply
referred_by key at = no_carrying RowReferenced at (carried_by pins 0 (int key))

abbrev pub updates : List Line
updates =
    (Update lost (pair (int 2) [] ∷ pair (int 1) [] ∷ []), no UnknownTable 0)  -- 35
    ∷ (Update pins (pair (int 1) [] ∷ pair (int 3) [] ∷ pair (int 2) [] ∷ pair (int 1) [] ∷ []), no KeysNotRising 2)  -- 25
    ∷ map (λ (q : Pair). (Update pins (q ∷ pair null [] ∷ []), no KeysNotRising 1)) bad_pairs
    ++ map (λ (q : Pair). (Update pins (q ∷ pair word [] ∷ []), no RowSize 1)) bad_pairs
    ++ second not_number (not_number ∷ bad) (no KeyUndefined 1)  -- 28 to 31, 34
    ∷ map (λ (c : List Value × Refusal). second (int 3) (int 3 ∷ c.0) (no c.1 1)) cells  -- 34
    ++ second (int 3) (int 3 ∷ good) (no RowAbsent 1)
    ∷ second (int 2) (null ∷ bad) (referred_by 1 1)  -- 26, 28 to 31
    ∷ second (int 2) (int 1 ∷ bad) (referred_by 1 1)  -- 27 to 31
    ∷ (Update pins (pair null (int 3 ∷ bad) ∷ []), referred_by 2 0)  -- 28 to 31, 33
    ∷ []

-- ---- the others: 2; 37

abbrev pub others : List Line
others =
    (Drop lost false, no UnknownTable 0)
    ∷ (Delete lost (null ∷ []), no UnknownTable 0)
    ∷ (Lookup lost 0 (null ∷ []), no UnknownTable 0)  -- 37
    ∷ map (λ (i : ℕ). (Lookup pins i (null ∷ []), no NotIndexed 0)) (0 ∷ 1 ∷ 5 ∷ [])

abbrev pub orders : List Case
orders = told 1 (catalog ++ creates) ∷ told 2 (stored ++ inserts ++ updates ++ others) ∷ []

-- ---- inside a batch (document 02, T-06): 44 before 2 and 3, 45; with no journal place left 43 behind all that is asked of a row, behind 32 on a delete

-- a journal of one place, which the first update uses; what is refused there breaks 43 too
abbrev pub in_batch : List Line
in_batch =
    (Keep, no BatchOutOfTurn 0)
    ∷ (Back, no BatchOutOfTurn 0)
    ∷ (Open, ok 0)
    ∷ (Update pins (pair (int 1) pin_one ∷ []), ok 1)
    ∷ (Open, no BatchOutOfTurn 0)
    ∷ (Create pin, no InsideBatch 0)  -- 3
    ∷ (Create (table [] 0 []), no InsideBatch 0)  -- 4, 5, 6
    ∷ (Drop lost false, no InsideBatch 0)  -- 2
    ∷ (Drop lost true, no InsideBatch 0)
    ∷ inserts
    ++ (Update pins (pair (int 2) [] ∷ pair (int 1) [] ∷ []), no KeysNotRising 1)  -- 25
    ∷ (Update pins (pair (int 1) [] ∷ []), no RowSize 0)
    ∷ map (λ (c : List Value × Refusal). (Update pins (pair (int 3) (int 3 ∷ c.0) ∷ []), no c.1 0)) cells  -- 34
    ++ (Update pins (pair (int 3) (int 3 ∷ good) ∷ []), no RowAbsent 0)
    ∷ (Update pins (pair (int 2) (int 3 ∷ good) ∷ []), referred_by 1 0)
    ∷ (Update pins (pair (int 1) pin_one ∷ []), no JournalFull 0)
    ∷ (Delete pins (int 2 ∷ []), referred_by 1 0)
    ∷ (Delete pins (int 1 ∷ int 2 ∷ []), no JournalFull 0)
    ∷ (Delete pins (int 9 ∷ []), ok 1)
    ∷ (Back, ok 0)
    ∷ []

abbrev pub batch_order : Case
batch_order = told 2 (stored ++ in_batch)
