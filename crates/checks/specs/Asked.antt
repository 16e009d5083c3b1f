-- What the code asks about a row, part by part: the index entries of a value, and whether the row is there or has a place. Assumes nothing.
use Rattle.std.specs.Prelude.{◌≡◌, ℕ, ◌+◌, Bool, true, false, not, ◌&&◌, List, [], ◌∷◌, eqb, leb, length, get_or, drop}
use Rattle.std.proofs.Math.Option.{Option, map}
use Rattle.values.specs.Basic.{nth, or_default, maybe}
use Rattle.values.specs.Value.{Value, is_null, same}
use Rattle.values.specs.Cell.{name_width, read_name, read_value}
use Rattle.rules.specs.Refusal.{Refusal}
use Rattle.rules.specs.Refusal.{WrongKind, NullNotAllowed, RowAbsent, RowsFull}
use Rattle.rules.specs.State.{Name, same_name, Column, Table, Row}
use Rattle.rules.specs.Index.{Entry, columns_of}
use Rattle.rules.specs.Schema.{first, other_kind}

-- a table of which only the name and the key column are looked at
abbrev pub table_with : Name → ℕ → Table
table_with n k = record { name = n; key = k; columns = [] }

-- ---- index entries

-- column i of the table named n is indexed
abbrev pub indexed_at : List Table → Name → ℕ → Bool
indexed_at ts n i = or_default (map (λ (c : Column). c.index) (nth (columns_of ts n) i)) false

-- a unique column other than the key is indexed
abbrev pub UniqueIndexed : List Table → Name → ℕ → ℕ → Bool → Type 0
UniqueIndexed ts n at i unique = unique ≡ true → eqb i at ≡ false → indexed_at ts n i ≡ true

-- an entry of this table, column and value
abbrev pub of_value : Name → ℕ → Value → Entry → Bool
of_value n i v e = same_name e.table n && (eqb e.column i && same e.value v)

-- an entry's record of this table, column and value
unfoldable pub bytes_of_value : List ℕ → Name → ℕ → Value → Bool
bytes_of_value rec n i v = same_name (read_name rec) n && (eqb (get_or rec name_width 0) i && same (read_value (drop (name_width + 1) rec)) v)

-- it is not of the row that an update ignores
abbrev pub of_other : Bool → Value → Entry → Bool
of_other update key e = not (update && same e.key key)

-- the entry at place j is of this table, column and value, and of another row
unfoldable pub other_at : List Entry → ℕ → Name → ℕ → Value → Bool → Value → Bool
other_at es j n i v update key = maybe (nth es j) false (λ e. of_value n i v e && of_other update key e)

-- ---- faults

-- 28, 29
unfoldable pub kind_fault : Column → Value → Option Refusal
kind_fault c v =
    first
    ((WrongKind, other_kind c.kind v)  -- 28
    ∷ (NullNotAllowed, is_null v && not c.nullable)  -- 29
    ∷ [])

-- 34, 33, where `stored` tells whether a row has the key
unfoldable pub place_fault : ℕ → List Row → Bool → Bool → Option Refusal
place_fault R rs stored update =
    first
    ((RowAbsent, update && not stored)  -- 34
    ∷ (RowsFull, not update && leb R (length rs))  -- 33
    ∷ [])
