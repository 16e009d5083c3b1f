-- A row in flight: the first of eight cells. Assumes nothing.
use Rattle.std.specs.Prelude.{◌≡◌, ℕ, ◌≤◌, ◌<◌, true, false, List, [], map, length, take}
use Rattle.std.proofs.Math.Option.{none, some}
use Rattle.values.specs.Basic.{nth, or_default}
use Rattle.values.specs.Value.{Value, null, same, normalised}
use Rattle.values.specs.declared.value.Cell.{Cell}
use Rattle.values.specs.Meaning.{held, ProperCell}
use Rattle.areas.specs.Sorted.{All}
use Rattle.rules.specs.declared.profile.Profile.{Profile}
use Rattle.rules.specs.State as S
use Rattle.rules.specs.State.{Table, table_named, has_row, key_of, row_of}
use Rattle.rules.specs.Layout.{parse, unknown}
use Rattle.rules.specs.Step.{added, replaced, apply}
use Rattle.rules.specs.Sound.{laid}
use Rattle.laid.specs.declared.row.Row.{Row}

-- the cells that it holds
abbrev pub in_flight : Row → List Cell
in_flight r = take r.count r.cells

-- their values
unfoldable pub cells_of : List Cell → List Value
cells_of r = map held r

pub record ProperRow (r : List Cell) : Type 0 where
  pub most : length r ≤ 8
  pub proper : All ProperCell r

-- the row at place i of a buffer
abbrev pub no_row : S.Row
no_row = record { table = []; key = null; cells = [] }

-- a row of which only the table and the key are looked at
abbrev pub keyed : List ℕ → Value → S.Row
keyed n k = record { table = n; key = k; cells = [] }

unfoldable pub row_in : Profile → ℕ → List ℕ → ℕ → S.Row
row_in p R s i = or_default (nth (parse p R s).rows i) no_row

-- the table at place t of a buffer
unfoldable pub table_in : Profile → ℕ → List ℕ → ℕ → Table
table_in p R s t = or_default (nth (parse p R s).tables t) (unknown [])

-- its column j
abbrev pub no_column : S.Column
no_column = record { name = []; kind = 0; nullable = false; default = none; unique = false; index = false; reference = none }

unfoldable pub column_in : Profile → ℕ → List ℕ → ℕ → ℕ → S.Column
column_in p R s t j = or_default (nth (table_in p R s t).columns j) no_column

-- `column` is the key column of the table named n, if that is stored
pub record KeyColumn (p : Profile) (R : ℕ) (s : List ℕ) (n : List ℕ) (column : ℕ) : Type 0 where
  pub inside : column < p.columns
  pub is : (t : Table) → table_named (parse p R s).tables n ≡ some t → column ≡ t.key

-- a row that can be added to the table at place t: none has its key, and the store stays laid out
pub record Addable (p : Profile) (R : ℕ) (s : List ℕ) (t : ℕ) (v : List Value) : Type 0 where
  pub known : t < length (parse p R s).tables
  pub new : has_row (parse p R s).rows (table_in p R s t).name (key_of (table_in p R s t) v) ≡ false
  pub laid : laid p R (apply (added (row_of (table_in p R s t) v)) (parse p R s)) ≡ true

-- the row at place i is of the table at place t
pub record RowOf (p : Profile) (R : ℕ) (s : List ℕ) (t i : ℕ) : Type 0 where
  pub known : t < length (parse p R s).tables
  pub stored : i < length (parse p R s).rows
  pub of : (row_in p R s i).table ≡ (table_in p R s t).name

-- a row that can take the place of the one at place i: the same key, and the store stays laid out
pub record Replaceable (p : Profile) (R : ℕ) (s : List ℕ) (t i : ℕ) (v : List Value) : Type 0 where
  pub row : RowOf p R s t i
  pub same : same (row_in p R s i).key (key_of (table_in p R s t) v) ≡ true
  pub laid : laid p R (apply (replaced (row_in p R s i) (row_of (table_in p R s t) v)) (parse p R s)) ≡ true

-- a value as reading gives it: no minus zero, one NaN
abbrev pub NormalCell : Cell → Type 0
NormalCell c = normalised (held c) ≡ held c

-- a full row for the table at place t
pub record FullRow (p : Profile) (R : ℕ) (s : List ℕ) (t : ℕ) (r : List Cell) : Type 0 where
  pub known : t < length (parse p R s).tables
  pub proper : ProperRow r
  pub full : length r ≡ length (table_in p R s t).columns
  pub normal : All NormalCell r
