-- Demand 3 of document 01 over a store's bytes b with R row places: the index is exact, unique columns are unique, references name stored
-- rows. That other tables are left as they were is `Untouched` of Frame.antt. Assumes nothing.
use Rattle.std.specs.Prelude.{◌≡◌, ℕ, ◌*◌, true, false, List, map, length, drop}
use Rattle.std.proofs.Math.Option.{some}
use Rattle.values.specs.Basic.{nth}
use Rattle.values.specs.Value.{is_null, is_undefined, same}
use Rattle.areas.specs.Records.{filled}
use Rattle.areas.specs.Counted.{count_at}
use Rattle.areas.specs.Sorted.{In}
use Rattle.rules.specs.declared.profile.Profile.{Profile}
use Rattle.rules.specs.Profile.{entry_width, entries_at}
use Rattle.rules.specs.State.{Name, Column, Table, Row, State, has_row, cell_at}
use Rattle.rules.specs.Index.{index_of}
use Rattle.rules.specs.Layout.{entries_count, entry_record, parse}

-- the index records rebuilt from schemas and rows, and zeros in what is unused
abbrev pub rebuilt : Profile → ℕ → State → List ℕ
rebuilt p R s = filled (entry_width p) (p.entries * R) (map (entry_record p) (index_of s.tables s.rows))

-- two places that hold rows of a table with an equal defined value in a unique column are the same place
abbrev pub UniquePlaces : State → Type 0
UniquePlaces s =
    (t : Table) (i : ℕ) (c : Column) → In t s.tables → nth t.columns i ≡ some c → c.unique ≡ true
    → (j k : ℕ) (r r' : Row) → nth s.rows j ≡ some r → nth s.rows k ≡ some r' → r.table ≡ t.name → r'.table ≡ t.name
    → is_undefined (cell_at r.cells i) ≡ false → same (cell_at r.cells i) (cell_at r'.cells i) ≡ true → j ≡ k

-- every reference that is not NULL names a stored row
abbrev pub ReferencesStored : State → Type 0
ReferencesStored s =
    (t : Table) (i : ℕ) (c : Column) (n : Name) → In t s.tables → nth t.columns i ≡ some c → c.reference ≡ some n
    → (r : Row) → In r s.rows → r.table ≡ t.name
    → is_null (cell_at r.cells i) ≡ false → has_row s.rows n (cell_at r.cells i) ≡ true

pub record Demand3 (p : Profile) (R : ℕ) (b : List ℕ) : Type 0 where
  -- the index area is, byte for byte, the one rebuilt from the schemas and rows that stand in b; the header counts its entries
  pub index : drop (entries_at p R) b ≡ rebuilt p R (parse p R b)
  pub counted : count_at entries_count 4 b ≡ length (index_of (parse p R b).tables (parse p R b).rows)
  pub unique : UniquePlaces (parse p R b)
  pub references : ReferencesStored (parse p R b)
