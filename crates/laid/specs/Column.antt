-- A column as the code reads it. Assumes nothing.
use Rattle.std.specs.Prelude.{◌≡◌, ℕ, ◌+◌, ◌*◌, List, Bool, take, drop, IfSome}
use Rattle.std.proofs.Math.Option.{map}
use Rattle.values.specs.Basic.{any}
use Rattle.values.specs.Cell.{name_width}
use Rattle.values.specs.Meaning.{text_bytes, Packed, held, ProperCell, option_of}
use Rattle.rules.specs.declared.profile.Profile.{Profile}
use Rattle.rules.specs.Profile.{column_width}
use Rattle.rules.specs.State as S
use Rattle.rules.specs.Layout.{read_column, read_table}
use Rattle.laid.specs.declared.catalog.Column.{Column}

-- what it means
abbrev pub column_of : Column → S.Column
column_of c =
    record {
      name = text_bytes c.name;
      kind = c.kind;
      nullable = c.nullable;
      default = map held (option_of c.default);
      unique = c.unique;
      index = c.index;
      reference = map text_bytes (option_of c.reference);
    }

pub record ProperColumn (c : Column) : Type 0 where
  pub name : Packed c.name
  pub default : IfSome c.default ProperCell
  pub reference : IfSome c.reference Packed

-- column i of a table record
unfoldable pub column_at : Profile → List ℕ → ℕ → S.Column
column_at p rec i = read_column p (drop (name_width + 2 + i * column_width p) rec)

pub record ColumnRead (p : Profile) (rec : List ℕ) (i : ℕ) (c : Column) : Type 0 where
  pub is : column_of c ≡ column_at p rec i
  pub proper : ProperColumn c

-- a column before i has the name of column i
unfoldable pub name_before : Profile → List ℕ → ℕ → Bool
name_before p rec i = any (λ (c : S.Column). S.same_name (column_at p rec i).name c.name) (take i (read_table p rec).columns)
