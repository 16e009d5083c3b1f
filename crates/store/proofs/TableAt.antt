-- The table that is read from the record at a place of the catalog, and what the code reads of it: its name, its key column, and the key's cell
-- of a row. Assumes nothing.
use mathlib.Core.Path.{◌≡◌, sym, ap, ◌∙◌}
use mathlib.Core.Option.{some, map}
use Prim.Native.Nat.{ℕ, ◌≤◌, ◌<◌}
use native.Mathlib.Omega.{arith}
use mathlib.Core.List.{List, []}
use lib.ListN.{length, get_or}
use Rattle.values.specs.Basic.{nth}
use Rattle.values.specs.Cell.{name_width, read_name}
use Rattle.areas.specs.Counted.{count_at}
use Rattle.values.specs.Meaning.{text_bytes, Packed, held, Proper}
use Rattle.values.specs.declared.value.Cell.{Cell}
use Rattle.values.specs.declared.value.Text.{Text}
use Rattle.values.specs.declared.value.Value.TheVariants.{Null}
use Rattle.rules.specs.declared.profile.Profile.{Profile}
use Rattle.rules.specs.State.{Name, Table, key_of}
use Rattle.rules.specs.Layout.{lists, Schemas, tables_count, read_table, parse}
use Rattle.laid.specs.Catalog.{TableBytes, Catalog, TableName}
use Rattle.laid.specs.Row.{cells_of, table_in, KeyColumn, FullRow}
use Rattle.laid.specs.Store.{Inside, LaidStore}
use Rattle.laid.proofs.Inside.{area-count}
use Rattle.laid.proofs.Columns.{columns_of, record-least}
use Rattle.laid.proofs.RowFacts.{start-least, start-name}
use Rattle.laid.proofs.Searching.{tables-count, table_at, table-bytes-at}
use Rattle.laid.proofs.Stores.{held-inside}
use Rattle.checks.proofs.Fitting.{key-within-columns, key-of-table, count-columns, cell-proper, key-is}

module _ (p : Profile) (R : ℕ) (s : List ℕ) (i : ℕ) where
  -- a place among those that are counted, or among the tables, is one among the records
  pub among-records : i < count_at tables_count 1 s → i < length (lists p R s).schemas
  among-records h = omega (arith, area-count p R s Schemas)

  pub table-among : i < length (parse p R s).tables → i < length (lists p R s).schemas
  table-among h = among-records (omega (arith, tables-count p R s))

  module _ (l : i < length (lists p R s).schemas) (rec : List ℕ) (er : rec ≡ get_or (lists p R s).schemas i []) where
    pub table-nth : nth (parse p R s).tables i ≡ some (read_table p rec)
    table-nth = rw er (table_at p R s i l)

    pub name-read : (t : Text) → text_bytes t ≡ read_name rec → Packed t → TableName p R s i t
    unfolding read_table
    name-read t e k = record { is = ap some e ∙ sym (ap (map (λ (x : Table). x.name)) table-nth); proper = k }

    module _ (k : Catalog p R s) where
      pub record-bytes : TableBytes p rec
      record-bytes = rw er (table-bytes-at p R s i l k)

      pub record-named : name_width ≤ length rec
      record-named = omega (arith, record-least p rec record-bytes)

-- ---- the table at place t of a store, as the code reads it

-- what stands past the end of a row
abbrev pub blank : Cell
blank = record { value = Null }

module _ {p : Profile} {R : ℕ} {s : List ℕ} (b : LaidStore p R s) (t : ℕ) (h : t < length (parse p R s).tables) where
  pub record-asked : Inside p R s × (t < length (lists p R s).schemas)
  record-asked = (held-inside p R s b, table-among p R s t h)

  module _ {rec : List ℕ} (er : rec ≡ get_or (lists p R s).schemas t []) where
    pub name-fits : name_width ≤ length rec
    name-fits = omega (arith, start-least p R s b t h rec er)

    pub key_fits : 26 ≤ length rec
    key_fits = omega (arith, start-least p R s b t h rec er)

    pub its-name : {n : Name} → n ≡ read_name rec → n ≡ (table_in p R s t).name
    its-name en = en ∙ start-name p R s b t h rec er

    module _ {at : ℕ} (ea : at ≡ get_or rec name_width 0) where
      pub its-key : {n : Name} → n ≡ read_name rec → KeyColumn p R s n at
      its-key {n} en = key-of-table p R s t b h rec er n en at ea

      -- the key's cell of a row that fills the table
      module _ {row : List Cell} (f : FullRow p R s t row) where
        within : at < length (columns_of p rec)
        within = key-within-columns p R s t b h rec er at ea

        pub key-few : at < length row
        key-few = omega (arith, within, count-columns p R s t b h rec er row f)

        pub key-proper : Proper (get_or row at blank).value
        key-proper = cell-proper p R s t b h rec er row f at within blank

        pub key-held : held (get_or row at blank) ≡ key_of (table_in p R s t) (cells_of row)
        key-held = key-is p R s t b h rec er row f at ea blank
