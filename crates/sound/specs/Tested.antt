-- The soundness test in the parts that the code asks it in: the layout, the schemas, the rows, references, and the index with uniqueness.
-- Assumes nothing.
use Rattle.std.specs.Prelude.{◌≡◌, ℕ, suc, ◌+◌, ◌*◌, ◌<◌, Bool, true, false, not, ◌&&◌, cond, List, [], ◌∷◌, eqb, leb, length, get_or, take, drop}
use Rattle.std.proofs.Math.Option.{some}
use Rattle.std.proofs.Math.Dec.{compare_is_eq}
use Rattle.values.specs.Basic.{is_lt, any, maybe, nth}
use Rattle.values.specs.Bytes.{num, leqb, zeros}
use Rattle.values.specs.Value.{Value, same, is_null, is_undefined}
use Rattle.values.specs.Cell.{is_cell}
use Rattle.areas.specs.Records.{records}
use Rattle.values.specs.Area.{part}
use Rattle.areas.specs.Counted.{count_at}
use Rattle.areas.specs.Sorted.{count_of}
use Rattle.rules.specs.declared.profile.Profile.{Profile}
use Rattle.rules.specs.Profile.{store_length}
use Rattle.rules.specs.State.{Name, same_name, Column, Table, Row, cmp_table, cmp_row, table_named, key_of}
use Rattle.rules.specs.Schema.{other_kind}
use Rattle.rules.specs.Index.{Entry, cmp_entry, entry_at, entries_of}
use Rattle.rules.specs.Layout.{Area, Schemas, Rows, Entries, count_place, count_width, area_at, record_width, area_places, tables_count, rows_count, entries_count, lists, column_record, read_column, table_record, read_table, row_record, read_row, read_cells, entry_record, read_entry, parse}
use Rattle.rules.specs.Sound.{all, every, sorted, good_column, good_table, faultless, every_cell, of_its_table, has_table, good_cells, right_kinds, key_defined}
use Rattle.laid.specs.Catalog.{TableBytes, Catalog}
use Rattle.laid.specs.Entered.{entries_in}

-- ---- the layout

-- the length and the version are told, and the counts are within their areas
unfoldable pub headed : Profile → ℕ → List ℕ → Bool
headed p R s =
    all
    (eqb (num 0 (take 4 s)) (store_length p R)
    ∷ eqb (get_or s 4 0) p.version
    ∷ leb (count_at tables_count 1 s) p.tables
    ∷ leb (count_at rows_count 2 s) R
    ∷ leb (count_at entries_count 4 s) (p.entries * R)
    ∷ [])

-- an area's bytes behind its records are zero
unfoldable pub spare : Profile → ℕ → List ℕ → Area → Bool
spare p R s a =
    zeros
    (drop (count_at (count_place a) (count_width a) s * record_width p a)
    (part (area_at p R a) (area_at p R a + area_places p R a * record_width p a) s))

unfoldable pub laid_out : Profile → ℕ → List ℕ → Bool
laid_out p R s = all (headed p R s ∷ spare p R s Schemas ∷ spare p R s Rows ∷ spare p R s Entries ∷ [])

-- ---- schemas

-- the bytes are a column's, and a table's record
unfoldable pub is_column : Profile → List ℕ → Bool
is_column p c = leqb (column_record p (read_column p c)) c && good_column (read_column p c)

unfoldable pub is_table : Profile → List ℕ → Bool
is_table p r = leqb (table_record p (read_table p r)) r && good_table p (read_table p r)

unfoldable pub cataloged : Profile → ℕ → List ℕ → Bool
cataloged p R s = all (every (is_table p) (lists p R s).schemas ∷ sorted cmp_table (parse p R s).tables ∷ [])

-- the schemas are in order
pub record Schemed (p : Profile) (R : ℕ) (s : List ℕ) : Type 0 where
  pub catalog : Catalog p R s
  pub faults : faultless (parse p R s).tables ≡ true

-- the record of the table with a name
pub record Here (p : Profile) (R : ℕ) (s : List ℕ) (n : Name) (rec : List ℕ) : Type 0 where
  pub named : table_named (parse p R s).tables n ≡ some (read_table p rec)
  pub bytes : TableBytes p rec
  pub keyed : (read_table p rec).key < length (read_table p rec).columns

-- ---- rows

-- the kinds and NULLs of a cell
abbrev pub fitting : ℕ → Column → Value → Bool
fitting i c v = not (other_kind c.kind v) && not (is_null v && not c.nullable)

-- the first n cells of a row's record
abbrev pub cells_in : ℕ → List ℕ → List Value
cells_in n r = read_cells 26 n (drop 25 r)

-- what follows the name fits the table
unfoldable pub fits_table : Table → List ℕ → Bool
fits_table t r =
    let n : ℕ = length t.columns in
    all
    (every is_cell (records 26 n (drop 25 r))
    ∷ zeros (drop (25 + n * 26) r)
    ∷ every_cell fitting 0 t.columns (cells_in n r)
    ∷ not (is_undefined (key_of t (cells_in n r)))
    ∷ [])

-- the bytes are a row's record, and the row fits its table
unfoldable pub is_row : Profile → List Table → List ℕ → Bool
is_row p ts r =
    let x : Row = read_row p ts r in
    all (leqb (row_record p x) r ∷ has_table ts x ∷ good_cells x ∷ right_kinds ts x ∷ key_defined x ∷ [])

unfoldable pub rowed : Profile → ℕ → List ℕ → Bool
rowed p R s = all (every (is_row p (parse p R s).tables) (lists p R s).rows ∷ sorted cmp_row (parse p R s).rows ∷ [])

-- the rows are in order
pub record Tabled (p : Profile) (R : ℕ) (s : List ℕ) : Type 0 where
  pub schemed : Schemed p R s
  pub rows : rowed p R s ≡ true

-- ---- the index

unfoldable pub is_entry : Profile → List ℕ → Bool
is_entry p r = leqb (entry_record p (read_entry p r)) r

-- how many entries rows have
unfoldable pub entries_wanted : List Table → List Row → ℕ
entries_wanted ts [] = 0
entries_wanted ts (r ∷ rs) = length (entries_of ts r) + entries_wanted ts rs

-- of this table, column and value; of those of another
abbrev pub in_group : Name → ℕ → Value → Entry → Bool
in_group n i v x = same_name x.table n && (eqb x.column i && same x.value v)

abbrev pub alike : Entry → Entry → Bool
alike e x = in_group e.table e.column e.value x

-- an entry stands in a list; the one behind its place in a sorted list is alike
abbrev pub place_in : List Entry → Entry → ℕ
place_in es e = count_of (λ x. is_lt (cmp_entry x e)) es

unfoldable pub stands : List Entry → Entry → Bool
stands es e = any (λ x. compare_is_eq (cmp_entry x e)) es

unfoldable pub followed : List Entry → Entry → Bool
followed es e = maybe (nth es (suc (place_in es e))) false (alike e)

-- the entry of an indexed column stands in the index, and alone where the column is unique and the value defined
unfoldable pub entered_as : List Entry → Column → Value → Entry → Bool
entered_as es c v e = cond c.index (stands es e && not (c.unique && not (is_undefined v) && followed es e)) true

unfoldable pub entered_cell : List Entry → Row → ℕ → Column → Value → Bool
entered_cell es r i c v = entered_as es c v (entry_at r i)

unfoldable pub entered_row : List Table → List Entry → Row → Bool
entered_row ts es r = of_its_table ts r (λ t. every_cell (entered_cell es r) 0 t.columns r.cells)

-- the entries are in order
pub record Filed (p : Profile) (R : ℕ) (s : List ℕ) : Type 0 where
  pub tabled : Tabled p R s
  pub entries : every (is_entry p) (lists p R s).entries ≡ true
  pub sorted : sorted cmp_entry (entries_in p R s) ≡ true

unfoldable pub index_tested : Profile → ℕ → List ℕ → Bool
index_tested p R s =
    all
    (every (is_entry p) (lists p R s).entries
    ∷ sorted cmp_entry (entries_in p R s)
    ∷ eqb (length (entries_in p R s)) (entries_wanted (parse p R s).tables (parse p R s).rows)
    ∷ every (entered_row (parse p R s).tables (entries_in p R s)) (parse p R s).rows
    ∷ [])
