-- The tests of rows as the code asks them: a row's table, its cells column by column, and which of two rows comes first. Assumes nothing.
use mathlib.Core.Path.{◌≡◌, refl, sym, ap, ◌∙◌, subst}
use mathlib.Core.Bool.{true, false, not, ◌&&◌}
use Prim.Native.Nat.{ℕ, ◌+◌, ◌-◌, ◌*◌, ◌<◌, Ordering}
use mathlib.Core.List.{List, [], ◌∷◌, map}
use mathlib.Core.Option.{Option, none, some}
use lib.ListN.{length, get_or, take, drop}
use Rattle.values.specs.Basic.{and_then, cmp_bytes, is_none, or_default}
use Rattle.values.specs.Bytes.{zeros, Bytes}
use Rattle.values.specs.Value.{Value, null, is_undefined, normalised, cmp_value}
use Rattle.values.specs.Cell.{read_name, is_name_cell, read_value, is_cell}
use Rattle.areas.specs.Records.{records}
use Rattle.areas.specs.Search.{cmp_keyed}
use Rattle.values.proofs.Orders.{cmp-normalised-right}
use Rattle.areas.proofs.Sorting.{find-in}
use Rattle.rules.specs.declared.profile.Profile.{Profile}
use Rattle.rules.specs.Profile.{row_width}
use Rattle.rules.specs.State.{Name, Table, cmp_row, is_named, table_named}
use Rattle.rules.specs.Schema.{schema_fault}
use Rattle.rules.specs.Layout.{lists, parse, read_table, read_row}
use Rattle.rules.specs.Sound.{all, every, every_cell, faultless}
use Rattle.rules.proofs.Tests.{every-at, none_is}
use Rattle.rules.proofs.Lists.{nth-below}
use Rattle.rules.proofs.Room.{key-column}
use Rattle.laid.specs.Catalog.{TableBytes, place_of}
use Rattle.sound.specs.Tested.{Schemed, Here, fitting, cells_in, fits_table, is_row}
use Rattle.laid.proofs.Finding.{place-missing}
use Rattle.laid.proofs.Searching.{found_within, found-table, table-bytes-at}
use Rattle.laid.proofs.Columns.{rest, count-byte, columns-few, column-nth, key-byte}
use Rattle.sound.proofs.Walks.{schema_least, row_is, key_byte, count_byte}
use Rattle.sound.proofs.RowPieces.{cell-read, row-name, key-read, row-none, row-pieces, keyed-order}

keyed-of : (ts : List Table) (t : Table) (n : Name) → faultless ts ≡ true → table_named ts n ≡ some t → t.key < length t.columns
unfolding faultless
keyed-of ts t n f e =
    let c = key-column ts t (none_is _ (every-at (λ t. is_none (schema_fault ts t)) ts f t (find-in (is_named n) ts t e).0)) in
    nth-below t.columns t.key c.column c.is

module _ (p : Profile) (R : ℕ) (s : List ℕ) where
  abbrev tables : List Table
  tables = (parse p R s).tables

  pub rows-read : (parse p R s).rows ≡ map (read_row p tables) (lists p R s).rows
  unfolding parse
  rows-read = refl

  -- the table of a name
  pub here_of : Schemed p R s → (n : Name) (i : ℕ) (rec : List ℕ) → some i ≡ place_of (is_named n) tables → rec ≡ get_or (lists p R s).schemas i [] → Here p R s n rec
  here_of c n i rec h e =
      let named : table_named tables n ≡ some (read_table p rec) = found-table p R s n i h ∙ ap (λ (r : List ℕ). some (read_table p r)) (sym e) in
      record {
        named = named;
        bytes = subst (TableBytes p) (sym e) (table-bytes-at p R s i (found_within p R s n i h) c.catalog);
        keyed = keyed-of tables (read_table p rec) n c.faults named;
      }

  pub nowhere : (n : Name) → none ≡ place_of (is_named n) tables → table_named tables n ≡ none
  nowhere n h = place-missing (is_named n) tables (sym h)

-- ---- what stands at the front of a part

pub rest_read : (r : List ℕ) (at : ℕ) (v : Value) → v ≡ read_value (take (length r - at) (drop at r)) → v ≡ read_value (drop at r)
rest_read r at v e = e ∙ ap read_value (rest at r)

-- ---- what follows a row's name fits its table, test by test

pub fits_pieces : (p : Profile) (rec row : List ℕ) → (read_table p rec).key < length (read_table p rec).columns
    → fits_table (read_table p rec) row
    ≡ all (every is_cell (records 26 (length (read_table p rec).columns) (drop 25 row)) ∷ zeros (drop (25 + length (read_table p rec).columns * 26) row)
    ∷ every_cell fitting 0 (read_table p rec).columns (cells_in (length (read_table p rec).columns) row) ∷ not (is_undefined (read_value (drop (25 + (read_table p rec).key * 26) row))) ∷ [])
unfolding fits_table
fits_pieces p rec row h =
    let n = length (read_table p rec).columns in
    ap
    (λ (o : Option Value). all (every is_cell (records 26 n (drop 25 row)) ∷ zeros (drop (25 + n * 26) row) ∷ every_cell fitting 0 (read_table p rec).columns (cells_in n row) ∷ not (is_undefined (or_default o null)) ∷ []))
    (cell-read n row (read_table p rec).key h)

pub ruleset fitted = (schema_least, row_is, key_byte, count_byte, columns-few, rest, fits_pieces)

-- ---- a row whose table is stored, and one whose table is not

module _ (p : Profile) (R : ℕ) (s : List ℕ) (c : Schemed p R s) (row : List ℕ) (b : Bytes row) (l : length row ≡ row_width p) (m : Name) (em : m ≡ read_name row) where
  pub row_pieces : (rec : List ℕ) → Here p R s m rec → is_row p (tables p R s) row ≡ (is_name_cell (take 25 row) && fits_table (read_table p rec) row)
  unfolding fits_table all
  row_pieces rec h = row-pieces p (tables p R s) c.catalog.inside.coded row b l (read_table p rec) (ap (table_named (tables p R s)) (sym em) ∙ h.named) (columns-few p rec h.bytes)

  pub row_none : table_named (tables p R s) m ≡ none → is_row p (tables p R s) row ≡ false
  row_none h = row-none p (tables p R s) c.catalog.inside.coded row b l (ap (table_named (tables p R s)) (sym em) ∙ h)

-- ---- which of two comes first

pub row_order : (p : Profile) (R : ℕ) (s : List ℕ) → Schemed p R s → (x y : List ℕ) (m : Name) → m ≡ read_name y → (rec : List ℕ) → Here p R s m rec
    → (at : ℕ) → at ≡ 25 + (read_table p rec).key * 26 → (v : Value) → v ≡ read_value (take (length y - at) (drop at y))
    → cmp_row (read_row p (tables p R s) x) (read_row p (tables p R s) y) ≡ cmp_keyed at x m v
unfolding cmp_row
row_order p R s c x y m em rec h at ea v ev =
    let ts = tables p R s in
    let k = c.catalog.inside.coded in
    let w : v ≡ read_value (drop (25 + (read_table p rec).key * 26) y) = rest_read y at v ev ∙ ap (λ (n : ℕ). read_value (drop n y)) ea in
    let q : (read_row p ts y).key ≡ normalised v = key-read p ts y k (read_table p rec) (ap (table_named ts) (sym em) ∙ h.named) h.keyed ∙ ap normalised (sym w) in
    sym
    (ap (λ (n : ℕ). cmp_keyed n x m v) ea ∙ keyed-order p ts k (read_table p rec) m h.named h.keyed x v
    ∙ ap (λ (n : Name). and_then (cmp_bytes (read_row p ts x).table n) (cmp_value (read_row p ts x).key v)) (em ∙ sym (row-name p ts y))
    ∙ ap (λ (r : Ordering). and_then (cmp_bytes (read_row p ts x).table (read_row p ts y).table) r)
    (sym (cmp-normalised-right (read_row p ts x).key v) ∙ ap (cmp_value (read_row p ts x).key) (sym q)))
