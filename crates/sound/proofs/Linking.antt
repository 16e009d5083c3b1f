-- A row's references and its number of index entries, as the code asks them. Assumes nothing.
use mathlib.Core.Path.{◌≡◌, refl, sym, ap, ◌∙◌}
use mathlib.Core.Bool.{Bool, true, false, cond}
use Prim.Native.Nat.{ℕ, ◌+◌, ◌≤◌, ◌<◌}
use native.Mathlib.Numerals.{add-one}
use native.Mathlib.Omega.{arith}
use mathlib.Core.List.{List, [], ◌∷◌, map}
use mathlib.Core.Option
use mathlib.Core.Option.{none, some}
use lib.ListN.{length, get_or, drop, length-map, drop_of_length-le}
use Rattle.values.specs.Basic.{maybe}
use Rattle.values.specs.Cell.{read_name}
use Rattle.rules.specs.declared.profile.Profile.{Profile}
use Rattle.rules.specs.State.{Name, Column, Table, Row, table_named}
use Rattle.rules.specs.Index.{Entry, columns_of, entries_of, indexed_count}
use Rattle.rules.specs.Layout.{lists, parse, read_table, read_row}
use Rattle.rules.specs.Sound.{every_cell, held, references_held}
use Rattle.rules.proofs.Index.{entries-length}
use Rattle.rules.proofs.Widths.{header-within}
use Rattle.laid.specs.Store.{Coded}
use Rattle.laid.specs.Column.{column_at}
use Rattle.laid.specs.Catalog.{TableBytes}
use Rattle.sound.specs.Tested.{cells_in, entries_wanted, entered_cell, entered_row}
use Rattle.laid.proofs.Finding.{drop_nth, nth-map, nth-get_or}
use Rattle.laid.proofs.Columns.{count-byte, columns-few, column-drop}
use Rattle.sound.proofs.Walks.{schema_least, count_byte, rows_many, row_wide}
use Rattle.sound.proofs.RowPieces.{row-name, row-cells, row-of-its, row-of-none}

-- ---- a test of a row's table

module _ (p : Profile) (ts : List Table) (row : List ℕ) where
  module _ (rs : List Row) where
    pub linked-nowhere : table_named ts (read_name row) ≡ none → false ≡ references_held ts rs (read_row p ts row)
    unfolding references_held
    linked-nowhere e = sym (row-of-none p ts row _ e)

    pub linked-here : Coded p → (t : Table) → table_named ts (read_name row) ≡ some t → (b : Bool)
        → b ≡ every_cell (λ i c v. held rs c.reference v) 0 t.columns (cells_in (length t.columns) row) → b ≡ references_held ts rs (read_row p ts row)
    unfolding references_held
    linked-here k t e b h =
        h ∙ sym (row-of-its p ts row k t e _ ∙ ap (every_cell (λ i c v. held rs c.reference v) 0 t.columns) (row-cells p ts row k t e))

  module _ (es : List Entry) where
    pub entered-nowhere : table_named ts (read_name row) ≡ none → false ≡ entered_row ts es (read_row p ts row)
    unfolding entered_row
    entered-nowhere e = sym (row-of-none p ts row _ e)

    pub entered_here : Coded p → (t : Table) → table_named ts (read_name row) ≡ some t → (b : Bool)
        → b ≡ every_cell (entered_cell es (read_row p ts row)) 0 t.columns (cells_in (length t.columns) row) → b ≡ entered_row ts es (read_row p ts row)
    unfolding entered_row
    entered_here k t e b h =
        h ∙ sym (row-of-its p ts row k t e _ ∙ ap (every_cell (entered_cell es (read_row p ts row)) 0 t.columns) (row-cells p ts row k t e))

  entries-many : length (entries_of ts (read_row p ts row)) ≡ indexed_count (columns_of ts (read_name row))
  entries-many = entries-length ts (read_row p ts row) ∙ ap (λ (n : Name). indexed_count (columns_of ts n)) (row-name p ts row)

  pub entries-nowhere : table_named ts (read_name row) ≡ none → 0 ≡ length (entries_of ts (read_row p ts row))
  unfolding maybe
  entries-nowhere e = sym (entries-many ∙ rw e)

  pub entries-here : (t : Table) → table_named ts (read_name row) ≡ some t → (n : ℕ) → n ≡ indexed_count t.columns → n ≡ length (entries_of ts (read_row p ts row))
  unfolding maybe
  entries-here t e n h = sym (entries-many ∙ rw e (sym h))

-- ---- indexed columns, counted

module _ (p : Profile) (rec : List ℕ) where
  -- those from column i on
  unfoldable pub indexed_from : ℕ → ℕ
  indexed_from i = indexed_count (drop i (read_table p rec).columns)

  pub indexed_all : indexed_from 0 ≡ indexed_count (read_table p rec).columns
  unfolding indexed_from
  indexed_all = refl

  module _ (i : ℕ) where
    one-more : TableBytes p rec → i < get_or rec 26 0 → (q : Bool) → (column_at p rec i).index ≡ q → indexed_from i ≡ cond q 1 0 + indexed_from (i + 1)
    unfolding indexed_from
    one-more b h true x = rw (add-one, column-drop p rec b i (omega (arith, count-byte p rec)), x) (omega arith)
    one-more b h false x = rw (add-one, column-drop p rec b i (omega (arith, count-byte p rec)), x) (omega arith)

    pub indexed_next : TableBytes p rec → i < get_or rec 26 0 → (c : Column) → c ≡ column_at p rec i → indexed_from i ≡ cond c.index 1 0 + indexed_from (i + 1)
    indexed_next b h c e = one-more b h c.index (ap (λ (x : Column). x.index) (sym e))

    pub indexed_past : get_or rec 26 0 ≤ i → indexed_from i ≡ 0
    unfolding indexed_from
    indexed_past h = ap indexed_count (drop_of_length-le (read_table p rec).columns {i = i} (omega (arith, count-byte p rec, h)))

pub ruleset counted = (schema_least, count_byte, columns-few, indexed_all, indexed_past)

-- ---- the rows' entries, counted

module _ (p : Profile) (R : ℕ) (s : List ℕ) (i : ℕ) where
  abbrev tables : List Table
  tables = (parse p R s).tables

  pub wanted_next : i < length (lists p R s).rows
      → entries_wanted (parse p R s).tables (drop i (parse p R s).rows)
      ≡ length (entries_of (parse p R s).tables (read_row p (parse p R s).tables (get_or (lists p R s).rows i []))) + entries_wanted (parse p R s).tables (drop (i + 1) (parse p R s).rows)
  unfolding entries_wanted parse
  wanted_next h =
      let x = (lists p R s).rows in
      let rs = map (read_row p tables) x in
      let r = get_or x i [] in
      ap (entries_wanted tables)
      (drop_nth rs i (read_row p tables r) (nth-map (read_row p tables) x i ∙ ap (Option.map (read_row p tables)) (nth-get_or x i [] h))
      ∙ ap (λ (j : ℕ). read_row p tables r ∷ drop j rs) (sym (add-one i)))

  pub wanted_past : length (lists p R s).rows ≤ i → entries_wanted (parse p R s).tables (drop i (parse p R s).rows) ≡ 0
  unfolding entries_wanted parse
  wanted_past h =
      let rs = map (read_row p tables) (lists p R s).rows in
      let l : length rs ≡ length (lists p R s).rows = length-map (lists p R s).rows (read_row p tables) in
      ap (entries_wanted tables) (drop_of_length-le rs {i = i} (omega (arith, l, h)))

pub ruleset wanted = (header-within, rows_many, row_wide, wanted_next, wanted_past)
