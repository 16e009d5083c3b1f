-- One step of each walk over records, columns and cells, in a form that the check finds by itself. Assumes nothing.
use mathlib.Core.Path.{◌≡◌, refl, sym, ap, ◌∙◌}
use mathlib.Core.Bool.{Bool, true, ◌&&◌}
use Prim.Native.Nat.{ℕ, suc, ◌+◌, ◌-◌, ◌*◌, ◌≤◌, ◌<◌, Ordering}
use native.Mathlib.Nat.{add-sub_cancel_left}
use native.Mathlib.Numerals.{add-one}
use native.Mathlib.Omega.{arith}
use mathlib.Core.List.{List, [], ◌∷◌, map}
use lib.ListN.{length, get_or, take, drop, length-map, length-drop, get_or-map, drop_of_length-le}
use lib.Seq.{drop-cons, drop-drop}
use Rattle.values.specs.Basic.{is_lt}
use Rattle.values.specs.Value.{Value}
use Rattle.values.specs.Cell.{read_value}
use Rattle.areas.specs.Records.{records}
use Rattle.areas.specs.Counted.{count_at}
use Rattle.areas.proofs.Records.{length-records, get_or-records}
use Rattle.rules.specs.declared.profile.Profile.{Profile}
use Rattle.rules.specs.Profile.{schema_width, row_width, entry_width, rows_at, entries_at, store_length}
use Rattle.rules.specs.State.{Column, Table, Row, cmp_table, cmp_row}
use Rattle.rules.specs.Index.{cmp_entry}
use Rattle.rules.specs.Layout.{lists, Schemas, Rows, Entries, area_at, record_width, tables_count, rows_count, entries_count, read_table, read_row, read_entry, parse}
use Rattle.rules.specs.Sound.{every, sorted, every_cell}
use Rattle.rules.proofs.Tests.{every-at}
use Rattle.rules.proofs.Lists.{nth_in}
use Rattle.rules.proofs.Widths.{header-within, area-within, column-within}
use Rattle.laid.specs.Store.{Inside}
use Rattle.laid.specs.Column.{column_at}
use Rattle.laid.specs.Catalog.{TableBytes}
use Rattle.laid.specs.Entered.{entries_in}
use Rattle.laid.proofs.Finding.{drop_nth, nth-get_or}
use Rattle.laid.proofs.Inside.{area-count, record-wide}
use Rattle.laid.proofs.Columns.{count-byte, key-byte, columns-few, column-nth}
use Rattle.sound.specs.Tested.{cells_in, is_row}
use Rattle.sound.proofs.RowPieces.{cell-read}

-- ---- the records of the areas

module _ (p : Profile) (R : ℕ) (s : List ℕ) where
  pub schemas_many : length (lists p R s).schemas ≡ count_at tables_count 1 s
  schemas_many = area-count p R s Schemas

  pub rows_many : length (lists p R s).rows ≡ count_at rows_count 2 s
  rows_many = area-count p R s Rows

  pub entries_many : length (lists p R s).entries ≡ count_at entries_count 4 s
  entries_many = area-count p R s Entries

  module _ (i : ℕ) (k : Inside p R s) where
    pub schema_wide : i < length (lists p R s).schemas → length (get_or (lists p R s).schemas i []) ≡ schema_width p
    schema_wide h = record-wide p R s k Schemas (area_at p R Schemas) (record_width p Schemas) i refl refl h

    pub row_wide : i < length (lists p R s).rows → length (get_or (lists p R s).rows i []) ≡ row_width p
    row_wide h = record-wide p R s k Rows (area_at p R Rows) (record_width p Rows) i refl refl h

    pub entry_wide : i < length (lists p R s).entries → length (get_or (lists p R s).entries i []) ≡ entry_width p
    entry_wide h = record-wide p R s k Entries (area_at p R Entries) (record_width p Entries) i refl refl h

next-there : {A : Type 0} (d : A) (xs : List A) (i : ℕ) → i < length xs → drop i xs ≡ get_or xs i d ∷ drop (i + 1) xs
next-there d xs i h = drop-cons xs i d h ∙ ap (λ (n : ℕ). get_or xs i d ∷ drop n xs) (sym (add-one i))

-- ---- a test of each record

pub every_next : (f : List ℕ → Bool) (xs : List (List ℕ)) (i : ℕ) → i < length xs → every f (drop i xs) ≡ (f (get_or xs i []) && every f (drop (i + 1) xs))
unfolding every
every_next f xs i h = ap (every f) (next-there [] xs i h)

pub every_past : (f : List ℕ → Bool) (xs : List (List ℕ)) (i : ℕ) → length xs ≤ i → every f (drop i xs) ≡ true
unfolding every
every_past f xs i h = ap (every f) (drop_of_length-le xs h)

-- the records of w bytes from `at` on, as the code has the slice of one
pub part_is : (r : List ℕ) (at w n v i : ℕ) → v ≡ w → i < n → take (at + i * v + v - (at + i * v)) (drop (at + i * v) r) ≡ get_or (records w n (drop at r)) i []
part_is r at w n v i e h = rw (e, add-sub_cancel_left (at + i * w) w, get_or-records w n i (drop at r) h) (ap (take w) (sym (drop-drop (i * w) at r)))

-- the same of what the records are read as
every_read : {A : Type 0} (f : A → Bool) (g : List ℕ → A) (rs : List (List ℕ)) (i : ℕ) → i < length rs
    → every f (drop i (map g rs)) ≡ (f (g (get_or rs i [])) && every f (drop (i + 1) (map g rs)))
unfolding every
every_read {A} f g rs i h =
    ap (every f) (next-there (g []) (map g rs) i (omega (arith, length-map rs g)))
    ∙ ap (λ (x : A). f x && every f (drop (i + 1) (map g rs))) (get_or-map g rs i [])

every_end : {A : Type 0} (f : A → Bool) (g : List ℕ → A) (rs : List (List ℕ)) (i : ℕ) → length rs ≤ i → every f (drop i (map g rs)) ≡ true
unfolding every
every_end f g rs i h = ap (every f) (drop_of_length-le (map g rs) {i = i} (omega (arith, length-map rs g)))

module _ (p : Profile) (R : ℕ) (s : List ℕ) (i : ℕ) where
  pub tables_each : (f : Table → Bool) → i < length (lists p R s).schemas
      → every f (drop i (parse p R s).tables) ≡ (f (read_table p (get_or (lists p R s).schemas i [])) && every f (drop (i + 1) (parse p R s).tables))
  unfolding parse
  tables_each f h = every_read f (read_table p) (lists p R s).schemas i h

  pub tables_end : (f : Table → Bool) → length (lists p R s).schemas ≤ i → every f (drop i (parse p R s).tables) ≡ true
  unfolding parse
  tables_end f h = every_end f (read_table p) (lists p R s).schemas i h

  pub rows_each : (f : Row → Bool) → i < length (lists p R s).rows
      → every f (drop i (parse p R s).rows) ≡ (f (read_row p (parse p R s).tables (get_or (lists p R s).rows i [])) && every f (drop (i + 1) (parse p R s).rows))
  unfolding parse
  rows_each f h = every_read f (read_row p (parse p R s).tables) (lists p R s).rows i h

  pub rows_end : (f : Row → Bool) → length (lists p R s).rows ≤ i → every f (drop i (parse p R s).rows) ≡ true
  unfolding parse
  rows_end f h = every_end f (read_row p (parse p R s).tables) (lists p R s).rows i h

-- ---- a test of each two neighbours, which are read from records

sorted_next : {A : Type 0} (cmp : A → A → Ordering) (g : List ℕ → A) (rs : List (List ℕ)) (i : ℕ) → 1 ≤ i → i < length rs
    → sorted cmp (drop (i - 1) (map g rs)) ≡ (is_lt (cmp (g (get_or rs (i - 1) [])) (g (get_or rs i []))) && sorted cmp (drop i (map g rs)))
unfolding sorted
sorted_next {A} cmp g rs i l h =
    let e : i - 1 + 1 ≡ i = omega arith in
    let m : length (map g rs) ≡ length rs = length-map rs g in
    let u : get_or (map g rs) (i - 1) (g []) ≡ g (get_or rs (i - 1) []) = get_or-map g rs (i - 1) [] in
    let v : get_or (map g rs) i (g []) ≡ g (get_or rs i []) = get_or-map g rs i [] in
    let here : drop i (map g rs) ≡ get_or (map g rs) i (g []) ∷ drop (i + 1) (map g rs) = next-there (g []) (map g rs) i (omega arith) in
    ap (sorted cmp)
    (next-there (g []) (map g rs) (i - 1) (omega arith) ∙ ap (λ (n : ℕ). get_or (map g rs) (i - 1) (g []) ∷ drop n (map g rs)) e
    ∙ ap (λ (l : List A). get_or (map g rs) (i - 1) (g []) ∷ l) here)
    ∙ ap (λ (x : A). is_lt (cmp x (get_or (map g rs) i (g []))) && sorted cmp (get_or (map g rs) i (g []) ∷ drop (i + 1) (map g rs))) u
    ∙ ap (λ (x : A). is_lt (cmp (g (get_or rs (i - 1) [])) x) && sorted cmp (get_or (map g rs) i (g []) ∷ drop (i + 1) (map g rs))) v
    ∙ ap (λ (l : List A). is_lt (cmp (g (get_or rs (i - 1) [])) (g (get_or rs i []))) && sorted cmp l) (sym here)

sorted_past : {A : Type 0} (cmp : A → A → Ordering) (xs : List A) → length xs ≤ 1 → sorted cmp xs ≡ true
unfolding sorted
sorted_past cmp [] h = refl
sorted_past cmp (x ∷ []) h = refl
sorted_past cmp (x ∷ y ∷ ys) h = absurd (omega arith)

module _ (p : Profile) (R : ℕ) (s : List ℕ) (i : ℕ) where
  pub tables_next : 1 ≤ i → i < length (lists p R s).schemas → sorted cmp_table (drop (i - 1) (parse p R s).tables)
      ≡ (is_lt (cmp_table (read_table p (get_or (lists p R s).schemas (i - 1) [])) (read_table p (get_or (lists p R s).schemas i []))) && sorted cmp_table (drop i (parse p R s).tables))
  unfolding parse
  tables_next l h = sorted_next cmp_table (read_table p) (lists p R s).schemas i l h

  pub tables_past : length (lists p R s).schemas ≤ i → sorted cmp_table (drop (i - 1) (parse p R s).tables) ≡ true
  unfolding parse
  tables_past h = sorted_past cmp_table (drop (i - 1) (parse p R s).tables) (simp (length-drop, length-map) (omega arith))

  pub rows_next : 1 ≤ i → i < length (lists p R s).rows → sorted cmp_row (drop (i - 1) (parse p R s).rows)
      ≡ (is_lt (cmp_row (read_row p (parse p R s).tables (get_or (lists p R s).rows (i - 1) [])) (read_row p (parse p R s).tables (get_or (lists p R s).rows i [])))
      && sorted cmp_row (drop i (parse p R s).rows))
  unfolding parse
  rows_next l h = sorted_next cmp_row (read_row p (parse p R s).tables) (lists p R s).rows i l h

  pub rows_past : length (lists p R s).rows ≤ i → sorted cmp_row (drop (i - 1) (parse p R s).rows) ≡ true
  unfolding parse
  rows_past h = sorted_past cmp_row (drop (i - 1) (parse p R s).rows) (simp (length-drop, length-map) (omega arith))

  pub entries_next : 1 ≤ i → i < length (lists p R s).entries → sorted cmp_entry (drop (i - 1) (entries_in p R s))
      ≡ (is_lt (cmp_entry (read_entry p (get_or (lists p R s).entries (i - 1) [])) (read_entry p (get_or (lists p R s).entries i []))) && sorted cmp_entry (drop i (entries_in p R s)))
  unfolding entries_in
  entries_next l h = sorted_next cmp_entry (read_entry p) (lists p R s).entries i l h

  pub entries_past : length (lists p R s).entries ≤ i → sorted cmp_entry (drop (i - 1) (entries_in p R s)) ≡ true
  unfolding entries_in
  entries_past h = sorted_past cmp_entry (drop (i - 1) (entries_in p R s)) (simp (length-drop, length-map) (omega arith))

-- ---- a test of each column with its cell

module _ (p : Profile) (rec row : List ℕ) (f : ℕ → Column → Value → Bool) (i : ℕ) where
  pub cells_next : TableBytes p rec → i < get_or rec 26 0
      → every_cell f i (drop i (read_table p rec).columns) (drop i (cells_in (length (read_table p rec).columns) row))
      ≡ (f i (column_at p rec i) (read_value (drop (25 + i * 26) row))
      && every_cell f (i + 1) (drop (i + 1) (read_table p rec).columns) (drop (i + 1) (cells_in (length (read_table p rec).columns) row)))
  unfolding every_cell
  cells_next b h =
      let cs = (read_table p rec).columns in
      let vs = cells_in (length (read_table p rec).columns) row in
      let k : i < length (read_table p rec).columns = omega (arith, count-byte p rec) in
      ap (λ (l : List Column). every_cell f i l (drop i vs)) (drop_nth cs i (column_at p rec i) (column-nth p rec b i k))
      ∙ ap (λ (l : List Value). every_cell f i (column_at p rec i ∷ drop (suc i) cs) l) (drop_nth vs i (read_value (drop (25 + i * 26) row)) (cell-read (length cs) row i k))
      ∙ ap (λ (n : ℕ). f i (column_at p rec i) (read_value (drop (25 + i * 26) row)) && every_cell f n (drop n cs) (drop n vs)) (sym (add-one i))

  pub cells_past : get_or rec 26 0 ≤ i → every_cell f i (drop i (read_table p rec).columns) (drop i (cells_in (length (read_table p rec).columns) row)) ≡ true
  unfolding every_cell
  cells_past h =
      ap (λ (l : List Column). every_cell f i l (drop i (cells_in (length (read_table p rec).columns) row)))
      (drop_of_length-le (read_table p rec).columns {i = i} (omega (arith, count-byte p rec)))

-- ---- widths, and where a table's record has its numbers

pub schema_least : (p : Profile) → 27 ≤ schema_width p
unfolding schema_width
schema_least p = omega arith

pub rows_start : (p : Profile) (R : ℕ) → rows_at p ≤ store_length p R
rows_start p R = omega (arith, area-within p R Rows)

pub entries_start : (p : Profile) (R : ℕ) → entries_at p R ≤ store_length p R
entries_start p R = omega (arith, area-within p R Entries)

pub row_is : (p : Profile) → p.cell ≡ 26 → row_width p ≡ 25 + p.columns * 26
unfolding row_width
row_is p e = rw e refl

pub entry_is : (p : Profile) → p.cell ≡ 26 → entry_width p ≡ 78
unfolding entry_width
entry_is p e = rw e refl

pub key_byte : (p : Profile) (rec : List ℕ) → (read_table p rec).key ≡ get_or rec 25 0
key_byte p rec = sym (key-byte p rec)

pub count_byte : (p : Profile) (rec : List ℕ) → length (read_table p rec).columns ≡ get_or rec 26 0
count_byte p rec = sym (count-byte p rec)

-- the columns and cells, as the code has read them
pub cells_turn : (p : Profile) (rec row : List ℕ) (f : ℕ → Column → Value → Bool) → TableBytes p rec → (i : ℕ) → i < get_or rec 26 0 → (c : Column) → c ≡ column_at p rec i
    → (v : Value) → v ≡ read_value (drop (25 + i * 26) row) → (x : Bool) → x ≡ f i c v
    → every_cell f i (drop i (read_table p rec).columns) (drop i (cells_in (length (read_table p rec).columns) row))
    ≡ (x && every_cell f (i + 1) (drop (i + 1) (read_table p rec).columns) (drop (i + 1) (cells_in (length (read_table p rec).columns) row)))
cells_turn p rec row f b i h c ec v ev x ex = rw (ex, ec, ev) (cells_next p rec row f i b h)

-- each row passes a test that all pass
pub row_passes : (p : Profile) (R : ℕ) (s : List ℕ) (i : ℕ) → every (is_row p (parse p R s).tables) (lists p R s).rows ≡ true → i < length (lists p R s).rows
    → is_row p (parse p R s).tables (get_or (lists p R s).rows i []) ≡ true
row_passes p R s i h k =
    let r = get_or (lists p R s).rows i [] in
    every-at (is_row p (parse p R s).tables) (lists p R s).rows h r (nth_in (lists p R s).rows i r (nth-get_or (lists p R s).rows i [] k))

pub entered_many : (p : Profile) (R : ℕ) (s : List ℕ) → length (entries_in p R s) ≡ count_at entries_count 4 s
unfolding entries_in
entered_many p R s = length-map (lists p R s).entries (read_entry p) ∙ entries_many p R s

pub ruleset indexing = (header-within, entered_many)

pub ruleset walk = (header-within, schemas_many, rows_many, entries_many, schema_wide, row_wide, entry_wide, every_next, every_past, tables_each, tables_end, rows_each, rows_end)

pub ruleset rising = (header-within, schemas_many, schema_wide, tables_next, tables_past, rows_many, row_wide, rows_next, rows_past, row_passes, entries_many, entry_wide, entries_next, entries_past)

pub ruleset parts = (column-within, row_is, length-records, every_next, every_past)

pub ruleset cells = (cells_next, cells_past, schema_least, row_is, count_byte, columns-few)

pub ruleset key = (schema_least, row_is, key_byte, count_byte, columns-few)

pub ruleset searching = (header-within, rows_start, entries_start, rows_many, row_wide, entries_many, entry_wide, schema_least, row_is, entry_is, key_byte, count_byte, columns-few)
