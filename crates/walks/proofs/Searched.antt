-- The search for a row that refers to one of the keys, as the code goes through tables, columns and rows: what is left of it from a place on
-- is all of it. Assumes nothing.
use mathlib.Core.Path.{◌≡◌, refl, sym, ap, ◌∙◌}
use mathlib.Core.Bool.{Bool, true, false, not, ◌&&◌, cond}
use mathlib.Core.Logic.{inl, inr}
use mathlib.Core.Option.{Option, none, some, map}
use Prim.Native.Nat.{ℕ, suc, ◌+◌, ◌-◌, ◌≤◌, ◌<◌}
use native.Mathlib.Numerals.{add-one}
use native.Mathlib.Omega.{arith}
use mathlib.Core.List.{List, [], ◌∷◌}
use lib.ListN.{length, take, drop, get_or, drop_of_length-le}
use Rattle.values.specs.Basic.{any, find, keep_if, nth, or_default, ◌or_else◌}
use Rattle.values.specs.Value.{Value, among}
use Rattle.values.specs.Cell.{read_name}
use Rattle.areas.specs.Sorted.{In}
use Rattle.values.specs.declared.value.Text.{Text}
use Rattle.values.specs.Meaning.{text_bytes, Packed}
use Rattle.areas.proofs.Sorting.{in-keep}
use Rattle.rules.specs.declared.profile.Profile.{Profile}
use Rattle.rules.specs.State.{Name, same_name, Column, Table, Row, of_table, rows_of, cell_at}
use Rattle.rules.specs.Request.{Carried, carried_by}
use Rattle.rules.specs.Layout.{lists, parse}
use Rattle.rules.specs.Rows.{refers_to, referring, referring_column, row_referenced}
use Rattle.rules.proofs.Tests.{and_left, name-is}
use Rattle.laid.specs.Store.{LaidStore}
use Rattle.laid.specs.Row.{table_in, row_in, column_in, no_column, RowOf}
use Rattle.walks.specs.Referring.{shown, counts}
use Rattle.walks.specs.declared.walk.Span.{Span}
use Rattle.walks.specs.Spans.{Spans}
use Rattle.walks.proofs.Shown.{none-shown}
use Rattle.laid.proofs.Finding.{drop_nth, nth-get_or}
use Rattle.laid.proofs.Stores.{held-state}
use Rattle.laid.proofs.Keyed.{row_at, row-in}
use Rattle.laid.proofs.RowFacts.{own-full, own-key-below, own_key, table-there, table-held, start-name, start-key, start-count}

-- ---- whether a row of the keys' own table counts

module _ (ks : List Value) (j : ℕ) (r : Row) (a : Bool) (ea : a ≡ among (cell_at r.cells j) ks) where
  pub counts-own : (own : Bool) → a ≡ true → own ≡ true → (b : Bool) → b ≡ among r.key ks → not b ≡ counts ks j own r
  counts-own own h g b eb = rw (← ea, ← eb, h, g)

-- ---- the cells of a row of the table at place t

module _ (p : Profile) (R : ℕ) (s : List ℕ) (b : LaidStore p R s) (t i : ℕ) (o : RowOf p R s t i) where
  pub cell-there : (j : ℕ) → j < length (table_in p R s t).columns → j < length (row_in p R s i).cells
  cell-there j h =
      omega
      (arith, own-full p R (parse p R s) (held-state p R s b) (table_in p R s t) (table-held p R s b t o.known) (row_in p R s i) (row-in p R s b i o.stored) o.of)

  -- the key column, as it is read from the table's record
  module _ (rec : List ℕ) (er : rec ≡ get_or (lists p R s).schemas t []) (column : ℕ) (ec : column ≡ get_or rec 25 0) where
    column-is : column ≡ (table_in p R s t).key
    column-is = ec ∙ start-key p R s b t o.known rec er

    pub key-there : column < length (row_in p R s i).cells
    key-there =
        cell-there column
        (omega
        (arith, column-is, own-key-below p R (parse p R s) (held-state p R s b) (table_in p R s t) (table-held p R s b t o.known) (row_in p R s i) (row-in p R s b i o.stored) o.of))

    pub key-held : cell_at (row_in p R s i).cells column ≡ (row_in p R s i).key
    key-held =
        ap (cell_at (row_in p R s i).cells) column-is
        ∙ own_key p R (parse p R s) (held-state p R s b) (table_in p R s t) (table-held p R s b t o.known) (row_in p R s i) (row-in p R s b i o.stored) o.of
        b.coded.known

-- ---- the rows of a table

-- the rows from place k on, before place `to`
unfoldable pub between : List Row → ℕ → ℕ → List Row
between rs k to = take (to - k) (drop k rs)

between_step : (rs : List Row) (k to : ℕ) (r : Row) → nth rs k ≡ some r → k < to → between rs k to ≡ r ∷ between rs (k + 1) to
unfolding between
between_step rs k to r e h =
    let m : to - k ≡ suc (to - (k + 1)) = omega arith in
    rw (m, add-one, drop_nth rs k r e)

between-end : (rs : List Row) (k to : ℕ) → to ≤ k → between rs k to ≡ []
unfolding between
between-end rs k to h =
    let m : to - k ≡ 0 = omega arith in
    rw m

-- the first row that refers to a key, among the rows of one table
first-counting : (rs : List Row) (n : Name) (ks : List Value) (src : Name) (j : ℕ) → referring rs n ks src j ≡ find (counts ks j (same_name src n)) (rows_of rs src)
first-counting [] n ks src j = refl
first-counting (r ∷ rs) n ks src j =
    by-test (of_table src r) (first-counting rs n ks src j)
  where
    by-test : (b : Bool) → referring rs n ks src j ≡ find (counts ks j (same_name src n)) (rows_of rs src)
        → cond (b && among (cell_at r.cells j) ks && not (same_name src n && among r.key ks)) (some r) (referring rs n ks src j) ≡ find (counts ks j (same_name src n)) (keep_if b r (rows_of rs src))
    by-test true e = rw e
    by-test false e = e

-- ---- the columns of a table

abbrev carry : Table → Row → Carried
carry t = λ (r : Row). record { table = t.name; column = t.key; key = r.key }

module _ (rs : List Row) (n : Name) (ks : List Value) (t : Table) (j : ℕ) (c : Column) (cs : List Column) where
  column-refers : refers_to n c ≡ true → referring_column rs n ks t j (c ∷ cs) ≡ map (carry t) (referring rs n ks t.name j) or_else referring_column rs n ks t (suc j) cs
  unfolding referring_column
  column-refers h = rw h

  -- a column that does not refer, or whose search shows none of the keys
  column-passed : (refers_to n c && any (shown rs t j c) ks) ≡ false → referring_column rs n ks t j (c ∷ cs) ≡ referring_column rs n ks t (suc j) cs
  unfolding referring_column ◌or_else◌
  column-passed h = by-test (refers_to n c) h
    where
      by-test : (b : Bool) → (b && any (shown rs t j c) ks) ≡ false
          → (cond b (map (carry t) (referring rs n ks t.name j)) none or_else referring_column rs n ks t (suc j) cs) ≡ referring_column rs n ks t (suc j) cs
      by-test true h = rw (none-shown rs n ks t j c h)
      by-test false h = refl

-- ---- the places of the search

module _ (p : Profile) (R : ℕ) (s : List ℕ) (n : Name) (ks : List Value) where
  abbrev rows : List Row
  rows = (parse p R s).rows

  abbrev tables : List Table
  tables = (parse p R s).tables

  abbrev pub whole : Option Carried
  whole = row_referenced rows n ks tables

  -- from table t on
  unfoldable pub FromTable : ℕ → Type 0
  FromTable t = row_referenced rows n ks (drop t tables) ≡ whole

  abbrev from_column : ℕ → ℕ → Option Carried
  from_column t j = referring_column rows n ks (table_in p R s t) j (drop j (table_in p R s t).columns)

  -- from its column j on
  unfoldable pub FromColumn : ℕ → ℕ → Type 0
  FromColumn t j = (from_column t j or_else row_referenced rows n ks (drop (suc t) tables)) ≡ whole

  -- from the row at place k on: the rows before place `to` are the table's
  pub record FromRow (t j : ℕ) (own : Bool) (to k : ℕ) : Type 0 where
    pub inside : to ≤ length rows
    pub of : (r : Row) → In r (between rows k to) → r.table ≡ (table_in p R s t).name
    pub left : ((map (carry (table_in p R s t)) (find (counts ks j own) (between rows k to)) or_else from_column t (suc j)) or_else row_referenced rows n ks (drop (suc t) tables)) ≡ whole

  -- the row at place k of the table at place t is the one that is looked for
  pub record Hit (t k : ℕ) : Type 0 where
    pub row : RowOf p R s t k
    pub is : some (carried_by (table_in p R s t).name (table_in p R s t).key (row_in p R s k).key) ≡ whole

  pub search-start : FromTable 0
  unfolding FromTable
  search-start = refl

  pub search-end : (t : ℕ) → FromTable t → length tables ≤ t → none ≡ whole
  unfolding FromTable row_referenced
  search-end t f l = rw (drop_of_length-le tables l) at f

  pub table-first : (t : ℕ) → t < length tables → FromTable t → FromColumn t 0
  unfolding FromTable FromColumn row_referenced
  table-first t l f = rw (drop_nth tables t (table_in p R s t) (table-there p R s t l)) at f

  pub table-next : (t j : ℕ) → FromColumn t j → length (table_in p R s t).columns ≤ j → FromTable (t + 1)
  unfolding FromTable FromColumn referring_column ◌or_else◌
  table-next t j f l = rw (add-one, ← f, drop_of_length-le (table_in p R s t).columns l)

  module _ (t j : ℕ) (l : j < length (table_in p R s t).columns) (f : FromColumn t j) where
    column-there : drop j (table_in p R s t).columns ≡ column_in p R s t j ∷ drop (suc j) (table_in p R s t).columns
    unfolding column_in
    column-there =
        let e = nth-get_or (table_in p R s t).columns j no_column l in
        drop_nth (table_in p R s t).columns j (or_default (nth (table_in p R s t).columns j) no_column) (e ∙ ap some (sym (ap (λ (o : Option Column). or_default o no_column) e)))

    -- whether the code looks at its rows
    module _ (a : Bool) (ea : a ≡ (refers_to n (column_in p R s t j) && any (shown rows (table_in p R s t) j (column_in p R s t j)) ks)) where
      pub column-past : a ≡ false → FromColumn t (j + 1)
      unfolding FromColumn
      column-past h =
          rw add-one
          (rw (column-there, column-passed rows n ks (table_in p R s t) j (column_in p R s t j) (drop (suc j) (table_in p R s t).columns) (sym ea ∙ h)) at f)

      pub column-rows : a ≡ true → (x : Span) (m : Name) → Spans rows m x → m ≡ (table_in p R s t).name → (own : Bool) → own ≡ same_name m n → FromRow t j own x.to x.from
      unfolding FromColumn between
      column-rows h x m w e own o =
          record {
            inside = w.inside;
            of = λ r i. name-is r.table m (in-keep (of_table m) r rows (rw w.are i)).1 ∙ e;
            left =
                rw (o, ← w.are, e, ← first-counting rows n ks (table_in p R s t).name j)
                (rw (column-there, column-refers rows n ks (table_in p R s t) j (column_in p R s t j) (drop (suc j) (table_in p R s t).columns) (and_left (refers_to n (column_in p R s t j)) _ (sym ea ∙ h))) at f);
          }

  pub column-next : (t j : ℕ) (own : Bool) (to k : ℕ) → FromRow t j own to k → to ≤ k → FromColumn t (j + 1)
  unfolding FromColumn ◌or_else◌
  column-next t j own to k f l = rw add-one (rw (between-end rows k to l) at f.left)

  module _ (b : LaidStore p R s) (t j : ℕ) (own : Bool) (to k : ℕ) (f : FromRow t j own to k) (l : k < to) where
    stored : k < length rows
    stored = omega (arith, f.inside, l)

    row-there : between rows k to ≡ row_in p R s k ∷ between rows (k + 1) to
    row-there = between_step rows k to (row_in p R s k) (row_at p R s b k stored) l

    pub row-of : t < length tables → RowOf p R s t k
    row-of h = record { known = h; stored = stored; of = f.of (row_in p R s k) (rw row-there (inl refl)) }

    pub row-past : (a : Bool) → a ≡ counts ks j own (row_in p R s k) → a ≡ false → FromRow t j own to (k + 1)
    row-past a e h =
        record {
          inside = f.inside;
          of = λ r i. f.of r (rw row-there (inr i));
          left = rw (row-there, sym e ∙ h) at f.left;
        }

    pub row-hit : t < length tables → (a : Bool) → a ≡ counts ks j own (row_in p R s k) → a ≡ true → Hit t k
    unfolding ◌or_else◌
    row-hit l a e h = record { row = row-of l; is = rw (row-there, sym e ∙ h) at f.left }

  -- what the code carries away
  module _ (b : LaidStore p R s) (t k : ℕ) (f : Hit t k) (rec : List ℕ) (er : rec ≡ get_or (lists p R s).schemas t []) (column : ℕ) (ec : column ≡ get_or rec 25 0) where
    pub carried-is : (m : Name) (v : Value) → m ≡ read_name rec → v ≡ cell_at (row_in p R s k).cells column → some (carried_by m column v) ≡ whole
    carried-is m v em ev =
        rw (em ∙ start-name p R s b t f.row.known rec er, ev ∙ key-held p R s b t k f.row rec er column ec, column-is p R s b t k f.row rec er column ec) f.is

-- what the code has at hand of the table at place t
pub record AtTable (p : Profile) (R : ℕ) (s : List ℕ) (n : Name) (t columns : ℕ) (table : Text) (own : Bool) : Type 0 where
  pub known : t < length (parse p R s).tables
  pub counted : columns ≡ length (table_in p R s t).columns
  pub named : text_bytes table ≡ (table_in p R s t).name
  pub packed : Packed table
  pub whose : own ≡ same_name (text_bytes table) n

pub at_table : (p : Profile) (R : ℕ) (s : List ℕ) → LaidStore p R s → (n : Name) (t : ℕ) → t < length (parse p R s).tables → (rec : List ℕ) → rec ≡ get_or (lists p R s).schemas t []
    → (columns : ℕ) → columns ≡ get_or rec 26 0 → (table : Text) → text_bytes table ≡ read_name rec → Packed table → (own : Bool) → own ≡ same_name (text_bytes table) n → AtTable p R s n t columns table own
at_table p R s b n t h rec er columns ec table et pt own eo =
    record {
      known = h;
      counted = ec ∙ start-count p R s b t h rec er;
      named = et ∙ start-name p R s b t h rec er;
      packed = pt;
      whose = eo;
    }
