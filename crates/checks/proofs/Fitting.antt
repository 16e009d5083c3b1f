-- A row against its table: the faults from a column on as the code's loop goes, the place, and all in 01's order.
-- Assumes nothing.
use mathlib.Core.Path.{◌≡◌, refl, sym, ap, ◌∙◌}
use mathlib.Core.Bool.{Bool, true, false, not, ◌&&◌, true≢false}
use mathlib.Core.Option
use mathlib.Core.Option.{Option, none, some, some-injective}
use Prim.Native.Nat.{ℕ, suc, ◌+◌, ◌≤◌, ◌<◌}
use native.Mathlib.Nat.{zero-add}
use native.Mathlib.Numerals.{add-one}
use native.Mathlib.Omega.{arith}
use mathlib.Core.List.{List, [], ◌∷◌}
use lib.Dec.{eqb}
use lib.ListN.{length, drop, get_or, drop_of_length-le}
use Rattle.values.specs.Basic.{nth, or_default, maybe, ◌or_else◌}
use Rattle.values.specs.Value.{Value, null, is_undefined}
use Rattle.values.specs.Cell.{name_width, read_name}
use Rattle.values.specs.Meaning.{held, Proper, ProperCell}
use Rattle.areas.specs.Sorted.{In}
use Rattle.values.specs.declared.value.Cell.{Cell}
use Rattle.rules.specs.declared.profile.Profile.{Profile}
use Rattle.rules.specs.Refusal.{Refusal}
use Rattle.rules.specs.Refusal.{KeyUndefined, KeyExists}
use Rattle.rules.specs.State as S
use Rattle.rules.specs.State.{Name, Column, Table, State, table_named, has_row, cell_at, key_of}
use Rattle.rules.specs.Layout.{lists, Schemas, read_table, parse, unknown}
use Rattle.rules.specs.Schema.{first, column_fault, schema_fault}
use Rattle.rules.specs.Rows.{missing, cell_fault, cells_fault, row_fault}
use Rattle.rules.proofs.Tests.{and-false, first-none, or_else-none}
use Rattle.rules.proofs.Lists.{nth_in}
use Rattle.rules.proofs.Catalog.{stored-named}
use Rattle.rules.proofs.Room.{column-passes}
use Rattle.laid.specs.Store.{LaidStore}
use Rattle.laid.specs.Column.{column_at}
use Rattle.laid.specs.Catalog.{TableBytes}
use Rattle.laid.specs.Row.{cells_of, table_in, KeyColumn, FullRow}
use Rattle.checks.specs.Asked.{table_with, UniqueIndexed, place_fault}
use Rattle.laid.proofs.Inside.{area-count}
use Rattle.laid.proofs.Stores.{held-state, held-catalog}
use Rattle.laid.proofs.Finding.{drop_nth, nth-map, nth-get_or, all-nth}
use Rattle.laid.proofs.Columns.{columns_of, name-read, key-byte, columns-few, column-nth, column-drop}
use Rattle.laid.proofs.Searching.{tables-count, table_at, table-bytes-at}
use Rattle.checks.proofs.Faulting.{or-first, or-second, Told, told, or-told}
use Rattle.checks.proofs.Checking.{key_below}

-- ---- a cell's fault is none of the accepted

cell-told : (rs : List S.Row) (t : Table) (update : Bool) (key : Value) (i : ℕ) (c : Column) (v : Value) → Told (cell_fault rs t update key i c v)
unfolding cell_fault
cell-told rs t update key i c v = told _ (refl, (refl, (refl, (refl, tt))))

pub cells_told : (rs : List S.Row) (t : Table) (update : Bool) (key : Value) (i : ℕ) (cs : List Column) (vs : List Value) → Told (cells_fault rs t update key i cs vs)
unfolding cells_fault
cells_told rs t update key i [] vs = λ k e. absurd (cc)
cells_told rs t update key i (c ∷ cs) [] = λ k e. absurd (cc)
cells_told rs t update key i (c ∷ cs) (v ∷ vs) = or-told (cell_fault rs t update key i c v) _ (cell-told rs t update key i c v) (cells_told rs t update key (suc i) cs vs)

-- ---- a unique column other than the key is indexed

index_of : (x y : Bool) → (not x && not y) ≡ false → y ≡ false → x ≡ true
index_of true y h e = refl
index_of false y h e = absurd (true≢false (sym (ap not e) ∙ h))

unique-indexed : (ts : List Table) (t : Table) (i : ℕ) (c : Column) → column_fault ts t i c ≡ none → c.unique ≡ true → eqb i t.key ≡ false → c.index ≡ true
unfolding column_fault
unique-indexed ts t i c h u k =
    let h1 = (first-none _ _ _ h).1 in
    let h2 = (first-none _ _ _ h1).1 in
    let h3 = (first-none _ _ _ h2).1 in
    let h4 = (first-none _ _ _ h3).1 in
    let h5 = (first-none _ _ _ h4).1 in
    let h6 = (first-none _ _ _ h5).1 in
    let h7 = (first-none _ _ _ h6).1 in
    index_of c.index (eqb i t.key) (and-false c.unique (not c.index && not (eqb i t.key)) (first-none _ _ _ h7).0 u) k

-- ---- the faults from a column on

-- only the table's name and key column are looked at
missing-of : (rs : List S.Row) (t : Table) (key : Value) (o : Option Name) (v : Value) → missing rs t key o v ≡ missing rs (table_with t.name t.key) key o v
missing-of rs t key none v = refl
missing-of rs t key (some n) v = refl

cell-of : (rs : List S.Row) (t : Table) (update : Bool) (key : Value) (i : ℕ) (c : Column) (v : Value)
    → cell_fault rs t update key i c v ≡ cell_fault rs (table_with t.name t.key) update key i c v
unfolding cell_fault
cell-of rs t update key i c v = rw (missing-of rs t key c.reference v)

module _ (p : Profile) (R : ℕ) (s : List ℕ) (t : ℕ) where
  unfoldable pub faults_on : Bool → List Cell → ℕ → Option Refusal
  faults_on update row j =
      cells_fault (parse p R s).rows (table_in p R s t) update (key_of (table_in p R s t) (cells_of row)) j (drop j (table_in p R s t).columns) (drop j (cells_of row))

  module _ (b : LaidStore p R s) (h : t < length (parse p R s).tables) where
    pub schema-within : t < length (lists p R s).schemas
    schema-within = omega (arith, tables-count p R s, area-count p R s Schemas)

    -- the table's record, as it is lent
    module _ (rec : List ℕ) (er : rec ≡ get_or (lists p R s).schemas t []) where
      pub rec-bytes : TableBytes p rec
      rec-bytes = rw er (table-bytes-at p R s t schema-within (held-catalog p R s b))

      pub table_is : table_in p R s t ≡ read_table p rec
      unfolding table_in
      table_is = rw er (ap (λ (o : Option Table). or_default o (unknown [])) (table_at p R s t schema-within))

      table-in : In (read_table p rec) (parse p R s).tables
      table-in = rw er (nth_in (parse p R s).tables t _ (table_at p R s t schema-within))

      pub key-within-columns : (at : ℕ) → at ≡ get_or rec name_width 0 → at < length (columns_of p rec)
      key-within-columns at ea = omega (arith, ea, key-byte p rec, key_below p R s b (read_table p rec) table-in)

      pub key-of-table : (n : Name) → n ≡ read_name rec → (at : ℕ) → at ≡ get_or rec name_width 0 → KeyColumn p R s n at
      key-of-table n en at ea =
          record {
            inside = omega (arith, key-within-columns at ea, columns-few p rec rec-bytes);
            is = λ u f.
                ea ∙ key-byte p rec
                ∙ ap (λ (x : Table). x.key)
                (some-injective (read_table p rec) u
                (sym (ap (table_named (parse p R s).tables) (en ∙ name-read p rec) ∙ stored-named (parse p R s).tables (held-state p R s b).tables-sorted (read_table p rec) table-in) ∙ f));
          }

      pub unique-found : (n : Name) → n ≡ read_name rec → (at : ℕ) → at ≡ get_or rec name_width 0 → (j : ℕ) → j < length (columns_of p rec) → (c : Column) → c ≡ column_at p rec j
          → UniqueIndexed (parse p R s).tables n at j c.unique
      unfolding schema_fault maybe
      unique-found n en at ea j l c ec u k =
          let ts = (parse p R s).tables in
          let T = read_table p rec in
          let named : table_named ts n ≡ some T = ap (table_named ts) (en ∙ name-read p rec) ∙ stored-named ts (held-state p R s b).tables-sorted T table-in in
          let passes : column_fault ts T j (column_at p rec j) ≡ none =
          rw zero-add at (column-passes ts T (columns_of p rec) 0 j (column_at p rec j) (or_else-none _ _ (or_else-none _ _ ((held-state p R s b).faults T table-in)).1).0 (column-nth p rec rec-bytes j l))
          in
          rw (named, column-nth p rec rec-bytes j l)
          (unique-indexed ts T j (column_at p rec j) passes (ap (λ (x : Column). x.unique) (sym ec) ∙ u) (ap (eqb j) (sym (ea ∙ key-byte p rec)) ∙ k))

      -- a row that fills it
      module _ (row : List Cell) (f : FullRow p R s t row) where
        pub count-columns : length row ≡ length (columns_of p rec)
        count-columns = f.full ∙ ap (λ (x : Table). length x.columns) table_is

        module _ (j : ℕ) (l : j < length (columns_of p rec)) (d : Cell) where
          pub cell-proper : Proper (get_or row j d).value
          cell-proper = all-nth ProperCell row j d f.proper.proper (omega (arith, count-columns))

          pub cell-nth : nth (cells_of row) j ≡ some (held (get_or row j d))
          unfolding cells_of
          cell-nth = nth-map held row j ∙ ap (Option.map held) (nth-get_or row j d (omega (arith, count-columns)))

        pub key-is : (at : ℕ) → at ≡ get_or rec name_width 0 → (d : Cell) → held (get_or row at d) ≡ key_of (table_in p R s t) (cells_of row)
        key-is at ea d =
            sym
            (ap (λ (x : Table). cell_at (cells_of row) x.key) table_is
            ∙ ap (cell_at (cells_of row)) (sym (ea ∙ key-byte p rec))
            ∙ ap (λ (o : Option Value). or_default o null) (cell-nth at (key-within-columns at ea) d))

        pub stored_is : (n : Name) → n ≡ read_name rec → (at : ℕ) → at ≡ get_or rec name_width 0 → (d : Cell) (x : Bool) → x ≡ has_row (parse p R s).rows n (held (get_or row at d))
            → x ≡ has_row (parse p R s).rows (table_in p R s t).name (key_of (table_in p R s t) (cells_of row))
        stored_is n en at ea d x ex =
            ex
            ∙ ap (λ (m : Name). has_row (parse p R s).rows m (held (get_or row at d))) (en ∙ name-read p rec ∙ ap (λ (x : Table). x.name) (sym table_is))
            ∙ ap (has_row (parse p R s).rows (table_in p R s t).name) (key-is at ea d)

        -- ---- column by column

        module _ (update : Bool) where
          pub faults-whole : cells_fault (parse p R s).rows (table_in p R s t) update (key_of (table_in p R s t) (cells_of row)) 0 (table_in p R s t).columns (cells_of row)
              ≡ faults_on update row 0
          unfolding faults_on
          faults-whole = refl

          none-on : (j : ℕ) → length (columns_of p rec) ≤ j → faults_on update row j ≡ none
          unfolding faults_on cells_fault
          none-on j l = let n : drop j (columns_of p rec) ≡ [] = drop_of_length-le (columns_of p rec) l in rw (table_is, n)

          pub faults-over : (j : ℕ) → length (columns_of p rec) ≤ j → faults_on update row j ≡ faults_on update row 0
              → none ≡ cells_fault (parse p R s).rows (table_in p R s t) update (key_of (table_in p R s t) (cells_of row)) 0 (table_in p R s t).columns (cells_of row)
          faults-over j l e = sym (none-on j l) ∙ e ∙ sym faults-whole

          module _ (n : Name) (en : n ≡ read_name rec) (at : ℕ) (ea : at ≡ get_or rec name_width 0) (d : Cell) (j : ℕ) (l : j < length (columns_of p rec)) (c : Column) (ec : c ≡ column_at p rec j) where
            abbrev here : Option Refusal
            here = cell_fault (parse p R s).rows (table_with n at) update (held (get_or row at d)) j c (held (get_or row j d))

            faults-next : faults_on update row j ≡ here or_else faults_on update row (j + 1)
            unfolding faults_on cells_fault
            faults-next =
                rw (
                  add-one,
                  key-is at ea d,
                  en ∙ name-read p rec,
                  ea ∙ key-byte p rec,
                  ec,
                  drop_nth (cells_of row) j (held (get_or row j d)) (cell-nth j l d),
                  table_is,
                  column-drop p rec rec-bytes j l,
                  cell-of (parse p R s).rows (read_table p rec),
                )

            pub fault-found : (k : Refusal) → some k ≡ here → faults_on update row j ≡ faults_on update row 0
                → some k ≡ cells_fault (parse p R s).rows (table_in p R s t) update (key_of (table_in p R s t) (cells_of row)) 0 (table_in p R s t).columns (cells_of row)
            fault-found k g e = or-first k here _ g ∙ sym faults-next ∙ e ∙ sym faults-whole

            pub fault-none : none ≡ here → faults_on update row j ≡ faults_on update row 0 → faults_on update row (j + 1) ≡ faults_on update row 0
            fault-none g e = or-second _ here _ g refl ∙ sym faults-next ∙ e

-- ---- 26, 27; each column 28 to 31; 34, 33

module _ (p : Profile) (R : ℕ) (st : State) (t : Table) (update : Bool) (v : List Value) where
  in_three : row_fault p R st t update v
      ≡ first ((KeyUndefined, is_undefined (key_of t v)) ∷ (KeyExists, not update && has_row st.rows t.name (key_of t v)) ∷ [])
      or_else cells_fault st.rows t update (key_of t v) 0 t.columns v
      or_else place_fault R st.rows (has_row st.rows t.name (key_of t v)) update
  unfolding row_fault place_fault
  in_three = refl

  pub key-undefined : is_undefined (key_of t v) ≡ true → some KeyUndefined ≡ row_fault p R st t update v
  unfolding first ◌or_else◌
  key-undefined z = rw (in_three, z)

  module _ (z : is_undefined (key_of t v) ≡ false) (stored : Bool) (es : stored ≡ has_row st.rows t.name (key_of t v)) where
    pub key-exists : not update ≡ true → stored ≡ true → some KeyExists ≡ row_fault p R st t update v
    unfolding first ◌or_else◌
    key-exists u h = rw (in_three, z, u, ← es, h)

    module _ (n : (not update && stored) ≡ false) where
      past-key : row_fault p R st t update v ≡ cells_fault st.rows t update (key_of t v) 0 t.columns v or_else place_fault R st.rows stored update
      unfolding first ◌or_else◌
      past-key = rw (in_three, z, ← es, n)

      pub cells-refuse : (k : Refusal) → some k ≡ cells_fault st.rows t update (key_of t v) 0 t.columns v → some k ≡ row_fault p R st t update v
      cells-refuse k e = rw past-key (or-first k _ _ e)

      pub place-decides : none ≡ cells_fault st.rows t update (key_of t v) 0 t.columns v → (o : Option Refusal) → o ≡ place_fault R st.rows stored update → o ≡ row_fault p R st t update v
      place-decides e o f = rw past-key (or-second o _ _ e f)
