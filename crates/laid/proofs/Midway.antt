-- A buffer between two stores: it is laid out from a state's schemas and rows and from good entries in their order, whichever they are. What is
-- read from it, and how an entry comes and goes. Assumes nothing.
use mathlib.Core.Path.{◌≡◌, sym, ap, ◌∙◌, subst}
use mathlib.Core.Bool.{true, false, not}
use mathlib.Core.Logic.{◌⊎◌, inl, inr}
use mathlib.Core.Option.{some}
use Prim.Native.Nat.{ℕ, ◌+◌, ◌*◌, ◌≤◌, ◌<◌}
use native.Mathlib.Omega.{arith}
use mathlib.Core.List.{List, [], map}
use lib.Dec.{compare_is_eq}
use lib.ListN.{length, drop, get_or, length-map}
use Rattle.values.specs.Basic.{insert_by, nth}
use Rattle.values.specs.Cell.{name_width, read_name, read_value}
use Rattle.areas.specs.Sorted.{In, Sorted, insert_at, remove_run}
use Rattle.areas.proofs.Changes.{remove-one}
use Rattle.areas.proofs.Placing.{holds, insert-new, keep-others}
use Rattle.areas.proofs.Sorting.{insert-sorted, keep-sorted, in-keep}
use Rattle.rules.specs.declared.profile.Profile.{Profile}
use Rattle.rules.specs.Profile.{places_most, row_width}
use Rattle.rules.specs.State as S
use Rattle.rules.specs.State.{Table, State, cell_at}
use Rattle.rules.specs.Index.{Entry, cmp_entry, without_entry}
use Rattle.rules.specs.Layout.{Lists, lists, Laid, Entries, with_area, table_record, read_table, row_record, entry_record, read_entry, records_of}
use Rattle.rules.specs.Sound.{good_table}
use Rattle.rules.proofs.Contents.{insert_entry, remove-entries}
use Rattle.rules.proofs.Index.{ord_entry}
use Rattle.rules.proofs.Laid.{laid-lists}
use Rattle.rules.proofs.Lists.{in-inserted, nth-below, map_at_lem, map_back}
use Rattle.rules.proofs.Trip.{GoodRow, GoodEntry, table-good, table-back, entry-back, row-long}
use Rattle.laid.specs.declared.catalog.Column.{Column}
use Rattle.laid.specs.Column.{column_of, ColumnRead}
use Rattle.laid.specs.Store.{Coded, Inside}
use Rattle.laid.specs.Catalog.{TableBytes}
use Rattle.laid.specs.Entered.{entries_in, Entered, entry_rank, entry_added, entry_removed}
use Rattle.laid.proofs.Columns.{column-nth, key-byte, count-byte, record-least}
use Rattle.laid.proofs.Stores.{laid-inside, table-bytes}
use Rattle.laid.proofs.Keyed.{cell-read}

pub record Midway (p : Profile) (R : ℕ) (st : State) (s : List ℕ) : Type 0 where
  pub laid : Laid p R s (records_of p st (entries_in p R s))
  pub sorted : Sorted cmp_entry (entries_in p R s)
  pub good : (e : Entry) → In e (entries_in p R s) → GoodEntry e

module _ (p : Profile) (k : Coded p) (R : ℕ) (most : R ≤ places_most) (st : State) where
  -- ---- what is laid out from entries is read as them

  pub entries-back : (s : List ℕ) (es : List Entry) → Laid p R s (records_of p st es) → ((e : Entry) → In e es → GoodEntry e) → entries_in p R s ≡ es
  unfolding entries_in records_of
  entries-back s es l g =
      ap (λ (x : Lists). map (read_entry p) x.entries) (laid-lists p R s (records_of p st es) l)
      ∙ map_back (entry_record p) (read_entry p) es (λ e m. entry-back p k.known.cell e (g e m))

  pub midway-of : (s : List ℕ) (es : List Entry) → Laid p R s (records_of p st es) → Sorted cmp_entry es → ((e : Entry) → In e es → GoodEntry e) → Midway p R st s
  midway-of s es l o g =
      let q : es ≡ entries_in p R s = sym (entries-back s es l g) in
      record {
        laid = subst (λ (x : List Entry). Laid p R s (records_of p st x)) q l;
        sorted = subst (Sorted cmp_entry) q o;
        good = subst (λ (x : List Entry). (e : Entry) → In e x → GoodEntry e) q g;
      }

  module _ (s : List ℕ) (m : Midway p R st s) where
    abbrev es : List Entry
    es = entries_in p R s

    mid-lists : lists p R s ≡ records_of p st es
    mid-lists = laid-lists p R s (records_of p st es) m.laid

    pub mid-inside : Inside p R s
    mid-inside = laid-inside p k R most s (records_of p st es) m.laid

    pub mid-entered : Entered p R s
    mid-entered = record { coded = k; places = most; laid = subst (Laid p R s) (sym mid-lists) m.laid; sorted = m.sorted }

    -- ---- the record of a table, and a column of it

    module _ (t : ℕ) (T : Table) (at : nth st.tables t ≡ some T) where
      pub mid-table : t < length (lists p R s).schemas
      unfolding records_of
      mid-table = omega (arith, ap (λ (x : Lists). length x.schemas) mid-lists, length-map st.tables (table_record p), nth-below st.tables t T at)

      module _ (rec : List ℕ) (er : rec ≡ get_or (lists p R s).schemas t []) (g : good_table p T ≡ true) where
        table_is : rec ≡ table_record p T
        unfolding records_of
        table_is = er ∙ ap (λ (x : Lists). get_or x.schemas t []) mid-lists ∙ map_at_lem (table_record p) st.tables t T [] at

        pub mid-table-bytes : TableBytes p rec
        mid-table-bytes = subst (TableBytes p) (sym table_is) (table-bytes p k T g)

        pub mid-table-read : read_table p rec ≡ T
        mid-table-read = ap (read_table p) table_is ∙ table-back p k.known.cell T (table-good p T g)

        -- its name, its key column, how many columns it has
        pub mid-name : read_name rec ≡ T.name
        unfolding read_table
        mid-name = ap (λ (x : Table). x.name) mid-table-read

        pub mid-key : get_or rec 25 0 ≡ T.key
        mid-key = key-byte p rec ∙ ap (λ (x : Table). x.key) mid-table-read

        pub mid-count : get_or rec 26 0 ≡ length T.columns
        mid-count = count-byte p rec ∙ ap (λ (x : Table). length x.columns) mid-table-read

        pub mid-least : 27 ≤ length rec
        mid-least = record-least p rec mid-table-bytes

        pub mid-column : (j : ℕ) (c : Column) → ColumnRead p rec j c → j < length T.columns → nth T.columns j ≡ some (column_of c)
        mid-column j c r h =
            let e : (read_table p rec).columns ≡ T.columns = ap (λ (x : Table). x.columns) mid-table-read in
            ap (λ (cs : List S.Column). nth cs j) (sym e)
            ∙ column-nth p rec mid-table-bytes j (omega (arith, ap length e))
            ∙ ap some (sym r.is)

    -- ---- the record of a row, and a cell of it

    module _ (i : ℕ) (r : S.Row) (at : nth st.rows i ≡ some r) where
      pub mid_row : i < length (lists p R s).rows
      unfolding records_of
      mid_row = omega (arith, ap (λ (x : Lists). length x.rows) mid-lists, length-map st.rows (row_record p), nth-below st.rows i r at)

      module _ (rec : List ℕ) (er : rec ≡ get_or (lists p R s).rows i []) (g : GoodRow p r) where
        row_is : rec ≡ row_record p r
        unfolding records_of
        row_is = er ∙ ap (λ (x : Lists). get_or x.rows i []) mid-lists ∙ map_at_lem (row_record p) st.rows i r [] at

        pub mid-row-long : length rec ≡ row_width p
        mid-row-long = ap length row_is ∙ row-long p k.known.cell r g

        pub mid-cell : (j : ℕ) → j < length r.cells → read_value (drop (name_width + j * p.cell) rec) ≡ cell_at r.cells j
        mid-cell j h = ap (λ (x : List ℕ). read_value (drop (name_width + j * p.cell) x)) row_is ∙ cell-read p k.known.cell r g j h

    -- ---- an entry comes

    module _ (e : Entry) (g : GoodEntry e) (new : holds cmp_entry e es ≡ false) (s₁ : List ℕ) (l : Laid p R s₁ (entry_added p R e s)) where
      added_is : entry_added p R e s ≡ records_of p st (insert_by cmp_entry e es)
      unfolding entry_added
      added_is =
          ap (λ (x : Lists). with_area Entries (insert_at (entry_rank p R e s) (entry_record p e) x.entries) x) mid-lists
          ∙ insert_entry p st es (entry_rank p R e s) e
          ∙ ap (records_of p st) (sym (insert-new ord_entry e es m.sorted new))

      added-laid : Laid p R s₁ (records_of p st (insert_by cmp_entry e es))
      added-laid = subst (Laid p R s₁) added_is l

      added-good : (x : Entry) → In x (insert_by cmp_entry e es) → GoodEntry x
      added-good x n = by (in-inserted cmp_entry e x es n)
        where
          by : (x ≡ e) ⊎ In x es → GoodEntry x
          by (inl q) = subst GoodEntry (sym q) g
          by (inr q) = m.good x q

      pub mid-added : Midway p R st s₁
      mid-added = midway-of s₁ (insert_by cmp_entry e es) added-laid (insert-sorted ord_entry e es m.sorted) added-good

      pub added-entries : entries_in p R s₁ ≡ insert_by cmp_entry e es
      added-entries = entries-back s₁ (insert_by cmp_entry e es) added-laid added-good

    -- ---- an entry goes

    module _ (e : Entry) (there : holds cmp_entry e es ≡ true) (s₁ : List ℕ) (l : Laid p R s₁ (entry_removed p R e s)) where
      removed-is : entry_removed p R e s ≡ records_of p st (without_entry e es)
      unfolding entry_removed
      removed-is =
          ap (λ (x : Lists). with_area Entries (remove_run (entry_rank p R e s) 1 x.entries) x) mid-lists
          ∙ remove-entries p st es (entry_rank p R e s) 1
          ∙ ap (records_of p st) (sym (remove-one (entry_rank p R e s) es) ∙ sym (keep-others ord_entry e es m.sorted there))

      removed-laid : Laid p R s₁ (records_of p st (without_entry e es))
      removed-laid = subst (Laid p R s₁) removed-is l

      removed-good : (x : Entry) → In x (without_entry e es) → GoodEntry x
      removed-good x n = m.good x (in-keep (λ y. not (compare_is_eq (cmp_entry y e))) x es n).0

      pub mid-removed : Midway p R st s₁
      mid-removed = midway-of s₁ (without_entry e es) removed-laid (keep-sorted ord_entry (λ y. not (compare_is_eq (cmp_entry y e))) es m.sorted) removed-good

      pub removed-entries : entries_in p R s₁ ≡ without_entry e es
      removed-entries = entries-back s₁ (without_entry e es) removed-laid removed-good
