-- A row taken out of a store: its entries go one by one, then its record, and what stands is the image of the state without it. Assumes nothing.
use mathlib.Core.Path.{◌≡◌, refl, sym, ap, ◌∙◌, subst}
use mathlib.Core.Bool.{Bool, true, false}
use mathlib.Core.Option.{some, none-ne-some, some-injective}
use Prim.Native.Nat.Ordering.{eq}
use Prim.Native.Nat.Ordering.{lt}
use Prim.Native.Nat.{ℕ, zero, suc, ◌+◌, ◌*◌, ◌≤◌, ◌<◌, Ordering}
use native.Mathlib.Numerals.{add-one, one-add}
use native.Mathlib.Omega.{arith}
use mathlib.Core.List.{List, [], ◌∷◌}
use lib.ListN.{length, get_or, drop, drop_of_length-le, length-map}
use Rattle.values.specs.Basic.{is_lt, keep_if, nth}
use Rattle.values.specs.Cell.{name_width, read_value}
use Rattle.values.specs.declared.value.Text.{Text}
use Rattle.values.specs.declared.value.Value as D
use Rattle.values.specs.declared.value.Cell.{Cell}
use Rattle.values.specs.Meaning.{held, ProperCell}
use Rattle.areas.specs.Counted.{Shrinks, shrunk}
use Rattle.areas.specs.Sorted.{In, Sorted, count_of, remove_run, remove_at}
use Rattle.areas.proofs.Changes.{remove-one}
use Rattle.values.proofs.Orders.{Ord, self, gt≢lt}
use Rattle.areas.proofs.Placing.{rank, holds-in, keep-others}
use Rattle.areas.proofs.Runs.{none_before}
use Rattle.areas.proofs.Sorting.{all-below}
use Rattle.rules.specs.declared.profile.Profile.{Profile}
use Rattle.rules.specs.Profile.{places_most, row_width, rows_at}
use Rattle.rules.specs.State as S
use Rattle.rules.specs.State.{Table, State, cmp_row, cell_at}
use Rattle.rules.specs.Index.{Entry, entry_at, entries_from, columns_of, entries_of, remove_all, without_entry, index_of}
use Rattle.rules.specs.Step.{removed, apply, without_row}
use Rattle.rules.specs.Layout.{lists, Laid, Rows, rows_count, row_record, layout, records_of, image, parse}
use Rattle.rules.proofs.Contents.{remove-rows}
use Rattle.rules.proofs.Index.{ord_row}
use Rattle.rules.proofs.IndexChanges.{Removing, removing-next, removing-start, index-removed}
use Rattle.rules.proofs.Laid.{laid-shrinks, laid-shrunk}
use Rattle.rules.proofs.Lists.{nth_in, nth-below}
use Rattle.rules.proofs.Room.{indexed}
use Rattle.laid.specs.declared.catalog.Column.{Column}
use Rattle.laid.specs.Column.{column_of, ColumnRead}
use Rattle.laid.specs.Catalog.{TableBytes}
use Rattle.laid.specs.Row.{table_in, row_in, RowOf}
use Rattle.laid.specs.Store.{Coded, Inside, LaidStore}
use Rattle.laid.specs.Entered.{entries_in, Entered, entry_of, ProperEntry, entry_in, entry_removed}
use Rattle.laid.proofs.Keyed.{row_at, row-in}
use Rattle.laid.proofs.Stores.{held-state}
use Rattle.laid.proofs.RowFacts.{RowFacts, row-facts, column-few, entry-is, own-columns, own-full, own-key-below, held-midway, held-entries, table-there, table-held}
use Rattle.laid.proofs.Finding.{drop_nth}
use Rattle.laid.proofs.Midway.{Midway, mid-removed, removed-entries, mid-inside, mid-entered, mid-table, mid-table-bytes, mid-column, mid_row, mid-row-long, mid-cell}
use Rattle.changes.proofs.Changing.{Begun}

-- in a sorted list, as many are before an element as its place says
pub rank-nth : {A : Type 0} {cmp : A → A → Ordering} (O : Ord cmp) (xs : List A) (i : ℕ) (a : A) → Sorted cmp xs → nth xs i ≡ some a → rank cmp a xs ≡ i
unfolding count_of
rank-nth O [] i a s h = absurd (none-ne-some a h)
rank-nth {cmp = cmp} O (x ∷ xs) zero a s h =
    let e : cmp x a ≡ eq = ap (cmp x) (sym (some-injective x a h)) ∙ self O x in
    rw (e, none_before {cmp = cmp} O (λ y. y) (λ y z l e. gt≢lt (sym e ∙ l)) a x xs s (ap is_lt e))
rank-nth {cmp = cmp} O (x ∷ xs) (suc i) a s h =
    let e : cmp x a ≡ lt = all-below O x a xs s.0 s.1 (nth_in xs i a h) in
    rw (e, one-add) (ap suc (rank-nth O xs i a s.1 h))

-- ---- the entries of the columns that are left

pub entries-left : (r : S.Row) (cs : List S.Column) (j : ℕ) (c : S.Column) → nth cs j ≡ some c → entries_from r j (drop j cs) ≡ keep_if c.index (entry_at r j) (entries_from r (j + 1) (drop (j + 1) cs))
unfolding entries_from
entries-left r cs j c h = rw (drop_nth cs j c h, add-one j)

pub entries_none : (r : S.Row) (cs : List S.Column) (j : ℕ) → length cs ≤ j → entries_from r j (drop j cs) ≡ []
unfolding entries_from
entries_none r cs j h = rw (drop_of_length-le cs {i = j} h)

-- ---- on the way

pub record Removes (p : Profile) (R : ℕ) (st : State) (r : S.Row) (cs : List S.Column) (j : ℕ) (s : List ℕ) : Type 0 where
  pub mid : Midway p R st s
  pub removing : Removing (entries_from r j (drop j cs)) (entries_in p R s)
  pub whole : remove_all (entries_from r j (drop j cs)) (entries_in p R s) ≡ index_of st.tables (without_row r st.rows)

module _ (p : Profile) (k : Coded p) (R : ℕ) (most : R ≤ places_most) (st : State) (r : S.Row) (cs : List S.Column) (j : ℕ) (s : List ℕ) (b : Removes p R st r cs j s) (c : S.Column) (at : nth cs j ≡ some c) where
  -- a column without an index
  pub removes-past : c.index ≡ false → Removes p R st r cs (j + 1) s
  removes-past h =
      let e : entries_from r j (drop j cs) ≡ entries_from r (j + 1) (drop (j + 1) cs) =
      entries-left r cs j c at ∙ ap (λ (x : Bool). keep_if x (entry_at r j) (entries_from r (j + 1) (drop (j + 1) cs))) h
      in
      record {
        mid = b.mid;
        removing = subst (λ (es : List Entry). Removing es (entries_in p R s)) e b.removing;
        whole = ap (λ (es : List Entry). remove_all es (entries_in p R s)) (sym e) ∙ b.whole;
      }

  module _ (h : c.index ≡ true) where
    first : entries_from r j (drop j cs) ≡ entry_at r j ∷ entries_from r (j + 1) (drop (j + 1) cs)
    first = entries-left r cs j c at ∙ ap (λ (x : Bool). keep_if x (entry_at r j) (entries_from r (j + 1) (drop (j + 1) cs))) h

    next : (entry_in p R (entry_at r j) s ≡ true) × Removing (entries_from r (j + 1) (drop (j + 1) cs)) (without_entry (entry_at r j) (entries_in p R s))
    next = removing-next (entry_at r j) (entries_from r (j + 1) (drop (j + 1) cs)) (entries_in p R s) (subst (λ (es : List Entry). Removing es (entries_in p R s)) first b.removing)

    pub removes-there : entry_in p R (entry_at r j) s ≡ true
    removes-there = next.0

    pub removes-next : (s₁ : List ℕ) → Laid p R s₁ (entry_removed p R (entry_at r j) s) → Removes p R st r cs (j + 1) s₁
    removes-next s₁ l =
        let e : entries_in p R s₁ ≡ without_entry (entry_at r j) (entries_in p R s) = removed-entries p k R most st s b.mid (entry_at r j) removes-there s₁ l in
        record {
          mid = mid-removed p k R most st s b.mid (entry_at r j) removes-there s₁ l;
          removing = subst (Removing (entries_from r (j + 1) (drop (j + 1) cs))) (sym e) next.1;
          whole = ap (remove_all (entries_from r (j + 1) (drop (j + 1) cs))) e ∙ sym (ap (λ (es : List Entry). remove_all es (entries_in p R s)) first) ∙ b.whole;
        }

-- ---- from the first column to the last, and the record

module _ (p : Profile) (R : ℕ) (st : State) (o : Sorted cmp_row st.rows) (r : S.Row) (i : ℕ) (at : nth st.rows i ≡ some r) (cs : List S.Column) (ec : columns_of st.tables r.table ≡ cs) where
  pub removes-start : (s : List ℕ) → Midway p R st s → entries_in p R s ≡ indexed st → Removes p R st r cs 0 s
  removes-start s m e =
      record {
        mid = m;
        removing = subst (λ (x : List S.Column). Removing (entries_from r 0 x) (entries_in p R s)) ec (subst (Removing (entries_of st.tables r)) (sym e) (removing-start st.tables r st.rows o (nth_in st.rows i r at)));
        whole = ap (λ (x : List S.Column). remove_all (entries_from r 0 x) (entries_in p R s)) (sym ec) ∙ ap (remove_all (entries_of st.tables r)) e ∙ sym (index-removed st.tables r st.rows o (nth_in st.rows i r at));
      }

  rows-without : remove_run i 1 st.rows ≡ without_row r st.rows
  rows-without =
      sym (remove-one i st.rows)
      ∙ ap (λ (n : ℕ). remove_at n st.rows) (sym (rank-nth ord_row st.rows i r o at))
      ∙ sym (keep-others ord_row r st.rows o (holds-in ord_row r r st.rows (nth_in st.rows i r at) (self ord_row r)))

  module _ (j : ℕ) (s : List ℕ) (b : Removes p R st r cs j s) (h : length cs ≤ j) (from w : ℕ) (ef : from ≡ rows_at p) (ew : w ≡ row_width p) where
    index_is : entries_in p R s ≡ index_of st.tables (without_row r st.rows)
    index_is = sym (ap (λ (es : List Entry). remove_all es (entries_in p R s)) (entries_none r cs j h)) ∙ b.whole

    one_more : i + 1 ≤ length (records_of p st (entries_in p R s)).rows
    unfolding records_of
    one_more = omega (arith, length-map st.rows (row_record p), nth-below st.rows i r at)

    pub row-shrinks : Shrinks s rows_count 2 from R w i 1
    row-shrinks = laid-shrinks p R s (records_of p st (entries_in p R s)) b.mid.laid Rows from w R ef ew refl i 1 one_more

    pub row-gone : (s₁ : List ℕ) → s₁ ≡ shrunk rows_count 2 from R w i 1 s → s₁ ≡ image p R (apply (removed r) st)
    unfolding image apply
    row-gone s₁ e =
        e ∙ (laid-shrunk p R s (records_of p st (entries_in p R s)) b.mid.laid Rows from w R ef ew refl i 1 one_more).whole
        ∙ ap (layout p R) (remove-rows p st (entries_in p R s) i 1)
        ∙ ap (λ (rs : List S.Row). layout p R (records_of p (record { tables = st.tables; rows = rs }) (entries_in p R s))) rows-without
        ∙ ap (λ (es : List Entry). layout p R (records_of p (record { tables = st.tables; rows = without_row r st.rows }) es)) index_is

-- ---- a turn of the loop, with what the code has at hand

pub record RemoveTurn (p : Profile) (R : ℕ) (s₀ : List ℕ) (t i : ℕ) (name : Text) (count : ℕ) (key : D.Value) (j : ℕ) (s : List ℕ) : Type 0 where
  pub held : LaidStore p R s₀
  pub of : RowOf p R s₀ t i
  pub facts : RowFacts p R (table_in p R s₀ t) (row_in p R s₀ i) name count key
  pub removes : Removes p R (parse p R s₀) (row_in p R s₀ i) (table_in p R s₀ t).columns j s

module _ {p : Profile} {R : ℕ} {s₀ : List ℕ} {t i : ℕ} (b : LaidStore p R s₀) (o : RowOf p R s₀ t i) where
  there : In (table_in p R s₀ t) (parse p R s₀).tables
  there = table-held p R s₀ b t o.known

  stood : In (row_in p R s₀ i) (parse p R s₀).rows
  stood = row-in p R s₀ b i o.stored

  columns-are : columns_of (parse p R s₀).tables (row_in p R s₀ i).table ≡ (table_in p R s₀ t).columns
  columns-are = own-columns p R (parse p R s₀) (held-state p R s₀ b) (table_in p R s₀ t) there (row_in p R s₀ i) stood o.of

  module _ {name : Text} {column : ℕ} (x : Begun p R s₀ t name column) where
    -- the key column is one of the row's
    pub remove_key : LaidStore p R s₀ × (i < length (parse p R s₀).rows) × (column < length (row_in p R s₀ i).cells)
    remove_key = (
      b,
      o.stored,
      omega (
        arith,
        x.key,
        own-full p R (parse p R s₀) (held-state p R s₀ b) (table_in p R s₀ t) there (row_in p R s₀ i) stood o.of,
        own-key-below p R (parse p R s₀) (held-state p R s₀ b) (table_in p R s₀ t) there (row_in p R s₀ i) stood o.of,
      ),
    )

    pub remove-start : {count : ℕ} → count ≡ length (table_in p R s₀ t).columns → (z : Cell) → (held z ≡ cell_at (row_in p R s₀ i).cells column) × ProperCell z → RemoveTurn p R s₀ t i name count z.value 0 s₀
    remove-start {count} ec z ez =
        record {
          held = b;
          of = o;
          facts = row-facts p b.coded R b.places (parse p R s₀) (held-state p R s₀ b) (table_in p R s₀ t) there (row_in p R s₀ i) stood o.of name x.named x.packed count ec z.value
              (ez.0 ∙ ap (cell_at (row_in p R s₀ i).cells) x.key) ez.1;
          removes = removes-start p R (parse p R s₀) (held-state p R s₀ b).rows-sorted (row_in p R s₀ i) i (row_at p R s₀ b i o.stored) (table_in p R s₀ t).columns columns-are s₀ (held-midway p R s₀ b) (held-entries p R s₀ b);
        }

module _ {p : Profile} {R : ℕ} {s₀ : List ℕ} {t i : ℕ} {name : Text} {count : ℕ} {key : D.Value} {j : ℕ} {s : List ℕ} (x : RemoveTurn p R s₀ t i name count key j s) where
  turn-mid : Midway p R (parse p R s₀) s
  turn-mid = x.removes.mid

  at_row : nth (parse p R s₀).rows i ≡ some (row_in p R s₀ i)
  at_row = row_at p R s₀ x.held i x.of.stored

  inside : Inside p R s
  inside = mid-inside p x.facts.coded R x.facts.places (parse p R s₀) s turn-mid

  -- the record goes when no column is left
  module _ (h : count ≤ j) {from w : ℕ} (ef : from ≡ rows_at p) (ew : w ≡ row_width p) where
    pub remove-shrinks : Shrinks s rows_count 2 from R w i 1
    remove-shrinks =
        row-shrinks p R (parse p R s₀) (held-state p R s₀ x.held).rows-sorted (row_in p R s₀ i) i at_row (table_in p R s₀ t).columns (columns-are x.held x.of) j s x.removes (omega (arith, x.facts.counted)) from w ef ew

    pub remove-done : {s₁ : List ℕ} → s₁ ≡ shrunk rows_count 2 from R w i 1 s → s₁ ≡ image p R (apply (removed (row_in p R s₀ i)) (parse p R s₀))
    remove-done {s₁} =
        row-gone p R (parse p R s₀) (held-state p R s₀ x.held).rows-sorted (row_in p R s₀ i) i at_row (table_in p R s₀ t).columns (columns-are x.held x.of) j s x.removes (omega (arith, x.facts.counted)) from w ef ew s₁

  module _ (h : j < count) where
    abbrev T : Table
    T = table_in p R s₀ t

    abbrev r : S.Row
    r = row_in p R s₀ i

    at_table : nth (parse p R s₀).tables t ≡ some T
    at_table = table-there p R s₀ t x.of.known

    few-columns : j < p.columns
    few-columns = column-few p R T r name count key x.facts j h

    pub turn-table : Inside p R s × (t < length (lists p R s).schemas)
    turn-table = (inside, mid-table p x.facts.coded R x.facts.places (parse p R s₀) s turn-mid t T at_table)

    pub turn-row : Inside p R s × (i < length (lists p R s).rows)
    turn-row = (inside, mid_row p x.facts.coded R x.facts.places (parse p R s₀) s turn-mid i r at_row)

    pub turn-cell : {rec : List ℕ} → rec ≡ get_or (lists p R s).rows i [] → Coded p × (length rec ≡ row_width p) × (j < p.columns)
    turn-cell {rec} er = (x.facts.coded, mid-row-long p x.facts.coded R x.facts.places (parse p R s₀) s turn-mid i r at_row rec er x.facts.good-row, few-columns)

    module _ {rec : List ℕ} (er : rec ≡ get_or (lists p R s).schemas t []) where
      pub turn-read : TableBytes p rec × (j < p.columns)
      turn-read = (mid-table-bytes p x.facts.coded R x.facts.places (parse p R s₀) s turn-mid t T at_table rec er x.facts.good-table, few-columns)

      module _ {c : Column} (rc : ColumnRead p rec j c) where
        column-is : nth T.columns j ≡ some (column_of c)
        column-is = mid-column p x.facts.coded R x.facts.places (parse p R s₀) s turn-mid t T at_table rec er x.facts.good-table j c rc (omega (arith, x.facts.counted))

        turn-to : {s₁ s₂ : List ℕ} → Removes p R (parse p R s₀) r T.columns (j + 1) s₁ → s₂ ≡ s₁ → RemoveTurn p R s₀ t i name count key (j + 1) s₂
        turn-to y e₂ =
            record {
              held = x.held;
              of = x.of;
              facts = x.facts;
              removes = subst (Removes p R (parse p R s₀) r T.columns (j + 1)) (sym e₂) y;
            }

        pub turn-past : c.index ≡ false → {s₂ : List ℕ} → s₂ ≡ s → RemoveTurn p R s₀ t i name count key (j + 1) s₂
        turn-past e e₂ = turn-to (removes-past p x.facts.coded R x.facts.places (parse p R s₀) r T.columns j s x.removes (column_of c) column-is e) e₂

        module _ (e : c.index ≡ true) {rec₁ : List ℕ} (er₁ : rec₁ ≡ get_or (lists p R s).rows i []) (z : Cell) (ez : (held z ≡ read_value (drop (name_width + j * p.cell) rec₁)) × ProperCell z) where
          gone-is : entry_of name j z.value key ≡ entry_at r j
          gone-is =
              entry-is p R T r name count key x.facts j h z.value
              (ez.0 ∙ mid-cell p x.facts.coded R x.facts.places (parse p R s₀) s turn-mid i r at_row rec₁ er₁ x.facts.good-row j (omega (arith, x.facts.full)))

          pub turn-requires : Entered p R s × ProperEntry name z.value key × (entry_in p R (entry_of name j z.value key) s ≡ true)
          turn-requires = (
            mid-entered p x.facts.coded R x.facts.places (parse p R s₀) s turn-mid,
            record { name = x.facts.packed; value = ez.1; key = x.facts.proper },
            subst (λ (y : Entry). entry_in p R y s ≡ true) (sym gone-is) (removes-there p x.facts.coded R x.facts.places (parse p R s₀) r T.columns j s x.removes (column_of c) column-is e),
          )

          pub turn-next : {s₁ : List ℕ} → Laid p R s₁ (entry_removed p R (entry_of name j z.value key) s) → {s₂ : List ℕ} → s₂ ≡ s₁ → RemoveTurn p R s₀ t i name count key (j + 1) s₂
          turn-next {s₁} l e₂ =
              turn-to
              (removes-next p x.facts.coded R x.facts.places (parse p R s₀) r T.columns j s x.removes (column_of c) column-is e s₁
              (subst (λ (y : Entry). Laid p R s₁ (entry_removed p R y s)) gone-is l))
              e₂
