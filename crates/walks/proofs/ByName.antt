-- The records of a valid state by the names that they start with: those with earlier names come first, and the run of a name can be taken out.
-- Assumes nothing.
use mathlib.Core.Path.{◌≡◌, refl, sym, ◌∙◌}
use mathlib.Core.Bool.{not}
use mathlib.Core.Logic.{inl, inr}
use Prim.Native.Nat.Ordering.{gt}
use Prim.Native.Nat.Ordering.{lt}
use Prim.Native.Nat.{ℕ}
use mathlib.Core.List.{List, [], ◌∷◌}
use lib.Dec.{compare_is_eq}
use Rattle.values.specs.Basic.{is_lt, cmp_bytes, keep}
use Rattle.values.specs.Cell.{read_name}
use Rattle.areas.specs.Sorted.{In, All, count_of, Falls}
use Rattle.values.proofs.Orders.{gt≢lt}
use Rattle.areas.proofs.Runs.{key-leads}
use Rattle.rules.specs.declared.profile.Profile.{Profile}
use Rattle.rules.specs.Profile.{Known}
use Rattle.rules.specs.State.{Name, Table, Row, State, cmp_table, cmp_row, of_table}
use Rattle.rules.specs.Index.{Entry, cmp_entry}
use Rattle.rules.specs.Layout.{Lists, Laid, Area, Schemas, Rows, Entries, in_area, with_area, table_record, row_record, entry_record, records_of}
use Rattle.rules.proofs.Valid.{Valid, valid-laid}
use Rattle.rules.proofs.Index.{index-sorted}
use Rattle.rules.proofs.Laid.{laid-lists}
use Rattle.rules.proofs.Room.{indexed}
use Rattle.rules.proofs.Removed.{with_rows}
use Rattle.rules.proofs.Trip.{table-good, table-name, row-name, entry-name}
use Rattle.rules.proofs.Whole.{good-row, good-entries}
use Rattle.laid.specs.Store.{Coded}
use Rattle.laid.specs.Catalog.{before, without_run, RunIn, RunOut}
use Rattle.laid.proofs.Runs.{run-falls, run-at, run_out}

pub all_of : {A : Type 0} (P : A → Type 0) (xs : List A) → ((x : A) → In x xs → P x) → All P xs
all_of P [] h = tt
all_of P (x ∷ xs) h = (h x (inl refl), all_of P xs (λ y m. h y (inr m)))

-- ---- the name leads each order

table-leads : (x y : Table) → cmp_table x y ≡ lt → cmp_bytes x.name y.name ≡ gt → ⊥
table-leads x y h e = gt≢lt (sym e ∙ h)

pub row-leads : (x y : Row) → cmp_row x y ≡ lt → cmp_bytes x.table y.table ≡ gt → ⊥
unfolding cmp_row
row-leads x y h e = key-leads _ _ h e

entry-leads : (x y : Entry) → cmp_entry x y ≡ lt → cmp_bytes x.table y.table ≡ gt → ⊥
unfolding cmp_entry
entry-leads x y h e = key-leads _ _ h e

-- ---- a run in a store, and the store without it, where what the store is laid out from is known

module _ (p : Profile) (R : ℕ) (a : Area) (n : Name) (s : List ℕ) (x : Lists) (l : Laid p R s x) where
  pub run_in : Coded p → Falls (before n) (in_area a x) → RunIn p R a n s
  run_in c f = let e = laid-lists p R s x l in record { coded = c; laid = rw e l; falls = rw e f }

  pub run-left : (t : List ℕ) → RunOut p R a n s t → Laid p R t (with_area a (without_run n (in_area a x)) x)
  run-left t o = rw (laid-lists p R s x l) at o

-- ---- the three areas

module _ (p : Profile) (k : Known p) (R : ℕ) (s : State) (v : Valid p R s) (n : Name) where
  abbrev pub entries_outside : List Entry
  entries_outside = keep (λ (e : Entry). not (compare_is_eq (cmp_bytes e.table n))) (indexed s)

  abbrev pub rows_outside : List Row
  rows_outside = keep (λ (r : Row). not (of_table n r)) s.rows

  tables-named : All (λ (t : Table). read_name (table_record p t) ≡ t.name) s.tables
  tables-named = all_of _ s.tables (λ t m. table-name p k.cell t (table-good p t (v.good-tables t m)))

  rows_named : All (λ (r : Row). read_name (row_record p r) ≡ r.table) s.rows
  rows_named = all_of _ s.rows (λ r m. row-name p k.cell r (good-row p R s (valid-laid v) r m))

  entries-named : All (λ (e : Entry). read_name (entry_record p e) ≡ e.table) (indexed s)
  entries-named = all_of _ (indexed s) (λ e m. entry-name p k.cell e (good-entries p k R s (valid-laid v) e m))

  module _ (es : List Entry) where
    pub tables-fall : Falls (before n) (in_area Schemas (records_of p s es))
    unfolding records_of
    tables-fall = run-falls (table_record p) (λ t. t.name) table-leads n s.tables v.tables-sorted tables-named

    pub tables-ranked : count_of (before n) (in_area Schemas (records_of p s es)) ≡ count_of (λ (t : Table). is_lt (cmp_bytes t.name n)) s.tables
    unfolding records_of
    tables-ranked = run-at (table_record p) (λ t. t.name) table-leads n s.tables v.tables-sorted tables-named

    pub rows-fall : Falls (before n) (in_area Rows (records_of p s es))
    unfolding records_of
    rows-fall = run-falls (row_record p) (λ r. r.table) row-leads n s.rows v.rows-sorted rows_named

    pub rows-gone : with_area Rows (without_run n (in_area Rows (records_of p s es))) (records_of p s es) ≡ records_of p (with_rows s rows_outside) es
    unfolding records_of
    rows-gone = rw (run_out (row_record p) (λ r. r.table) row-leads n s.rows v.rows-sorted rows_named)

  pub entries-fall : Falls (before n) (in_area Entries (records_of p s (indexed s)))
  unfolding records_of
  entries-fall = run-falls (entry_record p) (λ e. e.table) entry-leads n (indexed s) (index-sorted s.tables s.rows) entries-named

  pub entries-gone : with_area Entries (without_run n (in_area Entries (records_of p s (indexed s)))) (records_of p s (indexed s)) ≡ records_of p s entries_outside
  unfolding records_of
  entries-gone = rw (run_out (entry_record p) (λ e. e.table) entry-leads n (indexed s) (index-sorted s.tables s.rows) entries-named)
