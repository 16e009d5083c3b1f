-- A row and its table in a state that is laid out, and the entry of a column as the code puts it together. Assumes nothing.
use mathlib.Core.Path.{◌≡◌, sym, ap, ◌∙◌}
use mathlib.Core.Bool.{true}
use mathlib.Core.Option.{Option, some}
use Prim.Native.Nat.{ℕ, ◌≤◌, ◌<◌}
use native.Mathlib.Omega.{arith}
use mathlib.Core.List.{List, []}
use lib.ListN.{length, get_or}
use Rattle.values.specs.Basic.{cmp_bytes, nth, or_default}
use Rattle.values.specs.Value.{Value, normalised}
use Rattle.values.specs.Cell.{read_name}
use Rattle.areas.specs.Sorted.{In}
use Rattle.values.specs.declared.value.Text.{Text}
use Rattle.values.specs.declared.value.Value as D
use Rattle.values.specs.Meaning.{text_bytes, Packed, meaning, Proper}
use Rattle.values.proofs.Orders.{self, ord_bytes}
use Rattle.areas.proofs.Sorting.{one_place}
use Rattle.rules.specs.declared.profile.Profile.{Profile}
use Rattle.rules.specs.Profile.{places_most, Known}
use Rattle.rules.specs.State as S
use Rattle.rules.specs.State.{Name, Table, State, cell_at, key_of}
use Rattle.rules.specs.Index.{Entry, entry_at, columns_of}
use Rattle.rules.specs.Layout.{lists, parse, unknown}
use Rattle.rules.specs.Sound.{canonical, good_table, good_cells}
use Rattle.rules.proofs.Index.{ord_table, index-sorted}
use Rattle.rules.proofs.Lists.{nth_in, nth-below}
use Rattle.rules.proofs.Room.{indexed, key-column, table-in, table-named, its-columns}
use Rattle.rules.proofs.Tests.{all_head, all_tail}
use Rattle.rules.proofs.Trip.{GoodRow, GoodEntry, canonical-normal}
use Rattle.rules.proofs.Valid.{LaidState}
use Rattle.rules.proofs.Whole.{good-row, key-is, good-entries}
use Rattle.laid.specs.Store.{Coded, LaidStore}
use Rattle.laid.specs.Entered.{entries_in, entry_of}
use Rattle.laid.specs.Row.{table_in}
use Rattle.laid.proofs.Finding.{nth-get_or}
use Rattle.laid.proofs.Keyed.{cell-canonical}
use Rattle.laid.proofs.Stores.{held-state, held-laid}
use Rattle.laid.proofs.Midway.{Midway, midway-of, entries-back, mid-table, mid-least, mid-name, mid-key, mid-count}

-- the table at a place
module _ (p : Profile) (R : ℕ) (s : List ℕ) (t : ℕ) (h : t < length (parse p R s).tables) where
  pub table-there : nth (parse p R s).tables t ≡ some (table_in p R s t)
  unfolding table_in
  table-there =
      nth-get_or (parse p R s).tables t (unknown []) h
      ∙ ap some (sym (ap (λ (o : Option Table). or_default o (unknown [])) (nth-get_or (parse p R s).tables t (unknown []) h)))

-- ---- a row of a table

module _ (p : Profile) (R : ℕ) (st : State) (v : LaidState p R st) (T : Table) (there : In T st.tables) (r : S.Row) (m : In r st.rows) (of : r.table ≡ T.name) where
  own-table : (v.rows r m).table ≡ T
  own-table =
      one_place ord_table (v.rows r m).table T st.tables v.tables-sorted (table-in p R st v r m) there
      (ap (λ (n : Name). cmp_bytes n T.name) (table-named p R st v r m ∙ of) ∙ self ord_bytes T.name)

  pub own-columns : columns_of st.tables r.table ≡ T.columns
  own-columns = its-columns p R st v r m ∙ ap (λ (x : Table). x.columns) own-table

  pub own-full : length r.cells ≡ length T.columns
  own-full = (v.rows r m).full ∙ ap (λ (x : Table). length x.columns) own-table

  pub own-key-below : T.key < length T.columns
  own-key-below =
      let c = key-column st.tables T (v.faults T there) in
      nth-below T.columns T.key c.column c.is

  pub own-good : GoodRow p r
  own-good = good-row p R st v r m

  pub own-key-good : canonical r.key ≡ true
  unfolding good_cells
  own-key-good = all_head _ _ (all_tail _ _ (v.rows r m).good)

  pub own_key : Known p → cell_at r.cells T.key ≡ r.key
  own_key k =
      sym (canonical-normal (cell_at r.cells T.key) (cell-canonical p k.cell r own-good T.key (omega (arith, own-full, own-key-below))))
      ∙ ap (λ (x : Table). normalised (key_of x r.cells)) (sym own-table)
      ∙ sym (key-is p R st v r m)

-- ---- what the code has at hand when it goes through the columns

pub record RowFacts (p : Profile) (R : ℕ) (T : Table) (r : S.Row) (name : Text) (count : ℕ) (key : D.Value) : Type 0 where
  pub coded : Coded p
  pub places : R ≤ places_most
  pub good-table : good_table p T ≡ true
  pub good-row : GoodRow p r
  pub key-good : canonical r.key ≡ true
  pub full : length r.cells ≡ count
  pub counted : count ≡ length T.columns
  pub named : text_bytes name ≡ r.table
  pub packed : Packed name
  pub keyed : meaning key ≡ r.key
  pub proper : Proper key

pub row-facts : (p : Profile) (k : Coded p) (R : ℕ) → R ≤ places_most → (st : State) → LaidState p R st → (T : Table) → In T st.tables → (r : S.Row) → In r st.rows → r.table ≡ T.name
    → (name : Text) → text_bytes name ≡ T.name → Packed name → (count : ℕ) → count ≡ length T.columns → (key : D.Value) → meaning key ≡ cell_at r.cells T.key → Proper key
    → RowFacts p R T r name count key
row-facts p k R most st v T there r m of name en hn count ec key ek hk =
    record {
      coded = k;
      places = most;
      good-table = v.good-tables T there;
      good-row = own-good p R st v T there r m of;
      key-good = own-key-good p R st v T there r m of;
      full = own-full p R st v T there r m of ∙ sym ec;
      counted = ec;
      named = en ∙ sym of;
      packed = hn;
      keyed = ek ∙ own_key p R st v T there r m of k.known;
      proper = hk;
    }

module _ (p : Profile) (R : ℕ) (T : Table) (r : S.Row) (name : Text) (count : ℕ) (key : D.Value) (f : RowFacts p R T r name count key) (j : ℕ) (h : j < count) where
  pub column-few : j < p.columns
  column-few = omega (arith, f.full, f.good-row.few)

  pub column-byte : j < 256
  column-byte = omega (arith, column-few, f.coded.known.columns)

  pub good-entry : GoodEntry (entry_at r j)
  good-entry =
      let l : j < length r.cells = omega (arith, f.full) in
      let c = cell-canonical p f.coded.known.cell r f.good-row j l in
      record {
        name = f.good-row.name;
        column = column-byte;
        value = rw (canonical-normal (cell_at r.cells j) c) c;
        key = rw (canonical-normal r.key f.key-good) f.key-good;
      }

  pub entry-is : (x : D.Value) → meaning x ≡ cell_at r.cells j → entry_of name j x key ≡ entry_at r j
  entry-is x e =
      let l : j < length r.cells = omega (arith, f.full) in
      same f.named (e ∙ sym (canonical-normal (cell_at r.cells j) (cell-canonical p f.coded.known.cell r f.good-row j l)))
      (f.keyed ∙ sym (canonical-normal r.key f.key-good))
    where
      same : {n n' : Name} {v v' a a' : Value} → n ≡ n' → v ≡ v' → a ≡ a'
          → ◌≡◌ {A = Entry} (record { table = n; column = j; value = v; key = a }) (record { table = n'; column = j; value = v'; key = a' })
      same e1 e2 e3 = rw (e1, e2, e3)

-- ---- a store is the first of the buffers on the way

module _ (p : Profile) (R : ℕ) (s : List ℕ) (b : LaidStore p R s) where
  pub held-midway : Midway p R (parse p R s) s
  held-midway =
      midway-of p b.coded R b.places (parse p R s) s (indexed (parse p R s)) (held-laid p R s b) (index-sorted (parse p R s).tables (parse p R s).rows)
      (good-entries p b.coded.known R (parse p R s) (held-state p R s b))

  pub held-entries : entries_in p R s ≡ indexed (parse p R s)
  held-entries = entries-back p b.coded R b.places (parse p R s) s (indexed (parse p R s)) (held-laid p R s b) (good-entries p b.coded.known R (parse p R s) (held-state p R s b))

  -- the record of the table at place t
  module _ (t : ℕ) (h : t < length (parse p R s).tables) where
    abbrev T : Table
    T = table_in p R s t

    pub table-held : In T (parse p R s).tables
    table-held = nth_in (parse p R s).tables t T (table-there p R s t h)

    pub start-table : t < length (lists p R s).schemas
    start-table = mid-table p b.coded R b.places (parse p R s) s held-midway t T (table-there p R s t h)

    module _ (rec : List ℕ) (er : rec ≡ get_or (lists p R s).schemas t []) where
      good : good_table p T ≡ true
      good = (held-state p R s b).good-tables T table-held

      pub start-least : 27 ≤ length rec
      start-least = mid-least p b.coded R b.places (parse p R s) s held-midway t T (table-there p R s t h) rec er good

      pub start-name : read_name rec ≡ T.name
      start-name = mid-name p b.coded R b.places (parse p R s) s held-midway t T (table-there p R s t h) rec er good

      pub start-key : get_or rec 25 0 ≡ T.key
      start-key = mid-key p b.coded R b.places (parse p R s) s held-midway t T (table-there p R s t h) rec er good

      pub start-count : get_or rec 26 0 ≡ length T.columns
      start-count = mid-count p b.coded R b.places (parse p R s) s held-midway t T (table-there p R s t h) rec er good
