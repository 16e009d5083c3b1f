-- A row's faults as the code finds them: a table's key column, references that miss their target, values that exist, and each column in turn.
-- Assumes nothing.
use mathlib.Core.Path.{◌≡◌, refl, sym, ap, ◌∙◌}
use mathlib.Core.Bool.{Bool, true, false, not, ◌&&◌, ◌||◌}
use mathlib.Core.Option
use mathlib.Core.Option.{Option, none, some, none-ne-some, some-injective}
use Prim.Native.Nat.{ℕ, zero, suc, ◌+◌, ◌-◌, ◌*◌, ◌≤◌, ◌<◌}
use native.Mathlib.Nat.{mul-le-mul}
use native.Mathlib.Omega.{arith}
use mathlib.Core.List.{List, [], ◌∷◌, map}
use lib.Dec.{eqb, compare_is_eq}
use lib.ListN.{length, take, drop, get_or, length-map}
use Rattle.values.specs.Basic.{is_lt, find, nth, is_some, maybe}
use Rattle.values.specs.Value.{Value, null, same}
use Rattle.values.specs.Cell.{name_width, read_value}
use Rattle.areas.specs.Search.{cmp_named}
use Rattle.areas.specs.Sorted.{In}
use Rattle.areas.specs.Counted.{count_at}
use Rattle.areas.proofs.Halving.{count-le}
use Rattle.areas.proofs.Placing.{find-nothing}
use Rattle.rules.specs.declared.profile.Profile.{Profile}
use Rattle.rules.specs.Refusal.{Refusal, WrongKind, NullNotAllowed}
use Rattle.rules.specs.Profile.{places_most}
use Rattle.rules.specs.State.{Name, Column, same_name, Table, Row, table_named, is_row, of_table, has_row}
use Rattle.rules.specs.Index.{Entry, cmp_entry, index_of}
use Rattle.rules.specs.Layout.{lists, Entries, entries_count, area_at, record_width, read_table, read_entry, parse}
use Rattle.rules.specs.Rows.{missing, taken, cell_fault}
use Rattle.rules.proofs.Tests.{and_left, name-is}
use Rattle.rules.proofs.Lists.{any_none, nth_in, nth-below}
use Rattle.rules.proofs.Index.{index-sorted}
use Rattle.rules.proofs.Room.{key-column, few-columns}
use Rattle.rules.proofs.Whole.{index_back}
use Rattle.laid.specs.Store.{LaidStore}
use Rattle.laid.specs.Catalog.{place_of, found_at}
use Rattle.std.specs.Option as O
use Rattle.std.proofs.Common.{is_eq}
use Rattle.std.specs.declared.cmp.Ordering.{Ordering as Compared}
use Rattle.std.specs.declared.cmp.Ordering.TheVariants.{Less, Equal, Greater}
use Rattle.values.specs.Meaning.{ordering}
use Rattle.std.specs.declared.option.Option.{Option as Held}
use Rattle.std.specs.declared.option.Option.TheVariants.{None, Some}
use Rattle.laid.specs.Row.{KeyColumn}
use Rattle.laid.specs.Entered.{entries_in, Entered, entry_rank}
use Rattle.checks.specs.Asked.{table_with, indexed_at, bytes_of_value, other_at, kind_fault}
use Rattle.laid.proofs.Inside.{area-count, count-within, record-wide}
use Rattle.laid.proofs.Entering.{entry-width}
use Rattle.laid.proofs.Stores.{held-state, held-laid, held-lists, held-inside}
use Rattle.laid.proofs.Finding.{nth-map, nth-get_or, nth_past, place_found, place-missing}
use Rattle.laid.proofs.Columns.{rest, key-byte}
use Rattle.laid.proofs.Searching.{table_at, found-table}
use Rattle.checks.proofs.Faulting.{or-first, first-append}
use Rattle.checks.proofs.Taking.{rank-null, taken-two}

-- the code's comparison
pub compared-equal : (r : Compared) → is_eq r ≡ compare_is_eq (ordering r)
compared-equal Less = refl
compared-equal Equal = refl
compared-equal Greater = refl

-- ---- a place found is a row found

module _ {A : Type 0} (q : A → Bool) (xs : List A) where
  pub place-some : (i : ℕ) → some i ≡ place_of q xs → true ≡ is_some (find q xs)
  place-some i e =
      let h = place_found q xs i (sym e) in
      sym (ap is_some (sym h.1) ∙ within xs i h.0)
    where
      within : (ys : List A) (j : ℕ) → j < length ys → is_some (nth ys j) ≡ true
      within [] j l = absurd (omega arith)
      within (y ∷ ys) zero l = refl
      within (y ∷ ys) (suc j) l = within ys j (omega arith)

  pub place_none : none ≡ place_of q xs → false ≡ is_some (find q xs)
  place_none e = sym (ap is_some (place-missing q xs (sym e)))

  -- the code's place
  pub found-some : (r : Held ℕ) → found_at r ≡ place_of q xs → O.is_some r ≡ is_some (find q xs)
  found-some None e = place_none e
  found-some (Some i) e = place-some i e

-- ---- tables, rows and entries of a store that is laid out

module _ (p : Profile) (R : ℕ) (s : List ℕ) (b : LaidStore p R s) where
  abbrev tables : List Table
  tables = (parse p R s).tables

  abbrev rows : List Row
  rows = (parse p R s).rows

  -- a table that is not stored has no rows
  pub no_rows : (n : Name) (v : Value) → none ≡ place_of (λ t. same_name t.name n) tables → has_row rows n v ≡ false
  no_rows n v e = ap is_some (find-nothing (is_row n v) rows (any_none (is_row n v) rows (λ r m. by-test r m (is_row n v r) refl)))
    where
      by-test : (r : Row) → In r rows → (x : Bool) → is_row n v r ≡ x → x ≡ false
      by-test r m false f = refl
      by-test r m true f =
          let w = (held-state p R s b).rows r m in
          absurd (none-ne-some w.table (sym (ap (table_named tables) (name-is r.table n (and_left (of_table n r) _ f)) ∙ place-missing _ tables (sym e)) ∙ w.named))

  pub key_below : (t : Table) → In t tables → t.key < length t.columns
  key_below t m = let k = key-column tables t ((held-state p R s b).faults t m) in nth-below t.columns t.key k.column k.is

  pub key-inside : (t : Table) → In t tables → t.key < p.columns
  key-inside t m = omega (arith, key_below t m, few-columns p R (parse p R s) (held-state p R s b) t m)

  -- the key column of a table by its place
  module _ (i : ℕ) (h : i < length (lists p R s).schemas) (column : ℕ) (ec : column ≡ get_or (get_or (lists p R s).schemas i []) name_width 0) where
    column-key : column ≡ (read_table p (get_or (lists p R s).schemas i [])).key
    column-key = ec ∙ key-byte p (get_or (lists p R s).schemas i [])

    pub key-of-found : (n : Name) → some i ≡ place_of (λ t. same_name t.name n) tables → KeyColumn p R s n column
    key-of-found n e =
        let t = read_table p (get_or (lists p R s).schemas i []) in
        record {
          inside = omega (arith, column-key, key-inside t (nth_in tables i t (table_at p R s i h)));
          is = λ u f. column-key ∙ ap (λ (x : Table). x.key) (some-injective t u (sym (found-table p R s n i e) ∙ f));
        }

  -- ---- its index

  pub entries-are : entries_in p R s ≡ index_of tables rows
  unfolding entries_in
  entries-are = ap (λ (l : List ℕ). map (read_entry p) (lists p R l).entries) b.bytes ∙ index_back p b.coded.known b.indexed R b.places (parse p R s) (held-state p R s b)

  pub held-entered : Entered p R s
  held-entered =
      record {
        coded = b.coded;
        places = b.places;
        laid = rw (held-lists p R s b) (held-laid p R s b);
        sorted = rw entries-are (index-sorted tables rows);
      }

  pub rank-small : (e : Entry) (j : ℕ) → j ≡ entry_rank p R e s → j ≤ 65536
  unfolding entries_in
  rank-small e j h =
      let l : p.entries * R ≤ 16 * places_most = mul-le-mul b.coded.known.entries b.places in
      omega (
        arith,
        count-le (λ x. is_lt (cmp_entry x e)) (map (read_entry p) (lists p R s).entries),
        length-map (lists p R s).entries (read_entry p),
        area-count p R s Entries,
        count-within p R s (held-inside p R s b) Entries,
      )

  -- another row has the value: two entries decide, where `k` is NULL
  pub taken-here : (n : Name) (column : ℕ) (v : Value) (update : Bool) (key : Value) → indexed_at tables n column ≡ true
      → (k : Value) → k ≡ null → (j : ℕ) → j ≡ entry_rank p R (record { table = n; column = column; value = v; key = k }) s
      → taken rows (table_with n 0) update key column v ≡ (other_at (entries_in p R s) j n column v update key || other_at (entries_in p R s) (j + 1) n column v update key)
  taken-here n column v update key x k ek j ej =
      taken-two n column v update key tables rows (held-state p R s b).rows-sorted x (entries_in p R s) entries-are held-entered.sorted j
      (rank-null n column v (entries_in p R s) k j ek ej)

  module _ (i : ℕ) where
    pub entry_at : i < length (lists p R s).entries → nth (entries_in p R s) i ≡ some (read_entry p (get_or (lists p R s).entries i []))
    unfolding entries_in
    entry_at h = nth-map (read_entry p) (lists p R s).entries i ∙ ap (Option.map (read_entry p)) (nth-get_or (lists p R s).entries i [] h)

    pub entry-within : (count : ℕ) → count ≡ count_at entries_count 4 s → i < count → i < length (lists p R s).entries
    entry-within count ec h = omega (arith, area-count p R s Entries)

    pub entry_wide : i < length (lists p R s).entries → (rec : List ℕ) → rec ≡ get_or (lists p R s).entries i [] → length rec ≡ 78
    entry_wide h rec er =
        ap length er ∙ record-wide p R s (held-inside p R s b) Entries (area_at p R Entries) (record_width p Entries) i refl refl h ∙ entry-width p b.coded.cells

    module _ (n : Name) (column : ℕ) (v : Value) (update : Bool) (key : Value) where
      pub entry_past : (count : ℕ) → count ≡ count_at entries_count 4 s → count ≤ i → false ≡ other_at (entries_in p R s) i n column v update key
      unfolding other_at maybe entries_in
      entry_past count ec h =
          rw (nth_past (map (read_entry p) (lists p R s).entries) i (omega (arith, length-map (lists p R s).entries (read_entry p), area-count p R s Entries)))

      module _ (h : i < length (lists p R s).entries) (rec : List ℕ) (er : rec ≡ get_or (lists p R s).entries i [])
          (x : Bool) (ex : x ≡ bytes_of_value rec n column v) where
        pub at_entry : other_at (entries_in p R s) i n column v update key ≡ (x && not (update && same (read_value (drop (name_width + 1 + p.cell) rec)) key))
        unfolding other_at maybe bytes_of_value read_entry
        at_entry = rw (entry_at h, ← er, ← ex)

-- ---- an entry's record

pub record_parts : (rec : List ℕ) (n : Name) (i : ℕ) (v : Value)
    → bytes_of_value rec n i v ≡ (compare_is_eq (cmp_named rec n) && (eqb (get_or rec name_width 0) i && same (read_value (take (length rec - 26) (drop 26 rec))) v))
unfolding bytes_of_value cmp_named
record_parts rec n i v = rw (rest 26 rec)

-- ---- 28 to 31

-- only the table's name is looked at
pub missing_named : (rs : List Row) (n : Name) (k : ℕ) (key : Value) (o : Option Name) (v : Value) → missing rs (table_with n 0) key o v ≡ missing rs (table_with n k) key o v
missing_named rs n k key none v = refl
missing_named rs n k key (some m) v = refl

-- 28 or 29 is the first
pub kind-refuses : (rs : List Row) (t : Table) (update : Bool) (key : Value) (i : ℕ) (c : Column) (v : Value) (k : Refusal) → some k ≡ kind_fault c v → some k ≡ cell_fault rs t update key i c v
unfolding cell_fault kind_fault
kind-refuses rs t update key i c v k e = or-first k (kind_fault c v) _ e ∙ sym (first-append ((WrongKind, _) ∷ (NullNotAllowed, _) ∷ []) _)
