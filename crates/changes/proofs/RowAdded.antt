-- A row put into a store: its record at its place, then its entries one by one, and what stands is the image of the state with it. Assumes nothing.
use Rattle.values.specs.declared.value.Cell.{Cell}
use mathlib.Core.Path.{◌≡◌, refl, sym, ap, ◌∙◌, subst}
use mathlib.Core.Bool.{Bool, true, false, true≢false}
use mathlib.Core.Option
use mathlib.Core.Option.{Option, none, some}
use Prim.Native.Nat.Ordering.{eq}
use Prim.Native.Nat.{ℕ, zero, suc, ◌+◌, ◌-◌, ◌*◌, ◌≤◌, ◌<◌}
use native.Mathlib.Nat.{sub-zero, zero-sub, suc-sub-suc}
use native.Mathlib.Omega.{arith}
use mathlib.Core.List.{List, [], ◌∷◌, ◌++◌, map, append_assoc}
use lib.Dec.{compare_is_eq}
use lib.ListN.{length, take, drop, get_or, replicate, length-append, length-map, length-replicate}
use lib.Seq.{length-take-le, drop_at, get_or_at}
use borrow.Rule.Slice.PartMut.{put_mid}
use Rattle.values.specs.Basic.{is_lt, keep_if, insert_by, find, is_some, nth, or_default, cmp_bytes}
use Rattle.values.specs.Bytes.{pad}
use Rattle.values.specs.Value.{Value, null}
use Rattle.values.specs.Cell.{name_cell, value_cell}
use Rattle.areas.specs.Records.{joined}
use Rattle.areas.specs.Counted.{Grows, grown}
use Rattle.areas.specs.Sorted.{In, count_of, insert_at}
use Rattle.values.specs.declared.value.Text.{Text}
use Rattle.values.specs.declared.value.Value as D
use Rattle.values.specs.Meaning.{text_bytes, Packed, meaning, Proper, held, ProperCell}
use Rattle.values.specs.declared.value.Value.TheVariants.{Null}
use Rattle.values.proofs.Cells.{length-name}
use Rattle.areas.proofs.Changes.{replace-insert, length-insert-at}
use Rattle.areas.proofs.Halving.{count-le}
use Rattle.areas.proofs.Nest.{mid_back}
use Rattle.values.proofs.Orders.{self, ord_bytes}
use Rattle.areas.proofs.Placing.{rank, holds, insert-new}
use Rattle.areas.proofs.Records.{length-joined}
use Rattle.areas.proofs.Sorting.{find_none, in-insert-new, one_place, find-in}
use Rattle.rules.specs.declared.profile.Profile.{Profile}
use Rattle.rules.specs.Profile.{Known, places_most, row_width, rows_at}
use Rattle.rules.specs.State as S
use Rattle.rules.specs.State.{Table, State, cmp_row, is_named, is_row, table_named, cell_at, key_of, row_of}
use Rattle.rules.specs.Index.{Entry, cmp_entry, entry_at, entries_from, columns_of, entries_of, insert_all, index_of}
use Rattle.rules.specs.Step.{added, apply, with_row}
use Rattle.rules.specs.Layout.{Lists, layout, lists, Laid, Rows, rows_count, row_record, with_area, records_of, image, parse}
use Rattle.rules.proofs.Contents.{insert-row}
use Rattle.rules.proofs.Index.{ord_row, ord_table}
use Rattle.rules.proofs.IndexChanges.{Adding, adding-next, adding-start, index-added, insert_all-length}
use Rattle.rules.proofs.Laid.{laid-grows, laid-grown, laid-replaced, laid-within, laid-part, laid-length}
use Rattle.rules.proofs.Lists.{any_none, eq-turn, length-new}
use Rattle.rules.proofs.Room.{index-within, few-columns}
use Rattle.rules.proofs.Tests.{name-is}
use Rattle.rules.proofs.Trip.{GoodRow, GoodEntry, cells_wide, row-long, name-short}
use Rattle.rules.proofs.Valid.{LaidState, laid-is}
use Rattle.laid.specs.declared.catalog.Column.{Column}
use Rattle.laid.specs.Column.{column_of, ColumnRead}
use Rattle.laid.specs.Catalog.{TableBytes}
use Rattle.laid.specs.Row.{cells_of, ProperRow, keyed, table_in, KeyColumn, Addable}
use Rattle.laid.specs.Store.{Coded, Inside, LaidStore}
use Rattle.laid.specs.Entered.{entries_in, Entered, entry_of, ProperEntry, entry_added, row_bytes}
use Rattle.laid.proofs.Finding.{nth-map, nth-get_or, all-nth}
use Rattle.laid.proofs.Keyed.{row-test}
use Rattle.laid.proofs.Stores.{held-state, held-inside}
use Rattle.laid.proofs.Midway.{Midway, mid-added, added-entries, mid-inside, mid-entered, mid-table, mid-table-bytes, mid-column}
use Rattle.laid.proofs.RowFacts.{RowFacts, row-facts, column-few, good-entry, entry-is, own-columns, own-full, own-key-below, own_key, own-good, held-midway, held-entries, table-there, table-held}
use Rattle.changes.proofs.Changing.{Begun, Place, place_of}
use Rattle.changes.proofs.RowRemoved.{entries-left, entries_none}

-- ---- a row's record as it is written

pub drop-zeros : (n m : ℕ) → ◌≡◌ {A = List ℕ} (drop n (replicate m 0)) (replicate (m - n) 0)
drop-zeros zero m = rw (sub-zero m)
drop-zeros (suc n) zero = rw (zero-sub (suc n))
drop-zeros (suc n) (suc m) = rw (suc-sub-suc m n) (drop-zeros n m)

module _ (p : Profile) (k : Coded p) (r : S.Row) (g : GoodRow p r) where
  cells-long : length (joined (map (value_cell p.cell) r.cells)) ≡ length r.cells * 26
  cells-long =
      length-joined p.cell (map (value_cell p.cell) r.cells) (cells_wide p.cell k.known.cell r.cells g.cells)
      ∙ ap (λ (n : ℕ). n * p.cell) (length-map r.cells (value_cell p.cell))
      ∙ ap (λ (w : ℕ). length r.cells * w) k.cells

  row-front : length (name_cell r.table ++ joined (map (value_cell p.cell) r.cells)) ≡ 25 + length r.cells * 26
  row-front = length-append (name_cell r.table) (joined (map (value_cell p.cell) r.cells)) ∙ omega (arith, cells-long, length-name r.table (name-short r.table g.name))

  -- name and cells, and zeros to the end
  pub record-parts : row_record p r ≡ row_bytes r.table r.cells ++ replicate (p.columns * p.cell - length r.cells * 26) 0
  unfolding row_record row_bytes pad
  record-parts =
      sym (append_assoc (name_cell r.table) (joined (map (value_cell p.cell) r.cells)) (replicate (p.columns * p.cell - length (joined (map (value_cell p.cell) r.cells))) 0))
      ∙ ap (λ (n : ℕ). (name_cell r.table ++ joined (map (value_cell p.cell) r.cells)) ++ replicate (p.columns * p.cell - n) 0) cells-long
      ∙ ap (λ (w : ℕ). (name_cell r.table ++ joined (map (value_cell w) r.cells)) ++ replicate (p.columns * p.cell - length r.cells * 26) 0) k.cells

  -- what follows its cells
  pub record-rest : drop (25 + length r.cells * 26) (row_record p r) ≡ replicate (p.columns * p.cell - length r.cells * 26) 0
  unfolding row_bytes
  record-rest =
      ap (drop (25 + length r.cells * 26)) record-parts
      ∙ drop_at (row_bytes r.table r.cells) (replicate (p.columns * p.cell - length r.cells * 26) 0) (25 + length r.cells * 26)
      (ap (λ (w : ℕ). length (name_cell r.table ++ joined (map (value_cell w) r.cells))) (sym k.cells) ∙ row-front)

pub row-width : (p : Profile) → row_width p ≡ 25 + p.columns * p.cell
unfolding row_width
row-width p = refl

sub-both : (a b : ℕ) → 25 + a - (25 + b) ≡ a - b
sub-both a b = omega arith

get_or-insert : {A : Type 0} (i : ℕ) (x : A) (xs : List A) (d : A) → i ≤ length xs → get_or (insert_at i x xs) i d ≡ x
unfolding insert_at
get_or-insert i x xs d h = get_or_at (take i xs) x (drop i xs) d i (length-take-le i xs h)

-- ---- on the way

pub record Adds (p : Profile) (R : ℕ) (st : State) (final : List Entry) (r : S.Row) (cs : List S.Column) (j : ℕ) (s : List ℕ) : Type 0 where
  pub mid : Midway p R st s
  pub adding : Adding (entries_from r j (drop j cs)) (entries_in p R s)
  pub whole : insert_all (entries_from r j (drop j cs)) (entries_in p R s) ≡ final

module _ (p : Profile) (k : Coded p) (R : ℕ) (most : R ≤ places_most) (st : State) (final : List Entry) (fits : length final ≤ p.entries * R) (r : S.Row) (cs : List S.Column) (j : ℕ) (s : List ℕ) (b : Adds p R st final r cs j s) where
  -- the index is whole when no column is left
  pub adds-done : length cs ≤ j → entries_in p R s ≡ final
  adds-done h = sym (ap (λ (es : List Entry). insert_all es (entries_in p R s)) (entries_none r cs j h)) ∙ b.whole

  module _ (c : S.Column) (at : nth cs j ≡ some c) where
    -- a column without an index
    pub adds-past : c.index ≡ false → Adds p R st final r cs (j + 1) s
    adds-past h =
        let e : entries_from r j (drop j cs) ≡ entries_from r (j + 1) (drop (j + 1) cs) =
        entries-left r cs j c at ∙ ap (λ (x : Bool). keep_if x (entry_at r j) (entries_from r (j + 1) (drop (j + 1) cs))) h
        in
        record {
          mid = b.mid;
          adding = subst (λ (es : List Entry). Adding es (entries_in p R s)) e b.adding;
          whole = ap (λ (es : List Entry). insert_all es (entries_in p R s)) (sym e) ∙ b.whole;
        }

    module _ (h : c.index ≡ true) where
      abbrev left : List Entry
      left = entries_from r (j + 1) (drop (j + 1) cs)

      first : entries_from r j (drop j cs) ≡ entry_at r j ∷ left
      first = entries-left r cs j c at ∙ ap (λ (x : Bool). keep_if x (entry_at r j) left) h

      adding-first : Adding (entry_at r j ∷ left) (entries_in p R s)
      adding-first = subst (λ (es : List Entry). Adding es (entries_in p R s)) first b.adding

      next : (holds cmp_entry (entry_at r j) (entries_in p R s) ≡ false) × (insert_all (entry_at r j ∷ left) (entries_in p R s) ≡ insert_all left (insert_by cmp_entry (entry_at r j) (entries_in p R s))) × Adding left (insert_by cmp_entry (entry_at r j) (entries_in p R s))
      next = adding-next (entry_at r j) left (entries_in p R s) adding-first

      -- there is a place for it
      pub adds-room : length (entries_in p R s) < p.entries * R
      adds-room =
          let e : length final ≡ length (entry_at r j ∷ left) + length (entries_in p R s) =
          sym (ap length b.whole) ∙ ap (λ (es : List Entry). length (insert_all es (entries_in p R s))) first ∙ insert_all-length (entry_at r j ∷ left) (entries_in p R s) adding-first
          in
          omega (arith, e, fits)

      pub adds-next : GoodEntry (entry_at r j) → (s₁ : List ℕ) → Laid p R s₁ (entry_added p R (entry_at r j) s) → Adds p R st final r cs (j + 1) s₁
      adds-next g s₁ l =
          let e : entries_in p R s₁ ≡ insert_by cmp_entry (entry_at r j) (entries_in p R s) = added-entries p k R most st s b.mid (entry_at r j) g next.0 s₁ l in
          record {
            mid = mid-added p k R most st s b.mid (entry_at r j) g next.0 s₁ l;
            adding = subst (Adding left) (sym e) next.2;
            whole = ap (insert_all left) e ∙ sym next.1 ∙ sym (ap (λ (es : List Entry). insert_all es (entries_in p R s)) first) ∙ b.whole;
          }

-- ---- a row in flight

-- the value of its cell j
abbrev pub flight : List Cell → ℕ → D.Value
flight row j = (get_or row j (record { value = Null })).value

module _ (row : List Cell) (pr : ProperRow row) where
  -- a cell of the row in flight
  pub flight-cell : (j : ℕ) → j < length row → held (get_or row j (record { value = Null })) ≡ cell_at (cells_of row) j
  unfolding cells_of
  flight-cell j h =
      sym (ap (λ (o : Option Value). or_default o null) (nth-map held row j ∙ ap (Option.map held) (nth-get_or row j (record { value = Null }) h)))

  pub flight-proper : (j : ℕ) → j < length row → ProperCell (get_or row j (record { value = Null }))
  flight-proper j h = all-nth ProperCell row j (record { value = Null }) pr.proper h

-- ---- a row that can be added

keyed-as : (x r : S.Row) → cmp_row x (keyed r.table r.key) ≡ cmp_row x r
unfolding cmp_row
keyed-as x r = refl

module _ (p : Profile) (R : ℕ) (s₀ : List ℕ) (b : LaidStore p R s₀) (t : ℕ) (row : List Cell) (pr : ProperRow row) (a : Addable p R s₀ t (cells_of row)) where
  abbrev T : Table
  T = table_in p R s₀ t

  abbrev r : S.Row
  r = row_of T (cells_of row)

  abbrev ts : List Table
  ts = (parse p R s₀).tables

  abbrev rs : List S.Row
  rs = (parse p R s₀).rows

  abbrev after : State
  after = record { tables = ts; rows = with_row r rs }

  kn : Known p
  kn = b.coded.known

  after-laid : LaidState p R after
  unfolding apply
  after-laid = laid-is p R after a.laid

  there : In T ts
  there = table-held p R s₀ b t a.known

  new-there : In r (with_row r rs)
  new-there = in-insert-new cmp_row r rs

  pub added_full : length row ≡ length T.columns
  unfolding cells_of
  added_full =
      sym (length-map row held) ∙ own-full p R after after-laid T there r new-there refl

  pub added-key-below : T.key < length row
  added-key-below = omega (arith, added_full, own-key-below p R after after-laid T there r new-there refl)

  key-is-own : cell_at (cells_of row) T.key ≡ r.key
  key-is-own = own_key p R after after-laid T there r new-there refl kn

  pub added-facts : (name : Text) → text_bytes name ≡ T.name → Packed name → (key : D.Value) → meaning key ≡ cell_at (cells_of row) T.key → Proper key → RowFacts p R T r name (length row) key
  added-facts name en hn key ek hk =
      row-facts p b.coded R b.places after after-laid T there r new-there refl name en hn (length row) added_full key ek hk

  -- the table's key column
  pub added-column : (n : List ℕ) (column : ℕ) → n ≡ T.name → column ≡ T.key → KeyColumn p R s₀ n column
  added-column n column en ec =
      record {
        inside = omega (arith, ec, own-key-below p R after after-laid T there r new-there refl, few-columns p R after after-laid T there);
        is = λ x e. ec ∙ ap (λ (y : Table). y.key) (only x e);
      }
    where
      only : (x : Table) → table_named ts n ≡ some x → T ≡ x
      only x e =
          let q = find-in (is_named n) ts x e in
          one_place ord_table T x ts (held-state p R s₀ b).tables-sorted there q.0
          (ap (cmp_bytes T.name) (name-is x.name n q.1 ∙ en) ∙ self ord_bytes T.name)

  -- no row has its place
  no_row : (x : S.Row) → In x rs → compare_is_eq (cmp_row x r) ≡ false
  no_row x m =
      ap compare_is_eq (sym (keyed-as x r))
      ∙ row-test T.name r.key x
      ∙ ap (λ (k : Value). is_row T.name k x) (sym key-is-own)
      ∙ find_none (is_row T.name (key_of T (cells_of row))) x rs (none_found (find (is_row T.name (key_of T (cells_of row))) rs) a.new) m
    where
      none_found : (o : Option S.Row) → is_some o ≡ false → o ≡ none
      none_found none h = refl
      none_found (some y) h = absurd (true≢false h)

  not_there : holds cmp_row r rs ≡ false
  not_there = any_none (λ x. compare_is_eq (cmp_row x r)) rs no_row

  none_equal : (x : S.Row) → In x rs → cmp_row r x ≡ eq → ⊥
  none_equal x m h = true≢false (sym (ap compare_is_eq (eq-turn ord_row r x h)) ∙ no_row x m)

  pub added-rank : (name : Text) (key : D.Value) → text_bytes name ≡ T.name → meaning key ≡ cell_at (cells_of row) T.key → (i : ℕ)
      → i ≡ count_of (λ x. is_lt (cmp_row x (keyed (text_bytes name) (meaning key)))) rs → i ≡ rank cmp_row r rs
  unfolding cmp_row
  added-rank name key en ek i ei = ei ∙ rw (en, ek ∙ key-is-own) refl

  rows_few : suc (length rs) ≤ R
  rows_few = omega (arith, length-new cmp_row r rs none_equal, after-laid.few-rows)

  abbrev final : List Entry
  final = index_of ts (with_row r rs)

  pub final-fits : length final ≤ p.entries * R
  final-fits = index-within p b.indexed R after after-laid

  pub added-start : Adds p R (parse p R s₀) final r T.columns 0 s₀
  added-start =
      let ec : columns_of ts T.name ≡ T.columns = own-columns p R after after-laid T there r new-there refl in
      let o = (held-state p R s₀ b).rows-sorted in
      let e = held-entries p R s₀ b in
      record {
        mid = held-midway p R s₀ b;
        adding = subst (λ (x : List S.Column). Adding (entries_from r 0 x) (entries_in p R s₀)) ec (subst (Adding (entries_of ts r)) (sym e) (adding-start ts r rs o none_equal));
        whole = ap (λ (x : List S.Column). insert_all (entries_from r 0 x) (entries_in p R s₀)) (sym ec) ∙ ap (insert_all (entries_of ts r)) e ∙ sym (index-added ts r rs o none_equal);
      }

  -- ---- the record at its place

  module _ (j : ℕ) (s : List ℕ) (x : Adds p R (parse p R s₀) final r T.columns j s) (h : length row ≤ j) (from w i : ℕ) (ef : from ≡ rows_at p) (ew : w ≡ row_width p) (ei : i ≡ rank cmp_row r rs) where
    abbrev x₀ : Lists
    x₀ = records_of p (parse p R s₀) (entries_in p R s)

    rows_are : length x₀.rows ≡ length rs
    unfolding records_of
    rows_are = length-map rs (row_record p)

    rank-le : i ≤ length x₀.rows
    rank-le = omega (arith, ei, rows_are, count-le (λ y. is_lt (cmp_row y r)) rs)

    pub added-grows : Grows s rows_count 2 from R i w
    added-grows = laid-grows p R s x₀ x.mid.laid Rows from w R ef ew refl i rank-le (omega (arith, rows_are, rows_few))

    module _ (s₁ : List ℕ) (e₁ : s₁ ≡ grown rows_count 2 from R i (replicate w 0) s) where
      abbrev opened : Lists
      opened = with_area Rows (insert_at i (replicate w 0) x₀.rows) x₀

      opened-laid : Laid p R s₁ opened
      opened-laid =
          subst (λ (l : List ℕ). Laid p R l opened) (sym e₁)
          (laid-grown p R s x₀ x.mid.laid Rows from w R ef ew refl i (replicate w 0)
          (record { width = length-replicate w 0; at-le = rank-le; room = omega (arith, rows_are, rows_few) }))

      among : i < length opened.rows
      among = omega (arith, rank-le, length-insert-at i (replicate w 0) x₀.rows rank-le)

      pub added-room : from + i * w + w ≤ length s₁
      added-room = laid-within p R s₁ opened opened-laid Rows from w R ef ew refl i (omega (arith, rank-le, rows_are, rows_few))

      -- the part that the record is written through is zeros
      part-is : take (from + i * w + w - (from + i * w)) (drop (from + i * w) s₁) ≡ replicate w 0
      part-is = laid-part p R s₁ opened opened-laid Rows from w R ef ew refl i among ∙ get_or-insert i (replicate w 0) x₀.rows [] rank-le

      pub added-part : length (take (from + i * w + w - (from + i * w)) (drop (from + i * w) s₁)) ≡ row_width p
      added-part = ap length part-is ∙ length-replicate w 0 ∙ ew

      pub added-length : length s₁ ≡ length s₀
      added-length = omega (arith, laid-length p R s₁ opened opened-laid, (held-inside p R s₀ b).long)

      record_is : (n : List ℕ) (y : List ℕ) → n ≡ T.name → y ≡ row_bytes n (cells_of row) ++ drop (25 + length row * 26) (take (from + i * w + w - (from + i * w)) (drop (from + i * w) s₁)) → y ≡ row_record p r
      record_is n y en ey =
          let g = own-good p R after after-laid T there r new-there refl in
          let c : length (cells_of row) ≡ length row = own-full p R after after-laid T there r new-there refl ∙ sym added_full in
          let z : ◌≡◌ {A = List ℕ} (drop (25 + length row * 26) (replicate w 0)) (replicate (p.columns * p.cell - length (cells_of row) * 26) 0) =
          drop-zeros (25 + length row * 26) w
          ∙ ap {B = List ℕ} (λ (m : ℕ). replicate (m - (25 + length row * 26)) 0) (ew ∙ row-width p)
          ∙ ap {B = List ℕ} (λ (m : ℕ). replicate m 0) (sub-both (p.columns * p.cell) (length row * 26))
          ∙ ap {B = List ℕ} (λ (m : ℕ). replicate (p.columns * p.cell - m * 26) 0) (sym c)
          in
          ey ∙ ap (λ (l : List ℕ). row_bytes n (cells_of row) ++ l) (ap (drop (25 + length row * 26)) part-is ∙ z)
          ∙ ap (λ (m : List ℕ). row_bytes m (cells_of row) ++ replicate (p.columns * p.cell - length (cells_of row) * 26) 0) en
          ∙ sym (record-parts p b.coded r g)

      pub added-done : (n : List ℕ) (y : List ℕ) → n ≡ T.name → y ≡ row_bytes n (cells_of row) ++ drop (25 + length row * 26) (take (from + i * w + w - (from + i * w)) (drop (from + i * w) s₁))
          → put_mid (from + i * w) (from + i * w + w - (from + i * w)) s₁ y ≡ image p R (apply (added r) (parse p R s₀))
      unfolding image apply
      added-done n y en ey =
          let ry : y ≡ row_record p r = record_is n y en ey in
          let ly : length y ≡ w = ap length ry ∙ row-long p kn.cell r (own-good p R after after-laid T there r new-there refl) ∙ sym ew in
          let o = (held-state p R s₀ b).rows-sorted in
          mid_back (from + i * w) (from + i * w + w) s₁ y (omega arith)
          ∙ (laid-replaced p R s₁ opened opened-laid Rows from w R ef ew refl i y ly among).whole
          ∙ ap (λ (q : List (List ℕ)). layout p R (with_area Rows q x₀)) (replace-insert i y (replicate w 0) x₀.rows rank-le ∙ ap (λ (q : List ℕ). insert_at i q x₀.rows) ry)
          ∙ ap (layout p R) (insert-row p (parse p R s₀) (entries_in p R s) i r)
          ∙ ap (λ (q : List S.Row). layout p R (records_of p (record { tables = ts; rows = q }) (entries_in p R s))) (ap (λ (m : ℕ). insert_at m r rs) ei ∙ sym (insert-new ord_row r rs o not_there))
          ∙ ap (λ (q : List Entry). layout p R (records_of p after q)) (adds-done p b.coded R b.places (parse p R s₀) final final-fits r T.columns j s x (omega (arith, added_full)))

-- ---- a turn of the loop, with what the code has at hand

abbrev new_row : Profile → ℕ → List ℕ → ℕ → List Cell → S.Row
new_row p R s t row = row_of (table_in p R s t) (cells_of row)

abbrev new_index : Profile → ℕ → List ℕ → ℕ → List Cell → List Entry
new_index p R s t row = index_of (parse p R s).tables (with_row (new_row p R s t row) (parse p R s).rows)

pub record AddTurn (p : Profile) (R : ℕ) (s₀ : List ℕ) (t : ℕ) (row : List Cell) (name : Text) (key : D.Value) (i j : ℕ) (s : List ℕ) : Type 0 where
  pub held : LaidStore p R s₀
  pub proper : ProperRow row
  pub addable : Addable p R s₀ t (cells_of row)
  pub facts : RowFacts p R (table_in p R s₀ t) (new_row p R s₀ t row) name (length row) key
  pub placed : i ≡ rank cmp_row (new_row p R s₀ t row) (parse p R s₀).rows
  pub adds : Adds p R (parse p R s₀) (new_index p R s₀ t row) (new_row p R s₀ t row) (table_in p R s₀ t).columns j s

-- the start, with the name and the key column read
module _ {p : Profile} {R : ℕ} {s₀ : List ℕ} {t : ℕ} {name : Text} {column : ℕ} (x : Begun p R s₀ t name column) {row : List Cell} (pr : ProperRow row) (a : Addable p R s₀ t (cells_of row)) where
  pub add-below : column < length row
  add-below = omega (arith, x.key, added-key-below p R s₀ x.held t row pr a)

  pub add-ranked : LaidStore p R s₀ × KeyColumn p R s₀ (text_bytes name) column × Packed name × Proper (flight row column)
  add-ranked = (x.held, added-column p R s₀ x.held t row pr a (text_bytes name) column x.named x.key, x.packed, flight-proper row pr column add-below)

  pub add_start : {i : ℕ} → i ≡ count_of (λ y. is_lt (cmp_row y (keyed (text_bytes name) (meaning (flight row column))))) (parse p R s₀).rows → AddTurn p R s₀ t row name (flight row column) i 0 s₀
  add_start {i} ei =
      let ek : meaning (flight row column) ≡ cell_at (cells_of row) (table_in p R s₀ t).key = flight-cell row pr column add-below ∙ ap (cell_at (cells_of row)) x.key in
      record {
        held = x.held;
        proper = pr;
        addable = a;
        facts = added-facts p R s₀ x.held t row pr a name x.named x.packed (flight row column) ek (flight-proper row pr column add-below);
        placed = added-rank p R s₀ x.held t row pr a name (flight row column) x.named ek i ei;
        adds = added-start p R s₀ x.held t row pr a;
      }

module _ {p : Profile} {R : ℕ} {s₀ : List ℕ} {t : ℕ} {row : List Cell} {name : Text} {key : D.Value} {i j : ℕ} {s : List ℕ} (x : AddTurn p R s₀ t row name key i j s) where
  -- the record, when no column is left
  module _ (h : length row ≤ j) {from w : ℕ} (ef : from ≡ rows_at p) (ew : w ≡ row_width p) where
    pub add-grows : Grows s rows_count 2 from R i w
    add-grows = added-grows p R s₀ x.held t row x.proper x.addable j s x.adds h from w i ef ew x.placed

    module _ {s₁ : List ℕ} (e₁ : s₁ ≡ grown rows_count 2 from R i (replicate w 0) s) where
      pub add-place : Place p s₀ s₁ from w i
      add-place =
          place_of x.held (added-room p R s₀ x.held t row x.proper x.addable j s x.adds h from w i ef ew x.placed s₁ e₁)
          (added-part p R s₀ x.held t row x.proper x.addable j s x.adds h from w i ef ew x.placed s₁ e₁)
          (added-length p R s₀ x.held t row x.proper x.addable j s x.adds h from w i ef ew x.placed s₁ e₁)

      pub add_done : {y : List ℕ} → y ≡ row_bytes (text_bytes name) (cells_of row) ++ drop (25 + length row * 26) (take (from + i * w + w - (from + i * w)) (drop (from + i * w) s₁))
          → put_mid (from + i * w) (from + i * w + w - (from + i * w)) s₁ y ≡ image p R (apply (added (new_row p R s₀ t row)) (parse p R s₀))
      add_done {y} ey = added-done p R s₀ x.held t row x.proper x.addable j s x.adds h from w i ef ew x.placed s₁ e₁ (text_bytes name) y x.facts.named ey

  module _ (h : j < length row) where
    turn-mid : Midway p R (parse p R s₀) s
    turn-mid = x.adds.mid

    at : nth (parse p R s₀).tables t ≡ some (table_in p R s₀ t)
    at = table-there p R s₀ t x.addable.known

    fits : length (new_index p R s₀ t row) ≤ p.entries * R
    fits = final-fits p R s₀ x.held t row x.proper x.addable

    pub add-asked : Inside p R s × (t < length (lists p R s).schemas)
    add-asked = (mid-inside p x.facts.coded R x.facts.places (parse p R s₀) s turn-mid, mid-table p x.facts.coded R x.facts.places (parse p R s₀) s turn-mid t (table_in p R s₀ t) at)

    module _ {rec : List ℕ} (er : rec ≡ get_or (lists p R s).schemas t []) where
      pub add_read : TableBytes p rec × (j < p.columns)
      add_read = (
        mid-table-bytes p x.facts.coded R x.facts.places (parse p R s₀) s turn-mid t (table_in p R s₀ t) at rec er x.facts.good-table,
        column-few p R (table_in p R s₀ t) (new_row p R s₀ t row) name (length row) key x.facts j h,
      )

      module _ {c : Column} (rc : ColumnRead p rec j c) where
        column-is : nth (table_in p R s₀ t).columns j ≡ some (column_of c)
        column-is = mid-column p x.facts.coded R x.facts.places (parse p R s₀) s turn-mid t (table_in p R s₀ t) at rec er x.facts.good-table j c rc (omega (arith, x.facts.counted))

        add_turn : {s₁ s₂ : List ℕ} → Adds p R (parse p R s₀) (new_index p R s₀ t row) (new_row p R s₀ t row) (table_in p R s₀ t).columns (j + 1) s₁ → s₂ ≡ s₁ → AddTurn p R s₀ t row name key i (j + 1) s₂
        add_turn y e₂ =
            record {
              held = x.held;
              proper = x.proper;
              addable = x.addable;
              facts = x.facts;
              placed = x.placed;
              adds = subst (Adds p R (parse p R s₀) (new_index p R s₀ t row) (new_row p R s₀ t row) (table_in p R s₀ t).columns (j + 1)) (sym e₂) y;
            }

        pub add-past : c.index ≡ false → {s₂ : List ℕ} → s₂ ≡ s → AddTurn p R s₀ t row name key i (j + 1) s₂
        add-past e e₂ =
            add_turn (adds-past p x.facts.coded R x.facts.places (parse p R s₀) (new_index p R s₀ t row) fits (new_row p R s₀ t row) (table_in p R s₀ t).columns j s x.adds (column_of c) column-is e) e₂

        module _ (e : c.index ≡ true) where
          come-is : entry_of name j (flight row j) key ≡ entry_at (new_row p R s₀ t row) j
          come-is = entry-is p R (table_in p R s₀ t) (new_row p R s₀ t row) name (length row) key x.facts j h (flight row j) (flight-cell row x.proper j h)

          pub add-requires : Entered p R s × ProperEntry name (flight row j) key × (length (entries_in p R s) < p.entries * R)
          add-requires = (
            mid-entered p x.facts.coded R x.facts.places (parse p R s₀) s turn-mid,
            record { name = x.facts.packed; value = flight-proper row x.proper j h; key = x.facts.proper },
            adds-room p x.facts.coded R x.facts.places (parse p R s₀) (new_index p R s₀ t row) fits (new_row p R s₀ t row) (table_in p R s₀ t).columns j s x.adds (column_of c) column-is e,
          )

          pub add-next : {s₁ : List ℕ} → Laid p R s₁ (entry_added p R (entry_of name j (flight row j) key) s) → {s₂ : List ℕ} → s₂ ≡ s₁ → AddTurn p R s₀ t row name key i (j + 1) s₂
          add-next {s₁} l e₂ =
              add_turn
              (adds-next p x.facts.coded R x.facts.places (parse p R s₀) (new_index p R s₀ t row) fits (new_row p R s₀ t row) (table_in p R s₀ t).columns j s x.adds (column_of c) column-is e
              (good-entry p R (table_in p R s₀ t) (new_row p R s₀ t row) name (length row) key x.facts j h) s₁
              (subst (λ (y : Entry). Laid p R s₁ (entry_added p R y s)) come-is l))
              e₂
