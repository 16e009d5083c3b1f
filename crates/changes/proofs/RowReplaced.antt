-- A row put in the place of another of its key: the entries of the values that changed are exchanged, then its record is written over the old
-- one, and what stands is the image of the state with it. Assumes nothing.
use mathlib.Core.Path.{◌≡◌, refl, sym, ap, ◌∙◌, subst}
use mathlib.Core.Bool.{Bool, true, false, cond, not, ◌&&◌}
use mathlib.Core.Option.{some}
use Prim.Native.Nat.Ordering.{eq}
use Prim.Native.Nat.{ℕ, suc, ◌+◌, ◌-◌, ◌*◌, ◌≤◌, ◌<◌}
use native.Mathlib.Numerals.{add-one}
use native.Mathlib.Omega.{arith}
use mathlib.Core.List.{List, [], ◌∷◌, ◌++◌}
use lib.ListN.{length, take, drop, get_or, replicate, length-map, drop_of_length-le}
use borrow.Rule.Slice.PartMut.{put_mid}
use Rattle.values.specs.Basic.{is_lt, insert_by, nth}
use Rattle.values.specs.Value.{Value, normalised, same}
use Rattle.values.specs.Cell.{name_width, read_value}
use Rattle.areas.specs.Counted.{shrunk}
use Rattle.areas.specs.Sorted.{In, Sorted, replace_at}
use Rattle.values.specs.declared.value.Text.{Text}
use Rattle.values.specs.declared.value.Value as D
use Rattle.values.specs.declared.value.Cell.{Cell}
use Rattle.values.specs.Meaning.{text_bytes, Packed, meaning, Proper, held, ProperCell}
use Rattle.values.proofs.Cells.{normalised-twice}
use Rattle.areas.proofs.Halving.{count_same}
use Rattle.areas.proofs.Nest.{mid_back}
use Rattle.values.proofs.Orders.{congʳ, same-exact}
use Rattle.areas.proofs.Placing.{rank, holds, holds-in, insert-old}
use Rattle.areas.proofs.Sorting.{in-insert-new}
use Rattle.rules.specs.declared.profile.Profile.{Profile}
use Rattle.rules.specs.Profile.{Known, places_most, row_width, entry_width, rows_at, entries_at}
use Rattle.rules.specs.State as S
use Rattle.rules.specs.State.{Table, State, cmp_row, cell_at, key_of, row_of}
use Rattle.rules.specs.Index.{Entry, cmp_entry, entry_at, columns_of, without_entry, changed_at, exchange, index_of}
use Rattle.rules.specs.Step.{replaced, apply, with_row}
use Rattle.rules.specs.Layout.{Lists, layout, lists, Laid, Rows, entries_count, row_record, with_area, records_of, image, parse}
use Rattle.rules.proofs.Contents.{replace-row}
use Rattle.rules.proofs.Exchange.{Ready, ready-start, ready-next, exchanged-holds, index-replaced}
use Rattle.rules.proofs.Index.{ord_row, row-of}
use Rattle.rules.proofs.Laid.{laid-lists, laid-replaced, laid-within, laid-part}
use Rattle.rules.proofs.Lists.{nth_in, nth-below, map_at_lem}
use Rattle.rules.proofs.Trip.{GoodRow, GoodEntry, row-long, canonical-normal}
use Rattle.rules.proofs.Valid.{LaidState, laid-is}
use Rattle.laid.specs.declared.catalog.Column.{Column}
use Rattle.laid.specs.Column.{column_of, ColumnRead}
use Rattle.laid.specs.Catalog.{TableBytes}
use Rattle.laid.specs.Row.{cells_of, ProperRow, table_in, row_in, Replaceable}
use Rattle.laid.specs.Store.{Coded, Inside, LaidStore}
use Rattle.laid.specs.Entered.{entries_in, Entered, entry_rank, entry_in, entry_removed, entry_exchanged, entry_of, ProperEntry, row_bytes}
use Rattle.laid.proofs.Finding.{drop_nth}
use Rattle.laid.proofs.Entering.{entry_gone}
use Rattle.laid.proofs.Ranking.{all_of}
use Rattle.changes.proofs.RowRemoved.{rank-nth}
use Rattle.laid.proofs.Midway.{Midway, midway-of, entries-back, mid-added, added-entries, mid-removed, removed-entries, mid-inside, mid-entered, mid-table, mid-table-bytes, mid-column, mid_row, mid-row-long, mid-cell}
use Rattle.laid.proofs.Keyed.{row_at, row-in}
use Rattle.laid.proofs.Stores.{held-state, held-inside}
use Rattle.laid.proofs.RowFacts.{RowFacts, row-facts, column-few, good-entry, entry-is, own-columns, own-full, own-key-below, own_key, own-key-good, own-good, held-midway, held-entries, table-there, table-held}
use Rattle.changes.proofs.Changing.{Begun, Place, place_of}
use Rattle.changes.proofs.RowAdded.{record-parts, record-rest, flight, flight-cell, flight-proper}

-- ---- on the way

pub record Swaps (p : Profile) (R : ℕ) (st : State) (final : List Entry) (old new : S.Row) (cs : List S.Column) (j : ℕ) (s : List ℕ) : Type 0 where
  pub mid : Midway p R st s
  pub ready : Ready old new j (drop j cs) (entries_in p R s)
  pub whole : exchange old new j (drop j cs) (entries_in p R s) ≡ final

module _ (p : Profile) (k : Coded p) (R : ℕ) (most : R ≤ places_most) (st : State) (final : List Entry) (old new : S.Row) (cs : List S.Column) (j : ℕ) (s : List ℕ) (b : Swaps p R st final old new cs j s) where
  -- the index is whole when no column is left
  pub swaps-done : length cs ≤ j → entries_in p R s ≡ final
  unfolding exchange
  swaps-done h = sym (ap (λ (l : List S.Column). exchange old new j l (entries_in p R s)) (drop_of_length-le cs {i = j} h)) ∙ b.whole

  module _ (c : S.Column) (at : nth cs j ≡ some c) where
    left : drop j cs ≡ c ∷ drop (j + 1) cs
    left = drop_nth cs j c at ∙ ap (λ (n : ℕ). c ∷ drop n cs) (sym (add-one j))

    ready-here : Ready old new j (c ∷ drop (j + 1) cs) (entries_in p R s)
    ready-here = subst (λ (l : List S.Column). Ready old new j l (entries_in p R s)) left b.ready

    abbrev after : Bool → List Entry
    after q = cond q (insert_by cmp_entry (entry_at new j) (without_entry (entry_at old j) (entries_in p R s))) (entries_in p R s)

    -- a buffer with the index after the column
    pub swaps-to : (s₁ : List ℕ) → Midway p R st s₁ → entries_in p R s₁ ≡ after (changed_at old new j c) → Swaps p R st final old new cs (j + 1) s₁
    unfolding exchange
    swaps-to s₁ m e =
        record {
          mid = m;
          ready = subst (λ (n : ℕ). Ready old new n (drop (j + 1) cs) (entries_in p R s₁)) (sym (add-one j))
              (subst (Ready old new (suc j) (drop (j + 1) cs)) (sym e) (ready-next old new j c (drop (j + 1) cs) (entries_in p R s) ready-here));
          whole = ap (λ (n : ℕ). exchange old new n (drop (j + 1) cs) (entries_in p R s₁)) (add-one j)
              ∙ ap (exchange old new (suc j) (drop (j + 1) cs)) e
              ∙ sym (ap (λ (l : List S.Column). exchange old new j l (entries_in p R s)) left) ∙ b.whole;
        }

    pub swaps-past : c.index ≡ false → Swaps p R st final old new cs (j + 1) s
    swaps-past h = swaps-to s b.mid (sym (ap after (ap (λ (q : Bool). q && not (same (cell_at old.cells j) (cell_at new.cells j))) h)))

    module _ (h : c.index ≡ true) where
      changed-is : changed_at old new j c ≡ not (same (cell_at old.cells j) (cell_at new.cells j))
      changed-is = ap (λ (q : Bool). q && not (same (cell_at old.cells j) (cell_at new.cells j))) h

      held_both : same (cell_at old.cells j) (cell_at new.cells j) ≡ false → (holds cmp_entry (entry_at old j) (entries_in p R s) ≡ true) × (holds cmp_entry (entry_at new j) (without_entry (entry_at old j) (entries_in p R s)) ≡ false)
      held_both d = exchanged-holds old new j c (drop (j + 1) cs) (entries_in p R s) ready-here (changed-is ∙ ap not d)

      pub swaps-there : same (cell_at old.cells j) (cell_at new.cells j) ≡ false → entry_in p R (entry_at old j) s ≡ true
      swaps-there d = (held_both d).0

      pub swaps-next : GoodEntry (entry_at new j) → (q : Bool) → same (cell_at old.cells j) (cell_at new.cells j) ≡ q → (y : List ℕ)
          → Laid p R y (cond q (lists p R s) (entry_exchanged p R (entry_at old j) (entry_at new j) s)) → Swaps p R st final old new cs (j + 1) y
      unfolding entry_exchanged
      swaps-next g true d y l =
          let es = entries_in p R s in
          let m : Laid p R y (records_of p st (entries_in p R s)) = subst (Laid p R y) (laid-lists p R s (records_of p st (entries_in p R s)) b.mid.laid) l in
          swaps-to y (midway-of p k R most st y (entries_in p R s) m b.mid.sorted b.mid.good)
          (entries-back p k R most st y (entries_in p R s) m b.mid.good ∙ sym (ap after (changed-is ∙ ap not d)))
      swaps-next g false d y l =
          let s₁ : List ℕ = layout p R (entry_removed p R (entry_at old j) s) in
          let t = held_both d in
          let v = mid-entered p k R most st s b.mid in
          let gone = entry_gone p R s v (entry_at old j) (entries_at p R) (entry_width p) (p.entries * R) (entry_rank p R (entry_at old j) s) refl refl refl refl t.0
          (shrunk entries_count 4 (entries_at p R) (p.entries * R) (entry_width p) (entry_rank p R (entry_at old j) s) 1 s) refl
          in
          let l₁ : Laid p R s₁ (entry_removed p R (entry_at old j) s) = record { fits = gone.fits; whole = refl } in
          let m₁ = mid-removed p k R most st s b.mid (entry_at old j) t.0 s₁ l₁ in
          let e₁ = removed-entries p k R most st s b.mid (entry_at old j) t.0 s₁ l₁ in
          let n₁ : holds cmp_entry (entry_at new j) (entries_in p R s₁) ≡ false = ap (holds cmp_entry (entry_at new j)) e₁ ∙ t.1 in
          swaps-to y (mid-added p k R most st s₁ m₁ (entry_at new j) g n₁ y l)
          (added-entries p k R most st s₁ m₁ (entry_at new j) g n₁ y l ∙ ap (insert_by cmp_entry (entry_at new j)) e₁ ∙ sym (ap after (changed-is ∙ ap not d)))

-- ---- from the first column to the last, and the record

module _ (p : Profile) (k : Coded p) (R : ℕ) (most : R ≤ places_most) (st : State) (o : Sorted cmp_row st.rows) (old new : S.Row) (i : ℕ) (at : nth st.rows i ≡ some old) (one : cmp_row old new ≡ eq)
    (cs : List S.Column) (ec : columns_of st.tables old.table ≡ cs) where
  abbrev final : List Entry
  final = index_of st.tables (with_row new st.rows)

  here : In old st.rows
  here = nth_in st.rows i old at

  pub swaps-start : (s : List ℕ) → Midway p R st s → entries_in p R s ≡ index_of st.tables st.rows → Swaps p R st final old new cs 0 s
  swaps-start s m e =
      record {
        mid = m;
        ready = subst (λ (x : List S.Column). Ready old new 0 x (entries_in p R s)) ec (subst (Ready old new 0 (columns_of st.tables old.table)) (sym e) (ready-start st.tables old new st.rows o here one));
        whole = ap (λ (x : List S.Column). exchange old new 0 x (entries_in p R s)) (sym ec) ∙ ap (exchange old new 0 (columns_of st.tables old.table)) e ∙ sym (index-replaced st.tables old new st.rows o here one);
      }

  rank-new : rank cmp_row new st.rows ≡ i
  rank-new =
      count_same (λ x. is_lt (cmp_row x new)) (λ x. is_lt (cmp_row x old)) st.rows (all_of _ st.rows (λ x m. ap is_lt (congʳ ord_row x old new one)))
      ∙ rank-nth ord_row st.rows i old o at

  rows-with : replace_at i new st.rows ≡ with_row new st.rows
  rows-with = ap (λ (n : ℕ). replace_at n new st.rows) (sym rank-new) ∙ sym (insert-old ord_row new st.rows o (holds-in ord_row new old st.rows here one))

  module _ (j : ℕ) (s : List ℕ) (b : Swaps p R st final old new cs j s) (h : length cs ≤ j) (from w : ℕ) (ef : from ≡ rows_at p) (ew : w ≡ row_width p) where
    abbrev x₀ : Lists
    x₀ = records_of p st (entries_in p R s)

    among : i < length x₀.rows
    unfolding records_of
    among = omega (arith, length-map st.rows (row_record p), nth-below st.rows i old at)

    pub swap-room : from + i * w + w ≤ length s
    swap-room = laid-within p R s x₀ b.mid.laid Rows from w R ef ew refl i (omega (arith, among, b.mid.laid.fits.rows-le))

    -- the part that is written through is the old record
    pub swap-part : take (from + i * w + w - (from + i * w)) (drop (from + i * w) s) ≡ row_record p old
    unfolding records_of
    swap-part = laid-part p R s x₀ b.mid.laid Rows from w R ef ew refl i among ∙ map_at_lem (row_record p) st.rows i old [] at

    pub swap-done : (y : List ℕ) → y ≡ row_record p new → length (row_record p new) ≡ row_width p → put_mid (from + i * w) (from + i * w + w - (from + i * w)) s y ≡ image p R (apply (replaced old new) st)
    unfolding image apply
    swap-done y ey ly =
        mid_back (from + i * w) (from + i * w + w) s y (omega arith)
        ∙ (laid-replaced p R s x₀ b.mid.laid Rows from w R ef ew refl i y (ap length ey ∙ ly ∙ sym ew) among).whole
        ∙ ap (λ (q : List ℕ). layout p R (with_area Rows (replace_at i q x₀.rows) x₀)) ey
        ∙ ap (layout p R) (replace-row p st (entries_in p R s) i new)
        ∙ ap (λ (q : List S.Row). layout p R (records_of p (record { tables = st.tables; rows = q }) (entries_in p R s))) rows-with
        ∙ ap (λ (q : List Entry). layout p R (records_of p (record { tables = st.tables; rows = with_row new st.rows }) q)) (swaps-done p k R most st final old new cs j s b h)

-- ---- a row that can take the place of another

abbrev in_flight : Profile → ℕ → List ℕ → ℕ → List Cell → S.Row
in_flight p R s t row = row_of (table_in p R s t) (cells_of row)

abbrev index : Profile → ℕ → List ℕ → ℕ → List Cell → List Entry
index p R s t row = index_of (parse p R s).tables (with_row (in_flight p R s t row) (parse p R s).rows)

pub record ReplaceTurn (p : Profile) (R : ℕ) (s₀ : List ℕ) (t i : ℕ) (row : List Cell) (name : Text) (key : D.Value) (j : ℕ) (s : List ℕ) : Type 0 where
  pub held : LaidStore p R s₀
  pub proper : ProperRow row
  pub able : Replaceable p R s₀ t i (cells_of row)
  pub olds : RowFacts p R (table_in p R s₀ t) (row_in p R s₀ i) name (length row) key
  pub news : RowFacts p R (table_in p R s₀ t) (in_flight p R s₀ t row) name (length row) key
  pub swaps : Swaps p R (parse p R s₀) (index p R s₀ t row) (row_in p R s₀ i) (in_flight p R s₀ t row) (table_in p R s₀ t).columns j s

module _ (p : Profile) (R : ℕ) (s₀ : List ℕ) (b : LaidStore p R s₀) (t i : ℕ) (row : List Cell) (pr : ProperRow row) (a : Replaceable p R s₀ t i (cells_of row)) where
  abbrev T : Table
  T = table_in p R s₀ t

  abbrev before : S.Row
  before = row_in p R s₀ i

  abbrev coming : S.Row
  coming = in_flight p R s₀ t row

  abbrev later : State
  later = record { tables = (parse p R s₀).tables; rows = with_row coming (parse p R s₀).rows }

  kn : Known p
  kn = b.coded.known

  later-laid : LaidState p R later
  unfolding apply
  later-laid = laid-is p R later a.laid

  there : In T (parse p R s₀).tables
  there = table-held p R s₀ b t a.row.known

  came : In coming (with_row coming (parse p R s₀).rows)
  came = in-insert-new cmp_row coming (parse p R s₀).rows

  stood : In before (parse p R s₀).rows
  stood = row-in p R s₀ b i a.row.stored

  coming-full : length row ≡ length T.columns
  unfolding cells_of
  coming-full =
      sym (length-map row held) ∙ own-full p R later later-laid T there coming came refl

  coming-key-below : T.key < length row
  coming-key-below = omega (arith, coming-full, own-key-below p R later later-laid T there coming came refl)

  keys-agree : normalised before.key ≡ coming.key
  keys-agree = same-exact before.key (key_of T (cells_of row)) a.same

  one-place-both : cmp_row before coming ≡ eq
  one-place-both = row-of before coming a.row.of (keys-agree ∙ sym (normalised-twice (key_of T (cells_of row))))

  same_key_lem : before.key ≡ coming.key
  same_key_lem = sym (canonical-normal before.key (own-key-good p R (parse p R s₀) (held-state p R s₀ b) T there before stood a.row.of)) ∙ keys-agree

  columns-are : columns_of (parse p R s₀).tables before.table ≡ T.columns
  columns-are = own-columns p R (parse p R s₀) (held-state p R s₀ b) T there before stood a.row.of

  coming-good : GoodRow p coming
  coming-good = own-good p R later later-laid T there coming came refl

  module _ (name : Text) (en : text_bytes name ≡ T.name) (hn : Packed name) (key : D.Value) (ek : meaning key ≡ cell_at (cells_of row) T.key) (hk : Proper key) where
    new-facts : RowFacts p R T coming name (length row) key
    new-facts = row-facts p b.coded R b.places later later-laid T there coming came refl name en hn (length row) coming-full key ek hk

    old-facts : RowFacts p R T before name (length row) key
    old-facts =
        row-facts p b.coded R b.places (parse p R s₀) (held-state p R s₀ b) T there before stood a.row.of name en hn (length row) coming-full key
        (ek ∙ own_key p R later later-laid T there coming came refl kn ∙ sym same_key_lem ∙ sym (own_key p R (parse p R s₀) (held-state p R s₀ b) T there before stood a.row.of kn)) hk

    replaced-start : ReplaceTurn p R s₀ t i row name key 0 s₀
    replaced-start =
        record {
          held = b;
          proper = pr;
          able = a;
          olds = old-facts;
          news = new-facts;
          swaps = swaps-start p b.coded R b.places (parse p R s₀) (held-state p R s₀ b).rows-sorted before coming i (row_at p R s₀ b i a.row.stored) one-place-both T.columns columns-are s₀ (held-midway p R s₀ b) (held-entries p R s₀ b);
        }

  module _ (j : ℕ) (s : List ℕ) (x : Swaps p R (parse p R s₀) (index p R s₀ t row) before coming T.columns j s) (h : length row ≤ j)
      (from w : ℕ) (ef : from ≡ rows_at p) (ew : w ≡ row_width p) where
    replaced-room : from + i * w + w ≤ length s
    replaced-room =
        swap-room p b.coded R b.places (parse p R s₀) (held-state p R s₀ b).rows-sorted before coming i (row_at p R s₀ b i a.row.stored) one-place-both T.columns columns-are j s x (omega (arith, coming-full)) from w ef ew

    part-was : take (from + i * w + w - (from + i * w)) (drop (from + i * w) s) ≡ row_record p before
    part-was =
        swap-part p b.coded R b.places (parse p R s₀) (held-state p R s₀ b).rows-sorted before coming i (row_at p R s₀ b i a.row.stored) one-place-both T.columns columns-are j s x (omega (arith, coming-full)) from w ef ew

    before-good : GoodRow p before
    before-good = own-good p R (parse p R s₀) (held-state p R s₀ b) T there before stood a.row.of

    replaced-part : length (take (from + i * w + w - (from + i * w)) (drop (from + i * w) s)) ≡ row_width p
    replaced-part = ap length part-was ∙ row-long p kn.cell before before-good

    replaced-length : length s ≡ length s₀
    replaced-length = omega (arith, (mid-inside p b.coded R b.places (parse p R s₀) s x.mid).long, (held-inside p R s₀ b).long)

    replaced-done : (n y : List ℕ) → n ≡ T.name → y ≡ row_bytes n (cells_of row) ++ drop (25 + length row * 26) (take (from + i * w + w - (from + i * w)) (drop (from + i * w) s))
        → put_mid (from + i * w) (from + i * w + w - (from + i * w)) s y ≡ image p R (apply (replaced before coming) (parse p R s₀))
    replaced-done n y en ey =
        let cb : length before.cells ≡ length row = own-full p R (parse p R s₀) (held-state p R s₀ b) T there before stood a.row.of ∙ sym coming-full in
        let cc : length (cells_of row) ≡ length row = own-full p R later later-laid T there coming came refl ∙ sym coming-full in
        let z : ◌≡◌ {A = List ℕ} (drop (25 + length row * 26) (row_record p before)) (replicate (p.columns * p.cell - length (cells_of row) * 26) 0) =
        ap (λ (m : ℕ). drop (25 + m * 26) (row_record p before)) (sym cb)
        ∙ record-rest p b.coded before before-good
        ∙ ap {B = List ℕ} (λ (m : ℕ). replicate (p.columns * p.cell - m * 26) 0) (cb ∙ sym cc)
        in
        let ry : y ≡ row_record p coming =
        ey ∙ ap (λ (l : List ℕ). row_bytes n (cells_of row) ++ l) (ap (drop (25 + length row * 26)) part-was ∙ z)
        ∙ ap (λ (m : List ℕ). row_bytes m (cells_of row) ++ replicate (p.columns * p.cell - length (cells_of row) * 26) 0) en
        ∙ sym (record-parts p b.coded coming coming-good)
        in
        swap-done p b.coded R b.places (parse p R s₀) (held-state p R s₀ b).rows-sorted before coming i (row_at p R s₀ b i a.row.stored) one-place-both T.columns columns-are j s x (omega (arith, coming-full)) from w ef ew
        y ry (row-long p kn.cell coming coming-good)

-- ---- the start, with the name and the key column read

module _ {p : Profile} {R : ℕ} {s₀ : List ℕ} {t : ℕ} {name : Text} {column : ℕ} (x : Begun p R s₀ t name column) {i : ℕ} {row : List Cell} (pr : ProperRow row) (a : Replaceable p R s₀ t i (cells_of row)) where
  pub swap-below : column < length row
  swap-below = omega (arith, x.key, coming-key-below p R s₀ x.held t i row pr a)

  pub swap-start : ReplaceTurn p R s₀ t i row name (flight row column) 0 s₀
  swap-start =
      replaced-start p R s₀ x.held t i row pr a name x.named x.packed (flight row column) (flight-cell row pr column swap-below ∙ ap (cell_at (cells_of row)) x.key)
      (flight-proper row pr column swap-below)

-- ---- a turn of the loop

module _ {p : Profile} {R : ℕ} {s₀ : List ℕ} {t i : ℕ} {row : List Cell} {name : Text} {key : D.Value} {j : ℕ} {s : List ℕ} (x : ReplaceTurn p R s₀ t i row name key j s) where
  -- the record, when no column is left
  module _ (h : length row ≤ j) {from w : ℕ} (ef : from ≡ rows_at p) (ew : w ≡ row_width p) where
    pub swap-place : Place p s₀ s from w i
    swap-place =
        place_of x.held (replaced-room p R s₀ x.held t i row x.proper x.able j s x.swaps h from w ef ew) (replaced-part p R s₀ x.held t i row x.proper x.able j s x.swaps h from w ef ew)
        (replaced-length p R s₀ x.held t i row x.proper x.able j s x.swaps h from w ef ew)

    pub swap-whole : {y : List ℕ} → y ≡ row_bytes (text_bytes name) (cells_of row) ++ drop (25 + length row * 26) (take (from + i * w + w - (from + i * w)) (drop (from + i * w) s))
        → put_mid (from + i * w) (from + i * w + w - (from + i * w)) s y ≡ image p R (apply (replaced (row_in p R s₀ i) (in_flight p R s₀ t row)) (parse p R s₀))
    swap-whole {y} ey = replaced-done p R s₀ x.held t i row x.proper x.able j s x.swaps h from w ef ew (text_bytes name) y x.news.named ey

  module _ (h : j < length row) where
    k : Coded p
    k = x.olds.coded

    most : R ≤ places_most
    most = x.olds.places

    mid : Midway p R (parse p R s₀) s
    mid = x.swaps.mid

    at_table : nth (parse p R s₀).tables t ≡ some (table_in p R s₀ t)
    at_table = table-there p R s₀ t x.able.row.known

    at_row : nth (parse p R s₀).rows i ≡ some (row_in p R s₀ i)
    at_row = row_at p R s₀ x.held i x.able.row.stored

    few-columns : j < p.columns
    few-columns = column-few p R (table_in p R s₀ t) (row_in p R s₀ i) name (length row) key x.olds j h

    inside : Inside p R s
    inside = mid-inside p k R most (parse p R s₀) s mid

    pub swap-table : Inside p R s × (t < length (lists p R s).schemas)
    swap-table = (inside, mid-table p k R most (parse p R s₀) s mid t (table_in p R s₀ t) at_table)

    pub swap-row : Inside p R s × (i < length (lists p R s).rows)
    swap-row = (inside, mid_row p k R most (parse p R s₀) s mid i (row_in p R s₀ i) at_row)

    pub swap-cell : {rec : List ℕ} → rec ≡ get_or (lists p R s).rows i [] → Coded p × (length rec ≡ row_width p) × (j < p.columns)
    swap-cell {rec} er = (k, mid-row-long p k R most (parse p R s₀) s mid i (row_in p R s₀ i) at_row rec er x.olds.good-row, few-columns)

    module _ {rec : List ℕ} (er : rec ≡ get_or (lists p R s).schemas t []) where
      pub swap-read : TableBytes p rec × (j < p.columns)
      swap-read = (mid-table-bytes p k R most (parse p R s₀) s mid t (table_in p R s₀ t) at_table rec er x.olds.good-table, few-columns)

      module _ {c : Column} (rc : ColumnRead p rec j c) where
        column-is : nth (table_in p R s₀ t).columns j ≡ some (column_of c)
        column-is = mid-column p k R most (parse p R s₀) s mid t (table_in p R s₀ t) at_table rec er x.olds.good-table j c rc (omega (arith, x.olds.counted))

        swap-turn : {s₁ s₂ : List ℕ} → Swaps p R (parse p R s₀) (index p R s₀ t row) (row_in p R s₀ i) (in_flight p R s₀ t row) (table_in p R s₀ t).columns (j + 1) s₁ → s₂ ≡ s₁ → ReplaceTurn p R s₀ t i row name key (j + 1) s₂
        swap-turn y e₂ =
            record {
              held = x.held;
              proper = x.proper;
              able = x.able;
              olds = x.olds;
              news = x.news;
              swaps = subst (Swaps p R (parse p R s₀) (index p R s₀ t row) (row_in p R s₀ i) (in_flight p R s₀ t row) (table_in p R s₀ t).columns (j + 1)) (sym e₂) y;
            }

        pub swap-past : c.index ≡ false → {s₂ : List ℕ} → s₂ ≡ s → ReplaceTurn p R s₀ t i row name key (j + 1) s₂
        swap-past e e₂ =
            swap-turn (swaps-past p k R most (parse p R s₀) (index p R s₀ t row) (row_in p R s₀ i) (in_flight p R s₀ t row) (table_in p R s₀ t).columns j s x.swaps (column_of c) column-is e) e₂

        module _ (e : c.index ≡ true) {rec₁ : List ℕ} (er₁ : rec₁ ≡ get_or (lists p R s).rows i []) (z : Cell) (ez : (held z ≡ read_value (drop (name_width + j * p.cell) rec₁)) × ProperCell z) where
          old-cell : meaning z.value ≡ cell_at (row_in p R s₀ i).cells j
          old-cell = ez.0 ∙ mid-cell p k R most (parse p R s₀) s mid i (row_in p R s₀ i) at_row rec₁ er₁ x.olds.good-row j (omega (arith, x.olds.full))

          new-cell : meaning (flight row j) ≡ cell_at (cells_of row) j
          new-cell = flight-cell row x.proper j h

          old-is : entry_of name j z.value key ≡ entry_at (row_in p R s₀ i) j
          old-is = entry-is p R (table_in p R s₀ t) (row_in p R s₀ i) name (length row) key x.olds j h z.value old-cell

          new_is : entry_of name j (flight row j) key ≡ entry_at (in_flight p R s₀ t row) j
          new_is = entry-is p R (table_in p R s₀ t) (in_flight p R s₀ t row) name (length row) key x.news j h (flight row j) new-cell

          same-is : same (meaning z.value) (meaning (flight row j)) ≡ same (cell_at (row_in p R s₀ i).cells j) (cell_at (cells_of row) j)
          same-is = ap (λ (v : Value). same v (meaning (flight row j))) old-cell ∙ ap (same (cell_at (row_in p R s₀ i).cells j)) new-cell

          pub swap-requires : Entered p R s × ProperEntry name z.value key × ProperEntry name (flight row j) key × (same (meaning z.value) (meaning (flight row j)) ≡ false → entry_in p R (entry_of name j z.value key) s ≡ true)
          swap-requires = (
            mid-entered p k R most (parse p R s₀) s mid,
            record { name = x.olds.packed; value = ez.1; key = x.olds.proper },
            record { name = x.olds.packed; value = flight-proper row x.proper j h; key = x.olds.proper },
            λ d.
                subst (λ (y : Entry). entry_in p R y s ≡ true) (sym old-is)
                (swaps-there p k R most (parse p R s₀) (index p R s₀ t row) (row_in p R s₀ i) (in_flight p R s₀ t row) (table_in p R s₀ t).columns j s x.swaps (column_of c) column-is e (sym same-is ∙ d)),
          )

          pub swap-next : {y : List ℕ} → Laid p R y (cond (same (meaning z.value) (meaning (flight row j))) (lists p R s) (entry_exchanged p R (entry_of name j z.value key) (entry_of name j (flight row j) key) s)) → {s₂ : List ℕ} → s₂ ≡ y
              → ReplaceTurn p R s₀ t i row name key (j + 1) s₂
          swap-next {y} l e₂ =
              swap-turn
              (swaps-next p k R most (parse p R s₀) (index p R s₀ t row) (row_in p R s₀ i) (in_flight p R s₀ t row) (table_in p R s₀ t).columns j s x.swaps (column_of c) column-is e
              (good-entry p R (table_in p R s₀ t) (in_flight p R s₀ t row) name (length row) key x.news j h) (same (meaning z.value) (meaning (flight row j))) (sym same-is) y
              (subst (λ (q : Entry). Laid p R y (cond (same (meaning z.value) (meaning (flight row j))) (lists p R s) (entry_exchanged p R q (entry_at (in_flight p R s₀ t row) j) s))) old-is
              (subst (λ (q : Entry). Laid p R y (cond (same (meaning z.value) (meaning (flight row j))) (lists p R s) (entry_exchanged p R (entry_of name j z.value key) q s))) new_is l)))
              e₂
