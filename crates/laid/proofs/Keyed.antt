-- Rows by place: a row's record and its cells, and that a search by table and key over the records finds the place of a row. Assumes nothing.
use mathlib.Core.Path.{◌≡◌, refl, sym, ap, ◌∙◌}
use mathlib.Core.Bool.{Bool, true, ◌&&◌}
use mathlib.Core.Option.{Option, none, some, some-injective}
use Prim.Native.Nat.Ordering.{eq}
use Prim.Native.Nat.Ordering.{gt}
use Prim.Native.Nat.Ordering.{lt}
use Prim.Native.Nat.{ℕ, ◌+◌, ◌-◌, ◌*◌, ◌≤◌, ◌<◌, Ordering}
use native.Mathlib.Omega.{arith}
use mathlib.Core.List.{List, [], ◌∷◌, map}
use lib.Dec.{compare_is_eq}
use lib.ListN.{length, take, drop, get_or, length-map}
use Rattle.std.specs.Bool.{then_some}
use Rattle.values.specs.Basic.{and_then, is_lt, cmp_bytes, nth, or_default}
use Rattle.values.specs.Value.{Value, null, normalised, cmp_value}
use Rattle.values.specs.Cell.{name_width, cell_width, read_value}
use Rattle.areas.specs.Counted.{count_at}
use Rattle.areas.specs.Records.{records}
use Rattle.areas.specs.Search.{cmp_named, cmp_keyed, SearchIn}
use Rattle.areas.specs.Sorted.{In, Sorted, count_of}
use Rattle.values.proofs.Orders.{exact_bytes}
use Rattle.areas.proofs.Placing.{rank, holds, holds_at, holds-past}
use Rattle.rules.specs.declared.profile.Profile.{Profile}
use Rattle.rules.specs.Profile.{row_width, rows_at}
use Rattle.rules.specs.State.{Row, cmp_row, table_named, is_row, cell_at}
use Rattle.rules.specs.Sound.{canonical}
use Rattle.rules.specs.Layout.{lists, Rows, rows_count, row_record, records_of, parse}
use Rattle.rules.proofs.Widths.{cell-within, row-most}
use Rattle.rules.proofs.Tests.{every-at}
use Rattle.rules.proofs.Lists.{nth_in, nth-below, below-nth, map_at_lem}
use Rattle.rules.proofs.Index.{ord_row}
use Rattle.rules.proofs.Room.{key-column, table-in}
use Rattle.rules.proofs.Trip.{GoodRow, row-name, row-cell, row-long, cell-alone, canonical-normal}
use Rattle.rules.proofs.Whole.{good-row, key-is}
use Rattle.laid.specs.Store.{LaidStore}
use Rattle.laid.specs.Catalog.{place_of, found_at}
use Rattle.laid.specs.Row.{KeyColumn, keyed, no_row, row_in}
use Rattle.laid.proofs.Finding.{no_place, place-rank, nth-get_or, told_place}
use Rattle.laid.proofs.Columns.{value-front}
use Rattle.laid.proofs.Inside.{area-count}
use Rattle.laid.proofs.Stores.{held-state, held-lists, held-inside}
use Rattle.laid.proofs.Ranking.{map-ranked, map-falls, area-read, area-inside}

-- ---- a cell of a row's record

module _ (p : Profile) (k : cell_width ≤ p.cell) (r : Row) (g : GoodRow p r) (j : ℕ) (h : j < length r.cells) where
  pub cell-canonical : canonical (cell_at r.cells j) ≡ true
  cell-canonical =
      let q = below-nth r.cells j h in
      ap (λ (o : Option Value). canonical (or_default o null)) q.1 ∙ every-at canonical r.cells g.cells q.0 (nth_in r.cells j q.0 q.1)

  pub cell-read : read_value (drop (name_width + j * p.cell) (row_record p r)) ≡ cell_at r.cells j
  cell-read =
      let q = below-nth r.cells j h in
      sym (value-front p.cell (drop (name_width + j * p.cell) (row_record p r)) k)
      ∙ ap read_value (row-cell p k r g j q.0 q.1)
      ∙ cell-alone p.cell q.0 k (every-at canonical r.cells g.cells q.0 (nth_in r.cells j q.0 q.1))
      ∙ sym (ap (λ (o : Option Value). or_default o null) q.1)

-- a cell of a column lies inside
pub cell_room : (p : Profile) → cell_width ≤ p.cell → (j : ℕ) → j < p.columns → name_width + j * p.cell + cell_width ≤ row_width p
cell_room p k j h = omega (arith, cell-within p j h)

-- ---- the test of a row's table and key

both_equal : (o c : Ordering) → compare_is_eq (and_then o c) ≡ (compare_is_eq o && compare_is_eq c)
both_equal lt c = refl
both_equal eq c = refl
both_equal gt c = refl

pub row-test : (n : List ℕ) (key : Value) (r : Row) → compare_is_eq (cmp_row r (keyed n key)) ≡ is_row n key r
unfolding cmp_row
row-test n key r = both_equal (cmp_bytes r.table n) (cmp_value r.key key)

pub place-ext : {A : Type 0} (f g : A → Bool) → ((x : A) → f x ≡ g x) → (xs : List A) → place_of f xs ≡ place_of g xs
unfolding place_of
place-ext f g h [] = refl
place-ext f g h (x ∷ xs) = rw (h x, place-ext f g h xs)

-- ---- the rows of a store

module _ (p : Profile) (R : ℕ) (s : List ℕ) (b : LaidStore p R s) where
  abbrev rows : List Row
  rows = (parse p R s).rows

  pub rows-laid : (lists p R s).rows ≡ map (row_record p) rows
  unfolding records_of
  rows-laid = ap (λ x. x.rows) (held-lists p R s b)

  pub rows-counted : length rows ≡ count_at rows_count 2 s
  rows-counted = sym (length-map rows (row_record p)) ∙ sym (ap length rows-laid) ∙ area-count p R s Rows

  module _ (i : ℕ) (h : i < length rows) where
    pub row_at : nth rows i ≡ some (row_in p R s i)
    unfolding row_in
    row_at = nth-get_or rows i no_row h ∙ ap some (sym (ap (λ (o : Option Row). or_default o no_row) (nth-get_or rows i no_row h)))

    pub row_within : i < length (lists p R s).rows
    row_within = omega (arith, ap length rows-laid, length-map rows (row_record p))

    pub row_read : get_or (lists p R s).rows i [] ≡ row_record p (row_in p R s i)
    row_read = ap (λ (l : List (List ℕ)). get_or l i []) rows-laid ∙ map_at_lem (row_record p) rows i (row_in p R s i) [] row_at

    pub row-in : In (row_in p R s i) rows
    row-in = nth_in rows i (row_in p R s i) row_at

    pub row-good : GoodRow p (row_in p R s i)
    row-good = good-row p R (parse p R s) (held-state p R s b) (row_in p R s i) row-in

    -- a record that is lent, and a cell in it
    module _ (rec : List ℕ) (e : rec ≡ get_or (lists p R s).rows i []) where
      pub row-bytes : length rec ≡ row_width p
      row-bytes = ap length (e ∙ row_read) ∙ row-long p b.coded.known.cell (row_in p R s i) row-good

      module _ (j : ℕ) (l : j < length (row_in p R s i).cells) where
        pub cell-column : j < p.columns
        cell-column = omega (arith, row-good.few)

        pub cell-lent : read_value (drop (name_width + j * p.cell) rec) ≡ cell_at (row_in p R s i).cells j
        cell-lent = ap (λ (r : List ℕ). read_value (drop (name_width + j * p.cell) r)) (e ∙ row_read) ∙ cell-read p b.coded.known.cell (row_in p R s i) row-good j l

  -- ---- by table and key

  module _ (n : List ℕ) (column : ℕ) (kc : KeyColumn p R s n column) (key : Value) where
    abbrev at : ℕ
    at = name_width + column * p.cell

    -- the key's cell lies inside, and its offset fits a machine word
    pub key-room : at + cell_width ≤ row_width p
    key-room = cell_room p b.coded.known.cell column kc.inside

    pub key-small : at ≤ 1049
    key-small = omega (arith, key-room, row-most p b.coded.known)

    -- a row of the table has its key in the key column
    key-read : (r : Row) → In r rows → r.table ≡ n → read_value (drop at (row_record p r)) ≡ r.key
    key-read r m e =
        let v = held-state p R s b in
        let kn = b.coded.known in
        let w = v.rows r m in
        let t = w.table in
        let c : column ≡ t.key = kc.is t (ap (table_named (parse p R s).tables) (sym e) ∙ w.named) in
        let kcol = key-column (parse p R s).tables t (v.faults t (table-in p R (parse p R s) v r m)) in
        let l : column < length r.cells = omega (arith, w.full, nth-below t.columns t.key kcol.column kcol.is) in
        let g = good-row p R (parse p R s) v r m in
        cell-read p kn.cell r g column l
        ∙ sym (canonical-normal (cell_at r.cells column) (cell-canonical p kn.cell r g column l))
        ∙ ap (λ (i : ℕ). normalised (cell_at r.cells i)) c
        ∙ sym (key-is p R (parse p R s) v r m)

    agree : (r : Row) → In r rows → cmp_keyed at (row_record p r) n key ≡ cmp_row r (keyed n key)
    unfolding cmp_keyed cmp_named cmp_row
    agree r m =
        let g = good-row p R (parse p R s) (held-state p R s b) r m in
        rw (row-name p b.coded.known.cell r g) (by_name (cmp_bytes r.table n) refl)
      where
        by_name : (o : Ordering) → cmp_bytes r.table n ≡ o → and_then o (cmp_value (read_value (drop at (row_record p r))) key) ≡ and_then o (cmp_value r.key key)
        by_name lt e = refl
        by_name eq e = ap (λ (v : Value). cmp_value v key) (key-read r m (exact_bytes r.table n e))
        by_name gt e = refl

    module _ (from w count : ℕ) (ef : from ≡ rows_at p) (ew : w ≡ row_width p) (ec : count ≡ count_at rows_count 2 s) where
      pub rows-searched : SearchIn (λ r. is_lt (cmp_keyed at r n key)) (take (length s - from) (drop from s)) count w
      rows-searched =
          area-inside p R s (held-inside p R s b) Rows from w count ef ew ec (λ r. cmp_keyed at r n key)
          (rw rows-laid (map-falls ord_row (row_record p) (λ r. cmp_keyed at r n key) (keyed n key) rows agree (held-state p R s b).rows-sorted))

      pub rows-ranked : (i : ℕ) → i ≡ count_of (λ r. is_lt (cmp_keyed at r n key)) (records w count (take (length s - from) (drop from s))) → i ≡ rank cmp_row (keyed n key) rows
      rows-ranked i e =
          e ∙ ap (count_of (λ r. is_lt (cmp_keyed at r n key))) (area-read p R s (held-inside p R s b) Rows from w count ef ew ec ∙ rows-laid)
          ∙ map-ranked ord_row (row_record p) (λ r. cmp_keyed at r n key) (keyed n key) rows agree

    -- ---- the place that was found

    module _ (i : ℕ) (ei : i ≡ rank cmp_row (keyed n key) rows) where
      sorted : Sorted cmp_row rows
      sorted = (held-state p R s b).rows-sorted

      is-row : place_of (λ r. compare_is_eq (cmp_row r (keyed n key))) rows ≡ place_of (is_row n key) rows
      is-row = place-ext (λ r. compare_is_eq (cmp_row r (keyed n key))) (is_row n key) (row-test n key) rows

      -- no row has the key, and none was found
      pub row-past : (count : ℕ) → count ≡ count_at rows_count 2 s → count ≤ i → none ≡ place_of (is_row n key) rows
      row-past count ec h =
          sym (sym is-row ∙ no_place (λ r. compare_is_eq (cmp_row r (keyed n key))) rows (holds-past ord_row (keyed n key) rows sorted (omega (arith, ei, ec, rows-counted))))

      -- the record at the place, which compares as o
      module _ (h : i < length rows) (rec : List ℕ) (er : rec ≡ get_or (lists p R s).rows i []) (o : Ordering) (eo : o ≡ cmp_keyed at rec n key) where
        at_place : holds cmp_row (keyed n key) rows ≡ compare_is_eq o
        at_place =
            let l : rank cmp_row (keyed n key) rows < length rows = omega (arith, ei) in
            holds_at ord_row (keyed n key) no_row rows sorted l
            ∙ ap (λ (j : ℕ). compare_is_eq (cmp_row (get_or rows j no_row) (keyed n key))) (sym ei)
            ∙ ap (λ (r : Row). compare_is_eq (cmp_row r (keyed n key))) (some-injective _ _ (sym (nth-get_or rows i no_row h) ∙ row_at i h))
            ∙ ap compare_is_eq (sym (agree (row_in p R s i) (row-in i h)) ∙ ap (λ (r : List ℕ). cmp_keyed at r n key) (sym (er ∙ row_read i h)) ∙ sym eo)

        -- it is found where it compares as the same
        pub row-told : found_at (then_some (compare_is_eq o) i) ≡ place_of (is_row n key) rows
        row-told =
            told_place (is_row n key) rows i (compare_is_eq o)
            (λ e. ap some ei ∙ sym (place-rank ord_row (keyed n key) rows sorted (at_place ∙ e)) ∙ is-row)
            (λ e. sym (sym is-row ∙ no_place (λ r. compare_is_eq (cmp_row r (keyed n key))) rows (at_place ∙ e)))
