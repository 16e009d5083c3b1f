-- A sorted area searched for an element: what the search is asked, and whether the element stands at the place that it finds; with the code's own
-- numbers. Then the rows and the index entries searched so. Assumes nothing.
use mathlib.Core.Path.{◌≡◌, refl, sym, ap, ◌∙◌, subst}
use mathlib.Core.Bool.{Bool, true, false, ◌&&◌, ◌||◌, cond}
use Prim.Native.Nat.Ordering.{eq}
use Prim.Native.Nat.Ordering.{gt}
use Prim.Native.Nat.Ordering.{lt}
use Prim.Native.Nat.{ℕ, ◌+◌, ◌-◌, ◌*◌, ◌≤◌, ◌<◌, Ordering}
use native.Mathlib.Omega.{arith}
use mathlib.Core.List.{List, [], ◌∷◌, map}
use mathlib.Core.Option.{none, some, none-ne-some}
use lib.Dec.{compare_is_eq}
use lib.ListN.{length, get_or, take, drop, length-map, get_or-map}
use Rattle.values.specs.Basic.{cmp_bytes, is_lt, is_some, any, find}
use Rattle.values.specs.Value.{Value, same}
use Rattle.areas.specs.Records.{records}
use Rattle.areas.specs.Search.{cmp_keyed, SearchIn}
use Rattle.areas.specs.Sorted.{In, Sorted, count_of}
use Rattle.areas.specs.Counted.{count_at}
use Rattle.values.proofs.Orders.{Ord, exact_bytes}
use Rattle.areas.proofs.Halving.{count_same, falls-same, count_map}
use Rattle.areas.proofs.Placing.{rank, holds, falls-sorted, holds_at, holds-past}
use Rattle.rules.specs.declared.profile.Profile.{Profile}
use Rattle.rules.specs.State.{Name, Table, Row, cmp_row, table_named, is_row, has_row}
use Rattle.rules.specs.Layout.{Area, Rows, count_place, count_width, area_at, record_width, in_area, lists, parse, read_row, read_table}
use Rattle.rules.specs.Sound.{has_table}
use Rattle.rules.proofs.Tests.{all_head, all_tail, every-at, sorted-is}
use Rattle.rules.proofs.Lists.{any_none, any-ext, in_map}
use Rattle.rules.proofs.Index.{ord_row}
use Rattle.laid.specs.Store.{Inside}
use Rattle.laid.specs.Row.{keyed}
use Rattle.sound.specs.Tested.{Here, Tabled, rowed}
use Rattle.sound.specs.Tested as T
use Rattle.laid.proofs.Inside.{area-count}
use Rattle.laid.proofs.Finding.{falls-unmap}
use Rattle.laid.proofs.Keyed.{row-test}
use Rattle.laid.proofs.Ranking.{all_of, area-read, area-inside}
use Rattle.sound.proofs.Indexed.{its-table}
use Rattle.sound.proofs.RowPieces.{keyed-order}
use Rattle.sound.proofs.Rowing.{rows-read}

-- ---- any sorted area

module _ {A : Type 0} {cmp : A → A → Ordering} (O : Ord cmp) (p : Profile) (R : ℕ) (s : List ℕ) (ins : Inside p R s) (a : Area)
    (g : List ℕ → A) (x : A) (f : List ℕ → Ordering) (same-order : (r : List ℕ) → f r ≡ cmp (g r) x) (srt : Sorted cmp (map g (in_area a (lists p R s))))
    (from w n : ℕ) (ef : from ≡ area_at p R a) (ew : w ≡ record_width p a) (en : n ≡ count_at (count_place a) (count_width a) s) where
  abbrev recs : List (List ℕ)
  recs = in_area a (lists p R s)

  pub searched : SearchIn (λ r. is_lt (f r)) (take (length s - from) (drop from s)) n w
  searched =
      area-inside p R s ins a from w n ef ew en f
      (falls-same (λ r. is_lt (cmp (g r) x)) (λ r. is_lt (f r)) recs (all_of _ recs (λ r m. ap is_lt (sym (same-order r)))) (falls-unmap g (λ y. is_lt (cmp y x)) recs (falls-sorted O x (map g recs) srt)))

  module _ (i : ℕ) (ei : i ≡ count_of (λ r. is_lt (f r)) (records w n (take (length s - from) (drop from s)))) where
    pub ranked : i ≡ rank cmp x (map g recs)
    ranked =
        ei ∙ ap (count_of (λ r. is_lt (f r))) (area-read p R s ins a from w n ef ew en)
        ∙ count_same (λ r. is_lt (f r)) (λ r. is_lt (cmp (g r) x)) recs (all_of _ recs (λ r m. ap is_lt (same-order r)))
        ∙ sym (count_map g (λ y. is_lt (cmp y x)) recs)

    many : length (map g recs) ≡ n
    many = length-map recs g ∙ area-count p R s a ∙ sym en

    pub place-past : n ≤ i → holds cmp x (map g recs) ≡ false
    place-past h = holds-past O x (map g recs) srt (omega (arith, ranked, many))

    pub place_here : i < n → (r : List ℕ) → r ≡ get_or recs i [] → (o : Ordering) → o ≡ f r → holds cmp x (map g recs) ≡ compare_is_eq o
    place_here h r er o eo =
        holds_at O x (g []) (map g recs) srt (omega (arith, ranked, many))
        ∙ ap (λ (j : ℕ). compare_is_eq (cmp (get_or (map g recs) j (g [])) x)) (sym ranked)
        ∙ ap (λ (y : A). compare_is_eq (cmp y x)) (get_or-map g recs i [] ∙ ap g (sym er))
        ∙ ap compare_is_eq (sym (eo ∙ same-order r))

-- ---- rows

found-any : {A : Type 0} (q : A → Bool) (xs : List A) → is_some (find q xs) ≡ any q xs
found-any q [] = refl
found-any q (x ∷ xs) = on (q x) (found-any q xs)
  where
    on : (b : Bool) → is_some (find q xs) ≡ any q xs → is_some (cond b (some x) (find q xs)) ≡ (b || any q xs)
    on true h = refl
    on false h = h

-- a row whose table is not stored
none-there : (p : Profile) (R : ℕ) (s : List ℕ) → Tabled p R s → (r : Row) → In r (parse p R s).rows → table_named (parse p R s).tables r.table ≡ none → ⊥
unfolding parse rowed T.is_row has_table
none-there p R s d r k e =
    let ts = (parse p R s).tables in
    let q = in_map (read_row p ts) r (lists p R s).rows k in
    let x = every-at (T.is_row p ts) (lists p R s).rows (all_head _ _ d.rows) q.0 q.1 in
    let y : has_table ts r ≡ true = ap (has_table ts) q.2 ∙ all_head _ _ (all_tail _ _ x) in
    let z = its-table ts r _ y in
    none-ne-some z.0 (sym e ∙ z.1)

module _ (p : Profile) (R : ℕ) (s : List ℕ) (d : Tabled p R s) where
  abbrev tables : List Table
  tables = (parse p R s).tables

  abbrev rows : List Row
  rows = (parse p R s).rows

  rows-sorted : Sorted cmp_row rows
  unfolding rowed
  rows-sorted = sorted-is cmp_row rows (all_head _ _ (all_tail _ _ d.rows))

  module _ (m : Name) (v : Value) where
    has-is : has_row rows m v ≡ holds cmp_row (keyed m v) rows
    has-is = found-any (is_row m v) rows ∙ any-ext (is_row m v) (λ x. compare_is_eq (cmp_row x (keyed m v))) rows (λ r k. sym (row-test m v r))

    pub has-nowhere : table_named tables m ≡ none → false ≡ has_row rows m v
    has-nowhere h = sym (found-any (is_row m v) rows ∙ any_none (is_row m v) rows (λ r k. on r k (cmp_bytes r.table m) refl))
      where
        on : (r : Row) → In r rows → (o : Ordering) → cmp_bytes r.table m ≡ o → (compare_is_eq o && same r.key v) ≡ false
        on r k lt e = refl
        on r k gt e = refl
        on r k eq e = absurd (none-there p R s d r k (ap (table_named tables) (exact_bytes r.table m e) ∙ h))

    module _ (rec : List ℕ) (h : Here p R s m rec) (at : ℕ) (ea : at ≡ 25 + (read_table p rec).key * 26) (from w n : ℕ) where
      keyed-same : (r : List ℕ) → cmp_keyed at r m v ≡ cmp_row (read_row p tables r) (keyed m v)
      keyed-same r = ap (λ (j : ℕ). cmp_keyed j r m v) ea ∙ keyed-order p tables d.schemed.catalog.inside.coded (read_table p rec) m h.named h.keyed r v

      module _ (ef : from ≡ area_at p R Rows) (ew : w ≡ record_width p Rows) (en : n ≡ count_at (count_place Rows) (count_width Rows) s) where
        abbrev ins : Inside p R s
        ins = d.schemed.catalog.inside

        srt : Sorted cmp_row (map (read_row p tables) (lists p R s).rows)
        srt = subst (Sorted cmp_row) (rows-read p R s) rows-sorted

        pub rows-searched : SearchIn (λ r. is_lt (cmp_keyed at r m v)) (take (length s - from) (drop from s)) n w
        rows-searched = searched ord_row p R s ins Rows (read_row p tables) (keyed m v) (λ r. cmp_keyed at r m v) keyed-same srt from w n ef ew en

        module _ (i : ℕ) (ei : i ≡ count_of (λ r. is_lt (cmp_keyed at r m v)) (records w n (take (length s - from) (drop from s)))) where
          pub row_past : n ≤ i → has_row rows m v ≡ false
          row_past l = (has-is ∙ ap (holds cmp_row (keyed m v)) (rows-read p R s) ∙ place-past ord_row p R s ins Rows (read_row p tables) (keyed m v) (λ r. cmp_keyed at r m v) keyed-same srt from w n ef ew en i ei l)

          pub row_here : i < n → (r : List ℕ) → r ≡ get_or (lists p R s).rows i [] → (o : Ordering) → o ≡ cmp_keyed at r m v → has_row rows m v ≡ compare_is_eq o
          row_here l r er o eo = (has-is ∙ ap (holds cmp_row (keyed m v)) (rows-read p R s) ∙ place_here ord_row p R s ins Rows (read_row p tables) (keyed m v) (λ r. cmp_keyed at r m v) keyed-same srt from w n ef ew en i ei l r er o eo)
