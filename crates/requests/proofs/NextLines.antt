-- The lines of a request that are left at a place: the first of them, and what is left behind it. Assumes nothing.
use Prim.Native.Nat.Ordering.{lt}
use Prim.Native.Nat.{ℕ, zero, suc, ◌+◌, ◌-◌, ◌≤◌, ◌<◌, zero-le}
use native.Mathlib.Numerals.{add-one}
use native.Mathlib.Omega.{arith}
use mathlib.Core.Path.{◌≡◌, refl, sym, ap, ◌∙◌, subst}
use mathlib.Core.Bool.{Bool, true, false, cond, ◌&&◌}
use mathlib.Core.List.{List, [], ◌∷◌, map, map-map}
use mathlib.Core.Option
use mathlib.Core.Option.{Option, none, some, none-ne-some, some-injective}
use lib.Dec.{eqb, ltb}
use lib.ListN.{length, get_or, drop, length-drop, drop_of_length-le}
use lib.Seq.{drop-drop}
use borrow.Author.Tests.{eqb-true}
use Rattle.values.specs.Basic.{is_lt, find, keep_if, keep, nth, maybe}
use Rattle.values.specs.Cell.{name_width}
use Rattle.areas.specs.Counted.{count_at}
use Rattle.values.specs.Meaning.{text_bytes, Packed, held, meaning, ProperCell}
use Rattle.std.specs.Result.{result_ok}
use Rattle.std.specs.declared.result.Result.TheVariants.{Ok, Err}
use Rattle.forms.specs.Read.{Read, got, broken, name_at, value_at, ReadName, NameRead}
use Rattle.areas.specs.Sorted.{In, Sorted}
use Rattle.values.specs.Value.{Value, null, text, before, among, cmp_value}
use Rattle.values.specs.declared.value.Text.{Text}
use Rattle.values.specs.declared.value.Value.TheVariants.{Text as Words}
use Rattle.forms.proofs.Reading.{Told}
use Rattle.values.proofs.Orders.{ord_value, self, opp, lt_at}
use Rattle.areas.proofs.Sorting.{all-below, find-in, find_none}
use Rattle.rules.specs.declared.profile.Profile.{Profile}
use Rattle.rules.specs.Layout.{lists, tables_count, parse}
use Rattle.rules.specs.Request.{Request, Get, Lookup, Scan, Names, Open, Keep, Back, Reply}
use Rattle.rules.specs.State.{Name, Row, State, Table, cmp_row, is_named, table_named, of_table, is_row, row_with, cell_at}
use Rattle.rules.specs.Step.{found, lookup, looked_up, is_accepted, is_indexed}
use Rattle.rules.proofs.Lists.{keep-nothing, keep-ext, map-sorted, nth_in}
use Rattle.rules.proofs.Room.{few-columns}
use Rattle.rules.proofs.Shown.{cmp_line, lookup-rising}
use Rattle.rules.proofs.Tests.{and_left, name-is}
use Rattle.laid.specs.Catalog.{place_of, found_at, TableName}
use Rattle.std.specs.Iterator.{Yields}
use Rattle.std.specs.Option.{IsSome}
use Rattle.std.specs.Iterator.Adapters.{enumerate_steps, skip_steps}
use Rattle.std.specs.declared.iter.Enumerate.{Enumerate}
use Rattle.std.specs.declared.iter.Skip.{Skip}
use Rattle.std.specs.declared.option.Option.{Option as Maybe}
use Rattle.std.specs.declared.option.Option.TheVariants.{None, Some}
use Rattle.values.specs.declared.value.Cell.{Cell}
use Rattle.checks.specs.declared.keys.Values.{Values}
use Rattle.checks.specs.Keys.{on_read, values_from, values_of, FirstValue}
use Rattle.walks.specs.Looked.{keys_with, next_with}
use Rattle.laid.specs.Row.{row_in, table_in}
use Rattle.laid.specs.Store.{LaidStore}
use Rattle.laid.proofs.Finding.{drop_nth, place_found, place-missing}
use Rattle.laid.proofs.Keyed.{row_at, row-in}
use Rattle.store.proofs.Lookups.{lookup-unknown, lookup-refused, lookup-counted}
use Rattle.laid.proofs.RowFacts.{table-there, start-count}
use Rattle.laid.proofs.Searching.{tables-count}
use Rattle.laid.proofs.Stores.{held-state}
use Rattle.requests.specs.declared.lines.Step.{Step}
use Rattle.mapping.specs.Got.{is_got, got_or}
use Rattle.records.specs.Reading.{and_then, byte_at, byte_from}
use Rattle.records.specs.Record.{values_at, create_at, drop_at, insert_at, update_at, keys_at, lookup_at, scan_at, operands_at, request_of}
use Rattle.requests.specs.Places.{cells_in, name_line, key_line, lines_from, Lined}
use Rattle.mapping.proofs.ValuesFrom.{was-got, got-gives, unbroken, parted, byte-there, from-there, values-there, values-inside}

-- ---- the table of a stored row

module _ (p : Profile) (R : ℕ) (s : List ℕ) (b : LaidStore p R s) (i : ℕ) (h : i < length (parse p R s).rows) (n : Name) (en : (row_in p R s i).table ≡ n) where
  abbrev tables : List Table
  tables = (parse p R s).tables

  abbrev row : Row
  row = row_in p R s i

  abbrev own : Table
  own = ((held-state p R s b).rows row (row-in p R s b i h)).table

  named : table_named tables n ≡ some own
  named = ap (table_named tables) (sym en) ∙ ((held-state p R s b).rows row (row-in p R s b i h)).named

  -- it is found
  pub table-found : (r : Maybe ℕ) → found_at r ≡ place_of (is_named n) tables → IsSome r
  table-found None e = absurd (none-ne-some own (sym (place-missing (is_named n) tables (sym e)) ∙ named))
  table-found (Some t) e = refl

  module _ (t : ℕ) (e : some t ≡ place_of (is_named n) tables) where
    pub table-inside : t < length tables
    table-inside = (place_found (is_named n) tables t (sym e)).0

    is-own : table_in p R s t ≡ own
    is-own = some-injective _ _ (sym (table-there p R s t table-inside) ∙ (place_found (is_named n) tables t (sym e)).1 ∙ named)

    -- its columns are as many as the row's cells
    module _ (rec : List ℕ) (er : rec ≡ get_or (lists p R s).schemas t []) (m : ℕ) (em : m ≡ get_or rec (name_width + 1) 0) where
      counted : m ≡ length (table_in p R s t).columns
      counted = em ∙ start-count p R s b t table-inside rec er

      pub cells-counted : m ≡ length row.cells
      cells-counted = counted ∙ ap (λ (x : Table). length x.columns) is-own ∙ sym ((held-state p R s b).rows row (row-in p R s b i h)).full

      pub cells-few : m ≤ p.columns
      cells-few = omega (arith, counted, few-columns p R (parse p R s) (held-state p R s b) (table_in p R s t) (nth_in tables t (table_in p R s t) (table-there p R s t table-inside)))

-- ---- get: the keys `all`, numbered, `passed` of them passed over

abbrev pub Keys : Type 0
Keys = Skip (Enumerate Values)

-- what is left of them
abbrev keys_left : Keys → List Value
keys_left it = drop it.n (values_of it.iter.iter)

-- a call of `next`
abbrev Calls : Keys → Maybe (ℕ × Cell) → Keys → Type 0
Calls = skip_steps (enumerate_steps FirstValue)

-- no more values are left than are counted
few-values : (s : List ℕ) (n at : ℕ) → length (values_from s n at) ≤ n
unfolding values_from on_read
few-values s zero at = omega arith
few-values s (suc n) at = go (value_at s at) (few-values s n)
  where
    go : (r : Read Value) → ((b : ℕ) → length (values_from s n b) ≤ n) → length (on_read r [] (λ v b. v ∷ values_from s n b)) ≤ suc n
    go (got v b) h = omega (arith, h b)
    go (broken x) h = omega arith

-- the iterator as the loop begins
pub record Numbered (v : Values) (passed : ℕ) (it : Keys) : Type 0 where
  pub source : it.iter.iter ≡ v
  pub count : it.iter.count ≡ 0
  pub skips : it.n ≡ passed

pub keys-counted : (v : Values) (passed : ℕ) (it : Keys) → Numbered v passed it → it.iter.count + length (values_of it.iter.iter) ≤ v.count
unfolding values_of
keys-counted v passed it h = rw (h.count, h.source) (omega (arith, few-values v.bytes.now v.count v.at))

drop-tail : {A : Type 0} (k : ℕ) (l : List A) (v : A) (r : List A) → drop k l ≡ v ∷ r → drop (k + 1) l ≡ r
drop-tail k l v r e = let f = drop-drop 1 k l in sym f ∙ ap (drop 1) e

drop_more : {A : Type 0} (k j : ℕ) (xs : List A) → k ≤ j → drop k xs ≡ [] → drop j xs ≡ []
drop_more k j xs l e = let d : j ≡ k + (j - k) = omega arith in ap (λ (i : ℕ). drop i xs) d ∙ sym (drop-drop (j - k) k xs) ∙ ap (drop (j - k)) e ∙ drop_of_length-le [] {i = j - k} zero-le

passed-over : (e : Enumerate Values) (xs : List (ℕ × Cell)) (t : Enumerate Values) → Yields (enumerate_steps FirstValue) e xs t
    → (t.count ≡ e.count + length xs) × (values_of t.iter ≡ drop (length xs) (values_of e.iter))
passed-over e [] t h = (rw h (omega arith), ap (λ (x : Enumerate Values). values_of x.iter) (sym h))
passed-over e (x ∷ xs) t h =
    let r = passed-over h.0 xs t h.2 in
    let k : 1 + length xs ≡ suc (length xs) = omega arith in (
      omega (arith, r.0, h.1.2),
      r.1 ∙ ap (drop (length xs)) (sym (ap (drop 1) h.1.0.0)) ∙ drop-drop (length xs) 1 (values_of e.iter) ∙ ap (λ (j : ℕ). drop j (values_of e.iter)) k,
    )

module _ (rs : List Row) (n : Name) (all : List Value) (passed : ℕ) where
  pub record Passing (it : Keys) : Type 0 where
    pub behind : drop it.iter.count all ≡ values_of it.iter.iter
    pub same : found rs n (drop passed all) ≡ found rs n (keys_left it)

  pub passing-start : (v : Values) (it : Keys) → Numbered v passed it → all ≡ values_of v → Passing it
  passing-start v it h e = record {
    behind = ap (λ (j : ℕ). drop j all) h.count ∙ e ∙ ap values_of (sym h.source);
    same = ap (λ (x : List Value). found rs n (drop passed x)) (e ∙ ap values_of (sym h.source)) ∙ ap (λ (j : ℕ). found rs n (drop j (values_of it.iter.iter))) (sym h.skips);
  }

  -- no key is left
  pub passing-end : (it next : Keys) → Passing it → Calls it None next → found rs n (drop passed all) ≡ []
  unfolding found
  passing-end it next h s =
      let r = passed-over it.iter s.1.0 s.1.1.0 s.1.1.1 in
      h.same ∙ ap (found rs n) (drop_more (length s.1.0) it.n (values_of it.iter.iter) s.1.2 (sym r.1 ∙ s.1.1.2.0.0))

  -- the next key
  module _ (it next : Keys) (h : Passing it) (k : ℕ) (c : Cell) (s : Calls it (Some (k, c)) next) where
    run : (next.iter.count ≡ k + 1) × (drop k all ≡ held c ∷ values_of next.iter.iter) × (keys_left it ≡ held c ∷ values_of next.iter.iter) × ProperCell c
    run =
        let xs = s.1.0 in
        let r = passed-over it.iter xs s.1.1.0 s.1.1.1 in
        let last = s.1.1.2 in
        let number : it.iter.count + length xs ≡ k = omega (arith, r.0, last.1) in
        let now : drop (length xs) (values_of it.iter.iter) ≡ held c ∷ values_of next.iter.iter = sym r.1 ∙ last.0.0 in (
          omega (arith, last.1, last.2),
          ap (λ (j : ℕ). drop j all) (sym number) ∙ sym (drop-drop (length xs) it.iter.count all) ∙ ap (drop (length xs)) h.behind ∙ now,
          ap (λ (j : ℕ). drop j (values_of it.iter.iter)) (sym s.1.2) ∙ now,
          last.0.1,
        )

    pub key-proper : ProperCell c
    key-proper = run.3

    left : found rs n (drop passed all) ≡ found rs n (held c ∷ values_of next.iter.iter)
    left = h.same ∙ ap (found rs n) run.2

    behind-it : drop (k + 1) all ≡ values_of next.iter.iter
    behind-it = drop-tail k all (held c) (values_of next.iter.iter) run.1

    -- with no row
    pub passing-missing : none ≡ place_of (is_row n (held c)) rs → Passing next
    unfolding found maybe
    passing-missing e =
        let f : found rs n (held c ∷ values_of next.iter.iter) ≡ found rs n (values_of next.iter.iter) = rw (place-missing (is_row n (held c)) rs (sym e)) in
        record {
          behind = ap (λ (j : ℕ). drop j all) run.0 ∙ behind-it;
          same = left ∙ f ∙ ap (λ (j : ℕ). found rs n (drop j (values_of next.iter.iter))) (sym s.0);
        }

    -- with a row
    pub passing-found : (r : Row) → row_with rs n (held c) ≡ some r → found rs n (drop passed all) ≡ r.cells ∷ found rs n (drop (k + 1) all)
    unfolding found maybe
    passing-found r e =
        let f : found rs n (held c ∷ values_of next.iter.iter) ≡ r.cells ∷ found rs n (values_of next.iter.iter) = rw e in
        left ∙ f ∙ ap (λ (x : List Value). r.cells ∷ found rs n x) (sym behind-it)

-- the row of a key, by its place
module _ (p : Profile) (R : ℕ) (s : List ℕ) (b : LaidStore p R s) (n : Name) (v : Value) (i : ℕ) (e : some i ≡ place_of (is_row n v) (parse p R s).rows) where
  pub row_inside : i < length (parse p R s).rows
  row_inside = (place_found (is_row n v) (parse p R s).rows i (sym e)).0

  pub row-found : row_with (parse p R s).rows n v ≡ some (row_in p R s i)
  row-found = sym (place_found (is_row n v) (parse p R s).rows i (sym e)).1 ∙ row_at p R s b i row_inside

  pub row_named : (row_in p R s i).table ≡ n
  row_named = name-is _ _ (and_left (of_table n (row_in p R s i)) _ (find-in (is_row n v) (parse p R s).rows (row_in p R s i) row-found).1)

-- ---- scan: the first row of a table from a place on, and those behind it

module _ {A : Type 0} (q : A → Bool) where
  keep-first : (xs : List A) (j : ℕ) (x : A) → place_of q xs ≡ some j → nth xs j ≡ some x → keep q xs ≡ x ∷ keep q (drop (suc j) xs)
  unfolding place_of
  keep-first [] j x e h = absurd (none-ne-some j e)
  keep-first (y ∷ ys) j x e h = by-test (q y) (place_of q ys) e (keep-first ys)
    where
      by-test : (b : Bool) (o : Option ℕ) → cond b (some zero) (Option.map suc o) ≡ some j
          → ((i : ℕ) (z : A) → o ≡ some i → nth ys i ≡ some z → keep q ys ≡ z ∷ keep q (drop (suc i) ys))
          → keep_if b y (keep q ys) ≡ x ∷ keep q (drop j ys)
      by-test true o e r =
          let z : j ≡ zero = sym (some-injective zero j e) in
          let w : nth (y ∷ ys) zero ≡ some x = ap (nth (y ∷ ys)) (sym z) ∙ h in
          rw (z, some-injective y x w)
      by-test false none e r = absurd (none-ne-some j e)
      by-test false (some i) e r =
          let z : j ≡ suc i = sym (some-injective (suc i) j e) in
          let w : nth (y ∷ ys) (suc i) ≡ some x = ap (nth (y ∷ ys)) (sym z) ∙ h in
          rw z (r i x refl w)

  keep-none : (xs : List A) → place_of q xs ≡ none → keep q xs ≡ []
  keep-none xs e = keep-nothing q xs (λ a m. find_none q a xs (place-missing q xs e) m)

place-back : (from i : ℕ) (o : Option ℕ) → some i ≡ Option.map (λ (j : ℕ). from + j) o → (j : ℕ) × (o ≡ some j) × (i ≡ from + j)
place-back from i none e = absurd (none-ne-some i (sym e))
place-back from i (some j) e = (j, refl, some-injective i (from + j) e)

nothing-back : (from : ℕ) (o : Option ℕ) → none ≡ Option.map (λ (j : ℕ). from + j) o → o ≡ none
nothing-back from none e = refl
nothing-back from (some j) e = absurd (none-ne-some (from + j) e)

nth_drop : {A : Type 0} (from : ℕ) (xs : List A) (j : ℕ) → nth (drop from xs) j ≡ nth xs (from + j)
nth_drop zero xs j = let e : j ≡ 0 + j = omega arith in ap (nth xs) e
nth_drop (suc k) [] j = refl
nth_drop (suc k) (x ∷ xs) j = let e : suc (k + j) ≡ suc k + j = omega arith in nth_drop k xs j ∙ ap (nth (x ∷ xs)) e

module _ (p : Profile) (R : ℕ) (s : List ℕ) (b : LaidStore p R s) (n : Name) (from : ℕ) (k : Value) where
  abbrev rows : List Row
  rows = (parse p R s).rows

  pub scan-ended : none ≡ Option.map (λ (j : ℕ). from + j) (place_of (of_table n) (drop from rows)) → lines_from (parse p R s) (Scan n) from k ≡ []
  unfolding lines_from
  scan-ended e = ap (map cells_in) (keep-none (of_table n) (drop from rows) (nothing-back from _ e))

  module _ (i : ℕ) (e : some i ≡ Option.map (λ (j : ℕ). from + j) (place_of (of_table n) (drop from rows))) where
    abbrev back : (j : ℕ) × (place_of (of_table n) (drop from rows) ≡ some j) × (i ≡ from + j)
    back = place-back from i _ e

    at_place : nth rows i ≡ find (of_table n) (drop from rows)
    at_place = ap (nth rows) back.2 ∙ sym (nth_drop from rows back.0) ∙ (place_found (of_table n) (drop from rows) back.0 back.1).1

    pub scan-inside : i < length rows
    scan-inside = omega (arith, length-drop from rows, back.2, (place_found (of_table n) (drop from rows) back.0 back.1).0)

    scan-row : nth (drop from rows) back.0 ≡ some (row_in p R s i)
    scan-row = nth_drop from rows back.0 ∙ ap (nth rows) (sym back.2) ∙ row_at p R s b i scan-inside

    pub scan-named : (row_in p R s i).table ≡ n
    scan-named = name-is _ _ (find-in (of_table n) (drop from rows) (row_in p R s i) (sym at_place ∙ row_at p R s b i scan-inside)).1

    pub scan-first : (w : Value) → lines_from (parse p R s) (Scan n) from k ≡ (row_in p R s i).cells ∷ lines_from (parse p R s) (Scan n) (i + 1) w
    unfolding lines_from
    scan-first w =
        let g : from + suc back.0 ≡ i + 1 = omega (arith, back.2) in
        ap (map cells_in) (keep-first (of_table n) (drop from rows) back.0 (row_in p R s i) back.1 scan-row)
        ∙ ap (λ (x : List Row). (row_in p R s i).cells ∷ map cells_in (keep (of_table n) x)) (drop-drop (suc back.0) from rows ∙ ap (λ (j : ℕ). drop j rows) g)

-- ---- lookup: the keys behind one

-- the first key behind k, and then those behind that one
kept_next : (k w : Value) (ks : List Value) → Sorted cmp_value ks → find (before k) ks ≡ some w → keep (before k) ks ≡ w ∷ keep (before w) ks
kept_next k w [] s e = absurd (none-ne-some w e)
kept_next k w (x ∷ xs) s e = on (before k x) refl e (kept_next k w xs s.1)
  where
    above : (y : Value) → In y xs → cmp_value x y ≡ lt
    above y m = all-below ord_value x y xs s.0 s.1 m

    on : (b : Bool) → before k x ≡ b → cond b (some x) (find (before k) xs) ≡ some w → (find (before k) xs ≡ some w → keep (before k) xs ≡ w ∷ keep (before w) xs)
        → keep (before k) (x ∷ xs) ≡ w ∷ keep (before w) (x ∷ xs)
    on true h f r =
        let behind : keep (before x) (x ∷ xs) ≡ keep (before k) xs =
        rw (self ord_value x)
        (keep-ext (before x) (before k) xs (λ y m. ap is_lt (above y m) ∙ sym (ap is_lt (ord_value.trans k x y (lt_at ord_value k x h) (above y m)))))
        in
        let first : keep (before k) (x ∷ xs) ≡ x ∷ keep (before x) (x ∷ xs) = rw h (ap (λ (l : List Value). x ∷ l) (sym behind)) in
        subst (λ (v : Value). keep (before k) (x ∷ xs) ≡ v ∷ keep (before v) (x ∷ xs)) (some-injective x w f) first
    on false h f r =
        let l : before w x ≡ false = ap is_lt (ord_value.flip x w ∙ ap opp (above w (find-in (before k) xs w f).0)) in
        rw (h, l) (r f)

kept-none : (k : Value) (ks : List Value) → find (before k) ks ≡ none → keep (before k) ks ≡ []
kept-none k ks e = keep-nothing (before k) ks (λ v m. find_none (before k) v ks e m)

keys-rising : (rs : List Row) → Sorted cmp_row rs → (n : Name) (i : ℕ) (vs : List Value) → Sorted cmp_value (keys_with rs n i vs)
unfolding keys_with
keys-rising rs s n i vs =
    let kept = keep (λ (r : Row). of_table n r && among (cell_at r.cells i) vs) rs in
    subst (Sorted cmp_value) (map-map (λ (l : List Value). cell_at l 0) (λ (r : Row). r.key ∷ []) kept)
    (map-sorted (λ (l : List Value). cell_at l 0) cmp_line cmp_value (looked_up rs n i vs) (lookup-rising rs s n i vs) (λ a b m k l. l))

module _ (p : Profile) (R : ℕ) (s : List ℕ) (b : LaidStore p R s) (n : Name) (column : ℕ) (vs : List Value) (i : ℕ) (k : Value) where
  abbrev state : State
  state = parse p R s

  abbrev keys : List Value
  keys = keys_with state.rows n column vs

  not-accepted : (r : Reply) → is_accepted r ≡ false → r ≡ (lookup state n column vs).reply → lines_from state (Lookup n column vs) i k ≡ []
  unfolding lines_from
  not-accepted r h e = rw (← e, h)

  pub lookup-no-table : none ≡ place_of (is_named n) state.tables → lines_from state (Lookup n column vs) i k ≡ []
  lookup-no-table e = not-accepted _ refl (lookup-unknown p R s n column vs e)

  module _ (t : ℕ) (e : some t ≡ place_of (is_named n) state.tables) (x : Bool) (ex : x ≡ is_indexed (table_in p R s t) column) where
    pub lookup-no-index : x ≡ false → lines_from state (Lookup n column vs) i k ≡ []
    lookup-no-index g = not-accepted _ refl (lookup-refused p R s n t e column x ex vs g)

    accepted : x ≡ true → (j : ℕ) (w : Value) → lines_from state (Lookup n column vs) j w ≡ map key_line (keep (before w) keys)
    unfolding lines_from
    accepted g j w = rw (← lookup-counted p R s n t e column x ex vs g (length keys) refl)

    module _ (g : x ≡ true) where
      pub lookup-ended : none ≡ next_with state.rows n column vs k → lines_from state (Lookup n column vs) i k ≡ []
      unfolding next_with
      lookup-ended h = accepted g i k ∙ ap (map key_line) (kept-none k keys (sym h))

      pub lookup_first : (w : Value) → some w ≡ next_with state.rows n column vs k → (j : ℕ)
          → lines_from state (Lookup n column vs) i k ≡ (w ∷ []) ∷ lines_from state (Lookup n column vs) j w
      unfolding next_with
      lookup_first w h j =
          accepted g i k
          ∙ ap (map key_line) (kept_next k w keys (keys-rising state.rows (held-state p R s b).rows-sorted n column vs) (sym h))
          ∙ ap (λ (l : List (List Value)). (w ∷ []) ∷ l) (sym (accepted g j w))

-- ---- list: the name of the table at a place

module _ (p : Profile) (R : ℕ) (s : List ℕ) (count : ℕ) (ec : count ≡ count_at tables_count 1 s) (i : ℕ) where
  pub names-ended : (k : Value) → count ≤ i → lines_from (parse p R s) Names i k ≡ []
  unfolding lines_from
  names-ended k h = ap (map name_line) (drop_of_length-le (parse p R s).tables {i = i} (omega (arith, tables-count p R s)))

  module _ (h : i < count) where
    pub names-inside : i < length (parse p R s).tables
    names-inside = omega (arith, tables-count p R s)

    pub names-first : (t : Text) → TableName p R s i t → (k w : Value) → lines_from (parse p R s) Names i k ≡ (meaning (Words t) ∷ []) ∷ lines_from (parse p R s) Names (i + 1) w
    unfolding lines_from meaning
    names-first t e k w =
        let T = table_in p R s i in
        let there = table-there p R s i names-inside in
        let m : text_bytes t ≡ T.name = some-injective _ _ (e.is ∙ ap (Option.map (λ (x : Table). x.name)) there) in
        ap (map name_line) (drop_nth (parse p R s).tables i T there)
        ∙ ap (λ (l : List ℕ). (text l ∷ []) ∷ map name_line (drop (suc i) (parse p R s).tables)) (sym m)
        ∙ ap (λ (j : ℕ). (text (text_bytes t) ∷ []) ∷ map name_line (drop j (parse p R s).tables)) (sym (add-one i))

-- ---- the name in a record

pub record NameIs (s : List ℕ) (at : ℕ) (t : Text) (n : ℕ) : Type 0 where
  pub is : name_at s at ≡ got (text_bytes t) n
  pub packed : Packed t

pub name-read : (s : List ℕ) (at : ℕ) (r : ReadName) (o : Maybe (Text × ℕ)) (t : Text) (n : ℕ) → NameRead s at r → o ≡ result_ok r → o ≡ Some (t, n) → NameIs s at t n
name-read s at (Ok x) o t n h e f =
    let q : x ≡ (t, n) = cc in
    record { is = sym h.is ∙ ap (λ (y : Text × ℕ). got (text_bytes y.0) y.1) q; packed = subst (λ (y : Text × ℕ). Packed y.0) q h.proper }
name-read s at (Err x) o t n h e f = absurd cc

pub name-missing : (s : List ℕ) (at : ℕ) (r : ReadName) (o : Maybe (Text × ℕ)) → NameRead s at r → o ≡ result_ok r → o ≡ None → (x : ℕ) × (name_at s at ≡ broken x)
name-missing s at (Ok x) o h e f = absurd cc
name-missing s at (Err x) o h e f = (x.at, sym h.is)

-- ---- the request that a record says, by its operation

-- the operands say it
record Saying (rec : List ℕ) (p : Profile) : Type 0 where
  pub request : Request
  pub end : ℕ
  pub operands : operands_at rec p (get_or rec 1 0) 2 ≡ got request end
  pub is : got_or Names (request_of rec p) ≡ request

saying : (rec : List ℕ) (p : Profile) → is_got (request_of rec p) ≡ true → Saying rec p
unfolding request_of
saying rec p h =
    let w = was-got (request_of rec p) h in
    let a = parted (byte_from 1 1 rec 0) _ w.what w.end w.is in
    let t = from-there 1 1 rec 0 a.first a.next a.is in
    let b = parted (byte_at rec a.next) _ w.what w.end a.then in
    let u = byte-there rec a.next b.first b.next b.is in
    let o = parted (operands_at rec p b.first b.next) _ w.what w.end b.then in
    let v = unbroken (ltb o.next (length rec)) o.next (got o.first o.next) w.what w.end o.then in
    let one : a.next ≡ 1 = omega (arith, t.next) in
    let two : b.next ≡ 2 = omega (arith, u.next, one) in
    let k : get_or rec 1 0 ≡ b.first = ap (λ (j : ℕ). get_or rec j 0) (sym one) ∙ u.is in
    let e : o.first ≡ w.what = cc v.1 in
    record {
      request = o.first;
      end = o.next;
      operands = ap (λ (j : ℕ). operands_at rec p j 2) k ∙ ap (operands_at rec p b.first) (sym two) ∙ o.is;
      is = got-gives Names (request_of rec p) w.what w.end w.is ∙ sym e;
    }

then-known : {A B : Type 0} (w : Read A) (f : A → ℕ → Read B) (a : A) (n : ℕ) (b : B) (e : ℕ) → w ≡ got a n → and_then w f ≡ got b e → f a n ≡ got b e
unfolding and_then
then-known w f a n b e h g = rw h at g

module _ (rec : List ℕ) (p : Profile) (q : Request) (e : ℕ) where
  says-names : operands_at rec p 9 2 ≡ got q e → q ≡ Names
  unfolding operands_at
  says-names h = cc

  -- the name stands there, up to n
  module _ (t : List ℕ) (n : ℕ) (hn : name_at rec 2 ≡ got t n) where
    says-get : operands_at rec p 6 2 ≡ got q e → (q ≡ Get t (values_from rec (get_or rec n 0) (n + 1))) × (n < length rec)
    unfolding operands_at keys_at
    says-get h =
        let g = then-known (name_at rec 2) _ t n q e hn h in
        let b = parted (values_at rec n) _ q e g in
        let z : q ≡ Get t b.first = cc b.then in
        (z ∙ ap (Get t) (sym (values-there rec n b.first b.next b.is).0), values-inside rec n b.first b.next b.is)

    says-lookup : operands_at rec p 7 2 ≡ got q e → (q ≡ Lookup t (get_or rec n 0) (values_from rec (get_or rec (n + 1) 0) (n + 2))) × (n + 1 < length rec)
    unfolding operands_at lookup_at
    says-lookup h =
        let g = then-known (name_at rec 2) _ t n q e hn h in
        let b = parted (byte_at rec n) _ q e g in
        let u = byte-there rec n b.first b.next b.is in
        let d = parted (values_at rec b.next) _ q e b.then in
        let z : q ≡ Lookup t b.first d.first = cc d.then in
        let two : n + 1 + 1 ≡ n + 2 = omega arith in
        let v : d.first ≡ values_from rec (get_or rec (n + 1) 0) (n + 2) =
        sym (values-there rec b.next d.first d.next d.is).0
        ∙ ap (λ (j : ℕ). values_from rec (get_or rec j 0) (j + 1)) (sym u.next)
        ∙ ap (values_from rec (get_or rec (n + 1) 0)) two
        in (
          z ∙ ap (λ (i : ℕ). Lookup t i d.first) (sym u.is) ∙ ap (Lookup t (get_or rec n 0)) v,
          omega (arith, u.next, values-inside rec b.next d.first d.next d.is),
        )

    says-scan : operands_at rec p 8 2 ≡ got q e → q ≡ Scan t
    unfolding operands_at scan_at
    says-scan h = let g : got (Scan t) n ≡ got q e = then-known (name_at rec 2) _ t n q e hn h in cc

-- ---- a fact of every request that can be read

module _ (P : Request → Type 0) where
  abbrev Says : Read Request → Type 0
  Says w = Told (λ (q : Request) (n : ℕ). P q) (λ (x : ℕ). Unit {0}) w

  says-got : (q : Request) (n : ℕ) → P q → Says (got q n)
  unfolding Told
  says-got q n h = h

  says-broken : (x : ℕ) → Says (broken x)
  unfolding Told
  says-broken x = tt

  says_then : {A : Type 0} (w : Read A) (f : A → ℕ → Read Request) → ((a : A) (n : ℕ) → Says (f a n)) → Says (and_then w f)
  unfolding Told and_then
  says_then (got a n) f h = h a n
  says_then (broken x) f h = tt

  says-stopped : {A : Type 0} (w : Read A) (f : A → ℕ → Read Request) (x : ℕ) → w ≡ broken x → Says (and_then w f)
  unfolding Told and_then
  says-stopped w f x h = rw h tt

  says-either : (b : Bool) (v w : Read Request) → (b ≡ true → Says v) → (b ≡ false → Says w) → Says (cond b v w)
  says-either true v w h k = h refl
  says-either false v w h k = k refl

  says_of : (w : Read Request) (q : Request) (n : ℕ) → w ≡ got q n → Says w → P q
  unfolding Told
  says_of w q n e h = rw e at h

-- no lines, whatever the store
abbrev Silent : Request → Type 0
Silent q = (s : State) (i : ℕ) (k : Value) → lines_from s q i k ≡ []

module _ (rec : List ℕ) (p : Profile) (k : ℕ) (n9 : k ≡ 9 → ⊥) where
  -- operations 12 to 14
  batch-silent : Says Silent (cond (eqb k 12) (got Open 2) (cond (eqb k 13) (got Keep 2) (cond (eqb k 14) (got Back 2) (broken 1))))
  unfolding lines_from
  batch-silent =
      says-either Silent (eqb k 12) _ _ (λ h. says-got Silent _ _ (λ s i v. refl))
      (λ h.
      says-either Silent (eqb k 13) _ _ (λ h. says-got Silent _ _ (λ s i v. refl))
      (λ h. says-either Silent (eqb k 14) _ _ (λ h. says-got Silent _ _ (λ s i v. refl)) (λ h. says-broken Silent 1)))

  -- operations 1 to 5
  silent-operands : (k ≡ 6 → ⊥) → (k ≡ 7 → ⊥) → (k ≡ 8 → ⊥) → Says Silent (operands_at rec p k 2)
  unfolding operands_at create_at drop_at insert_at update_at keys_at lines_from
  silent-operands n6 n7 n8 =
      says-either Silent (eqb k 1) _ _ (λ h. says_then Silent _ _ (λ a b. says_then Silent _ _ (λ c d. says_then Silent _ _ (λ f g. says_then Silent _ _ (λ x y. says-got Silent _ _ (λ s i v. refl))))))
      (λ h.
      says-either Silent (eqb k 2) _ _ (λ h. says_then Silent _ _ (λ a b. says_then Silent _ _ (λ c d. says-got Silent _ _ (λ s i v. refl))))
      (λ h.
      says-either Silent (eqb k 3) _ _ (λ h. says_then Silent _ _ (λ a b. says_then Silent _ _ (λ c d. says_then Silent _ _ (λ f g. says_then Silent _ _ (λ x y. says-got Silent _ _ (λ s i v. refl))))))
      (λ h.
      says-either Silent (eqb k 4) _ _ (λ h. says_then Silent _ _ (λ a b. says_then Silent _ _ (λ c d. says_then Silent _ _ (λ f g. says-got Silent _ _ (λ s i v. refl)))))
      (λ h.
      says-either Silent (eqb k 5) _ _ (λ h. says_then Silent _ _ (λ a b. says_then Silent _ _ (λ c d. says-got Silent _ _ (λ s i v. refl))))
      (λ h.
      says-either Silent (eqb k 6) _ _ (λ h. absurd (n6 (eqb-true k 6 h)))
      (λ h.
      says-either Silent (eqb k 7) _ _ (λ h. absurd (n7 (eqb-true k 7 h)))
      (λ h.
      says-either Silent (eqb k 8) _ _ (λ h. absurd (n8 (eqb-true k 8 h)))
      (λ h.
      says-either Silent (eqb k 9) _ _ (λ h. absurd (n9 (eqb-true k 9 h)))
      (λ h. batch-silent)))))))))

  -- each of them begins with a name
  nameless-operands : (x : ℕ) → name_at rec 2 ≡ broken x → Says Silent (operands_at rec p k 2)
  unfolding operands_at create_at drop_at insert_at update_at keys_at lookup_at scan_at
  nameless-operands x e =
      says-either Silent (eqb k 1) _ _ (λ h. says-stopped Silent _ _ x e)
      (λ h.
      says-either Silent (eqb k 2) _ _ (λ h. says-stopped Silent _ _ x e)
      (λ h.
      says-either Silent (eqb k 3) _ _ (λ h. says-stopped Silent _ _ x e)
      (λ h.
      says-either Silent (eqb k 4) _ _ (λ h. says-stopped Silent _ _ x e)
      (λ h.
      says-either Silent (eqb k 5) _ _ (λ h. says-stopped Silent _ _ x e)
      (λ h.
      says-either Silent (eqb k 6) _ _ (λ h. says-stopped Silent _ _ x e)
      (λ h.
      says-either Silent (eqb k 7) _ _ (λ h. says-stopped Silent _ _ x e)
      (λ h.
      says-either Silent (eqb k 8) _ _ (λ h. says-stopped Silent _ _ x e)
      (λ h.
      says-either Silent (eqb k 9) _ _ (λ h. absurd (n9 (eqb-true k 9 h)))
      (λ h. batch-silent)))))))))

-- ---- the next line of the request that a record says, by its operation o

module _ (rec : List ℕ) (p : Profile) (h : is_got (request_of rec p) ≡ true) (o : ℕ) (eo : o ≡ get_or rec 1 0) where
  abbrev said : Request
  said = got_or Names (request_of rec p)

  operated : (m : ℕ) → o ≡ m → operands_at rec p m 2 ≡ got (saying rec p h).request (saying rec p h).end
  operated m e = ap (λ (j : ℕ). operands_at rec p j 2) (sym e ∙ eo) ∙ (saying rec p h).operands

  no_lines : Says Silent (operands_at rec p o 2) → (s : State) (i : ℕ) (k : Value) → lines_from s said i k ≡ []
  no_lines q s i k =
      ap (λ (q : Request). lines_from s q i k) (saying rec p h).is
      ∙ says_of Silent (operands_at rec p o 2) (saying rec p h).request (saying rec p h).end (operated o refl) q s i k

  pub nameless-said : (o ≡ 9 → ⊥) → (x : ℕ) → name_at rec 2 ≡ broken x → (s : State) (i : ℕ) (k : Value) → lines_from s said i k ≡ []
  nameless-said n9 x e = no_lines (nameless-operands rec p o n9 x e)

  pub silent-said : (o ≡ 6 → ⊥) → (o ≡ 7 → ⊥) → (o ≡ 8 → ⊥) → (o ≡ 9 → ⊥) → (s : State) (i : ℕ) (k : Value) → lines_from s said i k ≡ []
  silent-said n6 n7 n8 n9 = no_lines (silent-operands rec p o n9 n6 n7 n8)

  module _ (t : List ℕ) (n : ℕ) (hn : name_at rec 2 ≡ got t n) where
    pub get-inside : o ≡ 6 → n < length rec
    get-inside e = (says-get rec p (saying rec p h).request (saying rec p h).end t n hn (operated 6 e)).1

    pub lookup-inside : o ≡ 7 → n + 1 < length rec
    lookup-inside e = (says-lookup rec p (saying rec p h).request (saying rec p h).end t n hn (operated 7 e)).1

  module _ (s : State) (i : ℕ) (k : Value) (b a : List ℕ) (r : Maybe Step) where
    moved : (q : Request) → (saying rec p h).request ≡ q → (j : ℕ) (w : Value) → lines_from s q j w ≡ lines_from s q i k → Lined s q j w b a r → Lined s said i k b a r
    moved q e j w f l = go r l
      where
        same : (j : ℕ) (w : Value) → lines_from s said j w ≡ lines_from s q j w
        same j w = ap (λ (x : Request). lines_from s x j w) ((saying rec p h).is ∙ e)

        go : (r : Maybe Step) → Lined s q j w b a r → Lined s said i k b a r
        go None l = (same i k ∙ sym f ∙ l.0, l.1)
        go (Some x) l = record {
          values = l.values;
          first = same i k ∙ sym f ∙ l.first ∙ ap (λ (ls : List (List Value)). l.values ∷ ls) (sym (same x.place.at (held x.place.key)));
          front = l.front;
          short = l.short;
          proper = l.proper;
        }

    pub next-named : o ≡ 9 → Lined s Names i null b a r → Lined s said i k b a r
    unfolding lines_from
    next-named e l = moved Names (says-names rec p _ _ (operated 9 e)) i null refl l

    module _ (t : List ℕ) (n : ℕ) (hn : name_at rec 2 ≡ got t n) where
      pub next-got : o ≡ 6 → (m : ℕ) → m ≡ get_or rec n 0 → Lined s (Get t (values_from rec m (n + 1))) i null b a r → Lined s said i k b a r
      unfolding lines_from
      next-got e m em l =
          moved (Get t (values_from rec m (n + 1))) ((says-get rec p _ _ t n hn (operated 6 e)).0 ∙ ap (λ (j : ℕ). Get t (values_from rec j (n + 1))) (sym em)) i null refl l

      pub next-looked : o ≡ 7 → (c : ℕ) → c ≡ get_or rec n 0 → (m : ℕ) → m ≡ get_or rec (n + 1) 0 → Lined s (Lookup t c (values_from rec m (n + 2))) 0 k b a r → Lined s said i k b a r
      unfolding lines_from
      next-looked e c ec m em l =
          moved (Lookup t c (values_from rec m (n + 2)))
          ((says-lookup rec p _ _ t n hn (operated 7 e)).0
          ∙ ap (λ (j : ℕ). Lookup t j (values_from rec (get_or rec (n + 1) 0) (n + 2))) (sym ec)
          ∙ ap (λ (j : ℕ). Lookup t c (values_from rec j (n + 2))) (sym em))
          0 k refl l

      pub next-scanned : o ≡ 8 → Lined s (Scan t) i null b a r → Lined s said i k b a r
      unfolding lines_from
      next-scanned e l = moved (Scan t) (says-scan rec p _ _ t n hn (operated 8 e)) i null refl l
