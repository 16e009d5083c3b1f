-- The next key of a value in an indexed column, as the index tells it: the first entry behind one of the same table, column and value, if it is of them too.
-- Assumes nothing.
use Prim.Native.Nat.Ordering.{eq}
use Prim.Native.Nat.Ordering.{gt}
use Prim.Native.Nat.Ordering.{lt}
use Prim.Native.Nat.{ℕ, suc, ◌+◌, ◌-◌, ◌≤◌, ◌<◌, Ordering}
use native.Mathlib.Numerals.{one-add, add-one}
use native.Mathlib.Omega.{arith}
use mathlib.Core.Path.{◌≡◌, refl, sym, ap, ◌∙◌}
use mathlib.Core.Bool.{Bool, true, false, ◌&&◌, cond}
use mathlib.Core.List.{List, [], ◌∷◌, map, map-map}
use mathlib.Core.Option.{Option, none, some}
use lib.Dec.{compare_is_eq}
use lib.ListN.{length, get_or, take, drop, length-map}
use Rattle.values.specs.Basic.{and_then, is_lt, find, keep, nth}
use Rattle.values.specs.Value.{Value, null, before, among, cmp_value, normalised}
use Rattle.values.specs.Cell.{cell_width, read_value}
use Rattle.areas.specs.Search.{cmp_entered}
use Rattle.areas.specs.Sorted.{In, Sorted, Falls, count_of}
use Rattle.areas.specs.Counted.{count_at}
use Rattle.values.proofs.Orders.{Ord, congʳ, opp}
use Rattle.areas.proofs.Placing.{rank, falls-sorted}
use Rattle.areas.proofs.Sorting.{all-below}
use Rattle.rules.specs.declared.profile.Profile.{Profile}
use Rattle.rules.specs.State.{Name, Row, State, of_table, cell_at}
use Rattle.rules.specs.Index.{Entry, cmp_entry, index_of}
use Rattle.rules.specs.Layout.{lists, Entries, area_at, record_width, entries_count, read_entry, parse}
use Rattle.rules.specs.Sound.{good_cells}
use Rattle.rules.proofs.Tests.{all_head, all_tail}
use Rattle.rules.proofs.Lists.{keep-nothing}
use Rattle.rules.proofs.Groups.{in_group, group-keys}
use Rattle.rules.proofs.Index.{ord_entry}
use Rattle.rules.proofs.Trip.{canonical-normal}
use Rattle.laid.specs.Store.{LaidStore}
use Rattle.laid.specs.Entered.{entries_in, entry_rank}
use Rattle.checks.specs.Asked.{indexed_at, of_value, bytes_of_value}
use Rattle.walks.specs.Looked.{keys_with, next_with, FirstBehind}
use Rattle.laid.proofs.Inside.{area-count, record-wide}
use Rattle.laid.proofs.Stores.{held-state, held-inside}
use Rattle.laid.proofs.Finding.{nth_past}
use Rattle.laid.proofs.Columns.{rest}
use Rattle.laid.proofs.Entering.{agree, entry-width}
use Rattle.checks.proofs.Checking.{entries-are, held-entered, entry_at, entry-within}
use Rattle.checks.proofs.Taking.{cmp_group, ord_group, entry-group, leads, in_group_lem}

-- ---- the first element behind one, in any sorted list

module _ {A : Type 0} {cmp : A → A → Ordering} (O : Ord cmp) (a : A) where
  abbrev pub behind : A → Bool
  behind x = is_lt (cmp a x)

  abbrev pub is_same : Option A → Bool
  is_same none = false
  is_same (some x) = compare_is_eq (cmp x a)

  -- it stands at a's rank, or next to an element that is a
  abbrev pub next_at : List A → ℕ → Option A
  next_at xs i = cond (is_same (nth xs i)) (nth xs (suc i)) (nth xs i)

  first_rest : (x : A) (xs : List A) → Sorted cmp (x ∷ xs) → cmp x a ≡ eq → find behind xs ≡ nth xs 0
  first_rest x [] s e = refl
  first_rest x (y ∷ ys) s e = ap (λ (o : Ordering). cond (is_lt o) (some y) (find behind ys)) (sym (O.cong x a y e) ∙ s.0)

  rank-past : (x : A) (xs : List A) → cmp x a ≡ lt → rank cmp a (x ∷ xs) ≡ suc (rank cmp a xs)
  unfolding count_of
  rank-past x xs e = ap (λ (o : Ordering). cond (is_lt o) 1 0 + rank cmp a xs) e ∙ one-add (rank cmp a xs)

  rank-first : (x : A) (xs : List A) → Sorted cmp (x ∷ xs) → is_lt (cmp x a) ≡ false → rank cmp a (x ∷ xs) ≡ 0
  unfolding count_of Falls
  rank-first x xs s h = ap (λ (b : Bool). cond b 1 0 + rank cmp a xs) h ∙ ap (λ (m : ℕ). 0 + m) ((falls-sorted O a (x ∷ xs) s).0 h)

  pub first-behind : (xs : List A) → Sorted cmp xs → find behind xs ≡ next_at xs (rank cmp a xs)
  unfolding count_of
  first-behind [] s = refl
  first-behind (x ∷ xs) s = on (cmp x a) refl (first-behind xs s.1)
    where
      found : (o : Ordering) → cmp x a ≡ o → find behind (x ∷ xs) ≡ cond (is_lt (opp o)) (some x) (find behind xs)
      found o e = ap (λ (q : Ordering). cond (is_lt q) (some x) (find behind xs)) (O.flip x a ∙ ap opp e)

      here : (o : Ordering) → cmp x a ≡ o → is_lt o ≡ false → cond (compare_is_eq o) (nth xs 0) (some x) ≡ next_at (x ∷ xs) (rank cmp a (x ∷ xs))
      here o e h =
          ap (λ (q : Ordering). cond (compare_is_eq q) (nth xs 0) (some x)) (sym e)
          ∙ ap (next_at (x ∷ xs)) (sym (rank-first x xs s (ap is_lt e ∙ h)))

      on : (o : Ordering) → cmp x a ≡ o → find behind xs ≡ next_at xs (rank cmp a xs) → find behind (x ∷ xs) ≡ next_at (x ∷ xs) (rank cmp a (x ∷ xs))
      on lt e r = found lt e ∙ r ∙ ap (next_at (x ∷ xs)) (sym (rank-past x xs e))
      on eq e r = found eq e ∙ first_rest x xs s e ∙ here eq e refl
      on gt e r = found gt e ∙ here gt e refl

-- ---- among the entries of a table, a column and a value

abbrev keys_of : Name → ℕ → Value → List Entry → List Value
keys_of n i v es = map (λ (e : Entry). e.key) (keep (of_value n i v) es)

module _ (n : Name) (i : ℕ) (v k : Value) where
  abbrev pub entry_with : Entry
  entry_with = record { table = n; column = i; value = v; key = k }

  -- the key of an entry that is of them
  abbrev pub key_in : Option Entry → Option Value
  key_in none = none
  key_in (some e) = cond (of_value n i v e) (some e.key) none

  of-group : (x : Entry) (o : Ordering) → cmp_group entry_with x ≡ o → of_value n i v x ≡ compare_is_eq (opp o)
  of-group x o e = sym (in_group_lem n i v x) ∙ ap compare_is_eq (ord_group.flip entry_with x ∙ ap opp e)

  -- behind an entry that is past them, none is of them
  none-past : (x : Entry) (xs : List Entry) → Sorted cmp_entry (x ∷ xs) → cmp_group entry_with x ≡ lt → keep (of_value n i v) xs ≡ []
  none-past x xs s h = keep-nothing (of_value n i v) xs (λ y m. of-group y lt (past y (all-below ord_entry x y xs s.0 s.1 m)))
    where
      past : (y : Entry) → cmp_entry x y ≡ lt → cmp_group entry_with y ≡ lt
      past y l = on (cmp_group x y) refl
        where
          on : (o : Ordering) → cmp_group x y ≡ o → cmp_group entry_with y ≡ lt
          on lt e = ord_group.trans entry_with x y h e
          on eq e = congʳ ord_group entry_with x y e ∙ h
          on gt e = absurd (leads x y l e)

  pub key-behind : (es : List Entry) → Sorted cmp_entry es → find (before k) (keys_of n i v es) ≡ key_in (find (behind ord_entry entry_with) es)
  key-behind [] s = refl
  key-behind (x ∷ xs) s = on (cmp_group entry_with x) (cmp_value k x.key) refl refl (key-behind xs s.1)
    where
      is-behind : (o q : Ordering) → cmp_group entry_with x ≡ o → cmp_value k x.key ≡ q → is_lt (cmp_entry entry_with x) ≡ is_lt (and_then o q)
      is-behind o q e f = ap is_lt (entry-group entry_with x) ∙ ap (λ (o : Ordering). is_lt (and_then o (cmp_value k x.key))) e ∙ ap (λ (q : Ordering). is_lt (and_then o q)) f

      on : (o q : Ordering) → cmp_group entry_with x ≡ o → cmp_value k x.key ≡ q → find (before k) (keys_of n i v xs) ≡ key_in (find (behind ord_entry entry_with) xs)
          → find (before k) (keys_of n i v (x ∷ xs)) ≡ key_in (find (behind ord_entry entry_with) (x ∷ xs))
      on lt q e f r = rw (is-behind lt q e f, of-group x lt e, none-past x xs s e)
      on eq lt e f r = rw (is-behind eq lt e f, of-group x eq e, f)
      on eq eq e f r = rw (is-behind eq eq e f, of-group x eq e, f) r
      on eq gt e f r = rw (is-behind eq gt e f, of-group x eq e, f) r
      on gt q e f r = rw (is-behind gt q e f, of-group x gt e) r

-- ---- in a store

entry-none : (p : Profile) (R : ℕ) (s : List ℕ) (count : ℕ) → count ≡ count_at entries_count 4 s → (j : ℕ) → count ≤ j → nth (entries_in p R s) j ≡ none
unfolding entries_in
entry-none p R s count ec j h =
    nth_past (map (read_entry p) (lists p R s).entries) j (omega (arith, length-map (lists p R s).entries (read_entry p), area-count p R s Entries))

module _ (p : Profile) (R : ℕ) (s : List ℕ) (b : LaidStore p R s) where
  abbrev state : State
  state = parse p R s

  pub entry-long : (count : ℕ) (j : ℕ) → count ≡ count_at entries_count 4 s → j < count → (rec : List ℕ) → rec ≡ get_or (lists p R s).entries j [] → length rec ≡ 78
  entry-long count j ec h rec er =
      ap length er
      ∙ record-wide p R s (held-inside p R s b) Entries (area_at p R Entries) (record_width p Entries) j refl refl (entry-within p R s b j count ec h)
      ∙ entry-width p b.coded.cells

  -- the first entry behind one, from its rank j on
  module _ (e : Entry) (j : ℕ) (ej : j ≡ entry_rank p R e s) where
    from_rank : next_at ord_entry e (entries_in p R s) j ≡ find (behind ord_entry e) (entries_in p R s)
    from_rank = ap (next_at ord_entry e (entries_in p R s)) ej ∙ sym (first-behind ord_entry e (entries_in p R s) (held-entered p R s b).sorted)

    pub behind-end : (count : ℕ) → count ≡ count_at entries_count 4 s → count ≤ j → FirstBehind p R s e j
    behind-end count ec h =
        let q = entry-none p R s count ec j h in
        record { is = q ∙ sym (ap (λ (x : Option Entry). cond (is_same ord_entry e x) (nth (entries_in p R s) (suc j)) x) q) ∙ from_rank }

    -- the entry there compares as o
    module _ (h : j < length (lists p R s).entries) (rec : List ℕ) (er : rec ≡ get_or (lists p R s).entries j [])
        (o : Ordering) (eo : o ≡ cmp_entered cell_width rec e.table e.column e.value e.key) where
      stands : compare_is_eq o ≡ is_same ord_entry e (nth (entries_in p R s) j)
      stands =
          ap compare_is_eq (eo ∙ agree p R s (held-entered p R s b) e rec)
          ∙ sym (ap (is_same ord_entry e) (entry_at p R s b j h ∙ ap (λ (r : List ℕ). some (read_entry p r)) (sym er)))

      either : FirstBehind p R s e (cond (compare_is_eq o) (j + 1) j)
      either = by-test (compare_is_eq o) stands
        where
          by-test : (x : Bool) → x ≡ is_same ord_entry e (nth (entries_in p R s) j) → FirstBehind p R s e (cond x (j + 1) j)
          by-test true f = record { is = ap (nth (entries_in p R s)) (add-one j) ∙ ap (λ (x : Bool). cond x (nth (entries_in p R s) (suc j)) (nth (entries_in p R s) j)) f ∙ from_rank }
          by-test false f = record { is = ap (λ (x : Bool). cond x (nth (entries_in p R s) (suc j)) (nth (entries_in p R s) j)) f ∙ from_rank }

      pub behind-next : compare_is_eq o ≡ true → FirstBehind p R s e (j + 1)
      behind-next f = rw f at either

      pub behind-this : compare_is_eq o ≡ false → FirstBehind p R s e j
      behind-this f = rw f at either

  plain : (r : Row) → In r state.rows → normalised r.key ≡ r.key
  unfolding good_cells
  plain r m = canonical-normal r.key (all_head _ _ (all_tail _ _ ((held-state p R s b).rows r m).good))

  module _ (n : Name) (i : ℕ) (v k : Value) (indexed : indexed_at state.tables n i ≡ true) where
    abbrev next : Option Value
    next = next_with state.rows n i (v ∷ []) k

    keys-are : keys_with state.rows n i (v ∷ []) ≡ keys_of n i v (entries_in p R s)
    unfolding keys_with
    keys-are =
        let first : List Value → Value = λ l. get_or l 0 null in
        sym (map-map first (λ (r : Row). r.key ∷ []) (keep (λ r. of_table n r && among (cell_at r.cells i) (v ∷ [])) state.rows))
        ∙ sym (ap (map first) (group-keys state.tables state.rows (held-state p R s b).rows-sorted n i v indexed plain))
        ∙ map-map first (λ (e : Entry). e.key ∷ []) (keep (in_group n i v) (index_of state.tables state.rows))
        ∙ ap (keys_of n i v) (sym (entries-are p R s b))

    -- the first entry behind the key's tells the next key
    module _ (j : ℕ) (f : FirstBehind p R s (entry_with n i v k) j) where
      told : key_in n i v k (nth (entries_in p R s) j) ≡ next
      unfolding next_with
      told =
          ap (key_in n i v k) f.is
          ∙ sym (key-behind n i v k (entries_in p R s) (held-entered p R s b).sorted)
          ∙ sym (ap (find (before k)) keys-are)

      pub tells_none : (count : ℕ) → count ≡ count_at entries_count 4 s → count ≤ j → none ≡ next
      tells_none count ec h = sym (ap (key_in n i v k) (entry-none p R s count ec j h)) ∙ told

      module _ (h : j < length (lists p R s).entries) (rec : List ℕ) (er : rec ≡ get_or (lists p R s).entries j []) (x : Bool) (ex : x ≡ bytes_of_value rec n i v) where
        here : (w : Value) → w ≡ read_value (take (length rec - 52) (drop 52 rec)) → cond x (some w) none ≡ next
        unfolding bytes_of_value read_entry
        here w ew = rw (← told, entry_at p R s b j h, ← er, ← ex, ew, rest 52 rec, b.coded.cells)

        pub tells-key : x ≡ true → (w : Value) → w ≡ read_value (take (length rec - 52) (drop 52 rec)) → some w ≡ next
        tells-key f w ew = rw f at (here w ew)

        pub tells-other : x ≡ false → none ≡ next
        tells-other f = rw f at (here _ refl)
