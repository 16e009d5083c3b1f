-- The keys of the rows that have one of some values, counted by going from each to the next: how many are left behind one. Assumes nothing.
use Prim.Native.Nat.Ordering.{lt}
use Prim.Native.Nat.{ℕ, suc, ◌≤◌}
use native.Mathlib.Omega.{arith}
use mathlib.Core.Path.{◌≡◌, refl, sym, ap, ◌∙◌}
use mathlib.Core.Bool.{Bool, true, false, ◌&&◌, cond, true≢false}
use mathlib.Core.Logic.{inl, inr}
use mathlib.Core.List.{List, [], ◌∷◌}
use mathlib.Core.Option.{none, some, none-ne-some, some-injective}
use lib.ListN.{length, length-map}
use Rattle.values.specs.Basic.{is_lt, find, keep}
use Rattle.values.specs.Value.{Value, null, boolean, integer, float, text, is_undefined, before, among, cmp_value}
use Rattle.areas.specs.Sorted.{In, Sorted}
use Rattle.values.proofs.Orders.{ord_value, self, opp, lt_at}
use Rattle.areas.proofs.Sorting.{all-below, find-in, find_none, in-keep, keep-sorted, keep-length}
use Rattle.rules.specs.declared.profile.Profile.{Profile}
use Rattle.rules.specs.State.{Name, Row, cmp_row, of_table, cell_at}
use Rattle.rules.specs.Layout.{parse}
use Rattle.rules.proofs.Tests.{and_left, name-is}
use Rattle.rules.proofs.Lists.{in_map, keep-nothing, keep-ext, map-sorted}
use Rattle.rules.proofs.Index.{ord_row}
use Rattle.rules.proofs.Shown.{keys-rise}
use Rattle.laid.specs.Store.{LaidStore}
use Rattle.walks.specs.Looked.{keys_with, next_with}
use Rattle.laid.proofs.Stores.{held-state}

-- ---- in any rising list of values

unfoldable pub left_behind : Value → List Value → ℕ
left_behind k ks = length (keep (before k) ks)

-- NULL is before each value that is defined
null-before : (v : Value) → is_undefined v ≡ false → before null v ≡ true
unfolding cmp_value
null-before null h = absurd (true≢false h)
null-before (boolean b) h = refl
null-before (integer z) h = refl
null-before (float f) h = refl
null-before (text t) h = refl

keep-every : (q : Value → Bool) (ks : List Value) → ((v : Value) → In v ks → q v ≡ true) → keep q ks ≡ ks
keep-every q [] h = refl
keep-every q (v ∷ ks) h = rw (h v (inl refl)) (ap (λ (l : List Value). v ∷ l) (keep-every q ks (λ w m. h w (inr m))))

none_left : (k : Value) (ks : List Value) → find (before k) ks ≡ none → left_behind k ks ≡ 0
unfolding left_behind
none_left k ks e = ap length (keep-nothing (before k) ks (λ v m. find_none (before k) v ks e m))

one_fewer : (k w : Value) (ks : List Value) → Sorted cmp_value ks → find (before k) ks ≡ some w → left_behind k ks ≡ suc (left_behind w ks)
unfolding left_behind
one_fewer k w [] s e = absurd (none-ne-some w e)
one_fewer k w (x ∷ xs) s e = on (before k x) refl e (one_fewer k w xs s.1)
  where
    above : (y : Value) → In y xs → cmp_value x y ≡ lt
    above y m = all-below ord_value x y xs s.0 s.1 m

    on : (b : Bool) → before k x ≡ b → cond b (some x) (find (before k) xs) ≡ some w → (find (before k) xs ≡ some w → length (keep (before k) xs) ≡ suc (length (keep (before w) xs)))
        → length (keep (before k) (x ∷ xs)) ≡ suc (length (keep (before w) (x ∷ xs)))
    on true h f r =
        let behind : keep (before x) (x ∷ xs) ≡ keep (before k) xs =
        rw (self ord_value x)
        (keep-ext (before x) (before k) xs (λ y m. ap is_lt (above y m) ∙ sym (ap is_lt (ord_value.trans k x y (lt_at ord_value k x h) (above y m)))))
        in
        rw h (ap suc (sym (ap length (ap (λ (v : Value). keep (before v) (x ∷ xs)) (sym (some-injective x w f)) ∙ behind))))
    on false h f r =
        let l : before w x ≡ false = ap is_lt (ord_value.flip x w ∙ ap opp (above w (find-in (before k) xs w f).0)) in
        rw (h, l) (r f)

-- ---- the keys of a store

module _ (p : Profile) (R : ℕ) (s : List ℕ) (b : LaidStore p R s) (n : Name) (i : ℕ) (vs : List Value) where
  abbrev rows : List Row
  rows = (parse p R s).rows

  abbrev test : Row → Bool
  test r = of_table n r && among (cell_at r.cells i) vs

  abbrev keys : List Value
  keys = keys_with rows n i vs

  rising : Sorted cmp_value keys
  unfolding keys_with
  rising =
      map-sorted (λ (r : Row). r.key) cmp_row cmp_value (keep test rows) (keep-sorted ord_row test rows (held-state p R s b).rows-sorted)
      (λ x y m k l. keys-rise x y (its x m ∙ sym (its y k)) l)
    where
      its : (r : Row) → In r (keep test rows) → r.table ≡ n
      its r m = name-is _ _ (and_left (of_table n r) _ (in-keep test r rows m).1)

  pub few-keys : length keys ≤ 4096
  unfolding keys_with
  few-keys = omega (arith, length-map (keep test rows) (λ (r : Row). r.key), keep-length test rows, (held-state p R s b).few-rows, b.places)

  -- every key is behind NULL
  pub all_left : (k : Value) → k ≡ null → left_behind k keys ≡ length keys
  unfolding left_behind keys_with
  all_left k e =
      ap (λ (v : Value). length (keep (before v) keys)) e
      ∙ ap length
      (keep-every (before null) keys
      (λ v m.
      let q = in_map (λ (r : Row). r.key) v (keep test rows) m in
      ap (before null) q.2 ∙ null-before q.0.key ((held-state p R s b).rows q.0 (in-keep test q.0 rows q.1).0).defined))

  -- ---- a step to the next key, if there is one

  module _ (k : Value) where
    pub key-passed : (w : Value) → some w ≡ next_with rows n i vs k → left_behind k keys ≡ suc (left_behind w keys)
    unfolding next_with
    key-passed w e = one_fewer k w keys rising (sym e)

    pub all-passed : none ≡ next_with rows n i vs k → left_behind k keys ≡ 0
    unfolding next_with
    all-passed e = none_left k keys (sym e)
