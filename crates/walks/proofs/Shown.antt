-- A column in which a search shows none of the keys: no row of its table refers to one of them by it. Assumes nothing.
use mathlib.Core.Path.{◌≡◌, refl, sym, ◌∙◌}
use mathlib.Core.Bool.{Bool, true, false, not, ◌&&◌, ◌||◌, true≢false}
use mathlib.Core.Option.{none}
use Prim.Native.Nat.{ℕ}
use mathlib.Core.List.{List}
use lib.Dec.{eqb}
use Rattle.values.specs.Basic.{any}
use Rattle.values.specs.Value.{Value, same, among}
use Rattle.areas.specs.Sorted.{In}
use Rattle.areas.proofs.Placing.{find-nothing}
use Rattle.areas.proofs.Sorting.{any-in}
use Rattle.rules.specs.State.{Name, same_name, Column, Table, Row, of_table, cell_at}
use Rattle.rules.specs.Rows.{referring}
use Rattle.rules.proofs.Lists.{any-is, any_none}
use Rattle.rules.proofs.Tests.{and_left, and_right, and_both, by_cond}
use Rattle.walks.specs.Referring.{holds, shown}

module _ (rs : List Row) (n : Name) (ks : List Value) (t : Table) (j : ℕ) (c : Column) where
  -- what a row holds is shown
  row_shows : (r : Row) → In r rs → of_table t.name r ≡ true → (k : Value) → same (cell_at r.cells j) k ≡ true → shown rs t j c k ≡ true
  unfolding shown
  row_shows r m o k e =
      by_cond (λ (b : Bool). b ≡ true) (c.index || eqb j t.key) (holds rs t.name j k) true
      (λ _. any-in (λ x. of_table t.name x && same (cell_at x.cells j) k) r rs m (and_both o e))
      (λ _. refl)

  pub none-shown : any (shown rs t j c) ks ≡ false → referring rs n ks t.name j ≡ none
  none-shown h = find-nothing (λ r. of_table t.name r && among (cell_at r.cells j) ks && not (same_name t.name n && among r.key ks)) rs (any_none (λ r. of_table t.name r && among (cell_at r.cells j) ks && not (same_name t.name n && among r.key ks)) rs (λ r m. by-test r m (of_table t.name r && among (cell_at r.cells j) ks && not (same_name t.name n && among r.key ks)) refl))
    where
      by-test : (r : Row) → In r rs → (x : Bool) → (of_table t.name r && among (cell_at r.cells j) ks && not (same_name t.name n && among r.key ks)) ≡ x → x ≡ false
      by-test r m false e = refl
      by-test r m true e =
          let a = and_left (of_table t.name r && among (cell_at r.cells j) ks) _ e in
          let k = any-is (same (cell_at r.cells j)) ks (and_right (of_table t.name r) _ a) in
          absurd (true≢false (sym (any-in (shown rs t j c) k.0 ks k.1 (row_shows r m (and_left (of_table t.name r) _ a) k.0 k.2)) ∙ h))
