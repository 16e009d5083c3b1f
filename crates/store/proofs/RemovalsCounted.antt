-- How many rows go with keys: one for each key whose row is stored and that does not come again. Assumes nothing.
use Prim.Native.Nat.{ℕ, suc, ◌+◌, ◌≤◌}
use native.Mathlib.Omega.{arith}
use mathlib.Core.Path.{◌≡◌, refl, sym, ◌∙◌, ap}
use mathlib.Core.Bool.{Bool, true, false, not, ◌&&◌, ◌||◌, cond, true≢false}
use mathlib.Core.List.{List, [], ◌∷◌}
use mathlib.Core.Option.{Option, none, some}
use lib.Dec.{compare_is_eq}
use lib.ListN.{length}
use Rattle.values.specs.Basic.{is_some, maybe}
use Rattle.values.specs.Value.{Value, same, among}
use Rattle.values.proofs.Orders.{congʳ, ord_value}
use Rattle.areas.proofs.Sorting.{find-in, in-keep, keep-in}
use Rattle.rules.specs.declared.profile.Profile.{Profile}
use Rattle.rules.specs.State.{Name, Row, of_table, is_row, row_with, has_row}
use Rattle.rules.specs.Layout.{parse}
use Rattle.rules.specs.Step.{removed, without_row, removals}
use Rattle.rules.proofs.Tests.{and_left, and_right, and_both, is_eq, some_is}
use Rattle.rules.proofs.Lists.{bool_same, find_at}
use Rattle.rules.proofs.Removed.{at-found}
use Rattle.laid.specs.Row.{table_in}
use Rattle.store.specs.Removed.{removals_in}

-- one, where a row with the key is stored and the key is not among those that follow
abbrev pub counted : List Row → Name → Value → List Value → ℕ
counted rs n k ks = cond (not (among k ks) && has_row rs n k) 1 0

unfoldable pub rows_gone : List Row → Name → List Value → ℕ
rows_gone rs n [] = 0
rows_gone rs n (k ∷ ks) = counted rs n k ks + rows_gone rs n ks

-- ---- equal keys

same_left : (k x v : Value) → same k x ≡ true → same k v ≡ same x v
same_left k x v h = ap compare_is_eq (ord_value.cong k x v (is_eq _ h))

same-right : (k x v : Value) → same k x ≡ true → same v x ≡ same v k
same-right k x v h = ap compare_is_eq (congʳ ord_value v k x (is_eq _ h))

among_same : (k x : Value) → same k x ≡ true → (vs : List Value) → among k vs ≡ among x vs
among_same k x h [] = refl
among_same k x h (v ∷ vs) = rw (same_left k x v h, among_same k x h vs)

-- two keys of one row are equal
meet : (k x v : Value) → same v k ≡ true → same v x ≡ true → same k x ≡ true
meet k x v h g = sym (same_left v k x h) ∙ g

-- ---- a row taken out: its key's is not stored any more, the others are as they were

module _ (rs : List Row) (n : Name) (k : Value) (r : Row) (q : is_row n k r ≡ true) where
  left-stored : (x : Value) → has_row (without_row r rs) n x ≡ (has_row rs n x && not (same k x))
  left-stored x = bool_same _ _ there back
    where
      there : has_row (without_row r rs) n x ≡ true → (has_row rs n x && not (same k x)) ≡ true
      there h =
          let y = some_is (row_with (without_row r rs) n x) h in
          let f = find-in (is_row n x) (without_row r rs) y.0 y.1 in
          let m = in-keep _ y.0 rs f.0 in
          and_both (find_at (is_row n x) rs y.0 m.0 f.1) (differ (same k x) refl y.0 f.1 (ap not (sym (at-found n k y.0 r q)) ∙ m.1))
        where
          differ : (b : Bool) → same k x ≡ b → (y : Row) → is_row n x y ≡ true → not (is_row n k y) ≡ true → not b ≡ true
          differ false e y f g = refl
          differ true e y f g =
              let z : is_row n k y ≡ true = and_both {a = of_table n y} {b = same y.key k} (and_left (of_table n y) (same y.key x) f) (sym (same-right k x y.key e) ∙ and_right (of_table n y) (same y.key x) f) in
              absurd (true≢false (sym g ∙ ap not z))

      back : (has_row rs n x && not (same k x)) ≡ true → has_row (without_row r rs) n x ≡ true
      back h =
          let y = some_is (row_with rs n x) (and_left _ _ h) in
          let f = find-in (is_row n x) rs y.0 y.1 in
          find_at (is_row n x) (without_row r rs) y.0
          (keep-in _ y.0 rs f.0 (ap not (at-found n k y.0 r q) ∙ other (is_row n k y.0) refl y.0 f.1 refl (and_right (has_row rs n x) _ h))) f.1
        where
          other : (b : Bool) → b ≡ b → (y : Row) → is_row n x y ≡ true → is_row n k y ≡ b → not (same k x) ≡ true → not b ≡ true
          other false e y f g d = refl
          other true e y f g d =
              absurd (true≢false (sym d ∙ ap not (meet k x y.key (and_right (of_table n y) (same y.key k) g) (and_right (of_table n y) (same y.key x) f))))

  -- where its key comes again, one fewer goes
  pub one_fewer : (q₀ : has_row rs n k ≡ true) → (ks : List Value) → rows_gone (without_row r rs) n ks + cond (among k ks) 1 0 ≡ rows_gone rs n ks
  unfolding rows_gone
  one_fewer q₀ [] = refl
  one_fewer q₀ (x ∷ xs) = go (same k x) refl (one_fewer q₀ xs)
    where
      again : (a : Bool) (m l : ℕ) → m + cond a 1 0 ≡ l → (0 + m) + 1 ≡ cond (not a && true) 1 0 + l
      again true m l e = let f : m + 1 ≡ l = e in let g : (0 + m) + 1 ≡ 0 + l = omega arith in g
      again false m l e = let f : m + 0 ≡ l = e in let g : (0 + m) + 1 ≡ 1 + l = omega arith in g

      stored : same k x ≡ true → has_row rs n x ≡ true
      stored e =
          let y = some_is (row_with rs n k) q₀ in
          let f = find-in (is_row n k) rs y.0 y.1 in
          find_at (is_row n x) rs y.0 f.0 (and_both {a = of_table n y.0} {b = same y.0.key x} (and_left (of_table n y.0) (same y.0.key k) f.1) (same-right k x y.0.key e ∙ and_right (of_table n y.0) (same y.0.key k) f.1))

      none_of : (a b : Bool) → cond {A = ℕ} (a && (b && false)) 1 0 ≡ 0
      none_of true true = refl
      none_of true false = refl
      none_of false b = refl

      and-true : (b : Bool) → (b && true) ≡ b
      and-true true = refl
      and-true false = refl

      go : (b : Bool) → same k x ≡ b → rows_gone (without_row r rs) n xs + cond (among k xs) 1 0 ≡ rows_gone rs n xs
          → (counted (without_row r rs) n x xs + rows_gone (without_row r rs) n xs) + cond (b || among k xs) 1 0 ≡ counted rs n x xs + rows_gone rs n xs
      go true e h =
          let c : counted (without_row r rs) n x xs ≡ 0 = ap (λ (z : Bool). cond (not (among x xs) && z) 1 0) (left-stored x ∙ ap (λ (z : Bool). has_row rs n x && not z) e) ∙ none_of (not (among x xs)) (has_row rs n x) in
          ap (λ (m : ℕ). (m + rows_gone (without_row r rs) n xs) + 1) c
          ∙ again (among x xs) (rows_gone (without_row r rs) n xs) (rows_gone rs n xs) (ap (λ (z : Bool). rows_gone (without_row r rs) n xs + cond z 1 0) (sym (among_same k x e xs)) ∙ h)
          ∙ ap (λ (z : Bool). cond (not (among x xs) && z) 1 0 + rows_gone rs n xs) (sym (stored e))
      go false e h =
          let c : counted (without_row r rs) n x xs ≡ counted rs n x xs = ap (λ (z : Bool). cond (not (among x xs) && z) 1 0) (left-stored x ∙ ap (λ (z : Bool). has_row rs n x && not z) e ∙ and-true (has_row rs n x)) in
          omega (arith, c, h)

-- ---- so many

pub gone-counted : (ks : List Value) (n : Name) (rs : List Row) → length (removals rs n ks) ≡ rows_gone rs n ks
unfolding removals maybe rows_gone
gone-counted [] n rs = refl
gone-counted (k ∷ ks) n rs = go (row_with rs n k) refl (gone-counted ks n rs) (λ r. gone-counted ks n (without_row r rs))
  where
    none_of : (a : Bool) → cond {A = ℕ} (a && false) 1 0 ≡ 0
    none_of true = refl
    none_of false = refl

    none_first : (m : ℕ) → m ≡ 0 + m
    none_first m = omega arith

    one_of : (a : Bool) (m l : ℕ) → m + cond a 1 0 ≡ l → suc m ≡ cond (not a && true) 1 0 + l
    one_of true m l e = let f : m + 1 ≡ l = e in let g : suc m ≡ 0 + l = omega arith in g
    one_of false m l e = let f : m + 0 ≡ l = e in let g : suc m ≡ 1 + l = omega arith in g

    go : (o : Option Row) → row_with rs n k ≡ o → length (removals rs n ks) ≡ rows_gone rs n ks
        → ((r : Row) → length (removals (without_row r rs) n ks) ≡ rows_gone (without_row r rs) n ks)
        → length (maybe o (removals rs n ks) (λ r. removed r ∷ removals (without_row r rs) n ks)) ≡ cond (not (among k ks) && is_some o) 1 0 + rows_gone rs n ks
    go none e h f = h ∙ none_first (rows_gone rs n ks) ∙ ap (λ (m : ℕ). m + rows_gone rs n ks) (sym (none_of (not (among k ks))))
    go (some r) e h f =
        ap suc (f r)
        ∙ one_of (among k ks) (rows_gone (without_row r rs) n ks) (rows_gone rs n ks) (one_fewer rs n k r (find-in (is_row n k) rs r e).1 (ap is_some e) ks)

-- no more than keys
few-gone : (ks : List Value) (n : Name) (rs : List Row) → rows_gone rs n ks ≤ length ks
unfolding rows_gone
few-gone [] n rs = omega arith
few-gone (k ∷ ks) n rs = omega (arith, one (not (among k ks) && has_row rs n k), few-gone ks n rs)
  where
    one : (b : Bool) → cond {A = ℕ} b 1 0 ≤ 1
    one true = omega arith
    one false = omega arith

pub gone-most : (ks : List Value) (n : Name) (rs : List Row) → length (removals rs n ks) ≤ length ks
gone-most ks n rs = rw (gone-counted ks n rs) (few-gone ks n rs)

-- ---- key after key, as the code counts them: `left` are those that were not asked yet

pub record CountTurn (p : Profile) (R : ℕ) (s : List ℕ) (t : ℕ) (all left : List Value) (rows : ℕ) : Type 0 where
  pub rest : rows + rows_gone (parse p R s).rows (table_in p R s t).name left ≡ rows_gone (parse p R s).rows (table_in p R s t).name all
  pub few : rows + length left ≤ length all

module _ (p : Profile) (R : ℕ) (s : List ℕ) (t : ℕ) (all : List Value) where
  pub gone-few : length (removals_in p R s t all) ≤ length all
  unfolding removals_in
  gone-few = gone-most all (table_in p R s t).name (parse p R s).rows

  module _ {left : List Value} {rows : ℕ} (x : CountTurn p R s t all left rows) where
    module _ {k : Value} {ks : List Value} (e : left ≡ k ∷ ks) {n : Name} (en : n ≡ (table_in p R s t).name) {c : Bool} (ec : c ≡ (not (among k ks) && has_row (parse p R s).rows n k)) where
      first-is : rows_gone (parse p R s).rows (table_in p R s t).name left ≡ cond c 1 0 + rows_gone (parse p R s).rows (table_in p R s t).name ks
      unfolding rows_gone
      first-is = rw (e, ec, en)

      pub count-one : c ≡ true → CountTurn p R s t all ks (rows + 1)
      count-one g = let f = rw g at first-is in record { rest = omega (arith, f, x.rest); few = omega (arith, ap length e, x.few) }

      pub count_none : c ≡ false → CountTurn p R s t all ks rows
      count_none g = let f = rw g at first-is in record { rest = omega (arith, f, x.rest); few = omega (arith, ap length e, x.few) }

    pub count-end : left ≡ [] → rows ≡ length (removals_in p R s t all)
    unfolding removals_in rows_gone
    count-end e =
        let f : rows_gone (parse p R s).rows (table_in p R s t).name left ≡ 0 = rw e in
        omega (arith, f, x.rest, gone-counted all (table_in p R s t).name (parse p R s).rows)
