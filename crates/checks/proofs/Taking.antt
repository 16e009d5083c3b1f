-- Whether another row has a value, as the index tells it: the entries of one table, column and value stand together behind those before
-- them, their keys differ, and so the first two decide. Assumes nothing.
use Prim.Native.Nat.Ordering.{eq}
use Prim.Native.Nat.Ordering.{gt}
use Prim.Native.Nat.Ordering.{lt}
use Prim.Native.Nat.{ℕ, suc, ◌+◌, compare, Ordering}
use native.Mathlib.Nat.{suc-add}
use native.Mathlib.Numerals.{one-add}
use mathlib.Core.Path.{◌≡◌, refl, sym, ap, ◌∙◌}
use mathlib.Core.Bool.{Bool, true, false, not, ◌&&◌, ◌||◌, and-false, true≢false}
use mathlib.Core.List.{List, [], ◌∷◌}
use lib.Dec.{compare_is_eq, eqb}
use borrow.Author.Tests.{eqb-true, eq-eqb, not-false}
use Rattle.values.specs.Basic.{and_then, is_lt, any, maybe, cmp_bytes}
use Rattle.values.specs.Value.{Value, null, boolean, integer, float, text, same, cmp_value}
use Rattle.values.specs.Meaning.{meaning, Proper}
use Rattle.values.specs.declared.value.Value.TheVariants.{Null}
use Rattle.areas.specs.Sorted.{Sorted, count_of}
use Rattle.values.proofs.Orders.{Ord, pull, lex, ord_bytes, ordℕ, ord_value, self, congʳ, exactℕ, of_eq, eq≢lt, gt≢lt, opp}
use Rattle.areas.proofs.Runs.{key-leads, none_before}
use Rattle.areas.proofs.Sorting.{all-below}
use Rattle.rules.specs.State.{Name, Table, Row, cmp_row}
use Rattle.rules.specs.Index.{Entry, cmp_entry, index_of}
use Rattle.rules.specs.Rows.{taken}
use Rattle.rules.proofs.Tests.{is_eq, and_right}
use Rattle.rules.proofs.Lists.{any_none, any-keep, bool_same}
use Rattle.rules.proofs.Index.{ord_entry}
use Rattle.rules.proofs.Groups.{in_group, taken_is}
use Rattle.checks.specs.Asked.{table_with, indexed_at, of_value, of_other, other_at}

-- ---- entries by all but the key

abbrev pub cmp_group : Entry → Entry → Ordering
cmp_group a b = and_then (cmp_bytes a.table b.table) (and_then (compare a.column b.column) (cmp_value a.value b.value))

pub ord_group : Ord cmp_group
ord_group = lex (pull (λ (e : Entry). e.table) ord_bytes) (lex (pull (λ (e : Entry). e.column) ordℕ) (pull (λ (e : Entry). e.value) ord_value))

then-assoc : (a b c d : Ordering) → and_then a (and_then b (and_then c d)) ≡ and_then (and_then a (and_then b c)) d
then-assoc lt b c d = refl
then-assoc gt b c d = refl
then-assoc eq lt c d = refl
then-assoc eq gt c d = refl
then-assoc eq eq c d = refl

pub entry-group : (a b : Entry) → cmp_entry a b ≡ and_then (cmp_group a b) (cmp_value a.key b.key)
unfolding cmp_entry
entry-group a b = then-assoc (cmp_bytes a.table b.table) (compare a.column b.column) (cmp_value a.value b.value) (cmp_value a.key b.key)

pub leads : (x y : Entry) → cmp_entry x y ≡ lt → cmp_group x y ≡ gt → ⊥
leads x y l g = key-leads (cmp_group x y) (cmp_value x.key y.key) (sym (entry-group x y) ∙ l) g

both-eq : (a b : Ordering) → compare_is_eq (and_then a b) ≡ (compare_is_eq a && compare_is_eq b)
both-eq lt b = refl
both-eq eq b = refl
both-eq gt b = refl

eq-compare : (a b : ℕ) → compare_is_eq (compare a b) ≡ eqb a b
eq-compare a b = bool_same (compare_is_eq (compare a b)) (eqb a b) (λ h. eq-eqb a b (exactℕ a b (is_eq (compare a b) h))) (λ h. ap compare_is_eq (of_eq a b (eqb-true a b h)))

-- NULL is before every key, so that the first of a group is found by it
not-before-null : (k : Value) → is_lt (cmp_value k null) ≡ false
unfolding cmp_value
not-before-null null = ap is_lt (self ord_value null)
not-before-null (boolean b) = refl
not-before-null (integer z) = refl
not-before-null (float f) = refl
not-before-null (text t) = refl

first-leads : (a b : Ordering) → is_lt b ≡ false → is_lt (and_then a b) ≡ is_lt a
first-leads lt b h = refl
first-leads eq b h = h
first-leads gt b h = refl

pub null-proper : Proper Null
unfolding Proper
null-proper = tt

pub null-means : meaning Null ≡ null
unfolding meaning
null-means = refl

-- ---- the entries of a table, a column and a value

module _ (n : Name) (i : ℕ) (v : Value) where
  abbrev pub first_of : Entry
  first_of = record { table = n; column = i; value = v; key = null }

  pub in_group_lem : (e : Entry) → compare_is_eq (cmp_group e first_of) ≡ of_value n i v e
  in_group_lem e =
      both-eq (cmp_bytes e.table n) (and_then (compare e.column i) (cmp_value e.value v))
      ∙ ap (λ (b : Bool). compare_is_eq (cmp_bytes e.table n) && b)
      (both-eq (compare e.column i) (cmp_value e.value v) ∙ ap (λ (b : Bool). b && same e.value v) (eq-compare e.column i))

  before-group : (e : Entry) → is_lt (cmp_entry e first_of) ≡ is_lt (cmp_group e first_of)
  before-group e = ap is_lt (entry-group e first_of) ∙ first-leads (cmp_group e first_of) (cmp_value e.key null) (not-before-null e.key)

  abbrev pub rank_of : List Entry → ℕ
  rank_of es = count_of (λ e. is_lt (cmp_entry e first_of)) es

  pub rank-null : (es : List Entry) (k : Value) (j : ℕ) → k ≡ null → j ≡ count_of (λ e. is_lt (cmp_entry e (record { table = n; column = i; value = v; key = k }))) es → j ≡ rank_of es
  rank-null es k j e h = h ∙ ap (λ (k : Value). count_of (λ e. is_lt (cmp_entry e (record { table = n; column = i; value = v; key = k }))) es) e

  rank-before : (x : Entry) (xs : List Entry) → cmp_group x first_of ≡ lt → rank_of (x ∷ xs) ≡ suc (rank_of xs)
  unfolding count_of
  rank-before x xs e = rw (before-group x, e) (one-add (rank_of xs))

  rank-here : (x : Entry) (xs : List Entry) → Sorted cmp_entry (x ∷ xs) → is_lt (cmp_group x first_of) ≡ false → rank_of (x ∷ xs) ≡ 0
  unfolding count_of
  rank-here x xs s h =
      rw (before-group x, h)
      (ap (λ (m : ℕ). 0 + m) (none_before {cmp = cmp_entry} ord_entry (λ y. y) (λ y z l e. gt≢lt (sym e ∙ l)) first_of x xs s (before-group x ∙ h)))

  module _ (update : Bool) (key : Value) where
    abbrev wanted : Entry → Bool
    wanted e = of_value n i v e && of_other update key e

    abbrev at : List Entry → ℕ → Bool
    at es j = other_at es j n i v update key

    outside : (x : Entry) (o : Ordering) → cmp_group x first_of ≡ o → compare_is_eq o ≡ false → wanted x ≡ false
    outside x o e h = ap (λ (b : Bool). b && of_other update key x) (sym (in_group_lem x) ∙ ap compare_is_eq e ∙ h)

    none-behind : (x : Entry) (xs : List Entry) → Sorted cmp_entry (x ∷ xs) → cmp_group x first_of ≡ gt → any wanted xs ≡ false
    none-behind x xs s g = any_none wanted xs (λ y m. behind y (all-below ord_entry x y xs s.0 s.1 m))
      where
        behind : (y : Entry) → cmp_entry x y ≡ lt → wanted y ≡ false
        behind y l = by-test (cmp_group y first_of) refl
          where
            by-test : (o : Ordering) → cmp_group y first_of ≡ o → wanted y ≡ false
            by-test lt e = outside y lt e refl
            by-test eq e = absurd (leads x y l (sym (congʳ ord_group x y first_of e) ∙ g))
            by-test gt e = outside y gt e refl

    -- two of them have different keys
    other_key_lem : (x y : Entry) → cmp_entry x y ≡ lt → cmp_group x first_of ≡ eq → cmp_group y first_of ≡ eq → of_other update key x ≡ false → of_other update key y ≡ true
    other_key_lem x y l ex ey h = by-test (same y.key key) refl
      where
        rising : cmp_value x.key y.key ≡ lt
        rising =
            ap (λ (o : Ordering). and_then o (cmp_value x.key y.key)) (sym (sym (congʳ ord_group x y first_of ey) ∙ ex))
            ∙ sym (entry-group x y) ∙ l

        own : cmp_value x.key key ≡ eq
        own = is_eq _ (and_right update (same x.key key) (not-false (update && same x.key key) h))

        by-test : (b : Bool) → same y.key key ≡ b → not (update && same y.key key) ≡ true
        by-test true e = absurd (eq≢lt (sym own ∙ congʳ ord_value x.key y.key key (is_eq _ e) ∙ rising))
        by-test false e = ap (λ (b : Bool). not (update && b)) e ∙ ap not (and-false update)

    -- behind one of them that is ignored, the next decides
    next-decides : (x : Entry) (xs : List Entry) → Sorted cmp_entry (x ∷ xs) → cmp_group x first_of ≡ eq → of_other update key x ≡ false → any wanted xs ≡ at xs 0
    unfolding other_at maybe
    next-decides x [] s ex h = refl
    next-decides x (y ∷ ys) s ex h = by-test (cmp_group y first_of) refl
      where
        by-test : (o : Ordering) → cmp_group y first_of ≡ o → (wanted y || any wanted ys) ≡ wanted y
        by-test lt e = absurd (leads x y s.0 (ord_group.flip y x ∙ ap opp (sym (congʳ ord_group y x first_of ex) ∙ e)))
        by-test eq e =
            let w : wanted y ≡ true = rw (sym (in_group_lem y) ∙ ap compare_is_eq e) (other_key_lem x y s.0 ex e h) in
            ap (λ (b : Bool). b || any wanted ys) w ∙ sym w
        by-test gt e =
            let w : wanted y ≡ false = outside y gt e refl in
            ap (λ (b : Bool). b || any wanted ys) w ∙ none-behind y ys s.1 e ∙ sym w

    none_first : (xs : List Entry) → any wanted xs ≡ false → at xs 0 ≡ false
    unfolding other_at maybe
    none_first [] h = refl
    none_first (y ∷ ys) h = by-test (wanted y) h
      where
        by-test : (b : Bool) → (b || any wanted ys) ≡ false → b ≡ false
        by-test true h = absurd (true≢false h)
        by-test false h = refl

    two-decide : (xs : List Entry) → Sorted cmp_entry xs → any wanted xs ≡ (at xs (rank_of xs) || at xs (rank_of xs + 1))
    unfolding other_at maybe
    two-decide [] s = refl
    two-decide (x ∷ xs) s = by-test (cmp_group x first_of) refl (two-decide xs s.1)
      where
        here : is_lt (cmp_group x first_of) ≡ false → (wanted x || any wanted xs) ≡ (wanted x || at xs 0)
            → any wanted (x ∷ xs) ≡ (at (x ∷ xs) (rank_of (x ∷ xs)) || at (x ∷ xs) (rank_of (x ∷ xs) + 1))
        here l h = h ∙ ap (λ (m : ℕ). at (x ∷ xs) m || at (x ∷ xs) (m + 1)) (sym (rank-here x xs s l))

        by-ignored : cmp_group x first_of ≡ eq → (b : Bool) → of_other update key x ≡ b → (wanted x || any wanted xs) ≡ (wanted x || at xs 0)
        by-ignored e true f =
            let w : wanted x ≡ true = rw (sym (in_group_lem x) ∙ ap compare_is_eq e) f in
            ap (λ (b : Bool). b || any wanted xs) w ∙ sym (ap (λ (b : Bool). b || at xs 0) w)
        by-ignored e false f = ap (λ (b : Bool). wanted x || b) (next-decides x xs s e f)

        by-test : (o : Ordering) → cmp_group x first_of ≡ o → any wanted xs ≡ (at xs (rank_of xs) || at xs (rank_of xs + 1))
            → any wanted (x ∷ xs) ≡ (at (x ∷ xs) (rank_of (x ∷ xs)) || at (x ∷ xs) (rank_of (x ∷ xs) + 1))
        by-test lt e r =
            ap (λ (b : Bool). b || any wanted xs) (outside x lt e refl) ∙ r
            ∙ ap (λ (m : ℕ). at xs (rank_of xs) || at (x ∷ xs) m) (sym (suc-add (rank_of xs) 1))
            ∙ ap (λ (m : ℕ). at (x ∷ xs) m || at (x ∷ xs) (m + 1)) (sym (rank-before x xs e))
        by-test eq e r = here (ap is_lt e) (by-ignored e (of_other update key x) refl)
        by-test gt e r =
            let f = none-behind x xs s e in
            here (ap is_lt e) (ap (λ (b : Bool). wanted x || b) (f ∙ sym (none_first xs f)))

    -- ---- what the uniqueness test answers

    module _ (ts : List Table) (rs : List Row) (s : Sorted cmp_row rs) (indexed : indexed_at ts n i ≡ true)
        (es : List Entry) (ee : es ≡ index_of ts rs) (es-sorted : Sorted cmp_entry es) (j : ℕ) (ej : j ≡ rank_of es) where
      pub taken-two : taken rs (table_with n 0) update key i v ≡ (at es j || at es (j + 1))
      taken-two =
          taken_is ts rs s n i v indexed (table_with n 0) update key refl
          ∙ any-keep (of_other update key) (in_group n i v) (index_of ts rs)
          ∙ ap (any wanted) (sym ee)
          ∙ two-decide es es-sorted
          ∙ ap (λ (m : ℕ). at es m || at es (m + 1)) (sym ej)
