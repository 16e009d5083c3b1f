-- The next key of some values is the smallest of each value's next key; and so a loop over the values finds it. Assumes nothing.
use Prim.Native.Nat.Ordering.{eq}
use Prim.Native.Nat.Ordering.{gt}
use Prim.Native.Nat.Ordering.{lt}
use Prim.Native.Nat.{ℕ, Ordering}
use mathlib.Core.Path.{◌≡◌, refl, sym, ap, ◌∙◌}
use mathlib.Core.Bool.{Bool, true, false, ◌&&◌, ◌||◌, or-false, cond, true≢false}
use mathlib.Core.List.{List, [], ◌∷◌, map}
use mathlib.Core.Option.{Option, none, some, some-injective}
use Rattle.values.specs.Basic.{is_lt, find, keep}
use Rattle.values.specs.Value.{Value, same, before, among, cmp_value}
use Rattle.areas.specs.Sorted.{Sorted}
use Rattle.values.proofs.Orders.{ord_value, self, congʳ, opp, lt_at, before-trans}
use Rattle.areas.proofs.Sorting.{all-below, find-in, in-keep}
use Rattle.rules.specs.State.{Name, Row, cmp_row, of_table, cell_at}
use Rattle.rules.proofs.Tests.{and_left, and_no, name-is}
use Rattle.rules.proofs.Lists.{in_map, keep-nothing, keep-ext}
use Rattle.rules.proofs.Index.{ord_row}
use Rattle.rules.proofs.Shown.{keys-rise}
use Rattle.walks.specs.Looked.{keys_with, next_with, least_of}

-- ---- the smaller of two

pub none-least : (o : Option Value) → least_of none o ≡ o
unfolding least_of
none-least o = refl

pub least-none : (o : Option Value) → least_of o none ≡ o
unfolding least_of
least-none none = refl
least-none (some v) = refl

not-below : (u v w : Value) → before v u ≡ false → before w v ≡ false → before w u ≡ false
not-below u v w h k = by-test (before w u) refl
  where
    above : cmp_value w u ≡ lt → (o : Ordering) → cmp_value v u ≡ o → is_lt o ≡ false → before w v ≡ true
    above l lt e f = absurd (true≢false f)
    above l eq e f = ap is_lt (sym (congʳ ord_value w v u e) ∙ l)
    above l gt e f = ap is_lt (ord_value.trans w u v l (ord_value.flip v u ∙ ap opp e))

    by-test : (b : Bool) → before w u ≡ b → b ≡ false
    by-test true e = absurd (true≢false (sym (above (lt_at ord_value w u e) (cmp_value v u) refl h) ∙ k))
    by-test false e = refl

pub least-assoc : (a b c : Option Value) → least_of (least_of a b) c ≡ least_of a (least_of b c)
unfolding least_of
least-assoc none b c = refl
least-assoc (some u) none c = refl
least-assoc (some u) (some v) none = least-none (cond (before v u) (some v) (some u))
least-assoc (some u) (some v) (some w) = on (before v u) (before w v) refl refl
  where
    on : (x y : Bool) → before v u ≡ x → before w v ≡ y → least_of (least_of (some u) (some v)) (some w) ≡ least_of (some u) (least_of (some v) (some w))
    on true true e f = rw (e, f, before-trans w v u f e)
    on true false e f = rw (e, f, e)
    on false true e f = rw (e, f)
    on false false e f = rw (e, f, e, not-below u v w e f)

least-left : (v : Value) (o : Option Value) → ((w : Value) → o ≡ some w → before w v ≡ false) → some v ≡ least_of (some v) o
unfolding least_of
least-left v none h = refl
least-left v (some w) h = rw (h w refl)

least-right : (v : Value) (o : Option Value) → ((w : Value) → o ≡ some w → before v w ≡ true) → some v ≡ least_of o (some v)
unfolding least_of
least-right v none h = refl
least-right v (some w) h = rw (h w refl)

pub second-least : (v w : Value) → before w v ≡ true → some w ≡ least_of (some v) (some w)
unfolding least_of
second-least v w h = rw h

pub first-least : (v w : Value) → before w v ≡ false → some v ≡ least_of (some v) (some w)
unfolding least_of
first-least v w h = rw h

-- ---- the first key behind k of the rows that pass a test

module _ (n : Name) (k : Value) where
  abbrev passing : (Row → Bool) → List Row → List Row
  passing q rs = keep (λ r. of_table n r && q r) rs

  abbrev first_key : (Row → Bool) → List Row → Option Value
  first_key q rs = find (before k) (map (λ (r : Row). r.key) (passing q rs))

  later : (q : Row → Bool) (r : Row) (rs : List Row) → Sorted cmp_row (r ∷ rs) → of_table n r ≡ true → (w : Value) → first_key q rs ≡ some w → cmp_value r.key w ≡ lt
  later q r rs s t w f =
      let a = find-in (before k) (map (λ (r : Row). r.key) (passing q rs)) w f in
      let m = in_map (λ (r : Row). r.key) w (passing q rs) a.0 in
      let p = in-keep (λ x. of_table n x && q x) m.0 rs m.1 in
      ap (cmp_value r.key) m.2 ∙ keys-rise r m.0 (name-is _ _ t ∙ sym (name-is _ _ (and_left (of_table n m.0) _ p.1))) (all-below ord_row r m.0 rs s.0 s.1 p.0)

  either-least : (p q : Row → Bool) (rs : List Row) → Sorted cmp_row rs → first_key (λ r. p r || q r) rs ≡ least_of (first_key p rs) (first_key q rs)
  either-least p q [] s = sym (none-least none)
  either-least p q (r ∷ rs) s = on (of_table n r) (p r) (q r) (before k r.key) refl refl refl refl (either-least p q rs s.1)
    where
      itself : (w : Value) → some r.key ≡ some w → before w r.key ≡ false
      itself w f = ap (λ (v : Value). before v r.key) (sym (some-injective r.key w f)) ∙ ap is_lt (self ord_value r.key)

      on : (t a b c : Bool) → of_table n r ≡ t → p r ≡ a → q r ≡ b → before k r.key ≡ c
          → first_key (λ r. p r || q r) rs ≡ least_of (first_key p rs) (first_key q rs)
          → first_key (λ r. p r || q r) (r ∷ rs) ≡ least_of (first_key p (r ∷ rs)) (first_key q (r ∷ rs))
      on false a b c et ea eb ec h = rw et h
      on true false false c et ea eb ec h = rw (et, ea, eb) h
      on true false true false et ea eb ec h = rw (et, ea, eb, ec) h
      on true true false false et ea eb ec h = rw (et, ea, eb, ec) h
      on true true true false et ea eb ec h = rw (et, ea, eb, ec) h
      on true false true true et ea eb ec h = rw (et, ea, eb, ec) (least-right r.key (first_key p rs) (λ w f. ap is_lt (later p r rs s et w f)))
      on true true false true et ea eb ec h = rw (et, ea, eb, ec) (least-left r.key (first_key q rs) (λ w f. ap is_lt (ord_value.flip r.key w ∙ ap opp (later q r rs s et w f))))
      on true true true true et ea eb ec h = rw (et, ea, eb, ec) (least-left r.key (some r.key) itself)

-- ---- the next key of some values

pub no-values : (rs : List Row) (n : Name) (i : ℕ) (k : Value) → next_with rs n i [] k ≡ none
unfolding next_with keys_with
no-values rs n i k =
    ap (λ (l : List Row). find (before k) (map (λ (r : Row). r.key) l))
    (keep-nothing (λ r. of_table n r && among (cell_at r.cells i) []) rs (λ r m. and_no (of_table n r) false refl))

module _ (rs : List Row) (s : Sorted cmp_row rs) (n : Name) (i : ℕ) (k : Value) where
  next_more : (v : Value) (vs : List Value) → next_with rs n i (v ∷ vs) k ≡ least_of (next_with rs n i (v ∷ []) k) (next_with rs n i vs k)
  unfolding next_with keys_with
  next_more v vs =
      ap (λ (l : List Row). find (before k) (map (λ (r : Row). r.key) l))
      (keep-ext (λ r. of_table n r && among (cell_at r.cells i) (v ∷ vs)) (λ r. of_table n r && (among (cell_at r.cells i) (v ∷ []) || among (cell_at r.cells i) vs)) rs
      (λ r m. ap (λ (b : Bool). of_table n r && (b || among (cell_at r.cells i) vs)) (sym (or-false (same (cell_at r.cells i) v)))))
      ∙ either-least n k (λ r. among (cell_at r.cells i) (v ∷ [])) (λ r. among (cell_at r.cells i) vs) rs s

  -- ---- a loop over the values: `o` is the smallest so far, and `z` what is to be found

  module _ (us : List Value) (o z : Option Value) (inv : least_of o (next_with rs n i us k) ≡ z) where
    pub least-end : us ≡ [] → o ≡ z
    least-end e = sym (ap (least_of o) (ap (λ (l : List Value). next_with rs n i l k) e ∙ no-values rs n i k) ∙ least-none o) ∙ inv

    -- the invariant again
    pub least-next : (v : Value) (vs : List Value) → us ≡ v ∷ vs → (x y : Option Value) → x ≡ next_with rs n i (v ∷ []) k → y ≡ least_of o x → least_of y (next_with rs n i vs k) ≡ z
    least-next v vs e x y ex ey =
        ap (λ (q : Option Value). least_of q (next_with rs n i vs k)) (ey ∙ ap (least_of o) ex)
        ∙ least-assoc o (next_with rs n i (v ∷ []) k) (next_with rs n i vs k)
        ∙ ap (least_of o) (sym (ap (λ (l : List Value). next_with rs n i l k) e ∙ next_more v vs))
        ∙ inv
