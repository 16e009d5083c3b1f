-- The values that stand in a record's bytes: what remains after one of them was read, and the values that an iterator holds. Assumes nothing.
use Rattle.forms.specs.Read.{ReadCell}
use Rattle.std.specs.Result.{result_ok}
use Rattle.std.specs.declared.option.Option.TheVariants.{None, Some}
use Rattle.checks.specs.declared.keys.Values.{Values}
use Rattle.std.specs.declared.result.Result.TheVariants.{Ok, Err}
use Rattle.forms.specs.declared.read.Broken.{Broken}
use Prim.Native.Nat.{ℕ, zero, suc, ◌-◌, ◌≤◌, ◌<◌}
use native.Mathlib.Omega.{arith}
use native.Mathlib.Numerals.{sub-one}
use mathlib.Core.Path.{◌≡◌, refl, sym, ap, ◌∙◌}
use mathlib.Core.Bool.{Bool, true, false, ◌||◌}
use mathlib.Core.List.{List, [], ◌∷◌}
use lib.ListN.{length}
use Rattle.values.specs.Basic.{any}
use Rattle.values.specs.Value.{Value}
use Rattle.values.specs.Meaning.{held}
use Rattle.forms.specs.Read.{Read, got, broken, value_at, cell_read, CellRead}
use Rattle.values.specs.declared.value.Cell.{Cell}
use Rattle.checks.specs.Keys.{on_read, values_from, values_of, FirstValue}

-- no more are asked for
pub values-end : (s : List ℕ) (left next : ℕ) → (0 < left → ⊥) → values_from s left next ≡ []
unfolding values_from
values-end s zero next h = refl
values-end s (suc n) next h = absurd (h (omega arith))

-- a value can be read, up to n: it is the first, and one fewer remain from n on
value-first : (s : List ℕ) (left next : ℕ) → 0 < left → (v : Value) (n : ℕ) → value_at s next ≡ got v n → values_from s left next ≡ v ∷ values_from s (left - 1) n
unfolding values_from on_read
value-first s zero next l v n h = absurd (omega arith)
value-first s (suc m) next l v n h = rw (sub-one (suc m), h)

-- none can be read: no more follow
none_first : (s : List ℕ) (left next x : ℕ) → value_at s next ≡ broken x → values_from s left next ≡ []
unfolding values_from on_read
none_first s zero next x h = refl
none_first s (suc m) next x h = rw h

-- a result whose value is known
ok-of : (r : ReadCell) (x : Cell × ℕ) → result_ok r ≡ Some x → r ≡ Ok x
ok-of (Ok y) x h = cc
ok-of (Err y) x h = absurd (cc)

-- ---- r is what was read at `next`

module _ (s : List ℕ) (left next : ℕ) (r : ReadCell) (e : CellRead s next r) where
  pub values-got : 0 < left → (c : Cell) (n : ℕ) → r ≡ Ok (c, n) → values_from s left next ≡ held c ∷ values_from s (left - 1) n
  values-got l c n h = value-first s left next l (held c) n (sym e.is ∙ ap cell_read h)

  pub values-broken : (x : Broken) → r ≡ Err x → values_from s left next ≡ []
  values-broken x h = none_first s left next x.at (sym e.is ∙ ap cell_read h)

-- no more than are asked for
few-from : (s : List ℕ) (n at : ℕ) → length (values_from s n at) ≤ n
unfolding values_from on_read
few-from s zero at = omega arith
few-from s (suc n) at = go (value_at s at) (few-from s n)
  where
    go : (r : Read Value) → ((b : ℕ) → length (values_from s n b) ≤ n) → length (on_read r [] (λ v b. v ∷ values_from s n b)) ≤ suc n
    go (got v b) h = omega (arith, h b)
    go (broken x) h = omega arith

-- ---- the values of an iterator

module _ (v : Values) where
  pub values-few : length (values_of v) ≤ v.count
  unfolding values_of
  values-few = few-from v.bytes.now v.count v.at

  -- none are left
  pub none_left : v.count ≡ 0 → values_of v ≡ []
  unfolding values_of
  none_left h = values-end v.bytes.now v.count v.at (λ l. omega arith)

  -- r is what was read at its position
  module _ (r : ReadCell) (e : CellRead v.bytes.now v.at r) where
    pub none-read : result_ok r ≡ None → values_of v ≡ []
    unfolding values_of
    none-read h =
        elim r as (λ (x : ReadCell). r ≡ x → result_ok x ≡ None → values_from v.bytes.now v.count v.at ≡ []) [
          | Ok y ↦ λ f g. absurd (cc)
          | Err y ↦ λ f g. values-broken v.bytes.now v.count v.at r e y f
        ] refl h

    pub first-value : (v.count ≡ 0 → ⊥) → (c : Cell) (n : ℕ) → result_ok r ≡ Some (c, n) → FirstValue v (Some c) (record { bytes = v.bytes; at = n; count = v.count - 1 })
    unfolding values_of
    first-value l c n h =
        let f : r ≡ Ok (c, n) = ok-of r (c, n) h in
        (values-got v.bytes.now v.count v.at r e (omega arith) c n f, rw f at e.proper)

-- ---- whether any of the values passes a test, where `z` is what is to be said of all of them

module _ (f : Value → Bool) (s : List ℕ) (left next : ℕ) (z : Bool) (inv : any f (values_from s left next) ≡ z) where
  pub any-end : (0 < left → ⊥) → false ≡ z
  any-end h = sym (ap (any f) (values-end s left next h)) ∙ inv

  module _ (r : ReadCell) (e : CellRead s next r) where
    pub any-broken : (x : Broken) → r ≡ Err x → false ≡ z
    any-broken x h = sym (ap (any f) (values-broken s left next r e x h)) ∙ inv

    module _ (l : 0 < left) (c : Cell) (n : ℕ) (h : r ≡ Ok (c, n)) (b : Bool) (eb : b ≡ f (held c)) where
      at_first : (b || any f (values_from s (left - 1) n)) ≡ z
      at_first =
          ap (λ (x : Bool). x || any f (values_from s (left - 1) n)) eb
          ∙ sym (ap (any f) (values-got s left next r e l c n h)) ∙ inv

      pub any-passes : b ≡ true → true ≡ z
      any-passes t = sym (ap (λ (x : Bool). x || any f (values_from s (left - 1) n)) t) ∙ at_first

      -- the invariant again
      pub any_next : b ≡ false → any f (values_from s (left - 1) n) ≡ z
      any_next t = sym (ap (λ (x : Bool). x || any f (values_from s (left - 1) n)) t) ∙ at_first
