-- How two values of the code compare: by their kinds, or within a kind by what they hold. Assumes nothing.
use mathlib.Core.Path.{◌≡◌, refl, sym, ap, ◌∙◌, subst}
use mathlib.Core.Bool.{Bool, cond, not}
use mathlib.Core.List.{List}
use Prim.Native.Nat.Ordering.{eq}
use Prim.Native.Nat.{ℕ, ◌-◌, ◌^◌, ◌≤◌, ◌<◌, compare, Ordering}
use native.Mathlib.Omega.{arith}
use borrow.Author.Tests.{lt-ltb, le-ltb}
use lib.Dec.{T}
use lib.IntN.{ℤ, pos, negsuc, ◌-ℤ◌}
use lib.Ieee as Ieee
use lib.Ieee.{binary64, to_bits}
use mir.Syntax.{w64}
use mir.Val.{SFits, of_z, to_z, has_key}
use mir.ValLaws.{to_z-of_z, to_z_pos}
use types.Run.{OneOf, miss}
use denote.Enum.Declared.{tag_of}
use Rattle.values.specs.Basic.{and_then, cmpℤ, cmp_bytes}
use Rattle.values.specs.Value.{Value, kind_of, number_of, bytes_of, normal_bits, signed_bits, cmp_value}
use Rattle.std.specs.Ordering.{nat_cmp, bool_cmp, int_cmp}
use Rattle.std.specs.declared.cmp.Ordering.{Ordering as Compared}
use Rattle.values.specs.Meaning.{text_bytes, meaning, Proper, ordering}
use Rattle.values.specs.declared.value.Text.{Text}
use Rattle.values.specs.declared.value.Value as D
use Rattle.values.specs.declared.value.Value.TheVariants.{Null, Boolean, Integer, Float, Text as Words}
use Rattle.values.specs.contracts.value.Value.{the_type}
use Rattle.values.proofs.Orders.{decides, and-eq, of_eq, Tri, less, level, more, tri, cmpℕ-ordering, cmp-bool-ordering, cmpℤ-ordering}
use Rattle.values.proofs.Signed.{flip_is}

-- ---- kinds

pub by_kind : (v w : Value) (o : Ordering) → (kind_of v ≡ kind_of w → ⊥) → o ≡ compare (kind_of v) (kind_of w) → o ≡ cmp_value v w
unfolding cmp_value
by_kind v w o n h = h ∙ sym (decides (kind_of v) (kind_of w) (and_then (cmpℤ (number_of v) (number_of w)) (cmp_bytes (bytes_of v) (bytes_of w))) n)

pub kinds_told : (v w : D.Value) (o : Compared) (k l : ℕ) → o ≡ nat_cmp k l → k ≡ kind_of (meaning v) → l ≡ kind_of (meaning w)
    → (kind_of (meaning v) ≡ kind_of (meaning w) → eq ≡ cmp_value (meaning v) (meaning w)) → ordering o ≡ cmp_value (meaning v) (meaning w)
kinds_told v w o k l h p q f = ap ordering (rw (p, q) at h) ∙ cmpℕ-ordering (kind_of (meaning v)) (kind_of (meaning w)) ∙ go (tri (kind_of (meaning v)) (kind_of (meaning w)))
  where
    go : Tri (kind_of (meaning v)) (kind_of (meaning w)) → compare (kind_of (meaning v)) (kind_of (meaning w)) ≡ cmp_value (meaning v) (meaning w)
    go (less h) = by_kind (meaning v) (meaning w) _ (λ e. omega arith) refl
    go (level h) = of_eq _ _ h ∙ f h
    go (more h) = by_kind (meaning v) (meaning w) _ (λ e. omega arith) refl

kind-is : (v : D.Value) → tag_of the_type v ≡ kind_of (meaning v)
unfolding meaning
kind-is Null = refl
kind-is (Boolean b) = refl
kind-is (Integer i) = refl
kind-is (Float x) = refl
kind-is (Words t) = refl

-- an arm of a `match` on the kinds ks is not taken by a value of another kind
pub no_arm : (ks : List ℕ) (k : ℕ) (v : D.Value) → T (not (has_key ks k)) → k ≡ kind_of (meaning v) → OneOf ks (tag_of the_type v) → ⊥
no_arm ks k v n e o = miss ks k n (subst (OneOf ks) (kind-is v ∙ sym e) o)

pub nulls : (v w : D.Value) → v ≡ Null → kind_of (meaning v) ≡ kind_of (meaning w) → eq ≡ cmp_value (meaning v) (meaning w)
unfolding meaning cmp_value cmp_bytes
nulls v Null p e = rw p
nulls v (Boolean b) p e = absurd (omega (arith, rw p at e))
nulls v (Integer i) p e = absurd (omega (arith, rw p at e))
nulls v (Float x) p e = absurd (omega (arith, rw p at e))
nulls v (Words t) p e = absurd (omega (arith, rw p at e))

-- a value that is none of a kind has another kind
pub no-boolean : (w : D.Value) → ((y : Bool) → w ≡ Boolean y → ⊥) → kind_of (meaning w) ≡ 1 → ⊥
unfolding meaning
no-boolean Null n e = omega arith
no-boolean (Boolean b) n e = n b refl
no-boolean (Integer i) n e = omega arith
no-boolean (Float x) n e = omega arith
no-boolean (Words t) n e = omega arith

pub no-integer : (w : D.Value) → ((y : ℤ) → w ≡ Integer y → ⊥) → kind_of (meaning w) ≡ 2 → ⊥
unfolding meaning
no-integer Null n e = omega arith
no-integer (Boolean b) n e = omega arith
no-integer (Integer i) n e = n i refl
no-integer (Float x) n e = omega arith
no-integer (Words t) n e = omega arith

pub no-float : (w : D.Value) → ((y : Ieee.Float) → w ≡ Float y → ⊥) → kind_of (meaning w) ≡ 3 → ⊥
unfolding meaning
no-float Null n e = omega arith
no-float (Boolean b) n e = omega arith
no-float (Integer i) n e = omega arith
no-float (Float x) n e = n x refl
no-float (Words t) n e = omega arith

pub no-text : (w : D.Value) → ((y : Text) → w ≡ Words y → ⊥) → kind_of (meaning w) ≡ 4 → ⊥
unfolding meaning
no-text Null n e = omega arith
no-text (Boolean b) n e = omega arith
no-text (Integer i) n e = omega arith
no-text (Float x) n e = omega arith
no-text (Words t) n e = n t refl

-- ---- within a kind

module _ (v w : D.Value) (o : Compared) where
  pub booleans : (x y : Bool) → v ≡ Boolean x → w ≡ Boolean y → o ≡ bool_cmp x y → ordering o ≡ cmp_value (meaning v) (meaning w)
  unfolding meaning cmp_value cmp_bytes
  booleans x y p q h = rw (p, q) (ap ordering h ∙ cmp-bool-ordering x y ∙ sym (and-eq (compare (cond x 1 0) (cond y 1 0))))

  pub integers : (x y : ℤ) → v ≡ Integer x → w ≡ Integer y → Proper v → Proper w → o ≡ int_cmp (to_z w64 (of_z w64 x)) (to_z w64 (of_z w64 y)) → ordering o ≡ cmp_value (meaning v) (meaning w)
  unfolding meaning Proper cmp_value cmp_bytes
  integers x y p q f g h =
      let f' : SFits w64 x = subst Proper p f in
      let g' : SFits w64 y = subst Proper q g in
      rw (p, q) (ap ordering (rw (to_z-of_z w64 x f', to_z-of_z w64 y g') at h) ∙ cmpℤ-ordering x y ∙ sym (and-eq (cmpℤ x y)))

  pub floats : (x y : Ieee.Float) (a b : ℤ) → v ≡ Float x → w ≡ Float y → a ≡ signed_bits (normal_bits (to_bits binary64 x)) → b ≡ signed_bits (normal_bits (to_bits binary64 y))
      → SFits w64 a → SFits w64 b → o ≡ int_cmp (to_z w64 (of_z w64 a)) (to_z w64 (of_z w64 b)) → ordering o ≡ cmp_value (meaning v) (meaning w)
  unfolding meaning cmp_value cmp_bytes
  floats x y a b p q d e f g h =
      rw (p, q) (ap ordering (rw (to_z-of_z w64 a f, to_z-of_z w64 b g) at h) ∙ cmpℤ-ordering a b ∙ rw (d, e) (sym (and-eq (cmpℤ (signed_bits (normal_bits (to_bits binary64 x))) (signed_bits (normal_bits (to_bits binary64 y)))))))

  pub texts : (x y : Text) → v ≡ Words x → w ≡ Words y → ordering o ≡ cmp_bytes (text_bytes x) (text_bytes y) → ordering o ≡ cmp_value (meaning v) (meaning w)
  unfolding meaning cmp_value
  texts x y p q h = rw (p, q) h

-- ---- the sign bit as a sign

pub low_signed : (b : ℕ) → b < 2 ^ 63 → to_z w64 b ≡ signed_bits b
low_signed b h = to_z_pos w64 b h ∙ rw (lt-ltb b (2 ^ 63) h)

pub record High (b : ℕ) : Type 0 where
  pub fit : SFits w64 (negsuc 0 -ℤ to_z w64 (b - 9223372036854775808))
  pub is : to_z w64 (of_z w64 (negsuc 0 -ℤ to_z w64 (b - 9223372036854775808))) ≡ signed_bits b

pub high-signed : (b : ℕ) → 2 ^ 63 ≤ b → b < 2 ^ 64 → High b
high-signed b h l =
    let s : SFits w64 (negsuc (b - 2 ^ 63)) = record { sfits = omega arith } in
    let e : negsuc 0 -ℤ to_z w64 (b - 2 ^ 63) ≡ negsuc (b - 2 ^ 63) = rw (to_z_pos w64 (b - 2 ^ 63) (omega arith)) (flip_is (pos (b - 2 ^ 63))) in
    record { fit = rw e s; is = rw (e, to_z-of_z w64 (negsuc (b - 2 ^ 63)) s, le-ltb b (2 ^ 63) h) }
