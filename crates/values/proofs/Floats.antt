-- Laws of `normal_bits`; the bits of a float, which is a NaN or not. Assumes nothing.
use mathlib.Core.Path.{◌≡◌, refl, sym, ap, ◌∙◌, subst}
use mathlib.Core.Bool.{Bool, true, false, not, cond, true≢false}
use Prim.Native.Nat.{ℕ, ◌%◌, ◌^◌, ◌≤◌, ◌<◌}
use native.Mathlib.Omega.{arith}
use borrow.Author.Tests.{lt-ltb, le-ltb, eq-eqb, ne_eqb, eqb-false, ltb-true, ltb-false}
use lib.Dec.{T, ltb, eqb}
use lib.Ieee.{Float, nan, inf, fin, ne, is_nan, nan_bits, binary64, of_bits, to_bits, div, fits}
use lib.Ieee.Bits.{is_false, nan_bits_is, nan_bits_above, of_bits-to_bits, to_bits-of_bits}
use lib.Ieee.Compare.{differs_from_itself, nan_differs}
use Rattle.values.specs.Value.{normal_bits, the_nan}

-- the bits of infinity: those of a NaN are above them
abbrev pub infinite : ℕ
infinite = 0x7FF0000000000000

-- ---- normal_bits by cases

pub normal-zero : (w : ℕ) → w ≡ 2 ^ 63 → normal_bits w ≡ 0
unfolding normal_bits
normal-zero w e = rw (eq-eqb w (2 ^ 63) e)

pub normal-nan : (w : ℕ) → infinite < w % 2 ^ 63 → normal_bits w ≡ the_nan
unfolding normal_bits
normal-nan w h = rw (ne_eqb w (2 ^ 63) (λ e. omega arith), lt-ltb infinite (w % 2 ^ 63) h)

pub normal-same : (w : ℕ) → (w ≡ 2 ^ 63 → ⊥) → w % 2 ^ 63 ≤ infinite → normal_bits w ≡ w
unfolding normal_bits
normal-same w n h = rw (ne_eqb w (2 ^ 63) n, le-ltb infinite (w % 2 ^ 63) h)

pub normal-cases : (P : ℕ → Type 0) (w : ℕ) → P 0 → (infinite < w % 2 ^ 63 → P the_nan) → ((w ≡ 2 ^ 63 → ⊥) → w % 2 ^ 63 ≤ infinite → P w) → P (normal_bits w)
unfolding normal_bits
normal-cases P w z n s = on (eqb w (2 ^ 63)) (ltb infinite (w % 2 ^ 63)) refl refl
  where
    on : (a b : Bool) → eqb w (2 ^ 63) ≡ a → ltb infinite (w % 2 ^ 63) ≡ b → P (cond a 0 (cond b the_nan w))
    on true b p q = z
    on false true p q = n (ltb-true infinite (w % 2 ^ 63) q)
    on false false p q = s (eqb-false w (2 ^ 63) p) (ltb-false infinite (w % 2 ^ 63) q)

pub normal-lt : (w : ℕ) → w < 2 ^ 64 → normal_bits w < 2 ^ 64
normal-lt w h = normal-cases (λ n. n < 2 ^ 64) w (omega arith) (λ l. omega arith) (λ n l. h)

pub normal-twice : (w : ℕ) → normal_bits (normal_bits w) ≡ normal_bits w
normal-twice w = normal-cases (λ n. normal_bits n ≡ n) w at_zero (λ l. at-nan) (normal-same w)
  where
    at_zero : normal_bits 0 ≡ 0
    at_zero = normal-same 0 (λ e. omega arith) (omega arith)

    at-nan : normal_bits the_nan ≡ the_nan
    at-nan = normal-nan the_nan (omega arith)

-- ---- a float's bits

pub nan-bits : to_bits binary64 nan ≡ the_nan
unfolding to_bits
nan-bits = refl

pub nan-fits : T (fits binary64 nan)
unfolding fits
nan-fits = tt

pub nan-word : to_bits binary64 (of_bits binary64 the_nan) ≡ the_nan
unfolding to_bits of_bits
nan-word = refl

pub zero_bits : to_bits binary64 (of_bits binary64 0) ≡ 0
unfolding to_bits of_bits
zero_bits = refl

pub zero_by_zero : div binary64 (of_bits binary64 0) (of_bits binary64 0) ≡ nan
unfolding div of_bits
zero_by_zero = refl

-- NaN, as `x != x` and as `is_nan` tell it
pub is-nan : (x : Float) → ne x x ≡ true → x ≡ nan
is-nan x t = differs_from_itself x (subst T (sym t) tt)

pub no_nan : (x : Float) → ne x x ≡ false → T (not (is_nan x))
unfolding is_nan
no_nan nan t = absurd (true≢false (sym nan_differs ∙ t))
no_nan (inf s) t = tt
no_nan (fin s m e) t = tt

pub only_nan : (x : Float) → is_nan x ≡ true → x ≡ nan
unfolding is_nan
only_nan nan t = refl
only_nan (inf s) t = cc
only_nan (fin s m e) t = cc

-- a word that is no NaN's, as the code tests it
pub below_nan : (w : ℕ) → w % 2 ^ 63 ≤ infinite → nan_bits binary64 w ≡ false
below_nan w h = nan_bits_above binary64 w ∙ le-ltb infinite (w % 2 ^ 63) h

-- a float that is no NaN has no NaN's word
pub bits-below-nan : (x : Float) → fits binary64 x ≡ true → T (not (is_nan x)) → to_bits binary64 x % 2 ^ 63 ≤ infinite
bits-below-nan x f n = ltb-false infinite (to_bits binary64 x % 2 ^ 63) (
    sym (nan_bits_above binary64 (to_bits binary64 x)) ∙ nan_bits_is binary64 (to_bits binary64 x) ∙ ap is_nan (of_bits-to_bits binary64 x (subst T (sym f) tt)) ∙ is_false (is_nan x) n)

pub back-bits : (w : ℕ) → w < 2 ^ 64 → w % 2 ^ 63 ≤ infinite → to_bits binary64 (of_bits binary64 w) ≡ w
back-bits w l h = to_bits-of_bits binary64 w l (rw (sym (nan_bits_is binary64 w) ∙ below_nan w h) tt)

-- what `is_nan` says of the bits
pub is_nan-told : (x : Float) → fits binary64 x ≡ true → is_nan x ≡ eqb (normal_bits (to_bits binary64 x)) the_nan
is_nan-told x f = on (is_nan x) refl
  where
    no : (w : ℕ) → w % 2 ^ 63 ≤ infinite → normal_bits w ≡ the_nan → ⊥
    no w h = normal-cases (λ n. n ≡ the_nan → ⊥) w (λ e. omega arith) (λ l e. omega arith) (λ n l e. omega arith)

    on : (b : Bool) → is_nan x ≡ b → is_nan x ≡ eqb (normal_bits (to_bits binary64 x)) the_nan
    on true t = t ∙ sym (eq-eqb (normal_bits (to_bits binary64 x)) the_nan (ap normal_bits (ap (to_bits binary64) (only_nan x t) ∙ nan-bits) ∙ normal-nan the_nan (omega arith)))
    on false t = t ∙ sym (ne_eqb (normal_bits (to_bits binary64 x)) the_nan (no (to_bits binary64 x) (bits-below-nan x f (rw t tt))))

-- what `x != x` says of the bits
pub nan-told : (x : Float) → fits binary64 x ≡ true → ne x x ≡ eqb (normal_bits (to_bits binary64 x)) the_nan
unfolding is_nan
nan-told x f = on (ne x x) refl ∙ is_nan-told x f
  where
    on : (b : Bool) → ne x x ≡ b → ne x x ≡ is_nan x
    on true t = t ∙ sym (ap is_nan (is-nan x t))
    on false t = t ∙ sym (is_false (is_nan x) (no_nan x t))
