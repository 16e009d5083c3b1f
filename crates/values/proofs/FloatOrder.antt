-- The order of floats by their bits is IEEE 754's, minus zero equal to zero, and a NaN is last. Assumes nothing.
use mathlib.Core.Path.{◌≡◌, refl, sym, ap, ◌∙◌, subst}
use mathlib.Core.Bool.{Bool, true, false, not, cond, true≢false}
use Prim.Native.Nat.{ℕ, zero, suc, ◌+◌, ◌-◌, ◌*◌, ◌/◌, ◌%◌, ◌^◌, ◌≤◌, ◌<◌}
use native.Mathlib.Nat.{mul_assoc, mul_comm, mul_right_comm, mul-pos, mul-lt-mul_of_pos_right, lt_of_mul-lt-mul_right, mul-le-mul_left, mul-le-mul_right, lt_of_lt_of_le, le_trans, pow-suc, add-mul, add-zero, zero-add, zero-mul}
use native.Mathlib.Omega.{arith}
use borrow.Author.Tests.{lt-ltb, le-ltb, ltb-true, ne_eqb, eqb-true, eqb-false, leb-true, leb-false}
use lib.Dec.{T, ltb, leb, eqb}
use lib.IntN.{ℤ, pos, negsuc}
use lib.Signed.{lt_z}
use lib.Pow.{pow_pos, pow_mono}
use lib.Ieee.{Float, nan, inf, fin, lt, below, binary64, of_bits, to_bits, of_fields, fits, is_nan, up, down}
use lib.Ieee.Fits.{down_pos}
use lib.Ieee.Bits.{is_true, nan_bits_is, of_bits-to_bits, to_bits-lt}
use lib.Ieee.Exact.{HasValue, odd_sign}
use Rattle.values.specs.Basic.{is_lt, cmpℤ, cmp_bytes}
use Rattle.values.specs.Value.{float, normal_bits, the_nan, signed_bits, cmp_value, before}
use Rattle.values.proofs.Floats.{infinite, normal-zero, normal-nan, normal-same, normal-cases, normal-lt, nan-bits, below_nan, bits-below-nan}
use Rattle.values.proofs.Orders.{Tri, less, level, more, tri, is-lt_z, and-eq}

ltb-same : (a b c d : ℕ) → (a < b → c < d) → (c < d → a < b) → ltb a b ≡ ltb c d
ltb-same a b c d f g = on (ltb a b) refl
  where
    on : (t : Bool) → ltb a b ≡ t → t ≡ ltb c d
    on true p = sym (lt-ltb c d (f (ltb-true a b p)))
    on false p = off (ltb c d) refl
      where
        off : (u : Bool) → ltb c d ≡ u → false ≡ u
        off true q = absurd (true≢false (sym (lt-ltb a b (g (ltb-true c d q))) ∙ p))
        off false q = refl

-- ---- the magnitude of an exponent's field F and digits t

mag : ℕ → ℕ → ℕ
mag zero t = t * 2 ^ 0
mag (suc k) t = (2 ^ 52 + t) * 2 ^ k

mag-lt : (F t : ℕ) → t < 2 ^ 52 → mag F t < 2 ^ 52 * 2 ^ F
unfolding mag
mag-lt zero t h = omega arith
mag-lt (suc k) t h =
    let p = pow-suc 2 k in
    let q : (2 ^ 52 + t) * 2 ^ k < 2 ^ 53 * 2 ^ k = mul-lt-mul_of_pos_right (omega arith) (pow_pos k) in
    rw p (lt_of_lt_of_le q (omega arith))

mag-ge : (k t : ℕ) → 2 ^ 52 * 2 ^ k ≤ mag (suc k) t
unfolding mag
mag-ge k t = mul-le-mul_right (2 ^ k) (omega arith)

mag-digits : (F t t' : ℕ) → t < t' → mag F t < mag F t'
unfolding mag
mag-digits zero t t' h = omega arith
mag-digits (suc k) t t' h = mul-lt-mul_of_pos_right (omega arith) (pow_pos k)

mag-field : (F F' t t' : ℕ) → F < F' → t < 2 ^ 52 → mag F t < mag F' t'
mag-field F zero t t' h l = absurd (omega arith)
mag-field F (suc k) t t' h l =
    lt_of_lt_of_le (mag-lt F t l) (le_trans (mul-le-mul_left (2 ^ 52) (pow_mono {i = F} {j = k} (omega arith))) (mag-ge k t'))

mag-mono : (F F' t t' : ℕ) → t < 2 ^ 52 → t' < 2 ^ 52 → F * 2 ^ 52 + t < F' * 2 ^ 52 + t' → mag F t < mag F' t'
mag-mono F F' t t' l l' h = go (tri F F')
  where
    go : Tri F F' → mag F t < mag F' t'
    go (less k) = mag-field F F' t t' k l
    go (level k) = let d : t < t' = omega arith in rw (← k) (mag-digits F t t' d)
    go (more k) = absurd (omega arith)

mag-test : (F F' t t' : ℕ) → t < 2 ^ 52 → t' < 2 ^ 52 → ltb (mag F t) (mag F' t') ≡ ltb (F * 2 ^ 52 + t) (F' * 2 ^ 52 + t')
mag-test F F' t t' l l' = sym (ltb-same _ _ _ _ (mag-mono F F' t t' l l') (back (tri (F * 2 ^ 52 + t) (F' * 2 ^ 52 + t'))))
  where
    back : Tri (F * 2 ^ 52 + t) (F' * 2 ^ 52 + t') → mag F t < mag F' t' → F * 2 ^ 52 + t < F' * 2 ^ 52 + t'
    back (less k) h = k
    back (level k) h =
        let f : F ≡ F' = omega arith in
        let g : t ≡ t' = omega arith in
        let e : mag F t ≡ mag F' t' = cc in
        absurd (omega arith)
    back (more k) h = let g = mag-mono F' F t' t l' l k in absurd (omega arith)

-- ---- the comparison of two finite numbers, by their values over one denominator

cross : (A B a b P Q : ℕ) → 0 < P → 0 < Q → A * P ≡ a * Q → B * P ≡ b * Q → A < B → a < b
cross A B a b P Q p q h k l =
    lt_of_mul-lt-mul_right Q (subst (λ (z : ℕ). z < b * Q) h (subst (λ (z : ℕ). A * P < z) k (mul-lt-mul_of_pos_right l p)))

cross-test : (A B a b P Q : ℕ) → 0 < P → 0 < Q → A * P ≡ a * Q → B * P ≡ b * Q → ltb A B ≡ ltb a b
cross-test A B a b P Q p q h k = ltb-same A B a b (cross A B a b P Q p q h k) (cross a b A B Q P q p (sym h) (sym k))

below-same : (s t : Bool) (A B a b P Q : ℕ) → 0 < P → 0 < Q → A * P ≡ a * Q → B * P ≡ b * Q → below s A t B ≡ below s a t b
below-same false false A B a b P Q p q h k = cross-test A B a b P Q p q h k
below-same false true A B a b P Q p q h k = refl
below-same true false A B a b P Q p q h k = cross-test 0 (A + B) 0 (a + b) P Q p q (omega arith) (add-mul A B P ∙ omega (arith, add-mul a b Q))
below-same true true A B a b P Q p q h k = cross-test B A b a P Q p q k h

lt-value : (x y : Float) (s t : Bool) (a b P : ℕ) → 0 < P → HasValue x s a P → HasValue y t b P → lt x y ≡ below s a t b
unfolding lt
lt-value nan y s t a b P p h k = absurd h
lt-value (inf u) y s t a b P p h k = absurd h
lt-value (fin u m e) nan s t a b P p h k = absurd k
lt-value (fin u m e) (inf v) s t a b P p h k = absurd k
lt-value (fin u m e) (fin v n d) s t a b P p h k =
    rw (h.0, k.0) (below-same s t (m * up e * down d) (n * up d * down e) a b P (down e * down d) p (mul-pos (down_pos e) (down_pos d)) left right)
  where
    left : m * up e * down d * P ≡ a * (down e * down d)
    left = mul_right_comm (m * up e) (down d) P ∙ ap (λ (z : ℕ). z * down d) h.1 ∙ mul_assoc a (down e) (down d)

    right : n * up d * down e * P ≡ b * (down e * down d)
    right = mul_right_comm (n * up d) (down e) P ∙ ap (λ (z : ℕ). z * down e) k.1 ∙ mul_assoc b (down d) (down e) ∙ ap (λ (z : ℕ). b * z) (mul_comm (down d) (down e))

lt-inf-left : (y : Float) (s t : Bool) (b P : ℕ) → HasValue y t b P → lt (inf s) y ≡ s
unfolding lt
lt-inf-left nan s t b P k = absurd k
lt-inf-left (inf v) s t b P k = absurd k
lt-inf-left (fin v n d) s t b P k = refl

lt-inf-right : (x : Float) (s t : Bool) (a P : ℕ) → HasValue x s a P → lt x (inf t) ≡ not t
unfolding lt
lt-inf-right nan s t a P h = absurd h
lt-inf-right (inf v) s t a P h = absurd h
lt-inf-right (fin v n d) s t a P h = refl

-- ---- a sign and the pattern of a magnitude, as a number with a sign

signed : Bool → ℕ → ℤ
signed false u = pos u
signed true u = negsuc u

-- the exponent's field and the digits of infinity
infinity : ℕ
infinity = 2047 * 2 ^ 52

below-signed : (s t : Bool) (u w a b : ℕ) → ltb a b ≡ ltb u w → ltb b a ≡ ltb w u → (s ≡ true → 0 < a) → below s a t b ≡ lt_z (signed s u) (signed t w)
unfolding signed
below-signed false false u w a b h g z = h
below-signed false true u w a b h g z = refl
below-signed true false u w a b h g z = let p = z refl in lt-ltb 0 (a + b) (omega arith)
below-signed true true u w a b h g z = g

inf-first : (s t : Bool) (w : ℕ) → w < infinity → s ≡ lt_z (signed s infinity) (signed t w)
unfolding signed infinity
inf-first true true w h = sym (lt-ltb w (2047 * 2 ^ 52) h)
inf-first true false w h = refl
inf-first false true w h = refl
inf-first false false w h = sym (le-ltb (2047 * 2 ^ 52) w (omega arith))

inf-second : (t s : Bool) (w : ℕ) → w < infinity → not t ≡ lt_z (signed s w) (signed t infinity)
unfolding signed infinity
inf-second true true w h = sym (le-ltb (2047 * 2 ^ 52) w (omega arith))
inf-second true false w h = refl
inf-second false true w h = refl
inf-second false false w h = sym (lt-ltb w (2047 * 2 ^ 52) h)

inf-both : (s t : Bool) → lt (inf s) (inf t) ≡ lt_z (signed s infinity) (signed t infinity)
unfolding lt signed infinity
inf-both true true = refl
inf-both true false = refl
inf-both false true = refl
inf-both false false = refl

-- ---- a pattern's fields

record Fields (b : ℕ) : Type 0 where
  pub s : Bool
  pub F : ℕ
  pub t : ℕ
  pub few : F ≤ 2047
  pub digits : t < 2 ^ 52
  pub is : of_bits binary64 b ≡ of_fields binary64 s F t
  pub place : signed_bits b ≡ signed s (F * 2 ^ 52 + t)
  pub bits : b ≡ cond s (2 ^ 63) 0 + (F * 2 ^ 52 + t)

fields-of : (b : ℕ) → b < 2 ^ 64 → Fields b
unfolding of_bits signed
fields-of b l = on (leb (2 ^ 63) b) refl
  where
    is-fields : (s : Bool) → leb (2 ^ 63) b ≡ s → of_bits binary64 b ≡ of_fields binary64 s (b % 2 ^ 63 / 2 ^ 52) (b % 2 ^ 52)
    is-fields s p = ap (λ (z : Bool). of_fields binary64 z (b % 2 ^ 63 / 2 ^ 52) (b % 2 ^ 52)) p

    on : (s : Bool) → leb (2 ^ 63) b ≡ s → Fields b
    on true p =
        let g = leb-true (2 ^ 63) b p in
        record {
          s = true;
          F = b % 2 ^ 63 / 2 ^ 52;
          t = b % 2 ^ 52;
          few = omega arith;
          digits = omega arith;
          is = is-fields true p;
          place = rw (le-ltb b (2 ^ 63) g) (ap negsuc (omega arith));
          bits = omega arith;
        }
    on false p =
        let g = leb-false (2 ^ 63) b p in
        record {
          s = false;
          F = b % 2 ^ 63 / 2 ^ 52;
          t = b % 2 ^ 52;
          few = omega arith;
          digits = omega arith;
          is = is-fields false p;
          place = rw (lt-ltb b (2 ^ 63) g) (ap pos (omega arith));
          bits = omega arith;
        }

of-fin : (s : Bool) (F t : ℕ) → F < 2047 → HasValue (of_fields binary64 s F t) s (mag F t) (2 ^ 1074)
unfolding of_fields mag
of-fin s zero t h = odd_sign 53 s t 0 1074
of-fin s (suc k) t h = let n : suc k ≡ 2047 → ⊥ = (λ e. omega arith) in rw (ne_eqb (suc k) 2047 n) (odd_sign 53 s (2 ^ 52 + t) k 1074)

data Kind (b : ℕ) (f : Fields b) : Type 0 where
  finite : f.F < 2047 → HasValue (of_bits binary64 b) f.s (mag f.F f.t) (2 ^ 1074) → Kind b f
  endless : of_bits binary64 b ≡ inf f.s → f.F ≡ 2047 → f.t ≡ 0 → Kind b f

at_top : (s : Bool) (t : ℕ) → (of_fields binary64 s 2047 t ≡ nan → ⊥) → (of_fields binary64 s 2047 t ≡ inf s) × (t ≡ 0)
unfolding of_fields
at_top s zero n = (refl, refl)
at_top s (suc t) n = let z : suc t ≡ 0 → ⊥ = (λ e. omega arith) in absurd (n (rw (ne_eqb (suc t) 0 z)))

kind : (b : ℕ) (f : Fields b) → (of_bits binary64 b ≡ nan → ⊥) → Kind b f
kind b f n = go (tri f.F 2047)
  where
    go : Tri f.F 2047 → Kind b f
    go (less h) = finite h (rw f.is (of-fin f.s f.F f.t h))
    go (more h) = absurd (omega (arith, f.few))
    go (level h) =
        let e : of_bits binary64 b ≡ of_fields binary64 f.s 2047 f.t = f.is ∙ ap (λ (k : ℕ). of_fields binary64 f.s k f.t) h in
        let p = at_top f.s f.t (λ z. n (e ∙ z)) in
        endless (e ∙ p.0) h p.1

inf-place : (b : ℕ) (f : Fields b) → f.F ≡ 2047 → f.t ≡ 0 → signed_bits b ≡ signed f.s infinity
unfolding infinity
inf-place b f h k = f.place ∙ ap (signed f.s) (omega arith)

not-zero : (b : ℕ) (f : Fields b) → (b ≡ 2 ^ 63 → ⊥) → f.s ≡ true → 0 < mag f.F f.t
unfolding mag
not-zero b f z e = go (tri 0 (f.F * 2 ^ 52 + f.t))
  where
    go : Tri 0 (f.F * 2 ^ 52 + f.t) → 0 < mag f.F f.t
    go (less h) = mag-mono 0 f.F 0 f.t (omega arith) f.digits h
    go (level h) = absurd (z (f.bits ∙ rw (e, ← h)))
    go (more h) = absurd (omega arith)

low-pattern : (b : ℕ) (f : Fields b) → f.F < 2047 → f.F * 2 ^ 52 + f.t < infinity
unfolding infinity
low-pattern b f h = omega (arith, f.digits)

by-kinds : (b c : ℕ) (f : Fields b) (g : Fields c) → (b ≡ 2 ^ 63 → ⊥) → Kind b f → Kind c g → lt (of_bits binary64 b) (of_bits binary64 c) ≡ lt_z (signed_bits b) (signed_bits c)
by-kinds b c f g z (finite h p) (finite k q) =
    lt-value (of_bits binary64 b) (of_bits binary64 c) f.s g.s (mag f.F f.t) (mag g.F g.t) (2 ^ 1074) (pow_pos 1074) p q
    ∙ below-signed f.s g.s (f.F * 2 ^ 52 + f.t) (g.F * 2 ^ 52 + g.t) (mag f.F f.t) (mag g.F g.t)
    (mag-test f.F g.F f.t g.t f.digits g.digits)
    (mag-test g.F f.F g.t f.t g.digits f.digits)
    (not-zero b f z)
    ∙ rw (f.place, g.place)
by-kinds b c f g z (finite h p) (endless q k k') =
    ap (lt (of_bits binary64 b)) q
    ∙ lt-inf-right (of_bits binary64 b) f.s g.s (mag f.F f.t) (2 ^ 1074) p
    ∙ inf-second g.s f.s (f.F * 2 ^ 52 + f.t) (low-pattern b f h)
    ∙ rw (f.place, inf-place c g k k')
by-kinds b c f g z (endless p h h') (finite k q) =
    ap (λ (x : Float). lt x (of_bits binary64 c)) p
    ∙ lt-inf-left (of_bits binary64 c) f.s g.s (mag g.F g.t) (2 ^ 1074) q
    ∙ inf-first f.s g.s (g.F * 2 ^ 52 + g.t) (low-pattern c g k)
    ∙ rw (g.place, inf-place b f h h')
by-kinds b c f g z (endless p h h') (endless q k k') =
    ap (λ (x : Float). lt x (of_bits binary64 c)) p
    ∙ ap (lt (inf f.s)) q
    ∙ inf-both f.s g.s
    ∙ rw (inf-place b f h h', inf-place c g k k')

-- ---- minus zero compares as zero

minus-first : (t : Bool) (b : ℕ) → below true 0 t b ≡ below false 0 t b
minus-first true b = le-ltb b 0 (omega arith)
minus-first false b = ap (ltb 0) (zero-add b)

minus-second : (s : Bool) (a : ℕ) → below s a true 0 ≡ below s a false 0
minus-second true a = ap (ltb 0) (sym (add-zero a))
minus-second false a = sym (le-ltb a 0 (omega arith))

minus-left : (y : Float) → lt (of_bits binary64 (2 ^ 63)) y ≡ lt (of_bits binary64 0) y
unfolding lt of_bits of_fields
minus-left nan = refl
minus-left (inf v) = refl
minus-left (fin v n d) =
    let P : ℕ → Type 0 = λ z. below true z v (n * up d * 1) ≡ below false z v (n * up d * 1) in
    subst P (sym (zero-mul (down d))) (minus-first v (n * up d * 1))

minus-right : (x : Float) → lt x (of_bits binary64 (2 ^ 63)) ≡ lt x (of_bits binary64 0)
unfolding lt of_bits of_fields
minus-right nan = refl
minus-right (inf v) = refl
minus-right (fin v n d) =
    let P : ℕ → Type 0 = λ z. below v (n * up d * 1) true z ≡ below v (n * up d * 1) false z in
    subst P (sym (zero-mul (down d))) (minus-second v (n * up d * 1))

module _ (b : ℕ) (l : b % 2 ^ 63 ≤ infinite) where
  as-normal : (f : Float → Bool) → f (of_bits binary64 (2 ^ 63)) ≡ f (of_bits binary64 0) → f (of_bits binary64 b) ≡ f (of_bits binary64 (normal_bits b))
  as-normal f z = on (eqb b (2 ^ 63)) refl
    where
      on : (t : Bool) → eqb b (2 ^ 63) ≡ t → f (of_bits binary64 b) ≡ f (of_bits binary64 (normal_bits b))
      on true p = let e = eqb-true b (2 ^ 63) p in rw (normal-zero b e) (rw e z)
      on false p = rw (normal-same b (eqb-false b (2 ^ 63) p) l)

  normal-low : normal_bits b % 2 ^ 63 ≤ infinite
  normal-low = normal-cases (λ n. n % 2 ^ 63 ≤ infinite) b (omega arith) (λ h. absurd (omega arith)) (λ n h. h)

no_minus : (b : ℕ) → normal_bits b ≡ 2 ^ 63 → ⊥
no_minus b = normal-cases (λ n. n ≡ 2 ^ 63 → ⊥) b (λ e. omega arith) (λ l e. omega arith) (λ n l. n)

no-nan-of : (b : ℕ) → b % 2 ^ 63 ≤ infinite → of_bits binary64 b ≡ nan → ⊥
unfolding is_nan
no-nan-of b l e = true≢false (sym (ap is_nan e) ∙ sym (nan_bits_is binary64 b) ∙ below_nan b l)

lt-bits : (b c : ℕ) → b < 2 ^ 64 → c < 2 ^ 64 → b % 2 ^ 63 ≤ infinite → c % 2 ^ 63 ≤ infinite
    → lt (of_bits binary64 b) (of_bits binary64 c) ≡ lt_z (signed_bits (normal_bits b)) (signed_bits (normal_bits c))
lt-bits b c hb hc lb lc =
    let f = fields-of (normal_bits b) (normal-lt b hb) in
    let g = fields-of (normal_bits c) (normal-lt c hc) in
    as-normal b lb (λ x. lt x (of_bits binary64 c)) (minus-left (of_bits binary64 c))
    ∙ as-normal c lc (lt (of_bits binary64 (normal_bits b))) (minus-right (of_bits binary64 (normal_bits b)))
    ∙ by-kinds (normal_bits b) (normal_bits c) f g (no_minus b) (kind (normal_bits b) f (no-nan-of (normal_bits b) (normal-low b lb)))
    (kind (normal_bits c) g (no-nan-of (normal_bits c) (normal-low c lc)))

-- ---- of values

float-before : (b c : ℕ) → before (float b) (float c) ≡ lt_z (signed_bits (normal_bits b)) (signed_bits (normal_bits c))
unfolding cmp_value cmp_bytes
float-before b c =
    ap is_lt (and-eq (cmpℤ (signed_bits (normal_bits b)) (signed_bits (normal_bits c)))) ∙ is-lt_z (signed_bits (normal_bits b)) (signed_bits (normal_bits c))

-- floats that are no NaN are in IEEE 754's order
pub ieee-order : (x y : Float) → T (fits binary64 x) → T (fits binary64 y) → T (not (is_nan x)) → T (not (is_nan y))
    → before (float (to_bits binary64 x)) (float (to_bits binary64 y)) ≡ lt x y
ieee-order x y f g nx ny =
    let ex = of_bits-to_bits binary64 x f in
    let ey = of_bits-to_bits binary64 y g in
    float-before (to_bits binary64 x) (to_bits binary64 y)
    ∙ sym
    (lt-bits (to_bits binary64 x) (to_bits binary64 y) (to_bits-lt binary64 x f) (to_bits-lt binary64 y g) (bits-below-nan x (is_true _ f) nx)
    (bits-below-nan y (is_true _ g) ny))
    ∙ ap (λ (a : Float). lt a (of_bits binary64 (to_bits binary64 y))) ex
    ∙ ap (lt x) ey

-- and a NaN, whatever its pattern, is after each of them
pub nan-after : (x : Float) (w : ℕ) → T (fits binary64 x) → T (not (is_nan x)) → infinite < w % 2 ^ 63 → before (float (to_bits binary64 x)) (float w) ≡ true
nan-after x w f n h =
    let l = normal-low (to_bits binary64 x) (bits-below-nan x (is_true _ f) n) in
    float-before (to_bits binary64 x) w ∙ ap (λ (b : ℕ). lt_z (signed_bits (normal_bits (to_bits binary64 x))) (signed_bits b)) (normal-nan w h)
    ∙ last (normal_bits (to_bits binary64 x)) l
  where
    last : (b : ℕ) → b % 2 ^ 63 ≤ infinite → lt_z (signed_bits b) (pos the_nan) ≡ true
    last b l = on (ltb b (2 ^ 63)) refl
      where
        on : (t : Bool) → ltb b (2 ^ 63) ≡ t → lt_z (cond t (pos b) (negsuc (b - 2 ^ 63))) (pos the_nan) ≡ true
        on true p = let k = ltb-true b (2 ^ 63) p in lt-ltb b the_nan (omega arith)
        on false p = refl

-- that is the library's NaN too
pub nan_last : (x : Float) → T (fits binary64 x) → T (not (is_nan x)) → before (float (to_bits binary64 x)) (float (to_bits binary64 nan)) ≡ true
nan_last x f n = rw nan-bits (nan-after x the_nan f n (omega arith))
