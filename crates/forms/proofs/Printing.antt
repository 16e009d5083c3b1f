-- What is printed can be read back: digits spell their number, and no two values are printed alike. It fits, and has no space and no newline.
-- Assumes nothing.
use mathlib.Core.Path.{◌≡◌, refl, sym, ap, ◌∙◌}
use mathlib.Core.Bool.{Bool, true, false, cond}
use mathlib.Core.List.{List, [], ◌∷◌}
use Prim.Native.Nat.{ℕ, zero, suc, ◌+◌, ◌-◌, ◌*◌, ◌/◌, ◌%◌, ◌^◌, ◌≤◌, ◌<◌, max}
use native.Mathlib.Nat.{pow-suc, pow-le-pow_right, lt_of_lt_of_le, le-max_left, le-max_right}
use native.Mathlib.Omega.{arith}
use borrow.Author.Tests.{lt-ltb, le-ltb, eqb-true, ne_eqb, ltb-true, ltb-false}
use lib.Dec.{eqb, ltb}
use lib.IntN.{ℤ, pos, negsuc, nat_abs}
use lib.ListN.{length, get_or, drop}
use lib.Signed.{nat_abs-le}
use Rattle.values.specs.Bytes.{be, num}
use Rattle.values.specs.Value.{Value, null, boolean, integer, float, text, normal_bits, normalised}
use Rattle.values.specs.Cell.{InRange}
use Rattle.forms.specs.Print.{digits, count, decimal, signed_decimal, hex_digit, hex, printed, print_most}
use Rattle.values.proofs.Numbers.{num-be}
use Rattle.values.proofs.Parts.{be-length}
use Rattle.values.proofs.Floats.{normal-lt}
use Rattle.forms.proofs.Fronts.{decimal-long, hex-long, signed-short}

-- ---- decimal digits spell the number

-- the number that digits spell after a
abbrev pub spelled : ℕ → List ℕ → ℕ
spelled a [] = a
spelled a (x ∷ s) = spelled (a * 10 + (x - 48)) s

digits-spell : (k m : ℕ) (r : List ℕ) → m < 10 ^ k → spelled 0 (digits k m r) ≡ spelled m r
unfolding digits
digits-spell zero m r h = let e : 0 ≡ m = omega arith in rw e
digits-spell (suc k) m r h =
    let p = pow-suc 10 k in
    let e : m / 10 * 10 + (48 + m % 10 - 48) ≡ m = omega arith in
    digits-spell k (m / 10) ((48 + m % 10) ∷ r) (omega arith) ∙ ap (λ (n : ℕ). spelled n r) e

-- a number is below 10 to its count of digits
count-enough : (k m : ℕ) → m < 10 ^ k → m < 10 ^ count k m
unfolding count
count-enough zero m h = h
count-enough (suc k) m h = let p = pow-suc 10 k in on (eqb m 0) refl (count-enough k (m / 10) (omega arith))
  where
    on : (t : Bool) → eqb m 0 ≡ t → m / 10 < 10 ^ count k (m / 10) → m < 10 ^ cond t 0 (suc (count k (m / 10)))
    on true e l = let z = eqb-true m 0 e in omega arith
    on false e l = let p = pow-suc 10 (count k (m / 10)) in omega arith

pub decimal-spells : (m : ℕ) → m < 10 ^ 20 → spelled 0 (decimal m) ≡ m
unfolding decimal
decimal-spells m h =
    digits-spell (max 1 (count 20 m)) m [] (lt_of_lt_of_le (count-enough 20 m h) (pow-le-pow_right {n = 10} (omega arith) (le-max_right 1 (count 20 m))))

-- each byte is a digit
abbrev Digits : List ℕ → Type 0
Digits [] = Unit {0}
Digits (x ∷ s) = (48 ≤ x) × (x < 58) × Digits s

digits_are : (k m : ℕ) (r : List ℕ) → Digits r → Digits (digits k m r)
unfolding digits
digits_are zero m r h = h
digits_are (suc k) m r h = digits_are k (m / 10) ((48 + m % 10) ∷ r) (omega arith, omega arith, h)

decimal-digits : (m : ℕ) → Digits (decimal m)
unfolding decimal
decimal-digits m = digits_are (max 1 (count 20 m)) m [] tt

-- digits with a sign

abbrev pub minus : ℕ → ℤ
minus zero = pos 0
minus (suc n) = negsuc n

abbrev pub spelled_signed : List ℕ → ℤ
spelled_signed [] = pos 0
spelled_signed (x ∷ s) = cond (eqb x 45) (minus (spelled 0 s)) (pos (spelled 0 (x ∷ s)))

unsigned : (s : List ℕ) → Digits s → spelled_signed s ≡ pos (spelled 0 s)
unsigned [] h = refl
unsigned (x ∷ s) h = rw (ne_eqb x 45 (λ e. omega arith))

pub signed-spells : (z : ℤ) → nat_abs z < 10 ^ 20 → spelled_signed (signed_decimal z) ≡ z
unfolding signed_decimal
signed-spells (pos n) h = unsigned (decimal n) (decimal-digits n) ∙ ap pos (decimal-spells n h)
signed-spells (negsuc n) h = ap minus (decimal-spells (suc n) h)

-- ---- hexadecimal digits spell the bytes

abbrev pub hex_value : ℕ → ℕ
hex_value x = cond (ltb x 58) (x - 48) (x - 87)

abbrev pub unhexed : List ℕ → List ℕ
unhexed [] = []
unhexed (x ∷ []) = []
unhexed (x ∷ y ∷ s) = (hex_value x * 16 + hex_value y) ∷ unhexed s

hex-value : (d : ℕ) → hex_value (hex_digit d) ≡ d
hex-value d = on (ltb d 10) refl
  where
    on : (t : Bool) → ltb d 10 ≡ t → hex_value (cond t (48 + d) (87 + d)) ≡ d
    on true e = let h = ltb-true d 10 e in rw (lt-ltb (48 + d) 58 (omega arith)) (omega arith)
    on false e = let h = ltb-false d 10 e in rw (le-ltb (87 + d) 58 (omega arith)) (omega arith)

pub hex-spells : (s : List ℕ) → unhexed (hex s) ≡ s
unfolding hex
hex-spells [] = refl
hex-spells (b ∷ s) =
    let e : b / 16 * 16 + b % 16 ≡ b = omega arith in
    rw (hex-value (b / 16), hex-value (b % 16), e, hex-spells s)

word-spells : (w : ℕ) → w < 2 ^ 64 → num 0 (unhexed (hex (be 8 w []))) ≡ w
unfolding num
word-spells w h = ap (num 0) (hex-spells (be 8 w [])) ∙ num-be 8 w [] h

-- ---- a printed value is read back, normalised

abbrev pub read_back : List ℕ → Value
read_back s =
    cond (eqb (get_or s 0 0) 78) null
    (cond (eqb (get_or s 1 0) 58) (cond (eqb (get_or s 0 0) 116) (text (unhexed (drop 2 s))) (float (num 0 (unhexed (drop 2 s)))))
    (cond (eqb (get_or s 0 0) 116) (boolean true) (cond (eqb (get_or s 0 0) 102) (boolean false) (integer (spelled_signed s)))))

-- digits, or a minus sign and digits, are read as an integer
as-integer : (x : ℕ) (s : List ℕ) → x < 58 → Digits s → read_back (x ∷ s) ≡ integer (spelled_signed (x ∷ s))
as-integer x [] l h = rw (ne_eqb x 78 (λ e. omega arith), ne_eqb x 116 (λ e. omega arith), ne_eqb x 102 (λ e. omega arith))
as-integer x (y ∷ s) l h =
    rw (ne_eqb x 78 (λ e. omega arith), ne_eqb y 58 (λ e. omega arith), ne_eqb x 116 (λ e. omega arith), ne_eqb x 102 (λ e. omega arith))

read-digits : (s : List ℕ) → 1 ≤ length s → Digits s → read_back s ≡ integer (spelled_signed s)
read-digits [] l h = absurd (omega arith)
read-digits (x ∷ s) l h = as-integer x s h.1 h.2

read-integer : (z : ℤ) → read_back (signed_decimal z) ≡ integer (spelled_signed (signed_decimal z))
unfolding signed_decimal
read-integer (pos n) = read-digits (decimal n) (rw (decimal-long n) (le-max_left 1 (count 20 n))) (decimal-digits n)
read-integer (negsuc n) = as-integer 45 (decimal (suc n)) (omega arith) (decimal-digits (suc n))

pub read-printed : (v : Value) → InRange v → read_back (printed v) ≡ normalised v
unfolding printed InRange
read-printed null h = refl
read-printed (boolean true) h = refl
read-printed (boolean false) h = refl
read-printed (integer z) h = read-integer z ∙ ap integer (signed-spells z (omega (arith, nat_abs-le z h.sfits)))
read-printed (float f) h = ap float (word-spells (normal_bits f) (normal-lt f h))
read-printed (text t) h = ap text (hex-spells t)

-- two different values are never printed alike
pub printed-apart : (v w : Value) → InRange v → InRange w → printed v ≡ printed w → normalised v ≡ normalised w
printed-apart v w p q e = sym (read-printed v p) ∙ ap read_back e ∙ read-printed w q

-- ---- what is printed has room

pub printed-short : (v : Value) → InRange v → length (printed v) ≤ print_most
unfolding printed InRange
printed-short null h = omega arith
printed-short (boolean true) h = omega arith
printed-short (boolean false) h = omega arith
printed-short (integer z) h = omega (arith, signed-short z)
printed-short (float f) h = omega (arith, hex-long (be 8 (normal_bits f) []), be-length 8 (normal_bits f) [])
printed-short (text t) h = omega (arith, hex-long t, h.0)

-- ---- no byte is a space or a newline

abbrev pub Visible : List ℕ → Type 0
Visible [] = Unit {0}
Visible (x ∷ s) = (32 < x) × Visible s

digits-visible : (s : List ℕ) → Digits s → Visible s
digits-visible [] h = tt
digits-visible (x ∷ s) h = (omega arith, digits-visible s h.2)

signed-visible : (z : ℤ) → Visible (signed_decimal z)
unfolding signed_decimal
signed-visible (pos n) = digits-visible (decimal n) (decimal-digits n)
signed-visible (negsuc n) = (omega arith, digits-visible (decimal (suc n)) (decimal-digits (suc n)))

hex-visible : (s : List ℕ) → Visible (hex s)
unfolding hex
hex-visible [] = tt
hex-visible (b ∷ s) = (digit (b / 16), (digit (b % 16), hex-visible s))
  where
    on : (t : Bool) (d : ℕ) → 32 < cond t (48 + d) (87 + d)
    on true d = omega arith
    on false d = omega arith

    digit : (d : ℕ) → 32 < hex_digit d
    digit d = on (ltb d 10) d

pub printed-visible : (v : Value) → Visible (printed v)
unfolding printed
printed-visible null = (omega arith, (omega arith, (omega arith, (omega arith, tt))))
printed-visible (boolean true) = (omega arith, (omega arith, (omega arith, (omega arith, tt))))
printed-visible (boolean false) = (omega arith, (omega arith, (omega arith, (omega arith, (omega arith, tt)))))
printed-visible (integer z) = signed-visible z
printed-visible (float f) = (omega arith, (omega arith, hex-visible (be 8 (normal_bits f) [])))
printed-visible (text t) = (omega arith, (omega arith, hex-visible t))

-- the same by index
visible-at : (s : List ℕ) → Visible s → (i : ℕ) → i < length s → 32 < get_or s i 0
visible-at [] h i l = absurd (omega arith)
visible-at (x ∷ s) h zero l = h.0
visible-at (x ∷ s) h (suc i) l = visible-at s h.1 i (omega arith)

pub printed-visible-at : (v : Value) (i : ℕ) → i < length (printed v) → 32 < get_or (printed v) i 0
printed-visible-at v = visible-at (printed v) (printed-visible v)
