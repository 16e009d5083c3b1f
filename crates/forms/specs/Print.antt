-- A value as a `row` line prints it (document 01, "Requests"). Assumes nothing.
use Rattle.std.specs.Prelude.{ℕ, zero, suc, ◌+◌, ◌/◌, ◌%◌, max, ◌≡◌, cond, List, [], ◌∷◌, ◌++◌, ℤ, pos, negsuc, eqb, ltb, length, drop}
use Rattle.values.specs.Bytes.{be}
use Rattle.values.specs.Value.{Value, null, boolean, integer, float, text, normal_bits}

-- ---- decimal digits with a minus sign if below zero

-- the k last digits of m, and then r
unfoldable pub digits : ℕ → ℕ → List ℕ → List ℕ
digits zero m r = r
digits (suc k) m r = digits k (m / 10) ((48 + m % 10) ∷ r)

-- how many digits m has, up to k: none for 0
unfoldable pub count : ℕ → ℕ → ℕ
count zero m = 0
count (suc k) m = cond (eqb m 0) 0 (suc (count k (m / 10)))

-- a number of up to 20 digits, and 0 as one digit
unfoldable pub decimal : ℕ → List ℕ
unfolding digits count
decimal m = digits (max 1 (count 20 m)) m []

unfoldable pub signed_decimal : ℤ → List ℕ
unfolding decimal
signed_decimal (pos n) = decimal n
signed_decimal (negsuc n) = 45 ∷ decimal (suc n)

-- ---- hexadecimal digits, lower case

abbrev pub hex_digit : ℕ → ℕ
hex_digit d = cond (ltb d 10) (48 + d) (87 + d)

-- each byte as two digits
unfoldable pub hex : List ℕ → List ℕ
hex [] = []
hex (b ∷ bs) = hex_digit (b / 16) ∷ hex_digit (b % 16) ∷ hex bs

-- ---- NULL, true, false, digits, `f:` and the bits' 16 digits, `t:` and the bytes

unfoldable pub printed : Value → List ℕ
unfolding signed_decimal hex be
printed null = 78 ∷ 85 ∷ 76 ∷ 76 ∷ []
printed (boolean b) = cond b (116 ∷ 114 ∷ 117 ∷ 101 ∷ []) (102 ∷ 97 ∷ 108 ∷ 115 ∷ 101 ∷ [])
printed (integer i) = signed_decimal i
printed (float f) = 102 ∷ 58 ∷ hex (be 8 (normal_bits f) [])
printed (text t) = 116 ∷ 58 ∷ hex t

-- the longest: a text of 24 bytes
abbrev pub print_most : ℕ
print_most = 50

-- the bytes p at the front of a buffer, and how many
pub record Front (p before after : List ℕ) (r : ℕ) : Type 0 where
  pub count : r ≡ length p
  pub bytes : after ≡ p ++ drop r before
