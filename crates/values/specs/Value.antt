-- Values, their equality and order (document 01, "Values and sizes"). Assumes nothing.
use Prim.Native.Nat.{ℕ, ◌-◌, ◌%◌, ◌^◌, compare, Ordering}
use Rattle.std.specs.Prelude.{Bool, true, false, cond, List, [], ℤ, pos, negsuc, eqb, ltb}
use Rattle.std.proofs.Math.Dec.{compare_is_eq}
use Rattle.values.specs.Basic.{and_then, is_lt, cmpℤ, cmp_bytes, any}

-- a float is its 64 bits, a text its bytes
pub data Value : Type 0 where
  null : Value
  boolean : Bool → Value
  integer : ℤ → Value
  float : ℕ → Value
  text : List ℕ → Value

-- a text and a name have at most 24 bytes
abbrev pub text_most : ℕ
text_most = 24

abbrev pub the_nan : ℕ
the_nan = 0x7FF8000000000000

-- on entry minus zero becomes zero and each NaN the one NaN
unfoldable pub normal_bits : ℕ → ℕ
normal_bits b = cond (eqb b (2 ^ 63)) 0 (cond (ltb 0x7FF0000000000000 (b % 2 ^ 63)) the_nan b)

abbrev pub normalised : Value → Value
normalised null = null
normalised (boolean b) = boolean b
normalised (integer i) = integer i
normalised (float f) = float (normal_bits f)
normalised (text t) = text t

-- the kinds by their numbers: NULL 0, boolean 1, integer 2, float 3, text 4
abbrev pub kind_of : Value → ℕ
kind_of null = 0
kind_of (boolean b) = 1
kind_of (integer i) = 2
kind_of (float f) = 3
kind_of (text t) = 4

abbrev pub is_null : Value → Bool
is_null null = true
is_null (boolean b) = false
is_null (integer i) = false
is_null (float f) = false
is_null (text t) = false

-- undefined means NULL or NaN
abbrev pub is_undefined : Value → Bool
is_undefined null = true
is_undefined (boolean b) = false
is_undefined (integer i) = false
is_undefined (float f) = eqb (normal_bits f) the_nan
is_undefined (text t) = false

-- the bits with the sign bit as a sign: this puts floats in their order, NaN last
abbrev pub signed_bits : ℕ → ℤ
signed_bits b = cond (ltb b (2 ^ 63)) (pos b) (negsuc (b - 2 ^ 63))

-- what booleans, integers and floats are compared by; false is before true
abbrev pub number_of : Value → ℤ
number_of null = pos 0
number_of (boolean b) = pos (cond b 1 0)
number_of (integer i) = i
number_of (float f) = signed_bits (normal_bits f)
number_of (text t) = pos 0

abbrev pub bytes_of : Value → List ℕ
bytes_of null = []
bytes_of (boolean b) = []
bytes_of (integer i) = []
bytes_of (float f) = []
bytes_of (text t) = t

-- NULL, booleans, integers, floats, texts; the normalised value is what is compared
unfoldable pub cmp_value : Value → Value → Ordering
cmp_value v w = and_then (compare (kind_of v) (kind_of w)) (and_then (cmpℤ (number_of v) (number_of w)) (cmp_bytes (bytes_of v) (bytes_of w)))

abbrev pub same : Value → Value → Bool
same v w = compare_is_eq (cmp_value v w)

abbrev pub before : Value → Value → Bool
before v w = is_lt (cmp_value v w)

abbrev pub among : Value → List Value → Bool
among v vs = any (same v) vs
