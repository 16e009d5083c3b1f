-- Name cells and value cells (document 01, "Store layout"), and what any bytes stand for. Assumes nothing.
use Rattle.std.specs.Prelude.{ℕ, zero, suc, ◌+◌, ◌-◌, ◌^◌, ◌≤◌, ◌<◌, Bool, cond, List, [], ◌∷◌, eqb, length, get_or, take, drop}
use Rattle.std.specs.Int.{w64}
use Rattle.std.proofs.Common.{SFits, of_z, to_z}
use Rattle.values.specs.Bytes.{be, num, pad, leqb, Bytes}
use Rattle.values.specs.Value.{Value, null, boolean, integer, float, text, text_most, kind_of, normal_bits}

-- ---- names: length, bytes, zeros

abbrev pub name_width : ℕ
name_width = 25

unfoldable pub name_cell : List ℕ → List ℕ
unfolding pad
name_cell n = length n ∷ pad text_most n

-- the name at the front of any bytes
unfoldable pub read_name : List ℕ → List ℕ
read_name s = take (get_or s 0 0) (take text_most (drop 1 s))

-- the bytes are a name's cell
unfoldable pub is_name_cell : List ℕ → Bool
unfolding leqb name_cell read_name
is_name_cell s = leqb (name_cell (read_name s)) s

-- ---- values: kind, text length (else 0), content, zeros; in the full profile a cell has 26 bytes

abbrev pub cell_width : ℕ
cell_width = 26

abbrev pub text_length : Value → ℕ
text_length null = 0
text_length (boolean b) = 0
text_length (integer i) = 0
text_length (float f) = 0
text_length (text t) = length t

-- an integer in two's complement; a float's bits are normalised
unfoldable pub content : Value → List ℕ
unfolding be
content null = []
content (boolean b) = cond b 1 0 ∷ []
content (integer i) = be 8 (of_z w64 i) []
content (float f) = be 8 (normal_bits f) []
content (text t) = t

-- a value within its type
unfoldable pub InRange : Value → Type 0
InRange null = Unit {0}
InRange (boolean b) = Unit {0}
InRange (integer i) = SFits w64 i
InRange (float f) = f < 2 ^ 64
InRange (text t) = (length t ≤ text_most) × Bytes t

-- and with room for its content in a cell of w bytes
pub record Storable (w : ℕ) (v : Value) : Type 0 where
  pub inside : InRange v
  pub room : 2 + length (content v) ≤ w

-- a cell of w bytes
unfoldable pub value_cell : ℕ → Value → List ℕ
unfolding pad content
value_cell w v = kind_of v ∷ text_length v ∷ pad (w - 2) (content v)

-- the value of a kind, with a text length n and a content
unfoldable pub by_kind : ℕ → ℕ → List ℕ → Value
unfolding num
by_kind zero n s = null
by_kind (suc zero) n s = boolean (eqb (get_or s 0 0) 1)
by_kind (suc (suc zero)) n s = integer (to_z w64 (num 0 (take 8 s)))
by_kind (suc (suc (suc zero))) n s = float (normal_bits (num 0 (take 8 s)))
by_kind (suc (suc (suc (suc k)))) n s = text (take n (take text_most s))

-- the value at the front of any bytes
unfoldable pub read_value : List ℕ → Value
unfolding by_kind
read_value s = by_kind (get_or s 0 0) (get_or s 1 0) (drop 2 s)

-- the bytes are a value's cell: kind, length, zero tail, boolean byte and normalised float, since the cell of what they stand for is they
unfoldable pub is_cell : List ℕ → Bool
unfolding leqb value_cell read_value
is_cell s = leqb (value_cell (length s) (read_value s)) s
