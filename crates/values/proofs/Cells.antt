-- Name cells and value cells, of any width: their length, what they are read as, and which bytes are cells. Assumes nothing.
use mathlib.Core.Path.{◌≡◌, refl, sym, ap, ◌∙◌}
use mathlib.Core.Bool.{Bool, true, false, cond}
use mathlib.Core.List.{List, [], ◌∷◌, ◌++◌, append_assoc, append-nil}
use Prim.Native.Nat.{ℕ, zero, suc, ◌+◌, ◌-◌, ◌*◌, ◌%◌, ◌^◌, ◌≤◌, ◌<◌, min}
use native.Mathlib.Nat.{pow-le-pow_right}
use native.Mathlib.Numerals.{unary_clauses}
use native.Mathlib.Omega.{arith}
use lib.Dec.{eqb}
use lib.ListN.{length, get_or, take, drop, replicate, length-take, length-drop}
use lib.Seq.{take_at, take-take, get_or-drop}
use lib.Ieee.{binary64}
use lib.Ieee.Bits.{to_bits-lt}
use mir.Syntax.{w64}
use mir.Val.{of_z, to_z, bool_byte}
use mir.ValLaws.{to_z-of_z, to_z-Fits, of_z_fits}
use Rattle.values.specs.Bytes.{be, num, pad, leqb, Bytes}
use Rattle.values.specs.Value.{Value, null, boolean, integer, float, text, text_most, normal_bits, normalised}
use Rattle.values.specs.Cell.{name_width, name_cell, read_name, is_name_cell, cell_width, content, InRange, Storable, value_cell, by_kind, read_value, is_cell}
use Rattle.values.specs.Meaning.{meaning, Proper}
use Rattle.values.specs.declared.value.Value as D
use Rattle.values.specs.declared.value.Value.TheVariants.{Null, Boolean, Integer, Float, Text as Words}
use Rattle.values.proofs.Numbers.{num-be, num-lt}
use Rattle.values.proofs.Scans.{leqb-refl, leqb-eq}
use Rattle.values.proofs.Parts.{be-length}
use Rattle.values.proofs.Packing.{length-pad, take-pad, take-bytes, drop-bytes, text-long, text-bytes}
use Rattle.values.proofs.Floats.{normal-lt, normal-twice}

-- ---- names

pub length-name : (n : List ℕ) → length n ≤ text_most → length (name_cell n) ≡ name_width
unfolding name_cell
length-name n h = ap suc (length-pad text_most n h)

pub name_back : (n rest : List ℕ) → length n ≤ text_most → read_name (name_cell n ++ rest) ≡ n
unfolding read_name name_cell
name_back n rest h = rw (take_at (pad text_most n) rest text_most (length-pad text_most n h)) (take-pad text_most n)

-- a length above 24 counts as 24
pub name-clipped : (s : List ℕ) (n k : ℕ) → n ≡ get_or s 0 0 → k ≡ min text_most n → take (k + 1 - 1) (drop 1 s) ≡ read_name s
unfolding read_name
name-clipped s n k e f =
    let g : k + 1 - 1 ≡ min (get_or s 0 0) text_most = omega arith in
    rw g (sym (nested (get_or s 0 0) text_most (drop 1 s)))
  where
    nested : (i j : ℕ) (xs : List ℕ) → take i (take j xs) ≡ take (min i j) xs
    nested zero j xs = simp unary_clauses
    nested (suc i) zero xs = simp unary_clauses
    nested (suc i) (suc j) [] = simp unary_clauses
    nested (suc i) (suc j) (x ∷ xs) = simp unary_clauses (ap (λ (l : List ℕ). x ∷ l) (nested i j xs))

pub read-name-short : (s : List ℕ) → length (read_name s) ≤ text_most
unfolding read_name
read-name-short s = simp length-take (omega arith)

pub read-name-bytes : (s : List ℕ) → Bytes s → Bytes (read_name s)
unfolding read_name
read-name-bytes s h = take-bytes (get_or s 0 0) (take text_most (drop 1 s)) (take-bytes text_most (drop 1 s) (drop-bytes 1 s h))

pub is_name : (s : List ℕ) → is_name_cell s ≡ true → name_cell (read_name s) ≡ s
unfolding is_name_cell
is_name s h = leqb-eq (name_cell (read_name s)) s h

pub name-is : (s : List ℕ) → name_cell (read_name s) ≡ s → is_name_cell s ≡ true
unfolding is_name_cell
name-is s e = ap (λ (l : List ℕ). leqb l s) e ∙ leqb-refl s

pub is-name-of : (n : List ℕ) → length n ≤ text_most → is_name_cell (name_cell n) ≡ true
is-name-of n h = name-is (name_cell n) (ap name_cell (ap read_name (sym (append-nil (name_cell n))) ∙ name_back n [] h))

-- ---- values: normalised

pub normalised-twice : (v : Value) → normalised (normalised v) ≡ normalised v
normalised-twice null = refl
normalised-twice (boolean b) = refl
normalised-twice (integer i) = refl
normalised-twice (float f) = ap float (normal-twice f)
normalised-twice (text t) = refl

pub value-normal : (w : ℕ) (v : Value) → value_cell w (normalised v) ≡ value_cell w v
unfolding value_cell content
value-normal w null = refl
value-normal w (boolean b) = refl
value-normal w (integer i) = refl
value-normal w (float f) = rw (normal-twice f)
value-normal w (text t) = refl

-- ---- values: the cell of one

pub length-value : (w : ℕ) (v : Value) → Storable w v → length (value_cell w v) ≡ w
unfolding value_cell
length-value w v h = let r = h.room in ap (λ (n : ℕ). suc (suc n)) (length-pad (w - 2) (content v) (omega arith)) ∙ omega arith

-- a kind and a word, as `write_word` writes them
abbrev pub raw : ℕ → ℕ → List ℕ
raw k w = k ∷ 0 ∷ be 8 w (replicate 16 0)

pub raw-boolean : (b : Bool) → raw 1 (bool_byte b * 2 ^ 56 % 2 ^ 64) ≡ value_cell cell_width (boolean b)
unfolding value_cell content be pad
raw-boolean true = refl
raw-boolean false = refl

-- NULL is all zeros
pub null-zeros : (w : ℕ) → 2 ≤ w → value_cell w null ≡ replicate w 0
unfolding value_cell content pad
null-zeros w h = let e : w ≡ suc (suc (w - 2 - 0)) = omega arith in ap (λ (n : ℕ). replicate n 0) (sym e)

-- eight bytes of a number, whatever follows
num-front : (x k : ℕ) (rest : List ℕ) → x < 2 ^ 64 → num 0 (take 8 (pad k (be 8 x []) ++ rest)) ≡ x
unfolding pad num
num-front x k rest h =
    rw (append_assoc, take_at (be 8 x []) (replicate (k - length (be 8 x [])) 0 ++ rest) 8 (be-length 8 x [])) (num-be 8 x [] h)

text-front : (t : List ℕ) (k : ℕ) (rest : List ℕ) → length t ≤ text_most → take (length t) (take text_most (pad k t ++ rest)) ≡ t
unfolding pad
text-front t k rest h = rw (take-take (length t) text_most, append_assoc) (take_at t (replicate (k - length t) 0 ++ rest) (length t) refl)

pub value-back : (w : ℕ) (v : Value) (rest : List ℕ) → Storable w v → read_value (value_cell w v ++ rest) ≡ normalised v
unfolding read_value by_kind value_cell content InRange
value-back w null rest h = refl
value-back w (boolean b) rest h = ap boolean (go b)
  where
    go : (b : Bool) → eqb (cond b 1 0) 1 ≡ b
    go true = refl
    go false = refl
value-back w (integer i) rest h =
    ap integer (ap (to_z w64) (num-front (of_z w64 i) (w - 2) rest (of_z_fits w64 i h.inside).fits) ∙ to_z-of_z w64 i h.inside)
value-back w (float f) rest h =
    ap float (ap normal_bits (num-front (normal_bits f) (w - 2) rest (normal-lt f h.inside)) ∙ normal-twice f)
value-back w (text t) rest h = ap text (text-front t (w - 2) rest h.inside.0)

full-room : (v : Value) → InRange v → 2 + length (content v) ≤ cell_width
unfolding content InRange be
full-room null h = omega arith
full-room (boolean b) h = omega arith
full-room (integer i) h = omega arith
full-room (float f) h = omega arith
full-room (text t) h = omega (arith, h.0)

-- a cell of full width has room for any value
pub storable-full : (v : Value) → InRange v → Storable cell_width v
storable-full v h = record { inside = h; room = full-room v h }

-- ---- values: what any bytes are read as

module _ (s : List ℕ) where
  pub at_null : get_or s 0 0 ≡ 0 → read_value s ≡ null
  unfolding read_value by_kind
  at_null h = rw h

  pub at-boolean : get_or s 0 0 ≡ 1 → read_value s ≡ boolean (eqb (get_or s 2 0) 1)
  unfolding read_value by_kind
  at-boolean h = rw (h, get_or-drop)

  pub at-integer : get_or s 0 0 ≡ 2 → read_value s ≡ integer (to_z w64 (num 0 (take 8 (drop 2 s))))
  unfolding read_value by_kind
  at-integer h = rw h

  pub at-float : get_or s 0 0 ≡ 3 → read_value s ≡ float (normal_bits (num 0 (take 8 (drop 2 s))))
  unfolding read_value by_kind
  at-float h = rw h

-- a kind above 3 is read as a text
pub kind-text : (k n : ℕ) (s : List ℕ) → (k ≡ 0 → ⊥) → (k ≡ 1 → ⊥) → (k ≡ 2 → ⊥) → (k ≡ 3 → ⊥) → by_kind k n s ≡ text (take n (take text_most s))
unfolding by_kind
kind-text zero n s a b c d = absurd (a refl)
kind-text (suc zero) n s a b c d = absurd (b refl)
kind-text (suc (suc zero)) n s a b c d = absurd (c refl)
kind-text (suc (suc (suc zero))) n s a b c d = absurd (d refl)
kind-text (suc (suc (suc (suc k)))) n s a b c d = refl

-- its length and bytes stand as a name does
text-part : (s : List ℕ) → read_name (take name_width (drop 1 s)) ≡ take (get_or s 1 0) (take text_most (drop 2 s))
unfolding read_name
text-part [] = refl
text-part (x ∷ []) = refl
text-part (x ∷ y ∷ s) = ap (take y) (take-take text_most text_most s (omega arith))

pub at-text : (s : List ℕ) → (get_or s 0 0 ≡ 0 → ⊥) → (get_or s 0 0 ≡ 1 → ⊥) → (get_or s 0 0 ≡ 2 → ⊥) → (get_or s 0 0 ≡ 3 → ⊥)
    → read_value s ≡ text (read_name (take name_width (drop 1 s)))
unfolding read_value
at-text s a b c d = kind-text (get_or s 0 0) (get_or s 1 0) (drop 2 s) a b c d ∙ ap text (sym (text-part s))

kind-normal : (k n : ℕ) (s : List ℕ) → normalised (by_kind k n s) ≡ by_kind k n s
unfolding by_kind
kind-normal zero n s = refl
kind-normal (suc zero) n s = refl
kind-normal (suc (suc zero)) n s = refl
kind-normal (suc (suc (suc zero))) n s = ap float (normal-twice (num 0 (take 8 s)))
kind-normal (suc (suc (suc (suc k)))) n s = refl

pub read-normal : (s : List ℕ) → normalised (read_value s) ≡ read_value s
unfolding read_value
read-normal s = kind-normal (get_or s 0 0) (get_or s 1 0) (drop 2 s)

pub eight-lt : (s : List ℕ) → Bytes s → num 0 (take 8 s) < 2 ^ 64
eight-lt s h =
    let l : length (take 8 s) ≤ 8 = simp length-take (omega arith) in
    let p : 256 ^ length (take 8 s) ≤ 256 ^ 8 = pow-le-pow_right {n = 256} (omega arith) {i = length (take 8 s)} {j = 8} l in
    let q = num-lt (length (take 8 s)) (take 8 s) refl (take-bytes 8 s h) in
    omega arith

kind-inside : (k n : ℕ) (s : List ℕ) → Bytes s → InRange (by_kind k n s)
unfolding by_kind InRange
kind-inside zero n s h = tt
kind-inside (suc zero) n s h = tt
kind-inside (suc (suc zero)) n s h = to_z-Fits w64 (num 0 (take 8 s)) (record { fits = eight-lt s h })
kind-inside (suc (suc (suc zero))) n s h = normal-lt (num 0 (take 8 s)) (eight-lt s h)
kind-inside (suc (suc (suc (suc k)))) n s h = (simp length-take (omega arith), take-bytes n (take text_most s) (take-bytes text_most s h))

kind-room : (w k n : ℕ) (s : List ℕ) → 10 ≤ w → 2 + length (take text_most s) ≤ w → 2 + length (content (by_kind k n s)) ≤ w
unfolding by_kind content be
kind-room w zero n s h l = omega arith
kind-room w (suc zero) n s h l = omega arith
kind-room w (suc (suc zero)) n s h l = h
kind-room w (suc (suc (suc zero))) n s h l = h
kind-room w (suc (suc (suc (suc k)))) n s h l = rw (length-take n (take text_most s)) (omega arith)

pub read-inside : (s : List ℕ) → Bytes s → InRange (read_value s)
unfolding read_value
read-inside s h = kind-inside (get_or s 0 0) (get_or s 1 0) (drop 2 s) (drop-bytes 2 s h)

-- in a cell that holds eight bytes of content and any text that can stand in s
pub read-storable : (w : ℕ) (s : List ℕ) → Bytes s → 10 ≤ w → 2 + length (take text_most (drop 2 s)) ≤ w → Storable w (read_value s)
unfolding read_value
read-storable w s h l r = record {
  inside = read-inside s h;
  room = kind-room w (get_or s 0 0) (get_or s 1 0) (drop 2 s) l r;
}

-- in the cell of which all of s is the bytes
pub read-storable-whole : (s : List ℕ) → Bytes s → 10 ≤ length s → Storable (length s) (read_value s)
read-storable-whole s h l = read-storable (length s) s h l (simp (length-take, length-drop) (omega arith))

-- in a cell of full width
pub read-storable-full : (s : List ℕ) → Bytes s → Storable cell_width (read_value s)
read-storable-full s h = storable-full (read_value s) (read-inside s h)

-- ---- values: which bytes are cells

pub is-cell : (s : List ℕ) → is_cell s ≡ true → value_cell (length s) (read_value s) ≡ s
unfolding is_cell
is-cell s h = leqb-eq (value_cell (length s) (read_value s)) s h

pub cell-is : (s : List ℕ) → value_cell (length s) (read_value s) ≡ s → is_cell s ≡ true
unfolding is_cell
cell-is s e = ap (λ (l : List ℕ). leqb l s) e ∙ leqb-refl s

pub is-cell-of : (w : ℕ) (v : Value) → Storable w v → is_cell (value_cell w v) ≡ true
is-cell-of w v h =
    cell-is (value_cell w v) (
    ap (λ (n : ℕ). value_cell n (read_value (value_cell w v))) (length-value w v h)
    ∙ ap (value_cell w) (ap read_value (sym (append-nil (value_cell w v))) ∙ value-back w v [] h)
    ∙ value-normal w v)

-- ---- values that code makes

proper-inside : (v : D.Value) → Proper v → InRange (meaning v)
unfolding Proper meaning InRange
proper-inside Null h = tt
proper-inside (Boolean b) h = tt
proper-inside (Integer i) h = h
proper-inside (Float x) h = to_bits-lt binary64 x h
proper-inside (Words t) h = (omega (arith, h.short, text-long t h), text-bytes t)

pub proper-storable : (v : D.Value) → Proper v → Storable cell_width (meaning v)
proper-storable v h = storable-full (meaning v) (proper-inside v h)
