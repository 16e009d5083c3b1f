-- Names and values in a record's bytes (document 01, "Requests"): what stands at a position and where it ends, or the offset of the
-- first byte that could not be accepted. Assumes nothing.
use Rattle.std.specs.Prelude.{ℕ, ◌+◌, ◌-◌, ◌≡◌, cond, List, ltb, leb, eqb, length, get_or, take, drop}
use Rattle.std.specs.Int.{w64}
use Rattle.std.proofs.Common.{to_z}
use Rattle.values.specs.Bytes.{num}
use Rattle.values.specs.Value.{Value, null, boolean, integer, float, text, text_most, normal_bits}
use Rattle.values.specs.Meaning.{text_bytes, Packed, held, ProperCell}
use Rattle.std.specs.declared.result.Result.{Result}
use Rattle.std.specs.declared.result.Result.TheVariants.{Ok, Err}
use Rattle.values.specs.declared.value.Text.{Text}
use Rattle.values.specs.declared.value.Cell.{Cell}
use Rattle.forms.specs.declared.read.Broken.{Broken}

pub data Read (A : Type 0) : Type 0 where
  got : A → ℕ → Read A
  broken : ℕ → Read A

-- a length byte and bytes. Cut off: past the last byte; a length above 24: the length byte
unfoldable pub name_at : List ℕ → ℕ → Read (List ℕ)
name_at s at =
    cond (leb (length s) at) (broken at)
    (cond (ltb text_most (get_or s at 0)) (broken at)
    (cond (ltb (length s - (at + 1)) (get_or s at 0)) (broken (length s))
    (got (take (get_or s at 0) (drop (at + 1) s)) (at + 1 + get_or s at 0))))

-- a byte 0 or 1
unfoldable pub boolean_at : List ℕ → ℕ → Read Value
boolean_at s b =
    cond (leb (length s) b) (broken b)
    (cond (ltb 1 (get_or s b 0)) (broken b)
    (got (boolean (eqb (get_or s b 0) 1)) (b + 1)))

-- eight bytes, and the value of the number that they spell
unfoldable pub eight_at : List ℕ → ℕ → (ℕ → Value) → Read Value
unfolding num
eight_at s b v = cond (ltb (length s - b) 8) (broken (length s)) (got (v (num 0 (take 8 (drop b s)))) (b + 8))

abbrev pub as_text : Read (List ℕ) → Read Value
as_text (got t n) = got (text t) n
as_text (broken x) = broken x

-- what follows a kind byte k; a float is normalised in this reading
unfoldable pub content_at : List ℕ → ℕ → ℕ → Read Value
content_at s k b =
    cond (eqb k 0) (got null b)
    (cond (eqb k 1) (boolean_at s b)
    (cond (eqb k 2) (eight_at s b (λ w. integer (to_z w64 w)))
    (cond (eqb k 3) (eight_at s b (λ w. float (normal_bits w)))
    (cond (eqb k 4) (as_text (name_at s b)) (broken (b - 1))))))

-- a kind byte and its content
unfoldable pub value_at : List ℕ → ℕ → Read Value
value_at s at = cond (leb (length s) at) (broken at) (content_at s (get_or s at 0) (at + 1))

-- ---- the code's answers

abbrev pub ReadName : Type 0
ReadName = Result (Text × ℕ) Broken

abbrev pub ReadCell : Type 0
ReadCell = Result (Cell × ℕ) Broken

-- by what a thing that was read means
abbrev pub read_as : {A B : Type 0} → (A → B) → Result (A × ℕ) Broken → Read B
read_as f (Ok r) = got (f r.0) r.1
read_as f (Err b) = broken b.at

abbrev pub name_read : ReadName → Read (List ℕ)
name_read (Ok r) = got (text_bytes r.0) r.1
name_read (Err b) = broken b.at

abbrev pub ProperName : ReadName → Type 0
ProperName (Ok r) = Packed r.0
ProperName (Err b) = Unit {0}

abbrev pub cell_read : ReadCell → Read Value
cell_read (Ok r) = got (held r.0) r.1
cell_read (Err b) = broken b.at

abbrev pub ProperRead : ReadCell → Type 0
ProperRead (Ok r) = ProperCell r.0
ProperRead (Err b) = Unit {0}

pub record NameRead (s : List ℕ) (at : ℕ) (r : ReadName) : Type 0 where
  pub is : name_read r ≡ name_at s at
  pub proper : ProperName r

pub record CellRead (s : List ℕ) (at : ℕ) (r : ReadCell) : Type 0 where
  pub is : cell_read r ≡ value_at s at
  pub proper : ProperRead r
