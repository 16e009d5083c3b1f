-- Readings one after the other: what stands at a position and where it ends, or the offset of the first byte that could not be accepted.
-- Assumes nothing.
use Rattle.std.specs.Prelude.{ℕ, zero, suc, ◌+◌, Bool, cond, List, [], ◌∷◌, leb, ltb, length, get_or}
use Rattle.std.proofs.Math.Option.{Option, none, some}
use Rattle.forms.specs.Read.{Read, got, broken}

module _ {A B : Type 0} where
  -- a reading, and then the next one from where it ends
  unfoldable pub and_then : Read A → (A → ℕ → Read B) → Read B
  and_then (got a n) f = f a n
  and_then (broken x) f = broken x

module _ {A : Type 0} where
  -- n readings in a row
  unfoldable pub times : (ℕ → Read A) → ℕ → ℕ → Read (List A)
  times f zero at = got [] at
  times f (suc n) at = and_then (f at) (λ a b. and_then (times f n b) (λ rest c. got (a ∷ rest) c))

  -- only where it is flagged
  unfoldable pub flagged : Bool → (ℕ → Read A) → ℕ → Read (Option A)
  flagged b f at = cond b (and_then (f at) (λ a n. got (some a) n)) (got none at)

-- a byte
unfoldable pub byte_at : List ℕ → ℕ → Read ℕ
byte_at s at = cond (leb (length s) at) (broken at) (got (get_or s at 0) (at + 1))

-- a byte from low to high
unfoldable pub byte_from : ℕ → ℕ → List ℕ → ℕ → Read ℕ
byte_from low high s at = and_then (byte_at s at) (λ b n. cond (ltb b low) (broken at) (cond (ltb high b) (broken at) (got b n)))
