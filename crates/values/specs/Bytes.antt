-- Numbers as bytes, the highest first, at any width; padding; lists of bytes compared. Assumes nothing.
use Rattle.std.specs.Prelude.{ℕ, zero, suc, ◌+◌, ◌-◌, ◌*◌, ◌/◌, ◌%◌, ◌<◌, Bool, true, false, ◌&&◌, List, [], ◌∷◌, ◌++◌, eqb, length, get_or, replicate}

-- the k low bytes of w, and then r
unfoldable pub be : ℕ → ℕ → List ℕ → List ℕ
be zero w r = r
be (suc k) w r = be k (w / 256) (w % 256 ∷ r)

-- the number that the bytes s spell after a
unfoldable pub num : ℕ → List ℕ → ℕ
num a [] = a
num a (x ∷ s) = num (a * 256 + x) s

-- l, and zeros up to k bytes
unfoldable pub pad : ℕ → List ℕ → List ℕ
pad k l = l ++ replicate (k - length l) 0

-- two lists are the same
unfoldable pub leqb : List ℕ → List ℕ → Bool
leqb [] [] = true
leqb [] (y ∷ ys) = false
leqb (x ∷ xs) [] = false
leqb (x ∷ xs) (y ∷ ys) = eqb x y && leqb xs ys

-- all are zero
unfoldable pub zeros : List ℕ → Bool
zeros [] = true
zeros (x ∷ xs) = eqb x 0 && zeros xs

-- each is below 256
abbrev pub Bytes : List ℕ → Type 0
Bytes s = (i : ℕ) → get_or s i 0 < 256
