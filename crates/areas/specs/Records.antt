-- An area as a list of records, each of the same width, with zeros after them. Assumes nothing.
use Rattle.std.specs.Prelude.{◌≡◌, ℕ, zero, suc, ◌-◌, ◌*◌, List, [], ◌∷◌, ◌++◌, length, take, drop, replicate}

-- the records one after the other
unfoldable pub joined : List (List ℕ) → List ℕ
joined [] = []
joined (r ∷ rs) = r ++ joined rs

-- each record has w bytes
unfoldable pub Wide : ℕ → List (List ℕ) → Type 0
Wide w [] = Unit
Wide w (r ∷ rs) = (length r ≡ w) × Wide w rs

-- the bytes of an area that holds the records, with `spare` places left
unfoldable pub area : ℕ → List (List ℕ) → ℕ → List ℕ
area w rs spare = joined rs ++ replicate (spare * w) 0

-- an area of `places` places
unfoldable pub filled : ℕ → ℕ → List (List ℕ) → List ℕ
filled w places rs = area w rs (places - length rs)

-- the first n records of w bytes
unfoldable pub records : ℕ → ℕ → List ℕ → List (List ℕ)
records w zero xs = []
records w (suc n) xs = take w xs ∷ records w n (drop w xs)
