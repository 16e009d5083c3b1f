-- The names of new files: AFTER.new, then AFTER.new1 to AFTER.new9.
use Rattle.std.specs.Prelude.{ℕ, List, ◌+◌, ◌==◌, ◌≡◌, ◌≤◌, ◌++◌, [], ◌∷◌, cond, codes}

-- The k-th name to try. 48 is the digit 0.
abbrev pub new_name : List ℕ → ℕ → List ℕ
new_name after k = after ++ (codes ".new" ++ cond (k == 0) [] ((48 + k) ∷ []))

-- One of the ten names beside AFTER.
abbrev pub IsNewName : List ℕ → List ℕ → Type 0
IsNewName after name = (k : ℕ) × (k ≤ 9) × (name ≡ new_name after k)
