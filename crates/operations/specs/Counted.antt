-- A count byte and as many values, where they stand in a record. Assumes nothing.
use Rattle.std.specs.Prelude.{◌≡◌, ℕ, ◌+◌, List, get_or}
use Rattle.checks.specs.declared.keys.Values.{Values}

pub record Counted (s : List ℕ) (at : ℕ) (v : Values) : Type 0 where
  pub bytes : v.bytes.now ≡ s
  pub from : v.at ≡ at + 1
  pub count : v.count ≡ get_or s at 0
