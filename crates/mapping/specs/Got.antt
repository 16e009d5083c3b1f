-- A reading that did not break, and what it read; n readings in a row as far as they go. Assumes nothing.
use Rattle.std.specs.Prelude.{Bool, true, false}
use Rattle.forms.specs.Read.{Read, got, broken}

module _ {A : Type 0} where
  unfoldable pub is_got : Read A → Bool
  is_got (got a n) = true
  is_got (broken x) = false

  unfoldable pub got_or : A → Read A → A
  got_or d (got a n) = a
  got_or d (broken x) = d
