-- What comes next of the bytes at hand, case by case. Assumes nothing.
use Prim.Native.Nat.{◌+◌, ◌≤◌, ◌<◌, ℕ}
use mathlib.Core.Path.{◌≡◌}
use mathlib.Core.Bool.{Bool, true, false}
use mathlib.Core.List.{List}
use mathlib.Core.Logic.{◌⊎◌}
use native.Mathlib.Omega.{arith}
use lib.ListN.{length}
use borrow.Author.Tests.{eq-eqb}
use Rattle.std.proofs.lemmas.Bool.Decides.{nat_tests}
use Rattle.records.specs.Frame.{framed, short, length_of, least_length, most_length}
use Rattle.records.specs.declared.frame.Framed.TheVariants.{Whole, Skip, Done}

module _ (s : List ℕ) (ended : Bool) where
  pub empty : length s ≡ 0 → ended ≡ true → Done ≡ framed s ended
  unfolding framed
  empty h e = simp (eq-eqb _ _ h, e)

  pub missing : length s < 2 → (length s ≡ 0 → ended ≡ false) → short ended ≡ framed s ended
  unfolding framed
  missing h e = grind (arith, nat_tests)

  module _ (n : ℕ) (l : 2 ≤ length s) (is : n ≡ length_of s) where
    pub bad_length : (n < least_length) ⊎ ((least_length ≤ n) × (most_length < n)) → Skip (2 + n) ≡ framed s ended
    unfolding framed
    bad_length h = grind (arith, nat_tests)

    module _ (h : least_length ≤ n) (k : n ≤ most_length) where
      pub cut : length s < 2 + n → short ended ≡ framed s ended
      unfolding framed
      cut m = grind (arith, nat_tests)

      pub whole : 2 + n ≤ length s → Whole (2 + n) ≡ framed s ended
      unfolding framed
      whole m = grind (arith, nat_tests)
