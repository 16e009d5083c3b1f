-- Where a reading ends or breaks, whatever it read. Assumes nothing.
use Rattle.forms.specs.Read.{Read, got, broken}
use Rattle.std.specs.Prelude.{ℕ, zero, suc, ◌≡◌, ◌<◌, ◌^◌}
use Rattle.std.specs.declared.result.Result.{Result}
use Rattle.std.specs.declared.result.Result.TheVariants.{Ok, Err}
use Rattle.forms.specs.declared.read.Broken.{Broken}

-- where something ends, or where it breaks
abbrev pub Walked : Type 0
Walked = Result ℕ Broken

unfoldable pub walked_as : {A : Type 0} → Read A → Walked
walked_as (got a n) = Ok n
walked_as (broken x) = Err (record { at = x })

-- a walk, and then the next one from where it ends
unfoldable pub and_on : Walked → (ℕ → Walked) → Walked
and_on (Ok n) f = f n
and_on (Err x) f = Err x

-- n walks in a row
unfoldable pub in_a_row : (ℕ → Walked) → ℕ → ℕ → Walked
in_a_row f zero at = Ok at
in_a_row f (suc n) at = and_on (f at) (in_a_row f n)

-- what a closure may answer at a position is what f says
abbrev pub EndsAs : (ℕ → Walked → Type 0) → (ℕ → Walked) → Type 0
EndsAs post f = (at : ℕ) (r : Walked) → at < 2 ^ 64 → post at r → r ≡ f at
