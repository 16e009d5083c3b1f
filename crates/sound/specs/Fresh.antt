-- A fresh store in a lent buffer: of the right length for some number of row places it is the empty store's bytes, else 38 and unchanged.
-- Assumes nothing.
use Rattle.std.specs.Prelude.{◌≡◌, cond, ℕ, List}
use Rattle.rules.specs.declared.profile.Profile.{Profile}
use Rattle.rules.specs.Request.{Answer}
use Rattle.rules.specs.Refusal.{StoreUnsound}
use Rattle.rules.specs.State.{empty}
use Rattle.rules.specs.Layout.{image, places_of}
use Rattle.rules.specs.Request.{said, ok, no}
use Rattle.rules.specs.Sound.{right_length}

pub record Freshened (p : Profile) (before after : List ℕ) (a : Answer) : Type 0 where
  pub answer : said a ≡ cond (right_length p before) (ok 0) (no StoreUnsound 0)
  pub bytes : after ≡ cond (right_length p before) (image p (places_of p before) empty) before
