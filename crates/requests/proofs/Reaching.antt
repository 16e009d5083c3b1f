-- How far a run comes over the records that are left: no room, no record, one whose text fits, one whose text does not. Assumes nothing.
use Prim.Native.Nat.{ℕ, ◌+◌, ◌-◌, ◌≤◌, ◌<◌}
use native.Mathlib.Omega.{arith}
use mathlib.Core.Path.{◌≡◌, ap}
use mathlib.Core.Bool.{Bool, cond}
use mathlib.Core.List.{List, [], ◌∷◌}
use lib.ListN.{length}
use borrow.Author.Tests.{lt-ltb, le-ltb, le-leb, lt-leb}
use Rattle.forms.specs.Read.{Read}
use Rattle.rules.specs.declared.profile.Profile.{Profile}
use Rattle.rules.specs.Journal.{Books}
use Rattle.rules.specs.Request.{Request}
use Rattle.rules.specs.Step.{Outcome, changed}
use Rattle.requests.specs.declared.entry.Halt.TheVariants.{Full, Waiting, Stopped}
use Rattle.requests.specs.Lines.{row_most}
use Rattle.operations.specs.Told.{outcome_of}
use Rattle.requests.specs.Places.{text_from, lines_to}
use Rattle.requests.specs.Stream.{Reach, halted, further, reach}

-- first n records and then one, or none
pub further-one : (n : ℕ) (x : Reach) → further n (further 1 x) ≡ further (n + 1) x
further-one n x =
    let e : n + (1 + x.count) ≡ n + 1 + x.count = omega arith in
    ap (λ (k : ℕ). record { count = k; lines = x.lines; halt = x.halt }) e

pub further-none : (x : Reach) → further 0 x ≡ x
further-none x =
    let e : 0 + x.count ≡ x.count = omega arith in
    ap (λ (k : ℕ). record { count = k; lines = x.lines; halt = x.halt }) e

module _ (p : Profile) (R : ℕ) (ended : Bool) (b : Books) (i room : ℕ) where
  pub reach-full : (qs : List (Read Request)) → room < row_most → reach p R ended b qs i room ≡ halted i Full
  unfolding reach
  reach-full [] h = rw (lt-ltb room row_most h)
  reach-full (q ∷ qs) h = rw (lt-ltb room row_most h)

  module _ (begun : row_most ≤ room) where
    pub reach-end : reach p R ended b [] i room ≡ halted i (cond ended Stopped Waiting)
    unfolding reach
    reach-end = rw (le-ltb room row_most begun)

    module _ (q : Read Request) (qs : List (Read Request)) where
      abbrev o : Outcome
      o = outcome_of p R b q

      pub reach-on : length (text_from o i) ≤ room
          → reach p R ended b (q ∷ qs) i room ≡ further 1 (reach p R ended (changed o.changes b) qs 0 (room - length (text_from o i)))
      unfolding reach
      reach-on h = rw (le-ltb room row_most begun, le-leb (length (text_from o i)) room h)

      pub reach-stays : room < length (text_from o i) → reach p R ended b (q ∷ qs) i room ≡ halted (lines_to o i room) Full
      unfolding reach
      reach-stays h = rw (le-ltb room row_most begun, lt-leb (length (text_from o i)) room h)
