use mathlib.Core.List.{List}
use Prim.Native.Nat.{ℕ}
use lib.ListN.{length}
use Rattle.values.specs.Value.{Value}
use Rattle.values.specs.Meaning.{held, ProperCell}
use Rattle.rules.specs.declared.profile.Profile.{Profile}
use Rattle.rules.specs.Journal.{Journal}
use Rattle.rules.specs.Layout.{parse}
use Rattle.rules.specs.Request.{Names}
use Rattle.mapping.specs.Got.{got_or}
use Rattle.records.specs.Record.{request_of}
use Rattle.operations.specs.Told.{outcome_of}
use Rattle.requests.specs.declared.lines.Place.{Place}
use Rattle.requests.specs.Places.{beside, lines_from}
use Rattle.requests.proofs.LinesLeft.{Going}
use Rattle.requests.proofs.lines.put_lines.Given as goal

-- the lines that are left
abbrev left_at : List ℕ → Profile → ℕ → List ℕ → Place → List (List Value)
left_at s p R rec x = lines_from (parse p R s) (got_or Names (request_of rec p)) x.at (held x.key)

-- beside any journal
abbrev pub invariant-loop-step : goal.invariant-loop-step
invariant-loop-step l = record {
  proper : ProperCell l.place.key;
  going : (x : Journal) → Going (outcome_of l.fn.p l.fn.places (beside (parse l.fn.p l.fn.places l.s) x) (request_of l.rec l.fn.p)) l.fn.from (left_at l.s l.fn.p l.fn.places l.rec l.place) l.initial.out l.out l.written l.lines;
}

abbrev pub decreases-loop-step : goal.decreases-loop-step
decreases-loop-step l = length (left_at l.s l.fn.p l.fn.places l.rec l.place)
