use Rattle.std.proofs.Common.{◌≡◌, ℕ, ◌-◌, ◌<◌, ◌^◌}
use Rattle.records.specs.Walked.{Walked, EndsAs, in_a_row}
use Rattle.records.proofs.record.times.Given as goal

-- what remains from here ends where the whole does
abbrev pub invariant-loop : goal.invariant-loop
invariant-loop g l =
    (l.next < 2 ^ 64)
    × ((walk : ℕ → Walked) → EndsAs (goal.F-post g l.fn.end) walk → in_a_row walk (l.fn.n - l.counter) l.next ≡ in_a_row walk l.fn.n l.fn.at)
