use Rattle.std.proofs.Common.{◌≡◌, ◌+◌, ◌-◌, ◌^◌, ◌≤◌, ◌<◌}
use Rattle.forms.specs.Print.{count}
use Rattle.forms.proofs.print.digit_count.Given as goal

-- what is counted, and the digits of the rest, are the digits of m
abbrev pub invariant-loop-rest : goal.invariant-loop-rest
invariant-loop-rest l = record { counted : l.n + count (20 - l.n) l.rest ≡ count 20 l.m; few : l.n ≤ 20; left : l.rest < 10 ^ (20 - l.n) }

abbrev pub decreases-loop-rest : goal.decreases-loop-rest
decreases-loop-rest l = l.rest
