-- The two numbers never exceed the cases that are done.
use Rattle.std.proofs.Common.{◌≤◌}
use Rattle.replay.proofs.all_cases.Given as goal

abbrev pub invariant-loop : goal.invariant-loop
invariant-loop g l = (l.t.agree ≤ l.counter) × (l.t.differ ≤ l.counter)
