use Prim.Native.Nat.{◌-◌}
use lib.ListN.{length}
use Rattle.requests.proofs.RunSteps.{Running, Passed}
use Rattle.requests.proofs.entry.run.Given as goal

abbrev pub invariant-loop-out : goal.invariant-loop-out
invariant-loop-out l = record {
  running : Running l.fn.p l.fn.places l.input l.fn.ended l.fn.from l.fn.s l.fn.j l.s l.j l.fn.out l.out l.taken l.count l.written l.lines;
  passed : Passed l.fn.p l.input l.fn.ended l.taken l.skip l.count;
}

abbrev pub decreases-loop-out : goal.decreases-loop-out
decreases-loop-out l = length l.input - l.taken
