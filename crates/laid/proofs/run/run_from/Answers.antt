-- The record at `end` starts with the name, or the run is over.
use Rattle.laid.proofs.Runs.{run_on, run-over, run_past}
use Rattle.laid.proofs.run.run_from.Goals as goal

pub returns-then-not-is_eq : goal.returns-then-not-is_eq
returns-then-not-is_eq c = run-over _ _ _ _ _ _ c.loop-end.invariant c.loop-end-test.true _ c.compare_named.ensures c.if-not-is_eq.ensures

pub loop-end-preserved : goal.loop-end-preserved
loop-end-preserved c = run_on _ _ _ _ _ _ c.loop-end.invariant c.loop-end-test.true _ c.compare_named.ensures c.if-not-is_eq.ensures

pub returns : goal.returns
returns c = run_past _ _ _ _ _ _ c.loop-end.invariant c.loop-end-test.false
