-- Records from `at` to `end` start with the name.
use Rattle.values.specs.Meaning.{text_bytes}
use Rattle.laid.proofs.Runs.{RunTo}
use Rattle.laid.proofs.run.run_from.Given as goal

abbrev pub invariant-loop-end : goal.invariant-loop-end
invariant-loop-end l = RunTo (text_bytes l.name) l.width l.count l.area l.at l.end
