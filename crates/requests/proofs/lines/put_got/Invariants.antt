use mathlib.Core.Path.{◌≡◌}
use Rattle.values.specs.Meaning.{text_bytes}
use Rattle.rules.specs.Layout.{parse}
use Rattle.checks.specs.Keys.{values_of}
use Rattle.requests.proofs.NextLines.{Passing}
use Rattle.requests.proofs.lines.put_got.Given as goal

-- nothing is written, and what is left of the lines is not changed by the keys that were passed over
abbrev pub invariant-loop-k : goal.invariant-loop-k
invariant-loop-k l = record {
  goes_on : (goal.iterator-loop-k).can_next l.k-iterator;
  unwritten : l.out ≡ l.initial.out;
  passing : Passing (parse l.fn.p l.fn.places l.s).rows (text_bytes l.fn.name) (values_of l.fn.values) l.fn.passed l.k-iterator;
}
