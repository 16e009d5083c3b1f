-- How far `serve::answer_all` came: each turn that stops for room leaves less text. Assumes nothing.
use Rattle.std.proofs.Common.{length}
use Rattle.serve.specs.Buffers.{lent}
use Rattle.serve.proofs.Turning.{at_hand}
use Rattle.serve.proofs.Resting.{Answering}
use Rattle.serve.proofs.answer_all.Given as goal

abbrev pub invariant-loop-e : goal.invariant-loop-e
invariant-loop-e g l = Answering l.p l.places l.fn.f (lent l.fn.s l.fn.j) (lent l.s l.j) l.fn.input l.input l.out l.flow

abbrev pub decreases-loop-e : goal.decreases-loop-e
decreases-loop-e g l = length (at_hand l.p l.places (lent l.s l.j) l.flow l.input)
