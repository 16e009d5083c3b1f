-- How far `serve::run` came: it waits for more. Assumes nothing.
use Rattle.serve.specs.Buffers.{lent}
use Rattle.serve.proofs.Serving.{Serving}
use Rattle.serve.proofs.run.Given as goal

abbrev pub invariant-loop : goal.invariant-loop
invariant-loop g l = Serving l.p l.places (lent l.fn.s l.fn.j) (lent l.s l.j) l.input l.f
