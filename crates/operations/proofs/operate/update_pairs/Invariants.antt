use Rattle.operations.proofs.PairsWritten.{Updating}
use Rattle.operations.proofs.operate.update_pairs.Given as goal

abbrev pub invariant-loop-k : goal.invariant-loop-k
invariant-loop-k l = Updating l.fn.p l.fn.places l.fn.s l.fn.j l.fn.t l.rec l.fn.at l.fn.n l.s l.j l.q l.k
