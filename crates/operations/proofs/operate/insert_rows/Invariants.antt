use Rattle.operations.proofs.Inserting.{Inserting}
use Rattle.operations.proofs.operate.insert_rows.Given as goal

abbrev pub invariant-loop-i : goal.invariant-loop-i
invariant-loop-i l = Inserting l.fn.p l.fn.places l.fn.s l.fn.j l.fn.t l.rec l.fn.m l.fn.at l.fn.n l.s l.j l.q l.i
