use Rattle.journal.specs.Back.{Halfway}
use Rattle.journal.proofs.back.unwind.Given as goal

abbrev pub invariant-loop-i : goal.invariant-loop-i
invariant-loop-i l = Halfway l.p l.places l.fn.s l.fn.j l.i l.s l.j
