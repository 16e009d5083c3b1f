use Rattle.journal.proofs.Halfway.{Forth}
use Rattle.journal.proofs.back.rewind.Given as goal

abbrev pub invariant-loop-i : goal.invariant-loop-i
invariant-loop-i l = Forth l.p l.places l.fn.s l.fn.j l.from l.i l.s l.j
