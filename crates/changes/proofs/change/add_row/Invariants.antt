-- The entries of the first columns are put in.
use Rattle.changes.proofs.RowAdded.{AddTurn}
use Rattle.changes.proofs.change.add_row.Given as goal

abbrev pub invariant-loop-j : goal.invariant-loop-j
invariant-loop-j l = AddTurn l.p l.places l.fn.s l.t l.row l.name l.key l.i l.j l.s
