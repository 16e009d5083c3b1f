-- The entries of the first columns are taken out.
use Rattle.changes.proofs.RowRemoved.{RemoveTurn}
use Rattle.changes.proofs.change.remove_row.Given as goal

abbrev pub invariant-loop-j : goal.invariant-loop-j
invariant-loop-j l = RemoveTurn l.p l.places l.fn.s l.t l.i l.name l.count l.key l.j l.s
