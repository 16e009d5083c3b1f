-- The entries of the first columns are exchanged.
use Rattle.changes.proofs.RowReplaced.{ReplaceTurn}
use Rattle.changes.proofs.change.replace_row.Given as goal

abbrev pub invariant-loop-j : goal.invariant-loop-j
invariant-loop-j l = ReplaceTurn l.p l.places l.fn.s l.t l.i l.row l.name l.key l.j l.s
