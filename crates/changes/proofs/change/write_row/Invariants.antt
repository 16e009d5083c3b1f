-- The name and the first cells are written.
use Rattle.std.proofs.Common.{◌≡◌}
use Rattle.changes.proofs.Writing.{row_so_far}
use Rattle.changes.proofs.change.write_row.Given as goal

abbrev pub invariant-loop-j : goal.invariant-loop-j
invariant-loop-j l = l.part ≡ row_so_far l.initial.part l.row l.p.cell l.j
