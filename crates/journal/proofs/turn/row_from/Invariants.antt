use Rattle.std.proofs.Common.{◌≡◌, length}
use Rattle.laid.specs.Row.{in_flight}
use Rattle.journal.proofs.Flying.{Filled}
use Rattle.journal.proofs.turn.row_from.Given as goal

abbrev pub invariant-loop-j : goal.invariant-loop-j
invariant-loop-j l = Filled l.p l.rec (in_flight l.row) l.j × (l.row.count ≡ length (in_flight l.row))
