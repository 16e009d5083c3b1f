-- The keys that are left come to what all of them do.
use Rattle.checks.specs.Keys.{values_of}
use Rattle.store.proofs.KeysRemoved.{KeysTurn}
use Rattle.store.proofs.rows.remove_keys.Given as goal

abbrev pub invariant-loop-cell : goal.invariant-loop-cell
invariant-loop-cell l = KeysTurn l.p l.places l.fn.s l.fn.j l.t (values_of l.values) l.s l.j (values_of l.cell-iterator) l.keys
