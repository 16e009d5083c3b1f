use Prim.Native.Nat.{◌+◌}
use Rattle.operations.proofs.SchemaWritten.{Schemed, schema_lead}
use Rattle.operations.proofs.create.write_schema.Given as goal

-- the columns read so far are written, with zeros behind them
abbrev pub invariant-loop : goal.invariant-loop
invariant-loop l =
    Schemed l.fn.p l.rec (schema_lead l.rec l.fn.at l.next l.count) l.count (l.next + 2) l.out l.counter l.from l.q
