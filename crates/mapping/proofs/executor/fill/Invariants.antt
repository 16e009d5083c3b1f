use Rattle.std.proofs.Common.{◌≡◌, length}
use Rattle.rules.specs.Rows.{given}
use Rattle.checks.specs.Keys.{values_of}
use Rattle.laid.proofs.Columns.{columns_of}
use Rattle.mapping.specs.Mapped.{map_of}
use Rattle.laid.specs.Row.{in_flight}
use Rattle.mapping.proofs.Mapping.{Filling}
use Rattle.mapping.proofs.executor.fill.Given as goal

-- the row holds the first j columns' values, as many as its count says, and the rest of it follows
abbrev pub invariant-loop-j : goal.invariant-loop-j
invariant-loop-j l = Filling (given (map_of l.rec l.m) (values_of l.values)) (columns_of l.p l.table) (in_flight l.row) l.j × (l.row.count ≡ length (in_flight l.row))
