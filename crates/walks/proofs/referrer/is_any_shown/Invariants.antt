use Rattle.std.proofs.Common.{◌≡◌}
use Rattle.values.specs.Basic.{any}
use Rattle.rules.specs.Layout.{parse}
use Rattle.laid.specs.Row.{table_in, column_in}
use Rattle.checks.specs.Keys.{values_of}
use Rattle.walks.specs.Referring.{shown}
use Rattle.walks.proofs.referrer.is_any_shown.Given as goal

abbrev pub invariant-loop-cell : goal.invariant-loop-cell
invariant-loop-cell l =
    any (shown (parse l.p l.places l.s).rows (table_in l.p l.places l.s l.t) l.j (column_in l.p l.places l.s l.t l.j)) (values_of l.cell-iterator)
    ≡ any (shown (parse l.p l.places l.s).rows (table_in l.p l.places l.s l.t) l.j (column_in l.p l.places l.s l.t l.j)) (values_of l.values)
