use Rattle.records.specs.Record.{map_at}
use Rattle.records.proofs.Walking.{step_from, flagged-yes, flagged-no}
use Rattle.std.proofs.Common.{eq-eqb}
use borrow.Author.Tests.{ne_eqb}
use Rattle.records.proofs.record.map_end.Goals as goal

pub returns-then-byte_of-eq1 : goal.returns-then-byte_of-eq1
unfolding map_at
returns-then-byte_of-eq1 c =
    step_from _ _ _ _ _ _ c.byte_of.ensures _ _ c.in_ok-a.ensures (flagged-yes _ _ _ _ (eq-eqb _ _ c.if-byte_of-eq1.true) c.map_columns_end.ensures)

pub returns-else-byte_of-eq1 : goal.returns-else-byte_of-eq1
unfolding map_at
returns-else-byte_of-eq1 c =
    step_from _ _ _ _ _ _ c.byte_of.ensures _ _ c.in_ok-a.ensures (flagged-no _ _ _ (ne_eqb _ _ c.if-byte_of-eq1.false))
