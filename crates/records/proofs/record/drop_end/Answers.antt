use Rattle.records.specs.Record.{drop_at}
use Rattle.records.proofs.Walking.{step, last}
use Rattle.records.proofs.record.drop_end.Goals as goal

pub returns : goal.returns
unfolding drop_at
returns c = step _ _ _ _ c.in_ok-a.ensures (λ _. last _ _ _ c.byte_within.ensures)
