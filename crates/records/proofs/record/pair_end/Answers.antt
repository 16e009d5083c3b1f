use Rattle.records.specs.Record.{pair_at}
use Rattle.records.proofs.Walking.{step, last}
use Rattle.records.proofs.record.pair_end.Goals as goal

pub returns : goal.returns
unfolding pair_at
returns c =
    step _ _ _ _ c.in_ok-a.ensures (λ _. last _ _ _ c.values_end.ensures)
