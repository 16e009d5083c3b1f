use Rattle.records.specs.Record.{lookup_at}
use Rattle.records.proofs.Walking.{step, last, stop, thrown}
use Rattle.records.proofs.record.lookup_end.Goals as goal

pub returns-in_err-b : goal.returns-in_err-b
unfolding lookup_at
returns-in_err-b c =
    thrown _ _ _ c.from_residual-in_err-b.ensures.1
    (step _ _ _ _ c.in_ok-a.ensures (λ _. stop _ _ _ c.in_err-b.ensures))

pub returns : goal.returns
unfolding lookup_at
returns c =
    step _ _ _ _ c.in_ok-a.ensures (λ _. step _ _ _ _ c.in_ok-b.ensures (λ _. last _ _ _ c.values_end.ensures))
