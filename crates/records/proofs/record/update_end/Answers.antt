use Rattle.std.proofs.Common.{◌∙◌, rules}
use Rattle.records.specs.Record.{update_at}
use Rattle.records.proofs.Walking.{step, last, step_byte, row-times, stop, thrown}
use Rattle.records.proofs.record.update_end.Goals as goal

pub returns-in_err-b : goal.returns-in_err-b
unfolding update_at
returns-in_err-b c =
    thrown _ _ _ c.from_residual-in_err-b.ensures.1
    (step _ _ _ _ c.in_ok-a.ensures (λ _. stop _ _ _ c.in_err-b.ensures))

pub returns : goal.returns
unfolding update_at
returns c =
    step _ _ _ _ c.in_ok-a.ensures (λ _. step_byte _ _ _ _ _ _ c.byte_of.ensures c.in_ok-b.ensures (last _ _ _ (c.times.ensures _ (λ at r l e. search rules) ∙ row-times _ _ _)))
