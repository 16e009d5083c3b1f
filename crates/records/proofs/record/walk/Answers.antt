use Rattle.records.specs.Record.{request_of}
use Rattle.records.proofs.Walking.{stop, thrown, step, step_byte, left_over, none_over}
use Rattle.records.proofs.record.walk.Goals as goal

pub returns-in_err-b : goal.returns-in_err-b
unfolding request_of
returns-in_err-b c =
    thrown _ _ _ c.from_residual-in_err-b.ensures.1
    (step _ _ _ _ c.in_ok-a.ensures (λ _. stop _ _ _ c.in_err-b.ensures))

pub returns-in_err-end : goal.returns-in_err-end
unfolding request_of
returns-in_err-end c =
    thrown _ _ _ c.from_residual-in_err-end.ensures.1
    (step _ _ _ _ c.in_ok-a.ensures (λ _. step_byte _ _ _ _ _ _ c.byte_of.ensures c.in_ok-b.ensures (stop _ _ _ c.in_err-end.ensures)))

pub returns-then-end-s : goal.returns-then-end-s
unfolding request_of
returns-then-end-s c =
    step _ _ _ _ c.in_ok-a.ensures
    (λ _.
    step_byte _ _ _ _ _ _ c.byte_of.ensures c.in_ok-b.ensures (step _ _ _ _ c.in_ok-end.ensures (λ q. left_over _ q _ c.if-end-s.true)))

pub returns : goal.returns
unfolding request_of
returns c =
    step _ _ _ _ c.in_ok-a.ensures
    (λ _.
    step_byte _ _ _ _ _ _ c.byte_of.ensures c.in_ok-b.ensures (step _ _ _ _ c.in_ok-end.ensures (λ q. none_over _ q _ c.if-end-s.false)))
