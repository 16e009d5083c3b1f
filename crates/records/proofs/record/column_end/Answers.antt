use Rattle.records.specs.Record.{column_at}
use Rattle.records.proofs.Walking.{stop, thrown, step, step_from, last, flagged-yes, flagged-no}
use Rattle.records.proofs.record.column_end.Goals as goal
use Rattle.records.proofs.record.column_end.Goals.{then-flags-eq1+in_ok-d, else-flags-eq1}
use borrow.Author.Tests.{eq-eqb, ne_eqb}

pub returns-in_err-b : goal.returns-in_err-b
unfolding column_at
returns-in_err-b c =
    thrown _ _ _ c.from_residual-in_err-b.ensures.1
    (step _ _ _ _ c.in_ok-a.ensures (λ _. stop _ _ _ c.in_err-b.ensures))

pub returns-in_err-c : goal.returns-in_err-c
unfolding column_at
returns-in_err-c c =
    thrown _ _ _ c.from_residual-in_err-c.ensures.1
    (step _ _ _ _ c.in_ok-a.ensures (λ _. step _ _ _ _ c.in_ok-b.ensures (λ _. stop _ _ _ c.in_err-c.ensures)))

pub returns-in_err-d : goal.returns-in_err-d
unfolding column_at
returns-in_err-d c =
    thrown _ _ _ c.from_residual-in_err-d.ensures.1
    (step _ _ _ _ c.in_ok-a.ensures
    (λ _.
    step _ _ _ _ c.in_ok-b.ensures
    (λ _.
    step_from _ _ _ _ _ _ c.byte_of-flags.ensures _ _ c.in_ok-c.ensures
    (stop _ _ _ (flagged-yes _ _ _ _ (eq-eqb _ _ c.if-flags-eq1.true) c.in_err-d.ensures)))))

pub returns-then-flags-eq1-2 : goal.returns-then-flags-eq1-2
unfolding column_at
returns-then-flags-eq1-2 c =
    step _ _ _ _ c.in_ok-a.ensures
    (λ _.
    step _ _ _ _ c.in_ok-b.ensures
    (λ _.
    step_from _ _ _ _ _ _ c.byte_of-flags.ensures _ _ c.in_ok-c.ensures
    (step _ _ _ _
    (elim c.if-flags-eq1.branch [
      | then-flags-eq1+in_ok-d w ↦ flagged-yes _ _ _ _ (eq-eqb _ _ w.if-flags-eq1.true) (rw w.d-is w.in_ok-d.ensures)
      | else-flags-eq1 w ↦ rw w.d-is (flagged-no _ _ _ (ne_eqb _ _ w.if-flags-eq1.false))
    ])
    (λ _. last _ _ _ (flagged-yes _ _ _ _ (eq-eqb _ _ c.if-flags-eq1-2.true) c.name_end-then-flags-eq1-2.ensures)))))

pub returns-else-flags-eq1-2 : goal.returns-else-flags-eq1-2
unfolding column_at
returns-else-flags-eq1-2 c =
    step _ _ _ _ c.in_ok-a.ensures
    (λ _.
    step _ _ _ _ c.in_ok-b.ensures
    (λ _.
    step_from _ _ _ _ _ _ c.byte_of-flags.ensures _ _ c.in_ok-c.ensures
    (step _ _ _ _
    (elim c.if-flags-eq1.branch [
      | then-flags-eq1+in_ok-d w ↦ flagged-yes _ _ _ _ (eq-eqb _ _ w.if-flags-eq1.true) (rw w.d-is w.in_ok-d.ensures)
      | else-flags-eq1 w ↦ rw w.d-is (flagged-no _ _ _ (ne_eqb _ _ w.if-flags-eq1.false))
    ])
    (λ _. last _ _ _ (flagged-no _ _ _ (ne_eqb _ _ c.if-flags-eq1-2.false))))))
