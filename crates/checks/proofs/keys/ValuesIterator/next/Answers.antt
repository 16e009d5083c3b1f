-- What was read decides: no value is left, or it is the first, and one fewer is left.
use Rattle.std.proofs.Common.{length, arith, ap, sym, ◌∙◌}
use Rattle.checks.proofs.KeysRead.{none_left, none-read, first-value}
use Rattle.checks.proofs.keys.ValuesIterator.next.Goals as goal

pub returns-then-self-eq0-clause-steps : goal.returns-then-self-eq0-clause-steps
returns-then-self-eq0-clause-steps c = let e = none_left c.args.self.now c.if-self-eq0.true in (e, e)

pub returns-in_err-cell-clause-steps : goal.returns-in_err-cell-clause-steps
returns-in_err-cell-clause-steps c =
    let e = none-read c.args.self.now c.value_at.result c.value_at.ensures (sym c.ok.ensures.value ∙ c.in_err-cell.was) in
    rw c.from_residual.ensures (e, e)

pub returns-clause-steps : goal.returns-clause-steps
returns-clause-steps c =
    first-value c.args.self.now c.value_at.result c.value_at.ensures c.if-self-eq0.false c.in_ok-cell.cell c.in_ok-cell.end (sym c.ok.ensures.value ∙ c.in_ok-cell.was)

pub returns-clause-goes : goal.returns-clause-goes
returns-clause-goes c =
    record { on = λ _. (tt, tt, omega (arith, ap length (returns-clause-steps c).0)); keeps = tt; rests = λ _. tt }
