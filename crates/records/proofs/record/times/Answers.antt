use Rattle.std.proofs.Common.{◌∙◌, ◌+◌, ◌-◌, arith, rules}
use Rattle.records.proofs.Walking.{row-on, row-stop, row_none, thrown}
use Rattle.records.proofs.record.times.Goals as goal

pub returns-in_err-next : goal.returns-in_err-next
returns-in_err-next g c walk is =
    thrown _ _ _ c.from_residual.ensures.1
    (row-stop walk (c.args.n - c.loop.counter) (c.args.n - (c.loop.counter + 1)) _ (omega arith) _ (is _ _ (omega arith) c.in_err-next.ensures) ∙ c.loop.invariant.1 walk is)

pub loop-preserved : goal.loop-preserved
loop-preserved g c = (
  search rules,
  λ walk is. row-on walk _ _ _ (omega arith) _ (is _ _ (omega arith) c.in_ok-next.ensures) ∙ c.loop.invariant.1 walk is,
)

pub returns : goal.returns
returns g c walk is = row_none walk _ _ (omega arith) ∙ c.loop.invariant.1 walk is
