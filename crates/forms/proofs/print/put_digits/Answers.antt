use Rattle.std.proofs.Common.{◌≡◌, arith, ◌∙◌}
use Rattle.forms.specs.Print.{digits}
use Rattle.forms.proofs.Digits.{digits_step}
use Rattle.forms.proofs.print.put_digits.Goals as goal

pub loop-i-preserved : goal.loop-i-preserved
loop-i-preserved c = digits_step _ _ _ c.loop-i-test.true (omega arith) ∙ c.loop-i.invariant

pub returns : goal.returns
unfolding digits
returns c =
    let e : c.loop-i.i ≡ 0 = omega arith in
    rw e at c.loop-i.invariant
