use Rattle.std.proofs.Common.{◌≡◌, ◌-◌, ap, ◌∙◌, arith}
use Rattle.forms.specs.Print.{count}
use Rattle.forms.proofs.Digits.{turn, count-zero}
use Rattle.forms.proofs.print.digit_count.Goals as goal

pub loop-rest-preserved : goal.loop-rest-preserved
loop-rest-preserved c =
    let t = turn c.loop-rest.n c.loop-rest.rest c.loop-rest-test.true c.loop-rest.invariant.left in
    record { counted = t.kept ∙ c.loop-rest.invariant.counted; few = omega (arith, t.room); left = t.less }

pub returns : goal.returns
returns c =
    let e : c.loop-rest.rest ≡ 0 = omega arith in
    let z : count (20 - c.loop-rest.n) c.loop-rest.rest ≡ 0 = ap (count (20 - c.loop-rest.n)) e ∙ count-zero (20 - c.loop-rest.n) in
    let n : c.loop-rest.n ≡ count 20 c.args.m = omega (arith, c.loop-rest.invariant.counted) in
    record { digits = omega arith; bound = omega arith }
