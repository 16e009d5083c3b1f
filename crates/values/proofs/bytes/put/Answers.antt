use Rattle.std.proofs.Common.{◌≡◌, arith, ◌∙◌}
use Rattle.values.specs.Bytes.{be}
use Rattle.values.proofs.Numbers.{put_step}
use Rattle.values.proofs.bytes.put.Goals as goal

pub loop-i-preserved : goal.loop-i-preserved
loop-i-preserved c = put_step _ _ _ c.loop-i-test.true (omega arith) ∙ c.loop-i.invariant

pub returns : goal.returns
unfolding be
returns c =
    let e : c.loop-i.i ≡ 0 = omega arith in
    rw e at c.loop-i.invariant
