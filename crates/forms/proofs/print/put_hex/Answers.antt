use Rattle.std.proofs.Common.{refl, arith}
use Rattle.forms.specs.Print.{hex}
use Rattle.forms.proofs.Fronts.{hex-step}
use Rattle.forms.proofs.print.put_hex.Goals as goal

pub loop-i-init : goal.loop-i-init
unfolding hex
loop-i-init c = refl

pub loop-i-preserved : goal.loop-i-preserved
loop-i-preserved c = hex-step c.loop-i.out _ _ _ _ c.loop-i-test.true (omega arith) c.hex_digit.ensures c.hex_digit-in-loop-i.ensures c.loop-i.invariant
