use Rattle.std.proofs.Common.{arith}
use Rattle.forms.proofs.Fronts.{front-decimal}
use Rattle.forms.proofs.print.put_decimal.Goals as goal

pub returns : goal.returns
returns c = (front-decimal _ _ _ _ c.digit_count-n.ensures.digits c.put_digits.ensures (omega arith), c.digit_count-n.ensures.bound)
