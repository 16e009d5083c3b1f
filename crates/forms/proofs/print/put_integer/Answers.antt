use Rattle.std.proofs.Common.{arith}
use Rattle.forms.proofs.Fronts.{front-behind, above-decimal, below-decimal}
use Rattle.forms.proofs.print.put_integer.Goals as goal

pub returns-then-z-ge0 : goal.returns-then-z-ge0
returns-then-z-ge0 c = rw (above-decimal _ _ c.ranges.z c.unsigned_abs.ensures.value c.if-z-ge0.true) c.put_decimal.ensures.0

pub returns : goal.returns
returns c = rw (below-decimal _ _ c.ranges.z c.unsigned_abs-2.ensures.value c.if-z-ge0.false) (front-behind 45 _ _ _ _ (omega arith) c.put_decimal-2.ensures.0)
