use Rattle.std.proofs.Common.{sym, ◌∙◌}
use Rattle.std.specs.Float.{binary64}
use lib.Ieee.Bits.{of_bits-fits}
use Rattle.values.proofs.Floats.{normal-zero, normal-nan, normal-same, zero_bits, nan-word, below_nan, back-bits}
use Rattle.values.proofs.value.float_of.Goals as goal

pub returns-then-w-eq9223372036854775808 : goal.returns-then-w-eq9223372036854775808
returns-then-w-eq9223372036854775808 c = (zero_bits ∙ sym (normal-zero _ c.if-w-eq9223372036854775808.true), of_bits-fits binary64 0)

pub returns-then-w-gt9218868437227405312 : goal.returns-then-w-gt9218868437227405312
returns-then-w-gt9218868437227405312 c = (nan-word ∙ sym (normal-nan _ c.if-w-gt9218868437227405312.true), of_bits-fits binary64 9221120237041090560)

pub float_from_bits-result : goal.float_from_bits-result
float_from_bits-result c = rw (below_nan _ c.if-w-gt9218868437227405312.false) tt

pub returns : goal.returns
returns c =
    let w = c.args.w in
    (back-bits w c.ranges.w.fits c.if-w-gt9218868437227405312.false ∙ sym (normal-same w c.if-w-eq9223372036854775808.false c.if-w-gt9218868437227405312.false), of_bits-fits binary64 w)
