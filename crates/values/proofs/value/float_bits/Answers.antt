use Rattle.std.proofs.Common.{ap, sym, ◌∙◌, arith}
use Rattle.std.specs.Float.{binary64}
use Rattle.std.specs.Float.Ieee.{to_bits}
use Rattle.values.specs.Value.{the_nan, normal_bits}
use Rattle.values.proofs.Floats.{normal-zero, normal-nan, normal-same, nan-bits, only_nan, bits-below-nan}
use Rattle.values.proofs.value.float_bits.Goals as goal

pub returns-then-is_nan : goal.returns-then-is_nan
returns-then-is_nan c = sym (ap normal_bits (ap (to_bits binary64) (only_nan _ (sym c.if-is_nan.ensures.value)) ∙ nan-bits) ∙ normal-nan the_nan (omega arith))

pub returns-then-w : goal.returns-then-w
returns-then-w c = sym (normal-zero _ c.if-w.true)

pub returns-else-w : goal.returns-else-w
returns-else-w c = sym (normal-same _ c.if-w.false (bits-below-nan c.args.x c.well_formed.0.1 c.if-is_nan.ensures.not_nan))
