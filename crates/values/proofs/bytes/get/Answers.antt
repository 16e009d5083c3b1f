use Rattle.std.proofs.Common.{◌<◌, arith, refl}
use Rattle.values.specs.Bytes.{num}
use Rattle.values.proofs.Numbers.{get-step, byte-room, byte_more}
use Rattle.values.proofs.bytes.get.Goals as goal

pub loop-byte-init : goal.loop-byte-init
unfolding num
loop-byte-init c = (refl, omega arith)

pub overflow_mul-w : goal.overflow_mul-w
overflow_mul-w c = let p = byte-room _ _ (omega arith) c.loop-byte.invariant.1 in omega arith

pub overflow_add-w : goal.overflow_add-w
overflow_add-w c = let p = byte-room _ _ (omega arith) c.loop-byte.invariant.1 in omega (arith, c.type_inv.s c.loop-byte.byte-index)

pub loop-byte-preserved : goal.loop-byte-preserved
loop-byte-preserved c =
    let b : c.from.result < 256 = omega (arith, c.type_inv.s c.loop-byte.byte-index) in
    let e = get-step _ _ c.loop-byte-test.true in
    (cc, byte_more _ _ _ c.loop-byte.invariant.1 b)
