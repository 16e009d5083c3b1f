use Rattle.std.proofs.Common.{◌≡◌, ◌*◌, ◌^◌, ◌<◌, take}
use Rattle.values.specs.Bytes.{num}
use Rattle.values.proofs.bytes.get.Given as goal

abbrev pub invariant-loop-byte : goal.invariant-loop-byte
invariant-loop-byte l = (l.w ≡ num 0 (take l.byte-index l.s)) × (l.w < 2 ^ (8 * l.byte-index))
