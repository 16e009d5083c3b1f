use Rattle.std.proofs.Common.{◌≡◌, [], length, drop}
use Rattle.values.specs.Bytes.{be}
use Rattle.values.proofs.bytes.put.Given as goal

abbrev pub invariant-loop-i : goal.invariant-loop-i
invariant-loop-i l = be l.i l.rest (drop l.i l.out) ≡ be (length l.fn.out) l.fn.w []
