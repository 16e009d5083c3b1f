use Rattle.std.proofs.Common.{◌≡◌, [], length, drop}
use Rattle.forms.specs.Print.{digits}
use Rattle.forms.proofs.print.put_digits.Given as goal

-- the digits that are written so far, after those of the rest of m, are those of m
abbrev pub invariant-loop-i : goal.invariant-loop-i
invariant-loop-i l = digits l.i l.rest (drop l.i l.out) ≡ digits (length l.fn.out) l.fn.m []
