use Rattle.std.proofs.Common.{◌≡◌, ◌*◌, take}
use Rattle.forms.specs.Print.{hex}
use Rattle.forms.proofs.print.put_hex.Given as goal

-- the front of out has the digits of the bytes passed
abbrev pub invariant-loop-i : goal.invariant-loop-i
invariant-loop-i l = take (2 * l.i) l.out ≡ hex (take l.i l.s)
