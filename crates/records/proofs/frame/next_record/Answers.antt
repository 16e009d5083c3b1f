use Rattle.std.proofs.Common.{◌∙◌, ◌+◌, ◌*◌, ℕ, arith, refl, length-drop, length-take}
use Rattle.records.proofs.Framing.{cut}
use Rattle.records.proofs.frame.next_record.Goals as goal

pub returns-then-rest-long : goal.returns-then-rest-long
returns-then-rest-long c =
    c.short.ensures
    ∙ cut _ _ (c.from.result * 256 + c.from-in-len2-up.result) c.in-len2-up.len_at_least (rw (c.from.ensures, c.from-in-len2-up.ensures) refl)
    (omega arith) (omega arith) (omega (arith, length-take {A = ℕ}, length-drop {A = ℕ}))
