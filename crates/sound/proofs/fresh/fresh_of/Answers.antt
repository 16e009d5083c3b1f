-- The bytes of a fresh store are its length, the version and zeros. Assumes nothing.
use Rattle.std.proofs.Common.{arith, ◌∙◌, sym}
use Rattle.sound.proofs.Lengths.{right_least, freshened}
use Rattle.sound.proofs.fresh.fresh_of.Goals as goal

pub slice_bounds-put-end : goal.slice_bounds-put-end
slice_bounds-put-end c =
    let a = c.args in omega (arith, right_least a.p a.s.now (sym c.right_length.ensures ∙ c.if-not-right_length.false))

pub bounds-s-4 : goal.bounds-s-4
bounds-s-4 c =
    let a = c.args in omega (arith, right_least a.p a.s.now (sym c.right_length.ensures ∙ c.if-not-right_length.false))

pub returns : goal.returns
returns c =
    let a = c.args in
    let h = sym c.right_length.ensures ∙ c.if-not-right_length.false in
    record { answer = rw h; bytes = rw h (freshened a.p a.s.now _ _ h (c.fill.ensures.after (λ y e. e)) c.put.ensures) }
