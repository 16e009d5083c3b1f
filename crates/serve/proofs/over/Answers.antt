-- `serve::over` meets its contract: where the test says so, the run goes over what was lent. Assumes nothing.
use Rattle.std.proofs.Common.{sym, ◌∙◌}
use Rattle.serve.specs.Buffers.{lent}
use Rattle.serve.proofs.Serving.{both-same, tested-booked, served-sound}
use Rattle.serve.proofs.over.Goals as goal

pub run-requires-clause-booked : goal.run-requires-clause-booked
run-requires-clause-booked g c =
    let a = c.args in
    let t = c.are_sound in
    let z = c.places_of-places in
    tested-booked (lent a.s.now a.j.now) (lent t.new.s t.new.j) (both-same t.ensures.1 t.ensures.2) z.result z.ensures (sym t.ensures.0 ∙ c.if-not-are_sound.false)

pub returns : goal.returns
returns g c =
    let a = c.args in
    let t = c.are_sound in
    let z = c.places_of-places in
    let r = c.run in
    served-sound (lent a.s.now a.j.now) t.result t.ensures.0 (lent t.new.s t.new.j) (both-same t.ensures.1 t.ensures.2) z.result z.ensures
    (lent r.new.s r.new.j) a.last r.result c.if-not-are_sound.false r.ensures
