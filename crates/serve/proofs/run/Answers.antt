-- `serve::run` meets its contract: what was read, what was written and what stands go together at each turn. Assumes nothing.
use Rattle.std.proofs.Common.{◌≡◌, ◌≤◌, length, false, sym, ap, ◌∙◌, true≢false, arith}
use Rattle.std.specs.declared.option.Option.TheVariants.{Some}
use Rattle.serve.specs.Buffers.{lent}
use Rattle.serve.specs.Course.{record_most}
use Rattle.serve.proofs.Serving.{serving-start, serving-next, course-after}
use Rattle.serve.proofs.run.Goals as goal
use Rattle.serve.proofs.run.Goals.{else-taken-via-then-taken+else-not-last, else-taken-via-else-taken}

pub loop-init : goal.loop-init
loop-init g c =
    let a = c.args in
    rw c.start-f.ensures (serving-start a.p a.places (lent a.s.now a.j.now) a.input.now c.requires.booked)

-- where more may follow, the input has not ended
pub returns-in-Some : goal.returns-in-Some
returns-in-Some g c =
    let a = c.args in
    let l = c.loop in
    let t = c.take_in-taken in
    let q = c.answer_all-rest in
    let x = c.told-in-Some in
    let room : record_most ≤ length l.input = omega arith in
    let on : a.last ≡ false → t.result.flow.ended ≡ false =
    elim c.else-taken.branch [
      | else-taken-via-then-taken+else-not-last w ↦ λ e. absurd (true≢false (sym w.if-not-last.false ∙ e))
      | else-taken-via-else-taken w ↦ λ e. w.if-taken.false
    ]
    in
    course-after a.p a.places (lent a.s.now a.j.now) (lent l.s l.j) l.input l.f l.invariant room t.new.input t.result t.ensures
    (lent q.new.s q.new.j) q.new.input q.result q.ensures a.last on x.result x.ensures.1 x.ensures.2 (c.in-Some.is ∙ ap Some (sym x.ensures.0))

pub loop-preserved : goal.loop-preserved
loop-preserved g c =
    let a = c.args in
    let l = c.loop in
    let t = c.take_in-taken in
    let q = c.answer_all-rest in
    let room : record_most ≤ length l.input = omega arith in
    serving-next a.p a.places (lent a.s.now a.j.now) (lent l.s l.j) l.input l.f l.invariant room t.new.input t.result t.ensures
    (lent q.new.s q.new.j) q.new.input q.result q.ensures c.in_default-end.is
