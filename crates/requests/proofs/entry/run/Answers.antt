-- `requests::entry::run` meets its contract. Assumes nothing.
use native.Mathlib.Omega.{arith}
use Prim.Native.Nat.{◌+◌}
use borrow.Author.Tests.{not-true, not-false}
use Rattle.std.specs.declared.result.Result.TheVariants.{Err}
use Rattle.requests.proofs.RunSteps.{run-start, pass-start, more-none, done_none, ran-full, ran-waiting, ran-stopped, whole-moves, part-room, On, on-whole, on-past, on-skip, on-cut, run-stays, stays-full, whole-turn}
use Rattle.requests.proofs.Fronts.{broken-refusal, broken-told}
use Rattle.requests.proofs.entry.run.Goals as goal
use Rattle.requests.proofs.entry.run.Goals.{Joined-next_record, Then-not-put, in-Whole+else-not-put, in-Skip+then-left-n, in-Skip+else-left-n, in-Cut}

pub loop-out-init : goal.loop-out-init
loop-out-init c =
    let a = c.args in
    record { running = run-start a.p a.places a.input.now a.ended a.from a.s.now a.j.now a.out.now c.requires; passed = pass-start a.p a.input.now a.ended }

pub overflow_sub-out : goal.overflow_sub-out
overflow_sub-out c = c.loop-out.invariant.running.fits

pub slice_bounds-next_record-count : goal.slice_bounds-next_record-count
slice_bounds-next_record-count c = c.loop-out.invariant.running.inside

pub slice_bounds-next_record-start : goal.slice_bounds-next_record-start
slice_bounds-next_record-start c = omega (arith, c.loop-out.invariant.running.inside)

pub overflow_add-end : goal.overflow_add-end
overflow_add-end c = let m = whole-moves c.loop-out.invariant.running c.next_record.ensures c.in-Whole.is in omega (arith, c.loop-out.invariant.running.inside)

pub overflow_add-rec : goal.overflow_add-rec
overflow_add-rec c = let m = whole-moves c.loop-out.invariant.running c.next_record.ensures c.in-Whole.is in omega (arith, c.loop-out.invariant.running.inside)

pub slice_bounds-rec-count : goal.slice_bounds-rec-count
slice_bounds-rec-count c = let m = whole-moves c.loop-out.invariant.running c.next_record.ensures c.in-Whole.is in omega arith

pub slice_bounds-rec-start : goal.slice_bounds-rec-start
slice_bounds-rec-start c = let m = whole-moves c.loop-out.invariant.running c.next_record.ensures c.in-Whole.is in omega (arith, c.loop-out.invariant.running.inside)

pub slice_bounds-rec-end : goal.slice_bounds-rec-end
slice_bounds-rec-end c = let m = whole-moves c.loop-out.invariant.running c.next_record.ensures c.in-Whole.is in omega (arith, c.loop-out.invariant.running.inside)

pub answer_record-put-requires : goal.answer_record-put-requires
answer_record-put-requires c = (c.loop-out.invariant.running.booked, part-room c.loop-out.invariant.running c.if-out-written-lt-ROW_MOST.false)

pub overflow_sub-left : goal.overflow_sub-left
overflow_sub-left c = c.loop-out.invariant.running.inside

-- the next record is passed and answered
on : (c : Joined-next_record) → let m = c.match-next_record in let l = c.loop-out in let a = c.args in
    On a.p a.places a.input.now a.ended a.from a.s.now a.j.now m.s m.j a.out.now m.out m.taken m.skip (l.count + 1) m.written l.taken
on c =
    let m = c.match-next_record in
    let l = c.loop-out in
    let g = l.invariant.running in
    let t = l.invariant.passed in
    let r = c.if-out-written-lt-ROW_MOST.false in
    let e = c.next_record.ensures in
    elim m.branch [
      | in-Whole+else-not-put w ↦
          let x = w.answer_record-put in
          rw (w.s-is, w.j-is, w.out-is, w.taken-is, w.skip-is, w.written-is) (on-whole g t r e w.in-Whole.is (λ i. (c.type_inv.input i).fits) x.ensures x.auto.s x.auto.j (not-false _ w.if-not-put.false))
      | in-Skip+then-left-n w ↦
          let x = w.put_broken-written in
          rw (w.s-is, w.j-is, w.out-is, w.taken-is, w.skip-is, w.written-is) (on-past g t r e (Err broken-refusal) broken-told (rw broken-told x.ensures) x.auto.out w.in-Skip.is w.if-left-n.true)
      | in-Skip+else-left-n w ↦
          let x = w.put_broken-written in
          rw (w.s-is, w.j-is, w.out-is, w.taken-is, w.skip-is, w.written-is) (on-skip g t r e (Err broken-refusal) broken-told (rw broken-told x.ensures) x.auto.out w.in-Skip.is w.if-left-n.false)
      | in-Cut w ↦
          let x = w.put_broken-written-in-Cut in
          rw (w.s-is, w.j-is, w.out-is, w.taken-is, w.skip-is, w.written-is) (on-cut g t r e (Err broken-refusal) broken-told (rw broken-told x.ensures) x.auto.out w.in-Cut.is)
    ]

pub overflow_add-count : goal.overflow_add-count
overflow_add-count c = let h = on (goal.at.overflow_add-count c).Joined-next_record in omega (arith, h.running.inside, h.running.few)

pub loop-out-smaller : goal.loop-out-smaller
loop-out-smaller c = let h = on (goal.at.loop-out-smaller c).Joined-next_record in omega (arith, h.running.inside, h.further)

pub loop-out-preserved : goal.loop-out-preserved
loop-out-preserved c = let h = on (goal.at.loop-out-preserved c).Joined-next_record in record { running = h.running; passed = h.passed }

pub returns-then-out-written-lt-ROW_MOST : goal.returns-then-out-written-lt-ROW_MOST
returns-then-out-written-lt-ROW_MOST c = ran-full c.loop-out.invariant.running c.loop-out.invariant.passed c.if-out-written-lt-ROW_MOST.true

pub returns-then-not-put : goal.returns-then-not-put
returns-then-not-put c =
    let l = c.loop-out in
    let g = l.invariant.running in
    let x = c.answer_record-put in
    let k = whole-turn g c.next_record.ensures c.in-Whole.is (λ i. (c.type_inv.input i).fits) x.ensures x.auto.s x.auto.j in
    let r = c.if-out-written-lt-ROW_MOST.false in
    ran-full (run-stays g k r (not-true _ c.if-not-put.true)) l.invariant.passed (stays-full g k r (not-true _ c.if-not-put.true))

pub returns-in-More : goal.returns-in-More
returns-in-More c =
    let g = c.loop-out.invariant.running in
    let n = more-none g c.next_record.ensures c.in-More.is in
    ran-waiting g c.loop-out.invariant.passed c.if-out-written-lt-ROW_MOST.false n.0 n.1

pub returns-in-Done : goal.returns-in-Done
returns-in-Done c =
    let g = c.loop-out.invariant.running in
    let n = done_none g c.next_record.ensures c.in-Done.is in
    ran-stopped g c.loop-out.invariant.passed c.if-out-written-lt-ROW_MOST.false n.0 n.1
