-- `requests::lines::put_lines` meets its contract. Assumes nothing.
use mathlib.Core.Path.{◌≡◌, refl, ap, subst}
use mathlib.Core.Option.{none}
use Prim.Native.Nat.{◌<◌, ◌^◌}
use native.Mathlib.Omega.{arith}
use borrow.Author.Rules.{rules}
use Rattle.forms.specs.Print.{Front}
use Rattle.values.specs.Meaning.{meaning, Proper}
use Rattle.rules.specs.Journal.{Journal, batch_of}
use Rattle.rules.specs.Layout.{parse}
use Rattle.std.specs.declared.result.Result.TheVariants.{Ok, Err}
use Rattle.rules.specs.Request.{Reply, Answer, said}
use Rattle.records.specs.Record.{request_of}
use Rattle.operations.specs.Told.{outcome_of}
use Rattle.operations.proofs.Entered.{read-entered}
use Rattle.laid.proofs.Stores.{laid-store}
use Rattle.requests.specs.Lines.{answer_line}
use Rattle.requests.specs.Places.{beside}
use Rattle.requests.proofs.Fronts.{tells}
use Rattle.requests.proofs.LinesLeft.{lines_start, lines-counted, going_start, turn_more, turn-less, turn-skips, turn-stays, turn-writes, end_stays, end-writes}
use Rattle.requests.proofs.lines.put_lines.Goals as goal
use Rattle.requests.proofs.lines.put_lines.Goals.{After-put_answer-n, Joined-from-lines, then-from-lines+else-out-written, else-from-lines}

-- what does not depend on the journal is said of this one
abbrev any : Journal
any = batch_of 0 none

pub loop-step-init : goal.loop-step-init
unfolding meaning Proper
loop-step-init c =
    let a = c.args in
    let r = request_of a.rec.now a.p in
    record {
      proper = tt;
      going = λ x. going_start (outcome_of a.p a.places (beside (parse a.p a.places a.s.now) x) r) a.from a.out.now _ (lines_start a.p a.places a.s.now (laid-store _ _ _ c.requires.store.0) x r c.requires.store.2 (read-entered a.rec.now a.p));
    }

pub put_next-requires : goal.put_next-requires
put_next-requires c =
    (laid-store _ _ _ c.requires.store.0, c.requires.store.1, c.loop-step.invariant.proper, omega arith, c.requires.store.2)

pub overflow_sub-out : goal.overflow_sub-out
overflow_sub-out c = (c.loop-step.invariant.going any).fits

pub returns-then-out-written : goal.returns-then-out-written
returns-then-out-written c =
    let l = c.loop-step in
    let e = c.in-Some.ensures in
    λ x. turn-stays _ _ _ _ _ l.out l.written l.lines (l.invariant.going x) e.values e.first _ _ _ e.front c.if-from-lines.true c.if-out-written.true e.short

pub slice_bounds-copy_from_slice-end : goal.slice_bounds-copy_from_slice-end
slice_bounds-copy_from_slice-end c = let f = (c.loop-step.invariant.going any).fits in search rules

-- the answer's number fits
counted : (c : Joined-from-lines) → (said c.args.a).count < 2 ^ 64
counted c = go c.args.a refl
  where
    go : (r : Answer) → c.args.a ≡ r → (said r).count < 2 ^ 64
    go (Ok n) e = let h = rw e at c.well_formed.1.1.1.1.0 in h.1.1.1.1.0.1
    go (Err f) e = omega (arith, (tells f).count)

pub overflow_add-lines : goal.overflow_add-lines
overflow_add-lines c =
    let a = c.args in
    let l = c.loop-step in
    let e = c.in-Some.ensures in
    let m = turn_more _ _ _ _ _ l.out l.written l.lines (l.invariant.going any) e.values e.first _ _ _ e.front in
    omega (arith, lines-counted a.p a.places (beside (parse a.p a.places a.s.now) any) (request_of a.rec.now a.p), ap (λ (r : Reply). r.count) (c.requires.replies any), counted (goal.at.overflow_add-lines c).Joined-from-lines)

pub loop-step-smaller : goal.loop-step-smaller
loop-step-smaller c =
    let l = c.loop-step in
    let e = c.in-Some.ensures in
    turn-less _ _ _ _ _ l.out l.written l.lines (l.invariant.going any) e.values e.first _ _ _ e.front

pub loop-step-preserved : goal.loop-step-preserved
loop-step-preserved c =
    let l = c.loop-step in
    let e = c.in-Some.ensures in
    let n = c.in-Some.step.count in
    let z = c.if-from-lines in
    record {
      proper = e.proper;
      going = λ x. elim z.branch [
        | then-from-lines+else-out-written w ↦ turn-writes _ _ _ _ _ l.out l.written l.lines (l.invariant.going x) e.values e.first _ _ n e.front z.out z.written w.copy_from_slice.new.self w.out-is w.written-is w.copy_from_slice.ensures.after w.if-from-lines.true w.if-out-written.false
        | else-from-lines w ↦ turn-skips _ _ _ _ _ l.out l.written l.lines (l.invariant.going x) e.values e.first _ _ n e.front z.out z.written w.out-is w.written-is w.if-from-lines.false
      ];
    }

pub overflow_sub-out-2 : goal.overflow_sub-out-2
overflow_sub-out-2 c = (c.loop-step.invariant.going any).fits

-- the answer's line
answer : (c : After-put_answer-n) → (x : Journal) → Front (answer_line (outcome_of c.args.p c.args.places (beside (parse c.args.p c.args.places c.args.s.now) x) (request_of c.args.rec.now c.args.p)).reply) c.put_next.new.out c.put_answer-n.new.out c.put_answer-n.result
answer c x = subst (λ (r : Reply). Front (answer_line r) c.put_next.new.out c.put_answer-n.new.out c.put_answer-n.result) (c.requires.replies x) c.put_answer-n.ensures.0

pub returns-then-out-written-2 : goal.returns-then-out-written-2
returns-then-out-written-2 c =
    let l = c.loop-step in
    λ x. end_stays _ _ _ _ l.out l.written l.lines (l.invariant.going x) c.in_default.ensures.0 _ _ _ (answer (goal.at.returns-then-out-written-2 c).After-put_answer-n x) c.if-out-written-2.true (omega (arith, c.put_answer-n.ensures.1))

pub slice_bounds-copy_from_slice-end-2 : goal.slice_bounds-copy_from_slice-end-2
slice_bounds-copy_from_slice-end-2 c = let f = (c.loop-step.invariant.going any).fits in search rules

pub returns : goal.returns
returns c =
    let l = c.loop-step in
    λ x. end-writes _ _ _ _ l.out l.written l.lines (l.invariant.going x) c.in_default.ensures.0 _ _ _ (answer (goal.at.returns c).After-put_answer-n x) c.copy_from_slice-2.new.self c.copy_from_slice-2.ensures.after c.if-out-written-2.false
