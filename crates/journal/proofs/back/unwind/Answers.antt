use Rattle.std.proofs.Common.{sym, ◌∙◌, arith}
use Rattle.rules.specs.Layout.{parse}
use Rattle.journal.proofs.Turning.{batch-header, used-is}
use Rattle.journal.proofs.Halfway.{half-start, back-place, back-ready, back-turn, back-stuck, back-all}
use Rattle.journal.proofs.back.unwind.Goals as goal

pub used-count-requires : goal.used-count-requires
used-count-requires c = batch-header c.requires

pub loop-i-init : goal.loop-i-init
loop-i-init c = half-start c.requires (c.used-count.ensures ∙ used-is c.args.p (parse c.args.p c.args.places c.args.s.now).tables c.args.j.now)

pub can_turn-requires : goal.can_turn-requires
can_turn-requires c = back-place c.loop-i.invariant c.loop-i-test.true

pub returns-then-not-can_turn : goal.returns-then-not-can_turn
returns-then-not-can_turn c = back-stuck c.loop-i.invariant c.loop-i-test.true (sym c.can_turn.ensures ∙ c.if-not-can_turn.true)

pub turn-requires : goal.turn-requires
turn-requires c = back-ready c.loop-i.invariant c.loop-i-test.true (sym c.can_turn.ensures ∙ c.if-not-can_turn.false)

pub loop-i-preserved : goal.loop-i-preserved
loop-i-preserved c = back-turn c.loop-i.invariant c.loop-i-test.true (sym c.can_turn.ensures ∙ c.if-not-can_turn.false) c.turn.ensures

pub returns : goal.returns
returns c = back-all c.loop-i.invariant (λ h. omega (arith, h, c.loop-i-test.false))
