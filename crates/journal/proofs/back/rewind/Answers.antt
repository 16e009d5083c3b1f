use Rattle.std.proofs.Common.{arith}
use Rattle.rules.specs.Layout.{parse}
use Rattle.journal.proofs.Turning.{batch-header, used-is}
use Rattle.journal.proofs.Halfway.{half-long, forth-start, forth-ready, forth-turn, forth-end}
use Rattle.journal.proofs.back.rewind.Goals as goal

pub used-count-requires : goal.used-count-requires
used-count-requires c = batch-header c.requires.half.batch

pub loop-i-init : goal.loop-i-init
loop-i-init c = forth-start

pub turn-requires : goal.turn-requires
turn-requires c = forth-ready c.requires c.loop-i.invariant (omega (arith, c.used-count.ensures, used-is c.args.p (parse c.args.p c.args.places c.args.s.now).tables c.args.j.now, c.loop-i-test.true))

pub loop-i-preserved : goal.loop-i-preserved
loop-i-preserved c = forth-turn c.loop-i.invariant (omega (arith, c.used-count.ensures, used-is c.args.p (parse c.args.p c.args.places c.args.s.now).tables c.args.j.now, c.loop-i-test.true)) c.turn.ensures

pub returns : goal.returns
returns c = forth-end c.loop-i.invariant (omega (arith, c.used-count.ensures, used-is c.args.p (parse c.args.p c.args.places c.args.s.now).tables c.args.j.now, half-long c.requires.half, c.requires.half.inside, c.loop-i-test.false))
