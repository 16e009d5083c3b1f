-- What repeats from column i on is the whole.
use Rattle.std.proofs.Common.{arith}
use Rattle.laid.proofs.Columns.{count-byte, record-least}
use Rattle.checks.proofs.Validating.{repeats-start, repeats-end, column-repeats, column-new}
use Rattle.checks.proofs.schema_fault.repeat_fault.Goals as goal

pub column_count-i-end-requires : goal.column_count-i-end-requires
column_count-i-end-requires c = record-least _ _ c.requires

pub loop-i-init : goal.loop-i-init
loop-i-init c = repeats-start c.args.p c.args.rec.now

pub repeats-requires : goal.repeats-requires
repeats-requires c = (c.requires, omega (arith, c.loop-i-test.true, c.column_count-i-end.ensures, count-byte c.args.p c.args.rec.now))

pub returns-then-repeats : goal.returns-then-repeats
returns-then-repeats c =
    column-repeats c.args.p c.args.rec.now c.requires c.loop-i.i (omega (arith, c.loop-i-test.true, c.column_count-i-end.ensures, count-byte c.args.p c.args.rec.now))
    c.repeats.result c.repeats.ensures c.if-repeats.true c.loop-i.invariant

pub loop-i-preserved : goal.loop-i-preserved
loop-i-preserved c =
    column-new c.args.p c.args.rec.now c.requires c.loop-i.i (omega (arith, c.loop-i-test.true, c.column_count-i-end.ensures, count-byte c.args.p c.args.rec.now))
    c.repeats.result c.repeats.ensures c.if-repeats.false c.loop-i.invariant

pub returns : goal.returns
returns c = repeats-end c.args.p c.args.rec.now c.loop-i.i (omega (arith, c.loop-i-test.false, c.column_count-i-end.ensures, count-byte c.args.p c.args.rec.now)) c.loop-i.invariant
