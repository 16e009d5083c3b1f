-- The faults from column i on are the whole.
use Rattle.std.proofs.Common.{◌≡◌, arith, ap, sym, ◌∙◌}
use Rattle.std.proofs.lemmas.Grind.{common_steps}
use Rattle.std.specs.declared.result.Result.TheVariants.{Ok, Err}
use Rattle.rules.specs.Refusal.{refusal_of}
use Rattle.checks.specs.Faults.{broken_rule}
use Rattle.std.proofs.lemmas.Result.{err_from_is_err_and}
use Rattle.rules.specs.Layout.{parse}
use Rattle.laid.proofs.Columns.{count-byte, record-least}
use Rattle.checks.proofs.Validating.{faults-start, faults-end, column-refused, column-passed}
use Rattle.checks.proofs.schema_fault.columns_fault.Goals as goal

pub column_count-i-end-requires : goal.column_count-i-end-requires
column_count-i-end-requires c = record-least _ _ c.requires.1

pub loop-i-init : goal.loop-i-init
loop-i-init c = faults-start c.args.p c.args.rec.now (parse c.args.p c.args.places c.args.s.now).tables

pub column_fault-requires : goal.column_fault-requires
column_fault-requires c = (c.requires.0, c.requires.1, omega (arith, c.loop-i-test.true, c.column_count-i-end.ensures, count-byte c.args.p c.args.rec.now))

pub returns-in_err-map_err : goal.returns-in_err-map_err
returns-in_err-map_err c =
    let p = err_from_is_err_and c.from_residual.result c.from_residual.ensures.1 in
    let f = c.in_err-map_err.field-0.0 in
    let e : c.column_fault.result ≡ Err f.kind = grind (arith, common_steps) in
    let a : f.at ≡ c.loop-i.i-counter = grind (arith, common_steps) in
    rw (p.1, p.2, a)
    (column-refused c.args.p c.args.rec.now c.requires.1 (parse c.args.p c.args.places c.args.s.now).tables c.loop-i.i-counter
    (omega (arith, c.loop-i-test.true, c.column_count-i-end.ensures, count-byte c.args.p c.args.rec.now)) (refusal_of f.kind) (ap broken_rule (sym e) ∙ c.column_fault.ensures) c.loop-i.invariant)

pub loop-i-preserved : goal.loop-i-preserved
loop-i-preserved c =
    let e : c.column_fault.result ≡ Ok tt = grind (arith, common_steps) in
    column-passed c.args.p c.args.rec.now c.requires.1 (parse c.args.p c.args.places c.args.s.now).tables c.loop-i.i-counter
    (omega (arith, c.loop-i-test.true, c.column_count-i-end.ensures, count-byte c.args.p c.args.rec.now)) (ap broken_rule (sym e) ∙ c.column_fault.ensures) c.loop-i.invariant

pub returns : goal.returns
returns c = faults-end c.args.p c.args.rec.now (parse c.args.p c.args.places c.args.s.now).tables c.loop-i.i-counter (omega (arith, c.loop-i-test.false, c.column_count-i-end.ensures, count-byte c.args.p c.args.rec.now)) c.loop-i.invariant
