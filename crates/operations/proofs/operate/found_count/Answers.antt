use Rattle.operations.proofs.Asked.{found-few, found-one, found-none, found-end}
use native.Mathlib.Omega.{arith}
use Rattle.values.specs.Meaning.{text_bytes}
use Rattle.rules.specs.Layout.{parse}
use Rattle.operations.proofs.operate.found_count.Goals as goal

pub overflow_add-n : goal.overflow_add-n
overflow_add-n c =
    let rs = (parse c.args.p c.args.places c.args.s.now).rows in
    let n = text_bytes c.args.name in
    omega (arith, found-one rs n c.in-Some.ensures.steps.0 c.get.result c.get.ensures c.loop-cell.n c.loop-cell.invariant c.if-is_some.ensures, found-few rs n c.args.values, c.ranges.values.0)

pub loop-cell-preserved-then-is_some : goal.loop-cell-preserved-then-is_some
loop-cell-preserved-then-is_some c = found-one _ _ c.in-Some.ensures.steps.0 c.get.result c.get.ensures _ c.loop-cell.invariant c.if-is_some.ensures

pub loop-cell-preserved : goal.loop-cell-preserved
loop-cell-preserved c = found-none _ _ c.in-Some.ensures.steps.0 c.get.result c.get.ensures _ c.loop-cell.invariant c.if-is_some.ensures

pub returns : goal.returns
returns c = found-end _ _ c.in-None.ensures.steps.0 _ c.loop-cell.invariant
