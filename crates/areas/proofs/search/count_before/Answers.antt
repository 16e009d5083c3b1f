use Rattle.std.proofs.Common.{arith, sym, ◌∙◌}
use Rattle.values.proofs.Orders.{is_lt-ordering}
use Rattle.areas.proofs.Halving.{bracket-start, bracket-up, bracket-down, middle-fits, middle-long}
use Rattle.areas.proofs.search.count_before.Goals as goal

pub loop-lo-init : goal.loop-lo-init
loop-lo-init g c = (omega arith, λ cmp answers ok. bracket-start _ _ _ _)

pub slice_bounds-compare-end : goal.slice_bounds-compare-end
slice_bounds-compare-end g c = middle-fits _ _ _ _ _ c.loop-lo-test.true c.loop-lo.invariant.0 c.requires.inside

pub loop-lo-preserved-then-is_lt : goal.loop-lo-preserved-then-is_lt
loop-lo-preserved-then-is_lt g c = (
  omega arith,
  λ cmp answers ok.
      bracket-up cmp _ _ _ _ _ (c.loop-lo.invariant.1 cmp answers ok) c.loop-lo-test.true ok _ (answers _ _ (middle-long _ _ _ _ _ c.loop-lo-test.true c.loop-lo.invariant.0 c.requires.inside) c.compare.ensures)
      (sym (is_lt-ordering _) ∙ sym c.is_lt.ensures ∙ c.if-is_lt.true),
)

pub loop-lo-preserved : goal.loop-lo-preserved
loop-lo-preserved g c = (
  omega arith,
  λ cmp answers ok.
      bracket-down cmp _ _ _ _ _ (c.loop-lo.invariant.1 cmp answers ok) c.loop-lo-test.true ok _ (answers _ _ (middle-long _ _ _ _ _ c.loop-lo-test.true c.loop-lo.invariant.0 c.requires.inside) c.compare.ensures)
      (sym (is_lt-ordering _) ∙ sym c.is_lt.ensures ∙ c.if-is_lt.false),
)
