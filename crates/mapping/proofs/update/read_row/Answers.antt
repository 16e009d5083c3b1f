use Rattle.std.proofs.Common.{◌∙◌, arith}
use Rattle.mapping.proofs.Pairs.{so-far-none, so-far-room, so-far-next, so-far-all}
use Rattle.mapping.proofs.update.read_row.Goals as goal

pub loop-cell-init : goal.loop-cell-init
loop-cell-init c = (rw (c.new-row.ensures.0, c.into_iter-cell-iterator.ensures.into_iter_gives) (so-far-none _), c.new-row.ensures.1)

pub push-requires : goal.push-requires
push-requires c = so-far-room c.loop-cell.invariant.0 _ _ c.in-Some.ensures.steps.0 (omega (arith, c.requires))

pub loop-cell-preserved : goal.loop-cell-preserved
loop-cell-preserved c = let h = c.in-Some.ensures.steps in (rw c.push.ensures.0 (so-far-next c.loop-cell.invariant.0 _ _ h.0 h.1), c.push.ensures.1)

pub returns : goal.returns
returns c = let r = so-far-all c.loop-cell.invariant.0 c.in-None.ensures.steps.0 (omega (arith, c.requires)) in let n = r.2 ∙ c.requires.1 in (r.0, r.1, n, c.loop-cell.invariant.1 ∙ n)
