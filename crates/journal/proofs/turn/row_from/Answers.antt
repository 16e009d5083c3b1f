use Rattle.std.proofs.Common.{◌∙◌}
use Rattle.journal.proofs.Flying.{filled-start, filled-room, filled_next, filled-ends}
use Rattle.journal.proofs.turn.row_from.Goals as goal

pub loop-j-init : goal.loop-j-init
loop-j-init c = (rw c.new-row.ensures.0 (filled-start c.args.p c.args.rec.now), c.new-row.ensures.1)

pub push-requires : goal.push-requires
push-requires c = filled-room c.requires.0 c.loop-j.invariant.0 c.requires.2 c.loop-j-test.true

pub loop-j-preserved : goal.loop-j-preserved
loop-j-preserved c = (rw c.push.ensures.0 (filled_next c.requires.0 c.loop-j.invariant.0 _ c.cell_in.ensures.0 c.cell_in.ensures.1), c.push.ensures.1)

pub returns : goal.returns
returns c =
    let r = filled-ends c.requires.0 c.loop-j.invariant.0 c.requires.2 c.loop-j.auto.j-end c.loop-j-test.false in (r, c.loop-j.invariant.1 ∙ r.counted)
