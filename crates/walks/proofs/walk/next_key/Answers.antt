use Rattle.std.proofs.Common.{ap, ◌∙◌}
use Rattle.values.specs.Meaning.{text_bytes, meaning}
use Rattle.rules.specs.Layout.{parse}
use Rattle.checks.specs.Keys.{values_of}
use Rattle.checks.specs.declared.keys.Values.{Values}
use Rattle.laid.proofs.Stores.{held-state}
use Rattle.walks.specs.Looked.{next_with}
use Rattle.walks.proofs.LeastKey.{none-least, least-end, least-next}
use Rattle.walks.proofs.walk.next_key.Goals as goal

pub loop-cell-init : goal.loop-cell-init
loop-cell-init c =
    let a = c.args in
    record {
      least = none-least _ ∙ ap (λ (v : Values). next_with (parse a.p a.places a.s.now).rows (text_bytes a.name) a.column (values_of v) (meaning a.after)) c.into_iter-cell-iterator.ensures.into_iter_gives;
      proper = tt;
    }

pub loop-cell-preserved : goal.loop-cell-preserved
loop-cell-preserved c =
    let a = c.args in
    record {
      least =
          least-next (parse a.p a.places a.s.now).rows (held-state a.p a.places a.s.now c.requires.0).rows-sorted (text_bytes a.name) a.column (meaning a.after) (values_of c.loop-cell.cell-iterator) _ _ c.loop-cell.invariant.least
          _ _ c.in-Some.ensures.steps.0 _ _ c.next_entered.ensures.0 c.least-best.ensures.0;
      proper = c.least-best.ensures.1;
    }

pub returns : goal.returns
returns c =
    let a = c.args in (
      least-end (parse a.p a.places a.s.now).rows (held-state a.p a.places a.s.now c.requires.0).rows-sorted (text_bytes a.name) a.column (meaning a.after) (values_of c.loop-cell.cell-iterator) _ _ c.loop-cell.invariant.least
          c.in-None.ensures.steps.0,
      c.loop-cell.invariant.proper,
    )
