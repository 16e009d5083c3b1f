use Rattle.std.proofs.Common.{◌∙◌}
use mathlib.Core.Logic.{inl, inr}
use Rattle.mapping.proofs.Mapping.{mapped_none, mapped_end}
use Rattle.mapping.proofs.executor.mapped_value.Goals as goal

pub returns : goal.returns
returns c =
    elim c.in-None.ensures.steps [
      | inl w ↦ (mapped_end _ _ _ w.1.0 ∙ c.loop-x.invariant, tt)
      | inr w ↦ (mapped_none _ _ _ w.1.0 ∙ c.loop-x.invariant, tt)
    ]
