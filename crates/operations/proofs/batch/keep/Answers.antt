use mathlib.Core.Path.{refl, sym, ◌∙◌}
use Rattle.operations.proofs.Batching.{kept-early, kept-now}
use Rattle.operations.proofs.batch.keep.Goals as goal

pub returns-then-not-is_open : goal.returns-then-not-is_open
returns-then-not-is_open c = kept-early (sym c.is_open.ensures ∙ c.if-not-is_open.true) c.new.ensures

pub returns : goal.returns
returns c = kept-now (sym c.is_open.ensures ∙ c.if-not-is_open.false) c.close.ensures refl
