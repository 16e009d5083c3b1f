use mathlib.Core.Path.{refl, sym}
use Rattle.operations.proofs.Batching.{opened-late, opened-now}
use Rattle.operations.proofs.batch.open.Goals as goal

pub returns-then-is_open : goal.returns-then-is_open
returns-then-is_open c = opened-late (sym c.if-is_open.ensures) c.new.ensures

pub returns : goal.returns
returns c = opened-now (sym c.if-is_open.ensures) c.open.ensures refl
