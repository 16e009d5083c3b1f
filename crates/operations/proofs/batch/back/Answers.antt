use mathlib.Core.Path.{refl, sym, ◌∙◌}
use Rattle.operations.proofs.Shut.{journal-there}
use Rattle.operations.proofs.Batching.{back-refused, batch-there, back-now}
use Rattle.operations.proofs.batch.back.Goals as goal

pub is_open-requires : goal.is_open-requires
is_open-requires c = journal-there c.requires

pub returns-then-not-is_open : goal.returns-then-not-is_open
returns-then-not-is_open c = back-refused c.requires (sym c.is_open.ensures ∙ c.if-not-is_open.true) c.new.ensures

pub unwind-requires : goal.unwind-requires
unwind-requires c = batch-there c.requires (sym c.is_open.ensures ∙ c.if-not-is_open.false)

pub returns : goal.returns
returns c =
    back-now c.requires (sym c.is_open.ensures ∙ c.if-not-is_open.false) c.unwind.ensures c.unwind.auto.j c.close.ensures refl
