use Rattle.values.proofs.TextOrder.{text-order}
use Rattle.values.proofs.Orders.{then-ordering, cmpℕ-ordering}
use Rattle.std.proofs.Common.{ap, sym, ◌∙◌}
use Rattle.values.specs.Meaning.{ordering}
use Rattle.values.proofs.value.compare_texts.Goals as goal

pub returns : goal.returns
returns c = ap ordering c.cmp.ensures ∙ simp (then-ordering, cmpℕ-ordering) (sym (text-order _ _ c.requires.0 c.requires.1))
