use Rattle.std.proofs.Common.{rules}
use Rattle.areas.specs.Search.{cmp_keyed}
use Rattle.areas.proofs.Answers.{then-compared}
use Rattle.areas.proofs.search.compare_keyed.Goals as goal

pub returns : goal.returns
unfolding cmp_keyed
returns c = then-compared _ _ _ _ c.compare_named.ensures c.then_with.ensures (λ k. search rules)
