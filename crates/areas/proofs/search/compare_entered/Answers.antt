use Rattle.std.proofs.Common.{rules}
use Rattle.areas.specs.Search.{cmp_entered}
use Rattle.areas.proofs.Answers.{then-compared}
use Rattle.areas.proofs.search.compare_entered.Goals as goal

pub returns : goal.returns
unfolding cmp_entered
returns c = then-compared _ _ _ _ c.compare_named.ensures c.then_with.ensures (λ k. search rules)
