use Rattle.areas.specs.Search.{cmp_named}
use Rattle.areas.proofs.search.compare_named.Goals as goal

pub returns : goal.returns
unfolding cmp_named
returns c = rw (← c.read_name.ensures.0) c.compare_texts.ensures
