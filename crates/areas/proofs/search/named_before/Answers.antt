use Rattle.std.proofs.Common.{rules}
use Rattle.values.specs.Meaning.{text_bytes}
use Rattle.areas.specs.Search.{cmp_named}
use Rattle.areas.proofs.search.named_before.Goals as goal

pub returns : goal.returns
returns c = c.count_before.ensures (λ r. cmp_named r (text_bytes c.args.name)) (λ r o l k. search rules) c.requires.search_in
