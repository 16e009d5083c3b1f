use Rattle.std.proofs.Common.{rules}
use Rattle.values.specs.Meaning.{text_bytes, meaning}
use Rattle.areas.specs.Search.{cmp_keyed}
use Rattle.areas.proofs.search.keyed_before.Goals as goal

pub returns : goal.returns
returns c = c.count_before.ensures (λ r. cmp_keyed c.args.at r (text_bytes c.args.name) (meaning c.args.key)) (λ r o l k. search rules) c.requires.search_in
