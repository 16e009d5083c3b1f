use Rattle.std.proofs.Common.{rules}
use Rattle.values.specs.Cell.{cell_width}
use Rattle.values.specs.Meaning.{text_bytes, meaning}
use Rattle.areas.specs.Search.{cmp_entered}
use Rattle.areas.proofs.search.entered_before.Goals as goal

pub returns : goal.returns
returns c = c.count_before.ensures (λ r. cmp_entered cell_width r (text_bytes c.args.name) c.args.column (meaning c.args.v) (meaning c.args.key)) (λ r o l k. search rules) c.requires.search_in
