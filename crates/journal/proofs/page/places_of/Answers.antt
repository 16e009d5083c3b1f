use Rattle.std.proofs.Common.{arith}
use Rattle.rules.specs.Pages.{journal_places}
use Rattle.journal.proofs.Writing.{width_some}
use Rattle.journal.proofs.page.places_of.Goals as goal

pub nonzero_div-result : goal.nonzero_div-result
nonzero_div-result c = omega (arith, width_some c.args.p)

pub returns : goal.returns
unfolding journal_places
returns c = rw c.event_width.ensures
