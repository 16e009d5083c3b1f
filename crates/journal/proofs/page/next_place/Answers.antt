use Rattle.std.proofs.Common.{◌∙◌}
use Rattle.journal.specs.Page.{with_zeros}
use Rattle.journal.proofs.page.next_place.Goals as goal

pub returns : goal.returns
unfolding with_zeros
returns c = record { place = c.used-i.ensures; bytes = c.open_counted.ensures ∙ rw (c.used-i.ensures, c.places_of-places.ensures, c.event_width-width.ensures) }
