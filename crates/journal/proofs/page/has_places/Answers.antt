use Rattle.std.proofs.Common.{arith, sym, ap, ◌∙◌}
use Rattle.std.proofs.Common.{not}
use Rattle.journal.proofs.Noting.{places-closed, places-open, used-few, book-long}
use Rattle.journal.proofs.page.has_places.Goals as goal

pub is_open-requires : goal.is_open-requires
is_open-requires c = omega (arith, book-long c.requires.holds)

pub places_of-requires : goal.places_of-requires
places_of-requires c = (c.requires.holds.paging.coded.known, book-long c.requires.holds)

pub used-requires : goal.used-requires
used-requires c = book-long c.requires.holds

pub overflow_sub-result : goal.overflow_sub-result
overflow_sub-result c = used-few c.requires (sym c.is_open.ensures ∙ c.if-not-is_open.false) c.places_of.ensures c.used.ensures

pub returns-then-not-is_open : goal.returns-then-not-is_open
returns-then-not-is_open c = ap not c.if-not-is_open.true ∙ places-closed c.args.p c.args.j.now c.args.n (sym c.is_open.ensures ∙ c.if-not-is_open.true)

pub returns-else-not-is_open : goal.returns-else-not-is_open
returns-else-not-is_open c = places-open c.requires (sym c.is_open.ensures ∙ c.if-not-is_open.false) c.places_of.ensures c.used.ensures c.args.n
