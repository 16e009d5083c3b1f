-- A place for each key is one for each row that goes.
use Rattle.std.proofs.Common.{arith, sym}
use Rattle.checks.specs.Keys.{values_of}
use Rattle.checks.proofs.KeysRead.{values-few}
use Rattle.rules.proofs.Outside.{lacks_less}
use Rattle.store.proofs.RemovalsCounted.{gone-few}
use Rattle.store.proofs.Settling.{paged-of, has_room, told-lacks}
use Rattle.store.proofs.removals.lacks_places.Goals as goal

pub has_places-requires : goal.has_places-requires
has_places-requires c = paged-of c.requires.0

pub has_places-requires-then-not-has_places : goal.has_places-requires-then-not-has_places
has_places-requires-then-not-has_places c = paged-of c.requires.0

pub returns-then-not-has_places : goal.returns-then-not-has_places
returns-then-not-has_places c = told-lacks c.requires.0 c.removal_count.result c.has_places-then-not-has_places.ensures c.removal_count.ensures

pub returns-else-not-has_places : goal.returns-else-not-has_places
returns-else-not-has_places c =
    rw c.if-not-has_places.false
    (sym
    (lacks_less _ c.args.values.count _ (omega (arith, gone-few c.args.p c.args.places c.args.s.now c.args.t (values_of c.args.values), values-few c.args.values))
    (has_room c.requires.0 c.args.values.count c.has_places.ensures c.if-not-has_places.false)))
