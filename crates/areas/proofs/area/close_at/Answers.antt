use Rattle.areas.proofs.Places.{taken-room, removed-back}
use Rattle.areas.proofs.area.close_at.Goals as goal

pub close_place-requires : goal.close_place-requires
close_place-requires c = taken-room _ _ _ _ _ _ _ c.requires

pub returns : goal.returns
returns c = removed-back _ _ _ _ _ _ _ _ c.close_place.ensures
