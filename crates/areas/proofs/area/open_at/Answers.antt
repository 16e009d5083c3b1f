use Rattle.std.proofs.lemmas.List.{length-replicate}
use Rattle.areas.proofs.Places.{inserted-back}
use Rattle.areas.proofs.area.open_at.Goals as goal

pub returns : goal.returns
returns c = inserted-back _ _ _ _ _ _ _ _ (length-replicate c.args.width 0) c.open_place.ensures
