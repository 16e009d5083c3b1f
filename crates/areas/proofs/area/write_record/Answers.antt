use Rattle.areas.proofs.Places.{written_back}
use Rattle.areas.proofs.area.write_record.Goals as goal

pub returns : goal.returns
returns c = written_back _ _ _ _ _ c.copy_from_slice.ensures.after
