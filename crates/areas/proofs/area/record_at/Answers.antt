use native.Mathlib.Nat.{add-sub_cancel_left}
use Rattle.values.specs.Area.{record_at}
use Rattle.areas.proofs.area.record_at.Goals as goal

pub returns : goal.returns
unfolding record_at
returns c = rw add-sub_cancel_left
