use Rattle.std.proofs.Common.{◌∙◌}
use native.Mathlib.Nat.{add-sub_cancel_left}
use Rattle.areas.specs.Counted.{count_at}
use Rattle.areas.proofs.area.count_at.Goals as goal

pub returns : goal.returns
unfolding count_at
returns c = c.get.ensures ∙ rw add-sub_cancel_left
