use Rattle.std.proofs.Common.{ap, ◌-◌, ◌∙◌}
use Rattle.values.specs.Area.{cleared}
use Rattle.values.proofs.Shifts.{lowered-copied, closed_parts}
use Rattle.areas.proofs.area.close_place.Goals as goal

pub returns : goal.returns
returns c =
    let a = c.args in
    c.clear.ensures ∙ ap (cleared (a.used - a.width) a.used) (c.copy_within.ensures.after ∙ lowered-copied _ _ _ _ c.requires.at-le)
    ∙ closed_parts _ _ _ _ c.requires.at-le c.requires.fits
