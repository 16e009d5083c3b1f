use Rattle.std.proofs.Common.{ap, ◌+◌, ◌∙◌}
use Rattle.values.specs.Area.{cleared}
use Rattle.values.proofs.Shifts.{raised-copied}
use Rattle.areas.proofs.Nest.{opened-parts}
use Rattle.areas.proofs.area.open_place.Goals as goal

pub returns : goal.returns
returns c =
    let a = c.args in
    c.clear.ensures ∙ ap (cleared a.at (a.at + a.width)) (c.copy_within.ensures.after ∙ raised-copied _ _ _ _ c.requires.at-le)
    ∙ opened-parts _ _ _ _ c.requires.at-le c.requires.fits
