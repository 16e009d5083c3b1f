use Rattle.values.proofs.Shifts.{cleared-mid}
use Rattle.values.proofs.bytes.clear.Goals as goal

pub returns : goal.returns
returns c = cleared-mid _ _ _ _ c.requires.0 c.requires.1 (c.fill.ensures.after (λ y e. e))
