use Rattle.std.proofs.Common.{arith}
use Rattle.areas.proofs.Counting.{grown-back}
use Rattle.areas.proofs.area.open_counted.Goals as goal

pub returns : goal.returns
returns c = grown-back _ _ _ _ _ _ _ _ _ _ c.count_at-n.ensures (omega arith) c.put.ensures c.open_at.ensures
