use Rattle.std.proofs.Common.{arith}
use Rattle.areas.proofs.Counting.{shrunk-back}
use Rattle.areas.proofs.area.close_counted.Goals as goal

pub returns : goal.returns
returns c = shrunk-back _ _ _ _ _ _ _ _ _ _ _ c.count_at-n.ensures (omega arith) c.put.ensures c.close_at.ensures
