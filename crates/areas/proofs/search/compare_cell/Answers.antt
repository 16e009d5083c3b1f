use Rattle.areas.proofs.Answers.{rest-compared}
use Rattle.areas.proofs.search.compare_cell.Goals as goal

pub returns : goal.returns
returns c = rest-compared _ _ _ c.args.rec.now c.args.at c.read_cell.ensures.0 c.compare.ensures
