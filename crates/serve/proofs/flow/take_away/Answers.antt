-- `serve::flow::take_away` meets its contract. Assumes nothing.
use Rattle.serve.proofs.Hand.{moved-away}
use Rattle.serve.proofs.flow.take_away.Goals as goal

pub returns-then-n-gt0 : goal.returns-then-n-gt0
returns-then-n-gt0 c = moved-away _ _ _ _ c.requires.n_le_have c.requires.have_in_bounds c.copy_within.ensures.after
