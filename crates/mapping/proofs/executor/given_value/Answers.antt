use Rattle.mapping.specs.Mapped.{map_of}
use Rattle.mapping.proofs.ValuesFrom.{nth-read}
use Rattle.mapping.proofs.executor.given_value.Goals as goal

pub returns-in-None : goal.returns-in-None
unfolding map_of
returns-in-None c = let e = c.nth.ensures.ran in rw c.in-None.is (nth-read _ _ _ e.0 _ _ e.1.1 e.1.2 e.2)
