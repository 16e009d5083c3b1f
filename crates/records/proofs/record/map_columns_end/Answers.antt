use Rattle.std.proofs.Common.{◌∙◌, rules}
use Rattle.records.specs.Record.{columns_at}
use Rattle.records.proofs.Walking.{step_byte, row-times}
use Rattle.records.proofs.record.map_columns_end.Goals as goal

pub returns : goal.returns
unfolding columns_at
returns c = step_byte _ _ _ _ _ _ c.byte_of.ensures c.in_ok-a.ensures (c.times.ensures _ (λ at r l e. search rules) ∙ row-times _ _ _)
