use Rattle.records.specs.Record.{scan_at}
use Rattle.records.proofs.Walking.{last}
use Rattle.records.proofs.record.scan_end.Goals as goal

pub returns : goal.returns
unfolding scan_at
returns c = last _ _ _ c.name_end.ensures
