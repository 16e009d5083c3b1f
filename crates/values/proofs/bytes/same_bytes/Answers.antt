use Rattle.std.proofs.Common.{◌∙◌, sym}
use Rattle.values.proofs.Scans.{leqb-pointwise}
use Rattle.values.proofs.bytes.same_bytes.Goals as goal

pub returns : goal.returns
returns c = c.eq.ensures ∙ sym (leqb-pointwise _ _)
