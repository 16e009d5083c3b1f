use Rattle.forms.proofs.Fronts.{shown-float}
use Rattle.forms.proofs.print.put_float.Goals as goal

pub returns : goal.returns
returns c = shown-float _ _ _ c.put.ensures c.float_bits.ensures c.put_tagged.ensures
