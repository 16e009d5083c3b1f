use Rattle.std.proofs.Common.{subst, ap, sym, ◌∙◌}
use Rattle.values.specs.Value.{is_undefined}
use Rattle.values.specs.Meaning.{meaning, Proper}
use Rattle.values.proofs.Floats.{is_nan-told}
use Rattle.values.proofs.value.is_undefined.Goals as goal
use lib.Ieee.Bits.{is_true}

pub returns-in-Float : goal.returns-in-Float
unfolding meaning Proper
returns-in-Float c = c.is_nan.ensures.value ∙ is_nan-told c.in-Float.x (is_true _ (subst Proper c.in-Float.is c.requires)) ∙ sym (ap (λ v. is_undefined (meaning v)) c.in-Float.is)
