use Rattle.std.proofs.Common.{◌≡◌, true, false, refl, ap, ◌∙◌, subst, arith}
use Rattle.values.specs.declared.value.Value.TheVariants.{Boolean}
use Rattle.values.specs.Value.{null, boolean}
use Rattle.values.specs.Meaning.{meaning, Proper}
use Rattle.forms.specs.Print.{printed}
use Rattle.forms.proofs.Fronts.{shown, shown-integer}
use Rattle.forms.proofs.print.print_value.Goals as goal

pub put_text-requires : goal.put_text-requires
unfolding Proper
put_text-requires c = (c.requires.0, subst Proper c.in-Text.is c.requires.1)

pub returns-in-Null : goal.returns-in-Null
unfolding meaning printed
returns-in-Null c = rw c.in-Null.is (shown null c.put_bytes.ensures refl (omega arith))

pub returns-in-Boolean-true : goal.returns-in-Boolean-true
unfolding meaning printed
returns-in-Boolean-true c =
    let e : c.in-Boolean-true.field-0 ≡ true = cc in
    rw (c.in-Boolean-true.is ∙ ap Boolean e) (shown (boolean true) c.put_bytes-in-Boolean-true.ensures refl (omega arith))

pub returns-in-Boolean-false : goal.returns-in-Boolean-false
unfolding meaning printed
returns-in-Boolean-false c =
    let e : c.in-Boolean-false.field-0 ≡ false = cc in
    rw (c.in-Boolean-false.is ∙ ap Boolean e) (shown (boolean false) c.put_bytes-in-Boolean-false.ensures refl (omega arith))

pub returns-in-Integer : goal.returns-in-Integer
unfolding meaning Proper
returns-in-Integer c = rw c.in-Integer.is (shown-integer c.in-Integer.z (subst Proper c.in-Integer.is c.requires.1) c.put_integer.ensures)

pub returns-in-Float : goal.returns-in-Float
unfolding meaning
returns-in-Float c = rw c.in-Float.is c.put_float.ensures

pub returns-in-Text : goal.returns-in-Text
unfolding meaning
returns-in-Text c = rw c.in-Text.is c.put_text.ensures
