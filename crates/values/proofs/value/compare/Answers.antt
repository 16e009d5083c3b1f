use Rattle.std.proofs.Common.{ap, sym, ◌∙◌, subst}
use Rattle.values.specs.Value.{kind_of}
use Rattle.values.specs.Meaning.{meaning, Proper}
use Rattle.values.proofs.Compared.{kinds_told, nulls, no-boolean, no-integer, no-float, no-text, booleans, integers, floats, texts}
use Rattle.values.proofs.value.compare.Goals as goal
use Rattle.values.proofs.value.compare.Goals.{in_default-via-in-Boolean+in_default, in_default-via-in-Integer+in_default, in_default-via-in-Float+in_default, in_default-via-in-Text+in_default, in_default-via-in_default}

pub compare_texts-requires : goal.compare_texts-requires
unfolding Proper
compare_texts-requires c = (subst Proper c.in-Text-Text.is-0 c.requires.0, subst Proper c.in-Text-Text.is-1 c.requires.1)

pub returns-in-Boolean-Boolean : goal.returns-in-Boolean-Boolean
returns-in-Boolean-Boolean c = booleans _ _ _ _ _ c.in-Boolean-Boolean.is-0 c.in-Boolean-Boolean.is-1 c.cmp.ensures

pub returns-in-Integer-Integer : goal.returns-in-Integer-Integer
returns-in-Integer-Integer c = integers _ _ _ _ _ c.in-Integer-Integer.is-0 c.in-Integer-Integer.is-1 c.requires.0 c.requires.1 c.cmp-in-Integer-Integer.ensures

pub returns-in-Float-Float : goal.returns-in-Float-Float
returns-in-Float-Float c =
    floats _ _ _ _ _ _ _ c.in-Float-Float.is-0 c.in-Float-Float.is-1 c.signed_bits.ensures c.signed_bits-in-Float-Float.ensures
    (record { sfits = c.signed_bits.type_inv }) (record { sfits = c.signed_bits-in-Float-Float.type_inv }) c.cmp-in-Float-Float.ensures

pub returns-in-Text-Text : goal.returns-in-Text-Text
returns-in-Text-Text c = texts _ _ _ _ _ c.in-Text-Text.is-0 c.in-Text-Text.is-1 c.compare_texts.ensures

pub returns-in_default : goal.returns-in_default
unfolding meaning
returns-in_default c =
    kinds_told _ _ _ _ _ c.cmp-in_default.ensures c.datatype.ensures c.datatype-in_default.ensures (λ e. elim c.in_default.branch [
      | in_default-via-in-Boolean+in_default w ↦ absurd (no-boolean _ w.in_default.not-Boolean-1 (sym e ∙ ap (λ v. kind_of (meaning v)) w.in_default.is-0))
      | in_default-via-in-Integer+in_default w ↦ absurd (no-integer _ w.in_default.not-Integer-1 (sym e ∙ ap (λ v. kind_of (meaning v)) w.in_default.is-0))
      | in_default-via-in-Float+in_default w ↦ absurd (no-float _ w.in_default.not-Float-1 (sym e ∙ ap (λ v. kind_of (meaning v)) w.in_default.is-0))
      | in_default-via-in-Text+in_default w ↦ absurd (no-text _ w.in_default.not-Text-1 (sym e ∙ ap (λ v. kind_of (meaning v)) w.in_default.is-0))
      | in_default-via-in_default w ↦ nulls _ _ w.in_default.is-0 e
    ])
