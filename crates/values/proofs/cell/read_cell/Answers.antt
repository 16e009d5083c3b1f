use Rattle.std.proofs.Common.{rules, ap, sym, ◌∙◌}
use Rattle.std.specs.Int.{w64}
use Rattle.std.proofs.Common.{SFits, to_z}
use mir.ValLaws.{to_z-of_z}
use Rattle.values.specs.Value.{integer, float, text, normal_bits}
use Rattle.values.specs.Meaning.{meaning, Proper}
use Rattle.values.proofs.Cells.{at_null, at-boolean, at-integer, at-float, at-text}
use Rattle.values.proofs.cell.read_cell.Goals as goal

pub returns-in-0 : goal.returns-in-0
unfolding meaning Proper
returns-in-0 c = (sym (at_null _ c.in-0.is), tt)

pub returns-in-1 : goal.returns-in-1
unfolding meaning Proper
returns-in-1 c = (sym (at-boolean _ c.in-1.is), tt)

pub returns-in-2 : goal.returns-in-2
unfolding meaning Proper
returns-in-2 c =
    let f : SFits w64 c.integer_of.result = record { sfits = c.integer_of.type_inv } in
    let e = to_z-of_z w64 c.integer_of.result f in
    (ap integer (e ∙ c.integer_of.ensures ∙ ap (to_z w64) c.get.ensures) ∙ sym (at-integer _ c.in-2.is), rw e f)

pub returns-in-3 : goal.returns-in-3
unfolding meaning Proper
returns-in-3 c = (ap float (c.float_of.ensures.0 ∙ ap normal_bits c.get-in-3.ensures) ∙ sym (at-float _ c.in-3.is), c.float_of.ensures.1)

pub returns-in_default : goal.returns-in_default
unfolding meaning Proper
returns-in_default c = (ap text c.read_name.ensures.0 ∙ sym (at-text _ (search rules) (search rules) (search rules) (search rules)), c.read_name.ensures.1)
