use Rattle.std.proofs.Common.{◌≡◌, ◌*◌, ◌%◌, refl, ap, sym, ◌∙◌, subst, arith, length, ◌∷◌, length-take, length-drop, length-set}
use Rattle.std.specs.Int.{w64}
use Rattle.std.proofs.Common.{of_z}
use mir.ValLaws.{to_z-of_z}
use Rattle.values.specs.Bytes.{be, pad}
use Rattle.values.specs.Meaning.{text_bytes, Packed, Proper, meaning}
use Rattle.values.specs.Cell.{cell_width, content, value_cell, name_cell}
use Rattle.values.proofs.Parts.{one, fill, whole}
use Rattle.values.proofs.Packing.{text-long}
use Rattle.values.proofs.Cells.{raw, raw-boolean, length-name}
use Rattle.values.proofs.cell.write_cell.Goals as goal

pub write_name-requires : goal.write_name-requires
unfolding Proper
write_name-requires c = (simp (length-take, length-drop, length-set) (omega arith), subst Proper c.in-Text.is c.requires.1)

pub returns-in-Null : goal.returns-in-Null
unfolding value_cell content meaning be pad
returns-in-Null c = c.write_word.ensures ∙ ap (λ v. value_cell cell_width (meaning v)) (sym c.in-Null.is)

pub returns-in-Boolean : goal.returns-in-Boolean
unfolding value_cell content meaning be pad
returns-in-Boolean c =
    c.write_word-in-Boolean.ensures ∙ ap (λ n. raw 1 (n * 72057594037927936 % 18446744073709551616)) c.from.ensures ∙ raw-boolean c.in-Boolean.b
    ∙ ap (λ v. value_cell cell_width (meaning v)) (sym c.in-Boolean.is)

pub returns-in-Integer : goal.returns-in-Integer
unfolding value_cell content meaning be pad Proper
returns-in-Integer c =
    let f = to_z-of_z w64 c.in-Integer.z (subst Proper c.in-Integer.is c.requires.1) in
    c.write_word-in-Integer.ensures ∙ ap (raw 2) (c.integer_bits.ensures ∙ ap (of_z w64) f) ∙ ap (λ v. value_cell cell_width (meaning v)) (sym c.in-Integer.is)

pub returns-in-Float : goal.returns-in-Float
unfolding value_cell content meaning be pad
returns-in-Float c = c.write_word-in-Float.ensures ∙ ap (raw 3) c.float_bits.ensures ∙ ap (λ v. value_cell cell_width (meaning v)) (sym c.in-Float.is)

-- a text's cell is a kind and a name
pub returns-in-Text : goal.returns-in-Text
unfolding value_cell content meaning name_cell Proper
returns-in-Text c =
    let t = c.in-Text.t in
    let p : Packed t = subst Proper c.in-Text.is c.requires.1 in
    let l : length c.write_name.new.out ≡ 25 = ap length c.write_name.ensures ∙ length-name (text_bytes t) (omega (arith, p.short, text-long t p)) in
    whole 26 _ _ (fill 26 1 25 _ _ _ (one 26 4 _ c.requires.0 (omega arith)) refl l (omega arith)) (omega arith)
    ∙ ap (λ n. 4 ∷ n) c.write_name.ensures ∙ ap (λ v. value_cell cell_width (meaning v)) (sym c.in-Text.is)
