use Rattle.std.proofs.Common.{[], refl, ap, sym, ◌∙◌, arith, ◌∷◌, replicate}
use Rattle.values.specs.Bytes.{be}
use Rattle.values.proofs.Parts.{two, fill-be, be-append, fill-zeros}
use Rattle.values.proofs.cell.write_word.Goals as goal

pub returns : goal.returns
unfolding be
returns c =
    c.clear.ensures
    ∙ fill-zeros 26 10 _ _ (fill-be 26 2 8 c.args.w _ _ _ (two 26 c.args.kind 0 _ c.requires (omega arith)) refl (omega arith) c.put.ensures) refl
    ∙ ap (λ l. c.args.kind ∷ 0 ∷ l) (sym (be-append 8 c.args.w [] (replicate 16 0)))
