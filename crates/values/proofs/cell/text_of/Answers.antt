use Rattle.std.proofs.Common.{ℕ, ap, ◌∙◌, ◌++◌, drop, length, replicate}
use Rattle.std.proofs.lemmas.List.{drop-replicate}
use Rattle.values.specs.Bytes.{pad}
use Rattle.values.proofs.Packing.{packed-of}
use Rattle.values.proofs.cell.text_of.Goals as goal

pub returns : goal.returns
unfolding pad
returns c =
    packed-of _ _ _ _ _ (λ i. (c.type_inv.s i).fits) c.requires
    (ap (λ l. l ++ drop (length c.args.s.now) (replicate 24 0)) c.copy_from_slice.ensures.after ∙ ap (λ l. c.args.s.now ++ l) (drop-replicate {X = ℕ} (length c.args.s.now) 24 0))
    c.get.ensures c.get-2.ensures c.get-3.ensures c.get.type_inv c.get-2.type_inv c.get-3.type_inv
