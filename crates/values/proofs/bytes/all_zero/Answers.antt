use Rattle.std.proofs.Common.{rules, tests, ◌∙◌, sym, nat_eq}
use Rattle.std.proofs.lemmas.Iterator.{YieldsList-from_slice}
use Rattle.std.proofs.lemmas.Iterator.Search.{all_from_yields_List}
use Rattle.values.proofs.Scans.{zeros-all}
use Rattle.values.proofs.bytes.all_zero.Goals as goal

pub returns : goal.returns
returns c = all_from_yields_List (λ x. nat_eq x 0) _ _ _ c.all.ensures.ran (YieldsList-from_slice c.args.s.now cc) (λ x b q k. search (rules, tests)) ∙ sym (zeros-all _)
