use Prim.Native.Nat.{compare, Ordering}
use Rattle.std.proofs.Common.{rules, ap, ◌∙◌, drop, get_or}
use Rattle.values.specs.Cell.{read_value}
use Rattle.values.specs.Value.{cmp_value}
use Rattle.values.specs.Meaning.{ordering, meaning}
use Rattle.values.proofs.Orders.{cmpℕ-ordering, and_assoc}
use Rattle.areas.specs.Search.{cmp_content}
use Rattle.areas.proofs.Answers.{then-compared}
use Rattle.areas.proofs.search.compare_content.Goals as goal

pub returns : goal.returns
unfolding cmp_content
returns c =
    let n = get_or c.args.rec.now 25 0 in
    let stored : Ordering = cmp_value (read_value (drop 26 c.args.rec.now)) (meaning c.args.v) in
    let key : Ordering = cmp_value (read_value (drop 52 c.args.rec.now)) (meaning c.args.key) in
    then-compared _ _ _ key
    (then-compared _ _ _ stored (ap ordering c.cmp.ensures ∙ cmpℕ-ordering n c.args.column) c.then_with.ensures (λ k. search rules))
    c.then_with-2.ensures (λ k. search rules)
    ∙ and_assoc (compare n c.args.column) stored key
