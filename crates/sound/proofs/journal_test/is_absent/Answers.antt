-- The five tests are those of the definition. Assumes nothing.
use Rattle.std.proofs.Common.{arith, refl, ◌∙◌}
use Rattle.std.proofs.lemmas.Grind.{common_steps}
use Rattle.rules.specs.Layout.{parse}
use Rattle.rules.specs.Sound.{all}
use Rattle.sound.proofs.JournalAsked.{absent_is, found_some}
use Rattle.sound.proofs.journal_test.is_absent.Goals as goal

pub returns-then-all_zero : goal.returns-then-all_zero
unfolding all
returns-then-all_zero c =
    let a = c.args in
    grind (arith, common_steps, absent_is (parse a.p a.places a.s.now).tables a.rec.now c.is_some.result (c.is_some.ensures ∙ found_some c.get_table.result _ (rw c.read_name.ensures.0 at c.get_table.ensures)))

pub returns-else-all_zero : goal.returns-else-all_zero
unfolding all
returns-else-all_zero c =
    let a = c.args in grind (arith, common_steps, absent_is (parse a.p a.places a.s.now).tables a.rec.now _ refl)
