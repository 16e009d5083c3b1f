-- Each test that was passed is what the next one asks for. Assumes nothing.
use borrow.Author.Tests.{not-true, not-false}
use Rattle.std.proofs.Common.{arith, rules, refl, sym, ◌∙◌}
use Rattle.std.proofs.lemmas.Grind.{common_steps}
use Rattle.rules.specs.Sound.{all}
use Rattle.sound.proofs.JournalVerdict.{right-journal, wrong_journal, closed_verdict, laid-few, store-schemed, open-batch, open_verdict}
use Rattle.sound.proofs.journal_test.is_sound_journal.Goals as goal

pub returns-then-not-right_journal : goal.returns-then-not-right_journal
returns-then-not-right_journal c =
    let a = c.args in (sym (wrong_journal a.p a.places a.s.now a.j.now (sym c.right_journal.ensures ∙ c.if-not-right_journal.true)), refl, refl)

pub is_open-requires : goal.is_open-requires
is_open-requires c =
    let a = c.args in
    let q = c.requires in
    let h = sym c.right_journal.ensures ∙ c.if-not-right_journal.false in
    omega (arith, (right-journal a.p a.j.now h).long)

pub returns-then-not-is_open : goal.returns-then-not-is_open
returns-then-not-is_open c =
    let a = c.args in
    let q = c.requires in
    let h = sym c.right_journal.ensures ∙ c.if-not-right_journal.false in
    (c.all_zero.ensures ∙ sym (closed_verdict a.p a.places a.s.now a.j.now h (not-false _ (sym c.is_open.ensures ∙ c.if-not-is_open.true))), refl, refl)

pub are_events-requires : goal.are_events-requires
are_events-requires c =
    let a = c.args in
    let q = c.requires in
    let h = sym c.right_journal.ensures ∙ c.if-not-right_journal.false in
    (store-schemed q.0, h, laid-few a.p a.j.now (sym c.is_journal_laid.ensures ∙ c.if-is_journal_laid.true))

pub is_backed-requires : goal.is_backed-requires
is_backed-requires c =
    let a = c.args in
    let q = c.requires in
    let h = sym c.right_journal.ensures ∙ c.if-not-right_journal.false in
    let o = not-true _ (sym c.is_open.ensures ∙ c.if-not-is_open.false) in
    (open-batch q.0 a.j.now (search rules) h o q.1 (grind (arith, common_steps)) (grind (arith, common_steps)), q.0.some)

pub returns-then-are_events : goal.returns-then-are_events
unfolding all
returns-then-are_events c =
    let a = c.args in
    let q = c.requires in
    let h = sym c.right_journal.ensures ∙ c.if-not-right_journal.false in
    let o = not-true _ (sym c.is_open.ensures ∙ c.if-not-is_open.false) in
    let v = open_verdict q.0 a.j.now (search rules) h o in
    (grind (arith, common_steps, v), c.is_backed.ensures.1, c.is_backed.ensures.2)

pub returns-else-are_events : goal.returns-else-are_events
unfolding all
returns-else-are_events c =
    let a = c.args in
    let q = c.requires in
    let h = sym c.right_journal.ensures ∙ c.if-not-right_journal.false in
    let o = not-true _ (sym c.is_open.ensures ∙ c.if-not-is_open.false) in
    let v = open_verdict q.0 a.j.now (search rules) h o in
    (grind (arith, common_steps, v), refl, refl)
