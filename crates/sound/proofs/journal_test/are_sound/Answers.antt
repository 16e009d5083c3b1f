-- A sound store of document 01 is one that the journal's test asks for. Assumes nothing.
use Rattle.std.proofs.Common.{arith, refl, sym, ◌∙◌}
use Rattle.rules.specs.Profile.{full}
use Rattle.rules.proofs.Widths.{full-known, full-indexed}
use Rattle.laid.specs.Store.{Coded}
use Rattle.sound.proofs.JournalVerdict.{unsound_books, sound_both, sound-store}
use Rattle.sound.proofs.journal_test.are_sound.Goals as goal

coded : Coded full
coded = record { known = full-known; cells = refl }

pub returns-then-not-is_sound : goal.returns-then-not-is_sound
returns-then-not-is_sound c =
    let a = c.args in (sym (unsound_books full a.s.now a.j.now (sym c.is_sound.ensures ∙ c.if-not-is_sound.true)), refl, refl)

pub is_sound_journal-requires : goal.is_sound_journal-requires
is_sound_journal-requires c =
    let a = c.args in (sound-store full a.s.now a.j.now coded full-indexed (sym c.is_sound.ensures ∙ c.if-not-is_sound.false) _ c.places_of-places.ensures, record { coded = coded; most = omega arith })

pub returns : goal.returns
returns c =
    let a = c.args in
    let e = c.is_sound_journal.ensures in
    (e.0 ∙ sym (sound_both full a.s.now a.j.now (sym c.is_sound.ensures ∙ c.if-not-is_sound.false) _ c.places_of-places.ensures), e.1, e.2)
