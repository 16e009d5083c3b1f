-- Each test that was passed is what the next one asks for. Assumes nothing.
use Rattle.std.proofs.Common.{arith, ◌∙◌, sym}
use Rattle.std.proofs.lemmas.Grind.{common_steps}
use Rattle.rules.specs.Sound.{all}
use Rattle.sound.proofs.Verdict.{sound_short, long_of, inside-laid, catalog-of, schemed-of, tabled-of, sound_is}
use Rattle.sound.proofs.soundness.is_sound_of.Goals as goal

pub returns-then-not-right_length : goal.returns-then-not-right_length
returns-then-not-right_length c =
    let a = c.args in sym (sound_short a.p c.requires a.s.now (sym c.right_length.ensures ∙ c.if-not-right_length.true))

pub is_laid_out-requires : goal.is_laid_out-requires
is_laid_out-requires c =
    let a = c.args in
    let h = sym c.right_length.ensures ∙ c.if-not-right_length.false in
    let l = long_of a.p c.requires a.s.now h c.places_of-places.result c.places_of-places.ensures in (c.requires.0, l.0, l.1)

pub is_cataloged-requires : goal.is_cataloged-requires
is_cataloged-requires c =
    let a = c.args in
    let h = sym c.right_length.ensures ∙ c.if-not-right_length.false in
    inside-laid a.p c.requires a.s.now h c.places_of-places.result c.places_of-places.ensures (λ i. (c.type_inv.s i).fits) (grind (arith, common_steps))

pub are_faultless-requires : goal.are_faultless-requires
are_faultless-requires c =
    let a = c.args in
    let h = sym c.right_length.ensures ∙ c.if-not-right_length.false in
    catalog-of a.p c.places_of-places.result a.s.now (inside-laid a.p c.requires a.s.now h c.places_of-places.result c.places_of-places.ensures (λ i. (c.type_inv.s i).fits) (grind (arith, common_steps))) (grind (arith, common_steps))

pub is_rowed-requires : goal.is_rowed-requires
is_rowed-requires c =
    let a = c.args in
    let h = sym c.right_length.ensures ∙ c.if-not-right_length.false in
    schemed-of a.p c.places_of-places.result a.s.now (inside-laid a.p c.requires a.s.now h c.places_of-places.result c.places_of-places.ensures (λ i. (c.type_inv.s i).fits) (grind (arith, common_steps))) (grind (arith, common_steps)) (grind (arith, common_steps))

pub are_linked-requires : goal.are_linked-requires
are_linked-requires c =
    let a = c.args in
    let h = sym c.right_length.ensures ∙ c.if-not-right_length.false in
    tabled-of a.p c.places_of-places.result a.s.now (inside-laid a.p c.requires a.s.now h c.places_of-places.result c.places_of-places.ensures (λ i. (c.type_inv.s i).fits) (grind (arith, common_steps))) (grind (arith, common_steps)) (grind (arith, common_steps)) (grind (arith, common_steps))

pub is_indexed-requires : goal.is_indexed-requires
is_indexed-requires c =
    let a = c.args in
    let h = sym c.right_length.ensures ∙ c.if-not-right_length.false in
    tabled-of a.p c.places_of-places.result a.s.now (inside-laid a.p c.requires a.s.now h c.places_of-places.result c.places_of-places.ensures (λ i. (c.type_inv.s i).fits) (grind (arith, common_steps))) (grind (arith, common_steps)) (grind (arith, common_steps)) (grind (arith, common_steps))

pub returns-then-are_linked : goal.returns-then-are_linked
unfolding all
returns-then-are_linked c =
    let a = c.args in
    let h = sym c.right_length.ensures ∙ c.if-not-right_length.false in
    grind (arith, common_steps, sound_is a.p c.requires a.s.now h c.places_of-places.result c.places_of-places.ensures (λ i. (c.type_inv.s i).fits))

pub returns-else-are_linked : goal.returns-else-are_linked
unfolding all
returns-else-are_linked c =
    let a = c.args in
    let h = sym c.right_length.ensures ∙ c.if-not-right_length.false in
    grind (arith, common_steps, sound_is a.p c.requires a.s.now h c.places_of-places.result c.places_of-places.ensures (λ i. (c.type_inv.s i).fits))
