use Rattle.std.proofs.Common.{sym, ap, ◌∙◌, arith}
use mathlib.Core.Bool.{not, false≢true}
use borrow.Author.Tests.{ltb-true, ltb-false, leb-true, leb-false}
use Rattle.laid.proofs.Keyed.{rows-counted}
use Rattle.laid.proofs.Stores.{held-inside}
use Rattle.laid.proofs.Inside.{inside-header}
use Rattle.journal.proofs.Turning.{turn-known, turn-place}
use Rattle.journal.proofs.Rooming.{fits-absent, fits-free, fits-taken}
use Rattle.journal.proofs.back.can_turn.Goals as goal
use Rattle.journal.proofs.back.can_turn.Goals.{then-not-is_row_at, else-not-is_row_at}

pub is_row_at-requires : goal.is_row_at-requires
is_row_at-requires c = (turn-known c.requires, turn-place c.requires)

pub row_count-requires : goal.row_count-requires
row_count-requires c = let a = c.args in inside-header a.p a.places a.s.now (held-inside a.p a.places a.s.now c.requires.batch.store)

pub returns-then-row_count-places : goal.returns-then-row_count-places
returns-then-row_count-places c =
    let a = c.args in
    elim c.if-not-is_row_at.branch [
      | then-not-is_row_at w ↦ c.if-row_count-places.true ∙ fits-absent c.requires (sym c.is_row_at.ensures ∙ w.if-not-is_row_at.true)
      | else-not-is_row_at w ↦ c.if-row_count-places.true ∙ fits-free c.requires (omega (arith, ltb-true, leb-true, sym w.value-is ∙ c.if-row_count-places.true, w.row_count.ensures, rows-counted a.p a.places a.s.now c.requires.batch.store))
    ]

pub returns-else-row_count-places : goal.returns-else-row_count-places
returns-else-row_count-places c =
    let a = c.args in
    elim c.if-not-is_row_at.branch [
      | then-not-is_row_at w ↦ absurd (false≢true (sym c.if-row_count-places.false ∙ w.value-is ∙ ap not w.if-not-is_row_at.true))
      | else-not-is_row_at w ↦ c.is_taken.ensures ∙ fits-taken c.requires (sym c.is_row_at.ensures ∙ w.if-not-is_row_at.false) (omega (arith, ltb-false, leb-false, sym w.value-is ∙ c.if-row_count-places.false, w.row_count.ensures, rows-counted a.p a.places a.s.now c.requires.batch.store))
    ]
