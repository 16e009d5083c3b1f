-- `requests::entry::one` meets its contract. Assumes nothing.
use mathlib.Core.Path.{◌≡◌, sym, subst}
use mathlib.Core.Bool.{true}
use native.Mathlib.Omega.{arith}
use borrow.Author.Rules.{rules}
use Rattle.forms.specs.Read.{Read}
use Rattle.rules.specs.Profile.{full}
use Rattle.rules.proofs.Widths.{full-indexed}
use Rattle.rules.specs.Request.{Request}
use Rattle.rules.specs.Pages.{books_of, sound_books}
use Rattle.journal.specs.Books.{Booked, Settled}
use Rattle.operations.specs.Told.{outcome_of}
use Rattle.requests.proofs.Lending.{full-paging, tested, sound-lent, lent-from, lent-untested, lent-settled, lent-broken, whole-least, whole-longer, whole_says, no_whole}
use Rattle.requests.proofs.entry.one.Goals as goal
use Rattle.requests.proofs.entry.one.Goals.{After-places_of-places, in_default-via-in-Whole+else-n-rec, in_default-via-in_default}

-- ---- behind the test: both buffers as they were, and sound where it is passed

passed : (c : After-places_of-places) → sound_books full c.are_sound.new.s c.are_sound.new.j ≡ true
passed c = tested c.are_sound.ensures c.if-not-are_sound.false

sound-here : (c : After-places_of-places) → Booked full c.places_of-places.result c.are_sound.new.s c.are_sound.new.j
sound-here c = sound-lent full-paging full-indexed c.places_of-places.ensures (passed c)

-- ---- the needs

pub returns-then-not-are_sound : goal.returns-then-not-are_sound
returns-then-not-are_sound c = search (rules, lent-untested)

pub slice_bounds-execute-count : goal.slice_bounds-execute-count
slice_bounds-execute-count c = omega (arith, whole-least full c.args.rec.now c.next_record.result c.next_record.ensures _ c.in-Whole.is)

pub slice_bounds-execute-start : goal.slice_bounds-execute-start
slice_bounds-execute-start c = omega (arith, whole-least full c.args.rec.now c.next_record.result c.next_record.ensures _ c.in-Whole.is)

pub execute-requires : goal.execute-requires
execute-requires c = sound-here (goal.at.execute-requires c).After-places_of-places

pub returns-in-Whole : goal.returns-in-Whole
returns-in-Whole c =
    let e = c.are_sound.ensures in
    let x = c.execute in
    let y = c.are_sound.new in
    let R = c.places_of-places.result in
    lent-from e.1 e.2
    (lent-settled c.places_of-places.ensures (passed (goal.at.returns-in-Whole c).After-places_of-places)
    (subst (λ (q : Read Request). Settled full R (outcome_of full R (books_of full R y.s y.j) q) y.s y.j x.new.s x.new.j x.result)
    (sym (whole_says full _ c.next_record.result c.next_record.ensures c.in-Whole.n c.in-Whole.is c.if-n-rec.true))
    x.ensures))

pub returns-in_default : goal.returns-in_default
returns-in_default c =
    let e = c.are_sound.ensures in
    lent-from e.1 e.2
    (lent-broken full-paging full-indexed (passed (goal.at.returns-in_default c).After-places_of-places) 0
    (elim c.in_default.branch [
      | in_default-via-in-Whole+else-n-rec w ↦ whole-longer full _ c.next_record.result c.next_record.ensures _ w.in-Whole.is w.if-n-rec.false
      | in_default-via-in_default w ↦ no_whole full _ c.next_record.result c.next_record.ensures w.in_default.not-Whole
    ])
    c.new-in_default.ensures)
