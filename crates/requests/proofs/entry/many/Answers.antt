-- `requests::entry::many` meets its contract. Assumes nothing.
use mathlib.Core.Path.{◌≡◌}
use mathlib.Core.Bool.{true}
use Rattle.std.specs.declared.result.Result.TheVariants.{Err}
use Rattle.rules.specs.Profile.{full}
use Rattle.rules.specs.Pages.{sound_books}
use Rattle.rules.proofs.Widths.{full-indexed}
use Rattle.journal.specs.Books.{Booked}
use Rattle.requests.proofs.Lending.{full-paging, tested, sound-lent, many-from, many-told, many-untold, many-ran}
use Rattle.requests.proofs.entry.many.Goals as goal
use Rattle.requests.proofs.entry.many.Goals.{After-places_of-places}

-- ---- behind the test: both buffers as they were, and sound where it is passed

passed : (c : After-places_of-places) → sound_books full c.are_sound.new.s c.are_sound.new.j ≡ true
passed c = tested c.are_sound.ensures c.if-not-are_sound.false

sound-here : (c : After-places_of-places) → Booked full c.places_of-places.result c.are_sound.new.s c.are_sound.new.j
sound-here c = sound-lent full-paging full-indexed c.places_of-places.ensures (passed c)

-- ---- the needs

pub returns-then-out-ge-ANSWER_MOST : goal.returns-then-out-ge-ANSWER_MOST
returns-then-out-ge-ANSWER_MOST c =
    let e = c.are_sound.ensures in
    many-from e.1 e.2
    (many-told (tested e c.if-not-are_sound.true) (Err c.new.result) c.new.ensures c.if-out-ge-ANSWER_MOST.true c.put_answer-written.ensures.0)

pub returns-else-out-ge-ANSWER_MOST : goal.returns-else-out-ge-ANSWER_MOST
returns-else-out-ge-ANSWER_MOST c =
    let e = c.are_sound.ensures in
    many-from e.1 e.2 (many-untold (tested e c.if-not-are_sound.true) c.if-out-ge-ANSWER_MOST.false)

pub run-requires : goal.run-requires
run-requires c = sound-here (goal.at.run-requires c).After-places_of-places

pub returns : goal.returns
returns c =
    let e = c.are_sound.ensures in
    many-from e.1 e.2 (many-ran c.places_of-places.ensures (passed (goal.at.returns c).After-places_of-places) c.run.ensures)
