-- So many places fit in a word. Assumes nothing.
use Rattle.std.proofs.Common.{arith, rules}
use Rattle.sound.proofs.JournalAsked.{places-fit}
use Rattle.sound.proofs.journal_test.right_journal.Goals as goal

pub overflow_mul-result : goal.overflow_mul-result
overflow_mul-result c =
    let a = c.args in omega (arith, places-fit a.p c.requires c.places_of-places.result c.event_width.result c.event_width.ensures (search rules))

pub overflow_add-result : goal.overflow_add-result
overflow_add-result c =
    let a = c.args in omega (arith, places-fit a.p c.requires c.places_of-places.result c.event_width.result c.event_width.ensures (search rules))
