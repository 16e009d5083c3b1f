-- A row without a fault is put in, and noted.
use Rattle.std.proofs.Common.{refl, ap}
use Rattle.rules.specs.declared.answer.Refusal.TheVariants.{JournalFull}
use Rattle.rules.specs.Schema.{at}
use Rattle.journal.proofs.Booking.{laid-books}
use Rattle.store.proofs.Settling.{paged-of, has_room, no_room, roomy_of}
use Rattle.store.proofs.Written.{put-faulty, put_full, put-free, insert-refused, put-addable, row-inserted}
use Rattle.store.proofs.rows.insert.Goals as goal

pub returns-in-Err : goal.returns-in-Err
unfolding at
returns-in-Err c =
    insert-refused c.requires.0 c.requires.1 c.args.n c.in-Err.kind c.args.n (ap (at c.args.n) (put-faulty _ _ _ _ _ _ _ c.in-Err.ensures)) _ c.new-refused.ensures

pub has_places-requires : goal.has_places-requires
has_places-requires c = paged-of (laid-books c.requires.0)

pub returns-then-not-has_places : goal.returns-then-not-has_places
unfolding at
returns-then-not-has_places c =
    let f = no_room (laid-books c.requires.0) 1 c.has_places.ensures c.if-not-has_places.true in
    insert-refused c.requires.0 c.requires.1 c.args.n JournalFull c.args.n (ap (at c.args.n) (put_full _ _ _ _ _ _ c.in_default.ensures f)) _ c.new.ensures

pub note_new-requires : goal.note_new-requires
note_new-requires c =
    let l = laid-books c.requires.0 in
    (l.store, c.requires.1, roomy_of l (has_room l 1 c.has_places.ensures c.if-not-has_places.false))

pub add_row-requires : goal.add_row-requires
add_row-requires c =
    let l = laid-books c.requires.0 in
    let h = put-free _ _ _ _ _ _ c.in_default.ensures (has_room l 1 c.has_places.ensures c.if-not-has_places.false) in
    (l.store, c.requires.1.proper, put-addable c.requires.0 c.requires.1 h)

pub returns : goal.returns
returns c =
    let h = put-free _ _ _ _ _ _ c.in_default.ensures (has_room (laid-books c.requires.0) 1 c.has_places.ensures c.if-not-has_places.false) in
    row-inserted c.requires.0 c.requires.1 h c.add_row.ensures c.note_new.ensures c.args.n _ refl
