use Rattle.std.proofs.Common.{sym, ◌∙◌, arith}
use Rattle.journal.proofs.Noting.{book-long, spacious-of, place_of, note-none, note-one}
use Rattle.journal.proofs.page.note_row.Goals as goal

pub is_open-requires : goal.is_open-requires
is_open-requires c = omega (arith, book-long c.requires.0.holds)

pub returns-then-not-is_open : goal.returns-then-not-is_open
returns-then-not-is_open c = note-none c.args.p _ (sym c.is_open.ensures ∙ c.if-not-is_open.true)

pub next_place-i-requires : goal.next_place-i-requires
next_place-i-requires c = spacious-of c.requires.0 (sym c.is_open.ensures ∙ c.if-not-is_open.false)

pub put_row-requires : goal.put_row-requires
put_row-requires c = (c.requires.0.holds.paging.coded.known, c.requires.1, place_of c.requires.0 (sym c.is_open.ensures ∙ c.if-not-is_open.false) c.next_place-i.ensures)

pub returns : goal.returns
returns c = note-one c.requires.0 (sym c.is_open.ensures ∙ c.if-not-is_open.false) c.next_place-i.ensures _ c.put_row.ensures
