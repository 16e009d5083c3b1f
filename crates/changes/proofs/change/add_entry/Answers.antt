-- A place is opened for the entry, which is written there.
use Rattle.std.proofs.Common.{◌+◌, ◌*◌, ◌≤◌, ◌∙◌, arith, ap, refl, length}
use Rattle.laid.specs.Entered.{entry_of}
use Rattle.laid.proofs.Entering.{entry-grows, entry-room, place-wide, entry-placed}
use Rattle.changes.proofs.Writing.{entry-long}
use Rattle.changes.proofs.change.add_entry.Goals as goal
use Rattle.changes.proofs.change.add_entry.Goals.{After-open_counted}

-- the place that was opened lies inside
room : (c : After-open_counted) → c.entries_at-from.result + c.entry_rank-i.result * c.entry_width-width.result + c.entry_width-width.result ≤ length c.open_counted.new.s
room c = entry-room _ _ _ c.requires.0 (entry_of c.args.name c.args.column c.args.v c.args.key) _ _ _ _ c.entries_at-from.ensures c.entry_width-width.ensures refl c.entry_rank-i.ensures c.requires.2 _ c.open_counted.ensures

pub open_counted-requires : goal.open_counted-requires
open_counted-requires c = entry-grows _ _ _ c.requires.0 (entry_of c.args.name c.args.column c.args.v c.args.key) _ _ _ _ c.entries_at-from.ensures c.entry_width-width.ensures refl c.entry_rank-i.ensures c.requires.2

pub overflow_mul-at : goal.overflow_mul-at
overflow_mul-at c = omega (arith, room (goal.at.overflow_mul-at c).After-open_counted)

pub overflow_add-at : goal.overflow_add-at
overflow_add-at c = omega (arith, room (goal.at.overflow_add-at c).After-open_counted)

pub overflow_add-at-2 : goal.overflow_add-at-2
overflow_add-at-2 c = omega (arith, room (goal.at.overflow_add-at-2 c).After-open_counted)

pub slice_bounds-write_entry-end : goal.slice_bounds-write_entry-end
slice_bounds-write_entry-end c = room (goal.at.slice_bounds-write_entry-end c).After-open_counted

pub write_entry-requires : goal.write_entry-requires
write_entry-requires c =
    (place-wide _ _ _ c.requires.0 (entry_of c.args.name c.args.column c.args.v c.args.key) _ _ _ _ c.entries_at-from.ensures c.entry_width-width.ensures refl c.entry_rank-i.ensures c.requires.2 _ c.open_counted.ensures, c.requires.1)

pub returns : goal.returns
returns c =
    entry-placed _ _ _ c.requires.0 (entry_of c.args.name c.args.column c.args.v c.args.key) _ _ _ _ c.entries_at-from.ensures c.entry_width-width.ensures refl c.entry_rank-i.ensures c.requires.2 _ c.open_counted.ensures
    _ c.write_entry.ensures (ap length c.write_entry.ensures ∙ entry-long c.args.name c.args.column c.args.v c.args.key c.requires.1)
