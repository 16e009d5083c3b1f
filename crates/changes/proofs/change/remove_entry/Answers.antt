-- The entry's place is closed.
use Rattle.std.proofs.Common.{refl}
use Rattle.laid.specs.Entered.{entry_of}
use Rattle.laid.proofs.Entering.{entry-shrinks, entry_gone}
use Rattle.changes.proofs.change.remove_entry.Goals as goal

pub close_counted-requires : goal.close_counted-requires
close_counted-requires c =
    entry-shrinks _ _ _ c.requires.0 (entry_of c.args.name c.args.column c.args.v c.args.key) _ _ _ _ c.entries_at-from.ensures c.entry_width-width.ensures refl c.entry_rank-i.ensures c.requires.2

pub returns : goal.returns
returns c =
    entry_gone _ _ _ c.requires.0 (entry_of c.args.name c.args.column c.args.v c.args.key) _ _ _ _ c.entries_at-from.ensures c.entry_width-width.ensures refl c.entry_rank-i.ensures c.requires.2 _ c.close_counted.ensures
