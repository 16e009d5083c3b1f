-- The entries' records are searched.
use Rattle.std.proofs.Common.{arith}
use Rattle.rules.specs.Layout.{Entries}
use Rattle.laid.specs.Entered.{entry_of}
use Rattle.laid.proofs.Inside.{inside-header, area-start}
use Rattle.laid.proofs.Entering.{entry-width, entered-inside, entries-searched, entries-ranked}
use Rattle.laid.proofs.entry.entry_rank.Goals as goal

pub slice_bounds-entered_before-count : goal.slice_bounds-entered_before-count
slice_bounds-entered_before-count c = area-start _ _ _ (entered-inside _ _ _ c.requires.0) Entries _ c.entries_at-from.ensures

pub slice_bounds-entered_before-start : goal.slice_bounds-entered_before-start
slice_bounds-entered_before-start c = area-start _ _ _ (entered-inside _ _ _ c.requires.0) Entries _ c.entries_at-from.ensures

pub entry_count-requires : goal.entry_count-requires
entry_count-requires c = inside-header _ _ _ (entered-inside _ _ _ c.requires.0)

pub entered_before-requires-clause-cell_width_bound : goal.entered_before-requires-clause-cell_width_bound
entered_before-requires-clause-cell_width_bound c =
    (omega (arith, entry-width c.args.p c.requires.0.coded.cells), c.requires.1.name, c.requires.1.value, c.requires.1.key)

pub entered_before-requires-clause-search_in : goal.entered_before-requires-clause-search_in
entered_before-requires-clause-search_in c =
    entries-searched _ _ _ c.requires.0 (entry_of c.args.name c.args.column c.args.v c.args.key) _ _ _ c.entries_at-from.ensures c.entry_width.ensures c.entry_count.ensures

pub returns : goal.returns
returns c =
    entries-ranked _ _ _ c.requires.0 (entry_of c.args.name c.args.column c.args.v c.args.key) _ _ _ c.entries_at-from.ensures c.entry_width.ensures c.entry_count.ensures _
    c.entered_before.ensures
