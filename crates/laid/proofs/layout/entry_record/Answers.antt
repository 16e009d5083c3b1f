-- The record lies inside.
use Rattle.std.proofs.Common.{◌∙◌}
use Rattle.rules.specs.Layout.{Entries}
use Rattle.laid.proofs.Inside.{record-within, record-read}
use Rattle.laid.proofs.layout.entry_record.Goals as goal

pub record_at-requires : goal.record_at-requires
record_at-requires c = record-within _ _ _ c.requires.inside Entries _ _ _ c.entries_at.ensures c.entry_width.ensures c.requires.i_in_bounds

pub returns : goal.returns
returns c = c.record_at.ensures ∙ record-read _ _ _ c.requires.inside Entries _ _ _ c.entries_at.ensures c.entry_width.ensures c.requires.i_in_bounds
