-- The record lies inside.
use Rattle.std.proofs.Common.{◌∙◌, refl}
use Rattle.rules.specs.Layout.{Schemas}
use Rattle.laid.proofs.Inside.{record-within, record-read}
use Rattle.laid.proofs.layout.table_record.Goals as goal

pub record_at-requires : goal.record_at-requires
record_at-requires c = record-within _ _ _ c.requires.inside Schemas 12 _ _ refl c.schema_width.ensures c.requires.i_in_bounds

pub returns : goal.returns
returns c = c.record_at.ensures ∙ record-read _ _ _ c.requires.inside Schemas 12 _ _ refl c.schema_width.ensures c.requires.i_in_bounds
