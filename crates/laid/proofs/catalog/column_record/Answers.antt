-- The column's bytes lie inside the record, and are read as the column.
use Rattle.std.proofs.Common.{◌∙◌, ap, length}
use Rattle.rules.specs.Layout.{read_column}
use Rattle.laid.proofs.Columns.{column-room, column-long, column-alike}
use Rattle.laid.proofs.catalog.column_record.Goals as goal

pub record_at-requires : goal.record_at-requires
record_at-requires c = column-room _ _ c.requires.0 _ _ c.requires.1 c.column_width.ensures

pub returns-clause-long : goal.returns-clause-long
returns-clause-long c = ap length c.record_at.ensures ∙ column-long _ _ c.requires.0 _ _ c.requires.1 c.column_width.ensures

pub returns-clause-read : goal.returns-clause-read
returns-clause-read c = ap (read_column c.args.p) c.record_at.ensures ∙ column-alike _ _ c.requires.0 _ _ c.requires.1 c.column_width.ensures
