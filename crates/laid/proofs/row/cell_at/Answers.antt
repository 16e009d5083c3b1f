-- The cell is read in the row's record, which is lent.
use Rattle.std.proofs.Common.{◌∙◌}
use Rattle.laid.proofs.Stores.{held-inside}
use Rattle.laid.proofs.Keyed.{row_within, row-bytes, cell-column, cell-lent}
use Rattle.laid.proofs.row.cell_at.Goals as goal

pub row_record-requires-clause-inside : goal.row_record-requires-clause-inside
row_record-requires-clause-inside c = held-inside _ _ _ c.requires.0

pub row_record-requires-clause-i_in_bounds : goal.row_record-requires-clause-i_in_bounds
row_record-requires-clause-i_in_bounds c = row_within _ _ _ c.requires.0 _ c.requires.1

pub cell_in-requires : goal.cell_in-requires
cell_in-requires c = (
  c.requires.0.coded,
  row-bytes _ _ _ c.requires.0 _ c.requires.1 _ c.row_record.ensures,
  cell-column _ _ _ c.requires.0 _ c.requires.1 _ c.row_record.ensures _ c.requires.2,
)

pub returns : goal.returns
returns c = (c.cell_in.ensures.0 ∙ cell-lent _ _ _ c.requires.0 _ c.requires.1 _ c.row_record.ensures _ c.requires.2, c.cell_in.ensures.1)
