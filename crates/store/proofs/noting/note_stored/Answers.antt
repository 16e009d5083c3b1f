use Rattle.std.proofs.Common.{◌∙◌}
use Rattle.laid.specs.Row.{row_in}
use Rattle.laid.proofs.Keyed.{row_within, row_read, row-bytes}
use Rattle.laid.proofs.Stores.{held-inside}
use Rattle.store.proofs.Settling.{noted-row}
use Rattle.store.proofs.noting.note_stored.Goals as goal

pub row_record-requires-clause-inside : goal.row_record-requires-clause-inside
row_record-requires-clause-inside c = held-inside _ _ _ c.requires.0

pub row_record-requires-clause-i_in_bounds : goal.row_record-requires-clause-i_in_bounds
row_record-requires-clause-i_in_bounds c = row_within _ _ _ c.requires.0 c.args.i c.requires.1

pub note_row-requires : goal.note_row-requires
note_row-requires c = (c.requires.2, row-bytes _ _ _ c.requires.0 c.args.i c.requires.1 c.row_record.result.now c.row_record.ensures)

pub returns : goal.returns
returns c =
    noted-row (row_in c.args.p c.args.places c.args.s.now c.args.i) (c.row_record.ensures ∙ row_read _ _ _ c.requires.0 c.args.i c.requires.1)
    (row-bytes _ _ _ c.requires.0 c.args.i c.requires.1 c.row_record.result.now c.row_record.ensures) c.note_row.ensures
