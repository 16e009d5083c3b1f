use Rattle.journal.proofs.Writing.{row_written}
use Rattle.journal.proofs.page.fill_row.Goals as goal

pub returns : goal.returns
returns c = row_written c.args.part.now c.args.rec.now c.requires c.copy_from_slice.new.self c.copy_from_slice.ensures.after
