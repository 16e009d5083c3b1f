-- What was taken back is put forth again. Assumes nothing.
use Rattle.sound.proofs.JournalVerdict.{tested, restored}
use Rattle.sound.proofs.journal_test.is_backed.Goals as goal

pub returns : goal.returns
returns c =
    let u = c.unwind-i.ensures in
    let k = restored u c.rewind.ensures in
    (tested u c.requires.1 c.is_well-well.ensures, k.0, k.1)
