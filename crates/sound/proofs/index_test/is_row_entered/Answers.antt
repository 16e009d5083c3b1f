-- The row of a table is asked as its cells are. Assumes nothing.
use Rattle.sound.proofs.Linking.{entered-nowhere, entered_here}
use Rattle.rules.specs.Layout.{parse, read_table}
use Rattle.laid.specs.Entered.{entries_in}
use Rattle.sound.proofs.index_test.is_row_entered.Goals as goal

pub returns-in_default : goal.returns-in_default
returns-in_default c =
    let a = c.args in
    entered-nowhere a.p (parse a.p a.places a.s.now).tables a.row.now (entries_in a.p a.places a.s.now) (rw c.read_name.ensures.0 at c.in_default.ensures)

pub returns : goal.returns
returns c =
    let a = c.args in
    entered_here a.p (parse a.p a.places a.s.now).tables a.row.now (entries_in a.p a.places a.s.now) c.requires.0.tabled.schemed.catalog.inside.coded (read_table a.p c.in-Some.rec.now) (rw c.read_name.ensures.0 at c.in-Some.ensures.named) _ c.are_cells_entered.ensures
