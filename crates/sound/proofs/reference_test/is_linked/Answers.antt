-- The row of a table is asked as its cells are. Assumes nothing.
use Rattle.sound.proofs.Linking.{linked-nowhere, linked-here}
use Rattle.rules.specs.Layout.{parse, read_table}
use Rattle.sound.proofs.reference_test.is_linked.Goals as goal

pub returns-in_default : goal.returns-in_default
returns-in_default c =
    let a = c.args in
    linked-nowhere a.p (parse a.p a.places a.s.now).tables a.row.now (parse a.p a.places a.s.now).rows (rw c.read_name.ensures.0 at c.in_default.ensures)

pub returns : goal.returns
returns c =
    let a = c.args in
    linked-here a.p (parse a.p a.places a.s.now).tables a.row.now (parse a.p a.places a.s.now).rows c.requires.0.schemed.catalog.inside.coded (read_table a.p c.in-Some.rec.now) (rw c.read_name.ensures.0 at c.in-Some.ensures.named) _ c.are_held.ensures
