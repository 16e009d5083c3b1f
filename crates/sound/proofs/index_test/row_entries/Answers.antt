-- A row of a table has an entry for each indexed column. Assumes nothing.
use Rattle.std.proofs.Common.{arith}
use Rattle.sound.proofs.Linking.{entries-nowhere, entries-here}
use Rattle.rules.specs.Layout.{parse, read_table}
use Rattle.sound.proofs.index_test.row_entries.Goals as goal

pub returns-in_default : goal.returns-in_default
returns-in_default c =
    let a = c.args in
    (entries-nowhere a.p (parse a.p a.places a.s.now).tables a.row.now (rw c.read_name.ensures.0 at c.in_default.ensures), omega arith)

pub returns : goal.returns
returns c =
    let a = c.args in
    (entries-here a.p (parse a.p a.places a.s.now).tables a.row.now (read_table a.p c.in-Some.rec.now) (rw c.read_name.ensures.0 at c.in-Some.ensures.named) _ c.indexed_columns.ensures.0, c.indexed_columns.ensures.1)
