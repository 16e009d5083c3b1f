-- The place that was found is that of the table named. Assumes nothing.
use Rattle.laid.proofs.Searching.{found_within}
use Rattle.values.specs.Meaning.{text_bytes}
use Rattle.sound.proofs.Rowing.{nowhere, here_of}
use Rattle.sound.proofs.row_test.table_of.Goals as goal

pub returns-in_err-i : goal.returns-in_err-i
returns-in_err-i c =
    let a = c.args in let h = nowhere a.p a.places a.s.now (text_bytes a.name) c.in_err-i.ensures in rw c.from_residual.ensures h

pub table_record-requires-clause-i_in_bounds : goal.table_record-requires-clause-i_in_bounds
table_record-requires-clause-i_in_bounds c =
    let a = c.args in found_within a.p a.places a.s.now (text_bytes a.name) c.in_ok-i.i c.in_ok-i.ensures

pub returns : goal.returns
returns c =
    let a = c.args in here_of a.p a.places a.s.now c.requires.0 (text_bytes a.name) c.in_ok-i.i _ c.in_ok-i.ensures c.table_record.ensures
