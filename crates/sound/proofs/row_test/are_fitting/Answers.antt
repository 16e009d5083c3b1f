-- Each column is asked with its cell. Assumes nothing.
use Rattle.std.proofs.Common.{arith}
use Rattle.sound.specs.Tested.{fitting}
use Rattle.sound.proofs.Walks.{cells, cells_turn, cells_past}
use Rattle.sound.proofs.row_test.are_fitting.Goals as goal

pub returns-then-not-is_fitting : goal.returns-then-not-is_fitting
returns-then-not-is_fitting c =
    let a = c.args in
    grind (arith, cells, cells_turn a.p a.rec.now a.row.now fitting c.requires.0 c.loop-i.i (omega arith) _ c.read_column.ensures.is _ (rw c.requires.0.coded.cells at c.cell_in-v.ensures.0) _ c.is_fitting.ensures)

pub loop-i-preserved : goal.loop-i-preserved
loop-i-preserved c =
    let a = c.args in
    grind (arith, cells, cells_turn a.p a.rec.now a.row.now fitting c.requires.0 c.loop-i.i (omega arith) _ c.read_column.ensures.is _ (rw c.requires.0.coded.cells at c.cell_in-v.ensures.0) _ c.is_fitting.ensures)

pub returns : goal.returns
returns c =
    let a = c.args in cc (c.loop-i.invariant, cells_past a.p a.rec.now a.row.now fitting c.loop-i.i (omega arith))
