-- Each column is asked with its cell. Assumes nothing.
use Rattle.std.proofs.Common.{arith}
use Rattle.rules.specs.Layout.{parse}
use Rattle.rules.specs.Sound.{held}
use Rattle.sound.proofs.Walks.{cells, cells_turn, cells_past}
use Rattle.sound.proofs.reference_test.are_held.Goals as goal

pub returns-then-not-is_held : goal.returns-then-not-is_held
returns-then-not-is_held c =
    let a = c.args in
    grind (arith, cells, cells_turn a.p a.rec.now a.row.now (λ i c v. held (parse a.p a.places a.s.now).rows c.reference v) c.requires.1 c.loop-i.i (omega arith) _ c.read_column-c.ensures.is _ (rw c.requires.1.coded.cells at c.cell_in.ensures.0) _ c.is_held.ensures)

pub loop-i-preserved : goal.loop-i-preserved
loop-i-preserved c =
    let a = c.args in
    grind (arith, cells, cells_turn a.p a.rec.now a.row.now (λ i c v. held (parse a.p a.places a.s.now).rows c.reference v) c.requires.1 c.loop-i.i (omega arith) _ c.read_column-c.ensures.is _ (rw c.requires.1.coded.cells at c.cell_in.ensures.0) _ c.is_held.ensures)

pub returns : goal.returns
returns c =
    let a = c.args in cc (c.loop-i.invariant, cells_past a.p a.rec.now a.row.now (λ i c v. held (parse a.p a.places a.s.now).rows c.reference v) c.loop-i.i (omega arith))
