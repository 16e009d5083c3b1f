-- A row is a name's cell and what fits its table. Assumes nothing.
use Rattle.std.proofs.Common.{arith, sym}
use Rattle.sound.proofs.Rowing.{row_none, row_pieces}
use Rattle.std.proofs.lemmas.Grind.{common_steps}
use Rattle.sound.proofs.row_test.is_row.Goals as goal

pub returns-in_default : goal.returns-in_default
returns-in_default c =
    let a = c.args in
    sym (row_none a.p a.places a.s.now c.requires.0 a.row.now (λ i. (c.type_inv.row i).fits) c.requires.1 _ c.read_name.ensures.0 c.in_default.ensures)

pub returns-then-is_name_cell : goal.returns-then-is_name_cell
returns-then-is_name_cell c =
    let a = c.args in
    grind (arith, common_steps, row_pieces a.p a.places a.s.now c.requires.0 a.row.now (λ i. (c.type_inv.row i).fits) c.requires.1 _ c.read_name.ensures.0 _ c.in-Some.ensures)

pub returns-else-is_name_cell : goal.returns-else-is_name_cell
returns-else-is_name_cell c =
    let a = c.args in
    grind (arith, common_steps, row_pieces a.p a.places a.s.now c.requires.0 a.row.now (λ i. (c.type_inv.row i).fits) c.requires.1 _ c.read_name.ensures.0 _ c.in-Some.ensures)
