-- Each cell's bytes are those of a record. Assumes nothing.
use Rattle.std.proofs.Common.{arith, refl}
use Rattle.sound.proofs.Walks.{part_is, parts}
use Rattle.sound.proofs.row_test.are_cells.Goals as goal

pub returns-then-not-is_cell : goal.returns-then-not-is_cell
returns-then-not-is_cell c = grind (arith, parts, part_is c.args.row.now 25 26 c.args.count 26 _ refl c.loop-i-test.true)

pub loop-i-preserved : goal.loop-i-preserved
loop-i-preserved c = grind (arith, parts, part_is c.args.row.now 25 26 c.args.count 26 _ refl c.loop-i-test.true)
