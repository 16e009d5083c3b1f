-- Each column's bytes are those of a record. Assumes nothing.
use Rattle.std.proofs.Common.{arith}
use Rattle.sound.proofs.Walks.{part_is, parts}
use Rattle.sound.proofs.schema_test.are_columns.Goals as goal

pub returns-then-not-is_column : goal.returns-then-not-is_column
returns-then-not-is_column c = grind (arith, parts, part_is c.args.rec.now 27 _ c.args.count _ _ c.column_width-width.ensures c.loop-i-test.true)

pub loop-i-preserved : goal.loop-i-preserved
loop-i-preserved c = grind (arith, parts, part_is c.args.rec.now 27 _ c.args.count _ _ c.column_width-width.ensures c.loop-i-test.true)
