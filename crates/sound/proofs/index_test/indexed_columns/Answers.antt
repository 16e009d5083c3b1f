-- One more column is counted where it is indexed. Assumes nothing.
use Rattle.std.proofs.Common.{arith}
use Rattle.laid.proofs.Columns.{columns-few, count-byte}
use Rattle.sound.proofs.Linking.{counted, indexed_next}
use Rattle.sound.proofs.index_test.indexed_columns.Goals as goal

pub read_column-requires : goal.read_column-requires
read_column-requires c =
    let a = c.args in (c.requires, omega (arith, columns-few a.p a.rec.now c.requires, count-byte a.p a.rec.now))

pub loop-i-preserved : goal.loop-i-preserved
loop-i-preserved c =
    let a = c.args in grind (arith, counted, indexed_next a.p a.rec.now c.loop-i.i c.requires (omega arith) _ c.read_column.ensures.is)
