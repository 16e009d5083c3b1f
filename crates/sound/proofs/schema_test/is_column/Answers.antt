-- A kind above 4 is none. Assumes nothing.
use Rattle.std.proofs.Common.{arith}
use Rattle.rules.specs.Sound.{all}
use Rattle.sound.proofs.RecordPieces.{column_pieces}
use Rattle.sound.proofs.schema_test.is_column.Goals as goal

pub returns-in_default : goal.returns-in_default
unfolding all
returns-in_default c =
    let a = c.args in grind (arith, column_pieces a.p c.requires.0 a.col.now (λ i. (c.type_inv.col i).fits) c.requires.1)
