use Rattle.rules.specs.Request.{Delete}
use Rattle.operations.proofs.Operands.{keys-unnamed, keys-inside, keys-read, delete-acted}
use Rattle.operations.proofs.operate.delete.Goals as goal

pub unreachable-requires : goal.unreachable-requires
unreachable-requires c = keys-unnamed c.in_default.ensures Delete c.requires.1

pub counted-requires : goal.counted-requires
counted-requires c = keys-inside c.in-Ok.ensures Delete c.requires.1

pub returns : goal.returns
returns c = delete-acted _ (keys-read c.in-Ok.ensures Delete c.requires.1 c.counted.ensures) c.delete.ensures
