use Rattle.rules.specs.Request.{Get}
use Rattle.operations.proofs.Operands.{keys-unnamed, keys-inside}
use Rattle.operations.proofs.Asked.{get-told}
use Rattle.operations.proofs.operate.get.Goals as goal

pub unreachable-requires : goal.unreachable-requires
unreachable-requires c = keys-unnamed c.in_default.ensures Get c.requires.1

pub counted-requires : goal.counted-requires
counted-requires c = keys-inside c.in-Ok.ensures Get c.requires.1

pub returns : goal.returns
returns c j = get-told c.in-Ok.ensures c.requires.1 _ _ _ c.counted.ensures c.found_count.ensures
