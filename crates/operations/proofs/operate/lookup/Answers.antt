use native.Mathlib.Omega.{arith}
use Rattle.operations.proofs.Operands.{lookup-unnamed}
use Rattle.operations.proofs.Asked.{lookup-inside, lookup-says}
use Rattle.operations.proofs.operate.lookup.Goals as goal

pub unreachable-requires : goal.unreachable-requires
unreachable-requires c = lookup-unnamed c.in_default.ensures c.requires.1

pub overflow_add-next : goal.overflow_add-next
overflow_add-next c = omega (arith, lookup-inside c.in-Ok.ensures c.requires.1)

pub counted-requires : goal.counted-requires
counted-requires c = lookup-inside c.in-Ok.ensures c.requires.1

pub returns : goal.returns
returns c j = lookup-says c.in-Ok.ensures c.requires.1 _ _ _ _ c.byte_of-column.ensures c.counted.ensures c.lookup_index.ensures
