use Rattle.std.proofs.Common.{refl}
use Rattle.operations.proofs.Operands.{scan-unnamed}
use Rattle.operations.proofs.Asked.{scan-says}
use Rattle.operations.proofs.operate.scan.Goals as goal

pub unreachable-requires : goal.unreachable-requires
unreachable-requires c = scan-unnamed c.in_default.ensures c.requires.1

pub returns : goal.returns
returns c j = scan-says c.in-Ok.ensures _ _ _ c.scan-rows.ensures refl
