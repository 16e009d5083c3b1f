use mathlib.Core.Path.{refl, sym}
use Rattle.operations.proofs.Operands.{drop-unnamed, drop-read, drop-acted}
use Rattle.operations.proofs.Shut.{journal-there, inside-refused, drop-quiet, outside-settled}
use Rattle.operations.proofs.operate.drop.Goals as goal

pub unreachable-requires : goal.unreachable-requires
unreachable-requires c = drop-unnamed c.in_default.ensures c.requires.1

pub is_open-open-requires : goal.is_open-open-requires
is_open-open-requires c = journal-there c.requires.0

pub returns-then-open : goal.returns-then-open
returns-then-open c = drop-acted _ (drop-read c.in-Ok.ensures c.requires.1 _ refl) (inside-refused c.requires.0 _ (sym c.if-open.ensures) c.new.ensures)

pub returns : goal.returns
returns c =
    drop-acted _ (drop-read c.in-Ok.ensures c.requires.1 _ c.byte_of-lenient.ensures) (outside-settled c.requires.0 _ (sym c.if-open.ensures) (drop-quiet _ _ _) c.drop_table.ensures)
