-- The bytes of each schema are a table's record. Assumes nothing.
use Rattle.std.proofs.Common.{subst, sym}
use Rattle.laid.specs.Catalog.{TableBytes}
use Rattle.laid.proofs.Searching.{table-bytes-at}
use Rattle.sound.proofs.Walks.{walk}
use Rattle.std.proofs.Common.{arith}
use Rattle.sound.proofs.schema_test.are_faultless.Goals as goal

pub is_faultless-requires : goal.is_faultless-requires
is_faultless-requires c = let a = c.args in (c.requires, subst (TableBytes a.p) (sym c.table_record.ensures) (table-bytes-at a.p a.places a.s.now c.loop-i.i (grind (arith, walk)) c.requires))
