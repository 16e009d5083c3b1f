use Rattle.std.proofs.Common.{sym}
use Rattle.mapping.proofs.Mapping.{map-given, map-none}
use Rattle.mapping.specs.Mapped.{map_of}
use Rattle.mapping.proofs.executor.read_map.Goals as goal

pub returns-then-byte_of-ne1 : goal.returns-then-byte_of-ne1
unfolding map_of
returns-then-byte_of-ne1 c = (sym (map-none _ _ c.requires (rw c.byte_of.ensures at c.if-byte_of-ne1.true)), tt)

pub returns : goal.returns
unfolding map_of
returns c = let m = map-given _ _ c.requires (rw c.byte_of.ensures at c.if-byte_of-ne1.false) in rw c.byte_of-2.ensures (sym m.0, m.1)
