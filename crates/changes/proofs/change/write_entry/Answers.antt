-- The name, the column, the value and the key are written one after the other.
use Rattle.std.proofs.Common.{arith, length-take}
use Rattle.changes.proofs.Writing.{entry-written}
use Rattle.changes.proofs.change.write_entry.Goals as goal

pub slice_bounds-write_name-end-2 : goal.slice_bounds-write_name-end-2
slice_bounds-write_name-end-2 c = simp length-take (omega arith)

pub write_name-requires : goal.write_name-requires
write_name-requires c = (simp length-take (omega arith), c.requires.1.name)

pub returns : goal.returns
returns c = entry-written _ _ c.args.name c.args.column c.args.v c.args.key c.requires.1 c.requires.0 c.write_name.ensures _ c.write_cell.ensures _ c.write_cell-2.ensures
