-- The cell lies inside.
use Rattle.std.proofs.Common.{◌+◌, ◌*◌, arith}
use Rattle.laid.proofs.Columns.{rest-length}
use Rattle.laid.proofs.Keyed.{cell_room}
use Rattle.laid.proofs.row.cell_in.Goals as goal

pub slice_bounds-read_cell-count : goal.slice_bounds-read_cell-count
slice_bounds-read_cell-count c = omega (arith, cell_room c.args.p c.requires.0.known.cell c.args.j c.requires.2)

pub slice_bounds-read_cell-start : goal.slice_bounds-read_cell-start
slice_bounds-read_cell-start c = omega (arith, cell_room c.args.p c.requires.0.known.cell c.args.j c.requires.2)

pub read_cell-requires : goal.read_cell-requires
read_cell-requires c =
    omega (arith, cell_room c.args.p c.requires.0.known.cell c.args.j c.requires.2, rest-length (25 + c.args.j * c.args.p.cell) c.args.rec.now)
