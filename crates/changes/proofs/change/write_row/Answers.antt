-- The name is written first, then the cells one by one.
use Rattle.std.proofs.Common.{◌≡◌, ◌∙◌, arith, ap, length, length-take, length-drop}
use Rattle.rules.specs.Layout.{Rows}
use Rattle.laid.proofs.Inside.{name-within}
use Rattle.laid.proofs.Keyed.{cell_room}
use Rattle.changes.proofs.Writing.{row_so_far, lead-long, row-start, row_next, row_written}
use Rattle.changes.proofs.RowAdded.{flight-proper}
use Rattle.changes.proofs.change.write_row.Goals as goal

pub slice_bounds-write_name-end : goal.slice_bounds-write_name-end
slice_bounds-write_name-end c = omega (arith, name-within c.args.p Rows)

pub slice_bounds-write_name-end-2 : goal.slice_bounds-write_name-end-2
slice_bounds-write_name-end-2 c = simp length-take (omega (arith, name-within c.args.p Rows))

pub write_name-requires : goal.write_name-requires
write_name-requires c = (simp length-take (omega (arith, name-within c.args.p Rows)), c.requires.2)

pub loop-j-init : goal.loop-j-init
loop-j-init c = row-start _ _ _

pub slice_bounds-write_cell-end : goal.slice_bounds-write_cell-end
slice_bounds-write_cell-end c =
    let d = lead-long c.args.part.now c.write_name.new.out c.args.name c.requires.2 c.write_name.ensures (omega (arith, name-within c.args.p Rows)) in
    omega (arith, cell_room c.args.p c.requires.0.known.cell c.loop-j.j (omega arith), c.loop-j.auto.part)

pub write_cell-requires : goal.write_cell-requires
write_cell-requires c =
    let d = lead-long c.args.part.now c.write_name.new.out c.args.name c.requires.2 c.write_name.ensures (omega (arith, name-within c.args.p Rows)) in
    let r = cell_room c.args.p c.requires.0.known.cell c.loop-j.j (omega arith) in
    (simp (length-take, length-drop) (omega (arith, c.loop-j.auto.part)), flight-proper c.args.row.now c.requires.3 c.loop-j.j c.loop-j-test.true)

pub loop-j-preserved : goal.loop-j-preserved
loop-j-preserved c =
    let d = lead-long c.args.part.now c.write_name.new.out c.args.name c.requires.2 c.write_name.ensures (omega (arith, name-within c.args.p Rows)) in
    rw c.loop-j.invariant
    (row_next _ _ _ c.requires.0.cells c.requires.3.proper (omega (arith, name-within c.args.p Rows)) _ _ c.loop-j-test.true c.write_cell.ensures)

pub returns : goal.returns
returns c =
    let e : c.loop-j.j ≡ length c.args.row.now = omega arith in
    c.loop-j.invariant ∙ ap (row_so_far _ _ _) e ∙ row_written _ _ _ c.requires.2 c.write_name.ensures c.args.row.now _ c.requires.0.cells
