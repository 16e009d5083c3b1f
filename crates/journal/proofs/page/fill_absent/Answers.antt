use Rattle.std.proofs.Common.{length, length-drop, ◌∙◌, ap, replicate, arith, ℕ, List}
use lib.ListN.{length-set}
use lib.Seq.{take_all}
use Rattle.journal.proofs.Writing.{width_some, width-least, named-long, keyed-long, absent-written}
use Rattle.journal.proofs.page.fill_absent.Goals as goal

pub bounds-part-0 : goal.bounds-part-0
bounds-part-0 c = omega (arith, width_some c.args.p)

pub slice_bounds-write_name-end : goal.slice_bounds-write_name-end
slice_bounds-write_name-end c = simp length-set (omega (arith, width-least c.args.p c.requires.0, c.requires.1))

pub slice_bounds-write_cell-end : goal.slice_bounds-write_cell-end
slice_bounds-write_cell-end c = omega (arith, width-least c.args.p c.requires.0, named-long c.args.p c.requires.0 c.args.name c.args.key c.requires.2 c.requires.3 c.args.part.now _ c.requires.1 c.write_name.ensures)

pub slice_bounds-fill-count : goal.slice_bounds-fill-count
slice_bounds-fill-count c = omega (arith, width-least c.args.p c.requires.0, keyed-long c.args.p c.requires.0 c.args.name c.args.key c.requires.2 c.requires.3 c.args.part.now _ c.requires.1 c.write_name.ensures _ c.write_cell.ensures)

pub slice_bounds-fill-start : goal.slice_bounds-fill-start
slice_bounds-fill-start c = omega (arith, width-least c.args.p c.requires.0, keyed-long c.args.p c.requires.0 c.args.name c.args.key c.requires.2 c.requires.3 c.args.part.now _ c.requires.1 c.write_name.ensures _ c.write_cell.ensures)

pub returns : goal.returns
returns c = absent-written c.args.p c.requires.0 c.args.name c.args.key c.requires.2 c.requires.3 c.args.part.now _ c.requires.1 c.write_name.ensures _ c.write_cell.ensures _ (c.fill.ensures.after (λ y e. e) ∙ ap (λ (l : List ℕ). replicate (length l) 0) (take_all _ _ (rw length-drop (omega arith))))
