-- `requests::line::put_row` meets its contract. Assumes nothing.
use native.Mathlib.Omega.{arith}
use Rattle.requests.proofs.RowLines.{begun, begun-next, line_row}
use Rattle.requests.proofs.line.put_row.Goals as goal

pub loop-j-init : goal.loop-j-init
loop-j-init c = begun _ _ (omega arith)

pub loop-j-preserved : goal.loop-j-preserved
loop-j-preserved c =
    let l = c.loop-j in
    let q = c.print_value in
    begun-next _ l.j _ l.out l.n l.invariant (omega (arith, l.invariant.short)) _ q.new.out q.result (omega arith) c.cell_at.ensures.0 q.ensures.0 q.ensures.1

pub returns : goal.returns
returns c =
    let l = c.loop-j in
    (line_row _ l.j _ c.args.out.now l.out l.n c.copy_from_slice.ensures.after l.invariant (omega arith) (omega arith) (omega (arith, l.invariant.short)), omega (arith, l.invariant.short))
