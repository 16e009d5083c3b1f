use Rattle.laid.specs.Row.{row_in}
use Rattle.requests.proofs.RowLines.{Begun}
use Rattle.requests.proofs.line.put_row.Given as goal

-- behind the word `row` stand the first j values
abbrev pub invariant-loop-j : goal.invariant-loop-j
invariant-loop-j l = Begun (row_in l.fn.p l.fn.places l.s l.fn.i).cells l.j l.initial.out l.out l.n
