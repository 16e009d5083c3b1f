use Rattle.std.proofs.lemmas.Result.{err_from_is_err_and}
use Rattle.checks.proofs.Checking.{kind-refuses}
use Rattle.checks.proofs.row_fault.cell_fault.Goals as goal

pub returns-in_err-kind_fault : goal.returns-in_err-kind_fault
returns-in_err-kind_fault c =
    let p = err_from_is_err_and c.from_residual.result c.from_residual.ensures.1 in
    rw (p.1, p.2) (kind-refuses _ _ _ _ _ _ _ _ c.in_err-kind_fault.ensures)
