use mathlib.Core.Path.{refl}
use native.Mathlib.Omega.{arith}
use Rattle.std.proofs.lemmas.Result.{err_from_is_err_and}
use Rattle.operations.proofs.PairsWritten.{updating-end, old-reads, row-inside, old-alone, row-walks, row-sized, row-full, updating-stops, updating-next}
use Rattle.operations.proofs.operate.update_pairs.Goals as goal

pub unreachable-requires : goal.unreachable-requires
unreachable-requires c = old-reads c.loop-k.invariant c.loop-k-test.true c.in_default.ensures

pub counted-requires : goal.counted-requires
counted-requires c = row-inside c.loop-k.invariant c.loop-k-test.true c.in-Ok.ensures

pub read_row-row-requires : goal.read_row-row-requires
read_row-row-requires c = row-sized c.loop-k.invariant c.loop-k-test.true c.in-Ok.ensures c.counted.ensures c.requires.booked.0.paging.most

pub update-requires : goal.update-requires
update-requires c = (
  c.loop-k.invariant.books,
  rw c.deref.ensures
      (row-full c.loop-k.invariant c.loop-k-test.true c.in-Ok.ensures c.counted.ensures c.read_row-row.ensures.0 c.read_row-row.ensures.1 c.read_row-row.ensures.2),
  c.in-Ok.ensures.proper,
  old-alone c.loop-k.invariant c.loop-k-test.true c.in-Ok.ensures _ refl refl refl,
)

pub returns-in_err-update : goal.returns-in_err-update
returns-in_err-update c =
    let p = err_from_is_err_and c.from_residual.result c.from_residual.ensures.1 in
    rw (p.1, p.2)
    (updating-stops c.loop-k.invariant c.loop-k-test.true c.in-Ok.ensures c.counted.ensures c.read_row-row.ensures.0 c.read_row-row.ensures.1 c.read_row-row.ensures.2 (rw c.deref.ensures at c.update.ensures)
    c.in_err-update.was)

pub unreachable-requires-in_default-values_end : goal.unreachable-requires-in_default-values_end
unreachable-requires-in_default-values_end c = row-walks c.loop-k.invariant c.loop-k-test.true c.in-Ok.ensures c.in_default-values_end.ensures

pub loop-k-preserved : goal.loop-k-preserved
loop-k-preserved c =
    updating-next c.loop-k.invariant c.loop-k-test.true c.in-Ok.ensures c.counted.ensures c.read_row-row.ensures.0 c.read_row-row.ensures.1 c.read_row-row.ensures.2 (rw c.deref.ensures at c.update.ensures)
    c.in_ok-update.was c.in-Ok-values_end.ensures

pub returns : goal.returns
returns c = updating-end c.loop-k.invariant (omega arith)
