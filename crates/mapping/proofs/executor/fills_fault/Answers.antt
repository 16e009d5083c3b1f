use Rattle.std.proofs.Common.{◌≡◌, ◌∙◌, ◌+◌, ◌-◌, arith, rules, ap}
use Rattle.std.proofs.lemmas.Result.{err_from_is_err_and}
use Rattle.rules.specs.Schema.{at}
use Rattle.rules.specs.Rows.{fill_fault}
use Rattle.rules.specs.Layout.{read_table}
use Rattle.checks.specs.Faults.{fault_of}
use Rattle.checks.specs.Keys.{values_of, values_from}
use Rattle.mapping.specs.Mapped.{map_of}
use Rattle.mapping.proofs.Mapping.{no_row, row_inside, row-whole, row_counts, row-refused, row-passed, numbered}
use Rattle.mapping.proofs.executor.fills_fault.Goals as goal

pub overflow_add-values : goal.overflow_add-values
overflow_add-values c =
    omega (arith, row_inside _ _ _ (c.args.n - c.loop-i.i-counter) c.loop-i.q c.loop-i.i-counter _ c.loop-i.invariant.1 (omega arith) c.loop-i.invariant.0)

pub fill_fault-requires : goal.fill_fault-requires
unfolding values_of
fill_fault-requires c = (
  c.requires.0,
  c.requires.1,
  c.requires.2,
  row_counts _ _ _ (c.args.n - c.loop-i.i-counter) c.loop-i.q c.loop-i.i-counter _ c.loop-i.invariant.1 (omega arith) c.loop-i.invariant.0 _ c.byte_of-count.ensures,
)

pub returns-in_err-map_err : goal.returns-in_err-map_err
unfolding values_of
returns-in_err-map_err c =
    let p = err_from_is_err_and c.from_residual.result c.from_residual.ensures.1 in
    let e : fault_of c.map_err.result ≡ at c.loop-i.i-counter (fill_fault (read_table c.args.p c.args.table.now) (map_of c.args.rec.now c.args.m) (values_from c.args.rec.now c.byte_of-count.result (c.loop-i.q + 1))) =
    numbered _ _ c.loop-i.i-counter (search rules) ∙ ap (at c.loop-i.i-counter) c.fill_fault.ensures in
    rw (p.1, p.2)
    (row-refused _ _ _ (c.args.n - c.loop-i.i-counter) c.loop-i.q c.loop-i.i-counter _ c.loop-i.invariant.1 (omega arith) c.loop-i.invariant.0 _ c.byte_of-count.ensures
    c.map_err.result e _ c.in_err-map_err.was)

pub unreachable-requires : goal.unreachable-requires
unreachable-requires c =
    row-whole _ _ _ (c.args.n - c.loop-i.i-counter) c.loop-i.q c.loop-i.i-counter _ c.loop-i.invariant.1 (omega arith) c.loop-i.invariant.0 _ _ c.values_end.ensures c.in_default.is

pub loop-i-preserved : goal.loop-i-preserved
unfolding values_of
loop-i-preserved c =
    let n : c.args.n - (c.loop-i.i-counter + 1) ≡ c.args.n - c.loop-i.i-counter - 1 = omega arith in
    let e : fault_of c.map_err.result ≡ at c.loop-i.i-counter (fill_fault (read_table c.args.p c.args.table.now) (map_of c.args.rec.now c.args.m) (values_from c.args.rec.now c.byte_of-count.result (c.loop-i.q + 1))) =
    numbered _ _ c.loop-i.i-counter (search rules) ∙ ap (at c.loop-i.i-counter) c.fill_fault.ensures in
    rw n
    (row-passed _ _ _ (c.args.n - c.loop-i.i-counter) c.loop-i.q c.loop-i.i-counter _ c.loop-i.invariant.1 (omega arith) c.loop-i.invariant.0 _ c.byte_of-count.ensures
    c.map_err.result e _ c.in_ok-map_err.was _ c.in-Ok.ensures)

pub returns : goal.returns
returns c = no_row _ _ _ (c.args.n - c.loop-i.i-counter) c.loop-i.q c.loop-i.i-counter _ c.loop-i.invariant.1 (omega arith)
