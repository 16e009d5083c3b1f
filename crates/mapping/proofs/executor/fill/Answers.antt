-- A turn's cell is what is given or the default, the row's next value.
use Rattle.std.proofs.Common.{◌<◌, arith, ap, length}
use Rattle.rules.specs.State.{Column}
use Rattle.laid.specs.Column.{column_at}
use Rattle.laid.proofs.Columns.{columns_of, count-byte, columns-few, column-drop, record-least}
use Rattle.mapping.proofs.Mapping.{filling-start, filling-row, filling-room, filling-ends, filling-stops, filling-on, or-given, or-default, or-none}
use Rattle.mapping.proofs.executor.fill.Goals as goal
use Rattle.mapping.proofs.executor.fill.Goals.{in-Some, in-None+in_ok-cell-in-None}

pub column_count-j-end-requires : goal.column_count-j-end-requires
column_count-j-end-requires c = record-least _ _ c.requires.0

pub loop-j-init : goal.loop-j-init
loop-j-init c = (rw c.new-row.ensures.0 (filling-start _ _), c.new-row.ensures.1)

pub read_column-requires : goal.read_column-requires
read_column-requires c =
    (c.requires.0, omega (arith, count-byte c.args.p c.args.table.now, columns-few c.args.p c.args.table.now c.requires.0))

pub returns-in_err-cell-in-None : goal.returns-in_err-cell-in-None
returns-in_err-cell-in-None c =
    let h : c.loop-j.j < length (columns_of c.args.p c.args.table.now) = omega (arith, count-byte c.args.p c.args.table.now) in
    rw c.from_residual.ensures (
      filling-stops c.loop-j.invariant.0 h (column_at c.args.p c.args.table.now c.loop-j.j) (column-drop c.args.p c.args.table.now c.requires.0 c.loop-j.j h)
          (or-none _ _ _ c.given_value.ensures.0 c.read_column.result.default (ap (λ (x : Column). x.default) c.read_column.ensures.is) c.in-None.is c.in_err-cell-in-None.was),
      tt,
    )

pub push-requires : goal.push-requires
push-requires c =
    filling-room c.loop-j.invariant.0 (omega (arith, columns-few c.args.p c.args.table.now c.requires.0)) (omega (arith, count-byte c.args.p c.args.table.now))

pub loop-j-preserved : goal.loop-j-preserved
loop-j-preserved c =
    let h : c.loop-j.j < length (columns_of c.args.p c.args.table.now) = omega (arith, count-byte c.args.p c.args.table.now) in
    let d = column-drop c.args.p c.args.table.now c.requires.0 c.loop-j.j h in (
      elim c.match-given_value.branch [
        | in-Some w ↦
            rw (c.push.ensures.0, w.cell-is)
            (filling-on c.loop-j.invariant.0 h (column_at c.args.p c.args.table.now c.loop-j.j) d _ (or-given _ _ _ c.given_value.ensures.0 _ w.in-Some.is) w.in-Some.ensures.1)
        | in-None+in_ok-cell-in-None w ↦
            rw (c.push.ensures.0, w.cell-is)
            (filling-on c.loop-j.invariant.0 h (column_at c.args.p c.args.table.now c.loop-j.j) d _
            (or-default _ _ _ c.given_value.ensures.0 w.read_column.result.default (ap (λ (x : Column). x.default) w.read_column.ensures.is) w.in-None.is _ w.in_ok-cell-in-None.was)
            (rw w.in_ok-cell-in-None.was at w.read_column.ensures.proper.default))
      ],
      c.push.ensures.1,
    )

pub returns : goal.returns
returns c =
    let r = filling-row c.loop-j.invariant.0 (omega (arith, columns-few c.args.p c.args.table.now c.requires.0)) in
    (filling-ends c.loop-j.invariant.0 (omega (arith, count-byte c.args.p c.args.table.now)), (r, omega (arith, c.loop-j.invariant.1, r.most)))
