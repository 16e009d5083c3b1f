-- The first of the pairs that remain stands where the code reads.
use Rattle.std.proofs.Common.{◌≡◌, ◌∙◌, ◌+◌, ◌-◌, arith, refl, sym, ap}
use native.Mathlib.Nat.{sub-zero}
use Rattle.rules.specs.Layout.{read_table}
use Rattle.rules.specs.Rows.{size_fault}
use Rattle.laid.proofs.Columns.{count-byte, record-least}
use Rattle.mapping.proofs.Pairs.{pair-there, pairs-none, size_none, key-end, key-never, row-end, row-never, size-over, size-again, others-left}
use Rattle.mapping.proofs.update.size_fault.Goals as goal

pub column_count-columns-requires : goal.column_count-columns-requires
column_count-columns-requires c = record-least _ _ c.requires.0

pub loop-i-init : goal.loop-i-init
loop-i-init c = simp sub-zero (c.requires.1, refl)

pub unreachable-requires : goal.unreachable-requires
unreachable-requires c =
    let l = c.loop-i in
    let g = pair-there c.args.rec.now (c.args.n - l.i) l.q (omega arith) l.invariant.0 in
    key-never _ _ _ g _ _ c.value_end.ensures c.in_default.is

pub returns-then-byte_of-columns : goal.returns-then-byte_of-columns
returns-then-byte_of-columns c =
    let l = c.loop-i in
    let g = pair-there c.args.rec.now (c.args.n - l.i) l.q (omega arith) l.invariant.0 in
    let ea = key-end _ _ _ g _ _ c.value_end.ensures c.in-Ok.is in
    let ec = c.column_count-columns.ensures ∙ count-byte c.args.p c.args.table.now in
    size-over _ _ _ g _ ea (read_table c.args.p c.args.table.now) l.i _ l.invariant.1 (λ e. c.if-byte_of-columns.true (c.byte_of.ensures ∙ e ∙ sym ec))

pub unreachable-requires-in_default-values_end : goal.unreachable-requires-in_default-values_end
unreachable-requires-in_default-values_end c =
    let l = c.loop-i in
    let g = pair-there c.args.rec.now (c.args.n - l.i) l.q (omega arith) l.invariant.0 in
    let ea = key-end _ _ _ g _ _ c.value_end.ensures c.in-Ok.is in
    row-never _ _ _ g _ ea _ _ c.values_end.ensures c.in_default-values_end.is

pub loop-i-preserved : goal.loop-i-preserved
loop-i-preserved c =
    let l = c.loop-i in
    let g = pair-there c.args.rec.now (c.args.n - l.i) l.q (omega arith) l.invariant.0 in
    let ea = key-end _ _ _ g _ _ c.value_end.ensures c.in-Ok.is in
    let ee = row-end _ _ _ g _ ea _ _ c.values_end.ensures c.in-Ok-values_end.is in
    let ec = c.column_count-columns.ensures ∙ count-byte c.args.p c.args.table.now in
    let n : c.args.n - (l.i + 1) ≡ c.args.n - l.i - 1 = omega arith in
    rw n
    (others-left _ _ _ g _ ee, size-again _ _ _ g _ ea (read_table c.args.p c.args.table.now) l.i _ l.invariant.1 _ ee (sym c.byte_of.ensures ∙ c.if-byte_of-columns.false ∙ ec))

pub returns : goal.returns
returns c =
    let l = c.loop-i in
    sym (size_none (read_table c.args.p c.args.table.now) l.i)
    ∙ ap (size_fault (read_table c.args.p c.args.table.now) l.i) (sym (pairs-none c.args.rec.now (c.args.n - l.i) l.q (omega arith)))
    ∙ l.invariant.1
