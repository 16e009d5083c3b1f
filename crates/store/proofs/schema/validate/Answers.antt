-- The rules on the whole, then each column, then the names.
use Rattle.std.proofs.Common.{◌∙◌, arith}
use Rattle.std.proofs.lemmas.Result.{err_from_is_err_and}
use Rattle.rules.specs.Layout.{parse}
use Rattle.laid.proofs.Columns.{record-least}
use Rattle.checks.proofs.Validating.{table-unnamed, columns-none, key-beyond, columns-refuse, repeats-decide}
use Rattle.store.proofs.schema.validate.Goals as goal

pub bounds-rec-0 : goal.bounds-rec-0
bounds-rec-0 c = omega (arith, record-least _ _ c.requires.1)

pub returns-then-rec-eq0 : goal.returns-then-rec-eq0
returns-then-rec-eq0 c = table-unnamed _ _ c.requires.1 (parse c.args.p c.args.places c.args.s.now).tables c.if-rec-eq0.true

pub column_count-count-requires : goal.column_count-count-requires
column_count-count-requires c = record-least _ _ c.requires.1

pub returns-then-count-eq0 : goal.returns-then-count-eq0
returns-then-count-eq0 c =
    columns-none _ _ c.requires.1 (parse c.args.p c.args.places c.args.s.now).tables c.if-rec-eq0.false (omega (arith, c.column_count-count.ensures, c.if-count-eq0.true))

pub returns-then-count-key_column : goal.returns-then-count-key_column
returns-then-count-key_column c =
    key-beyond _ _ c.requires.1 (parse c.args.p c.args.places c.args.s.now).tables c.if-rec-eq0.false (λ z. c.if-count-eq0.false (c.column_count-count.ensures ∙ z))
    (omega (arith, c.column_count-count.ensures, c.key_column.ensures, c.if-count-key_column.true))

pub returns-in_err-columns_fault : goal.returns-in_err-columns_fault
returns-in_err-columns_fault c =
    let p = err_from_is_err_and c.from_residual.result c.from_residual.ensures.1 in
    rw (p.1, p.2)
    (columns-refuse _ _ c.requires.1 (parse c.args.p c.args.places c.args.s.now).tables c.if-rec-eq0.false (λ z. c.if-count-eq0.false (c.column_count-count.ensures ∙ z))
    (omega (arith, c.column_count-count.ensures, c.key_column.ensures, c.if-count-key_column.false)) _ c.in_err-columns_fault.ensures)

pub returns : goal.returns
returns c =
    repeats-decide _ _ c.requires.1 (parse c.args.p c.args.places c.args.s.now).tables c.if-rec-eq0.false (λ z. c.if-count-eq0.false (c.column_count-count.ensures ∙ z))
    (omega (arith, c.column_count-count.ensures, c.key_column.ensures, c.if-count-key_column.false)) c.in_ok-columns_fault.ensures _ c.repeat_fault.ensures
