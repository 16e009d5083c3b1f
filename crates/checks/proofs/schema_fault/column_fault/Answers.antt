-- The three parts in turn.
use Rattle.std.proofs.Common.{eqb, arith, ap, ◌∙◌}
use Rattle.std.proofs.lemmas.Result.{err_from_is_err_and}
use Rattle.rules.specs.Layout.{read_table, parse}
use Rattle.laid.specs.Column.{column_of}
use Rattle.laid.proofs.Columns.{columns-few, key-byte, record-least}
use Rattle.checks.proofs.Faulting.{or-first, or-second, in-turn}
use Rattle.checks.proofs.schema_fault.column_fault.Goals as goal

pub read_column-c-requires : goal.read_column-c-requires
read_column-c-requires c = (c.requires.1, omega (arith, c.requires.2, columns-few _ _ c.requires.1))

pub key_column-requires : goal.key_column-requires
key_column-requires c = omega (arith, record-least _ _ c.requires.1)

pub returns-in_err-key_fault : goal.returns-in_err-key_fault
returns-in_err-key_fault c =
    let p = err_from_is_err_and c.from_residual.result c.from_residual.ensures.1 in
    rw (p.1, p.2, ← c.read_column-c.ensures.is, in-turn (parse c.args.p c.args.places c.args.s.now).tables (read_table c.args.p c.args.rec.now) c.args.i (column_of c.read_column-c.result) (eqb c.args.i c.key_column.result) (ap (eqb c.args.i) (c.key_column.ensures ∙ key-byte c.args.p c.args.rec.now)))
    (or-first _ _ _ c.in_err-key_fault.ensures)

pub returns-in_err-default_fault : goal.returns-in_err-default_fault
returns-in_err-default_fault c =
    let p = err_from_is_err_and c.from_residual-in_err-default_fault.result c.from_residual-in_err-default_fault.ensures.1 in
    rw (p.1, p.2, ← c.read_column-c.ensures.is, in-turn (parse c.args.p c.args.places c.args.s.now).tables (read_table c.args.p c.args.rec.now) c.args.i (column_of c.read_column-c.result) (eqb c.args.i c.key_column.result) (ap (eqb c.args.i) (c.key_column.ensures ∙ key-byte c.args.p c.args.rec.now)))
    (or-second _ _ _ c.in_ok-key_fault.ensures (or-first _ _ _ c.in_err-default_fault.ensures))

pub returns : goal.returns
returns c =
    rw (← c.read_column-c.ensures.is, in-turn (parse c.args.p c.args.places c.args.s.now).tables (read_table c.args.p c.args.rec.now) c.args.i (column_of c.read_column-c.result) (eqb c.args.i c.key_column.result) (ap (eqb c.args.i) (c.key_column.ensures ∙ key-byte c.args.p c.args.rec.now)))
    (or-second _ _ _ c.in_ok-key_fault.ensures (or-second _ _ _ c.in_ok-default_fault.ensures c.reference_fault.ensures))
