-- The column at j refers to the table, or not.
use Rattle.std.proofs.Common.{arith, sym, refl, ◌∙◌}
use Rattle.checks.proofs.Checking.{compared-equal}
use Rattle.laid.proofs.Columns.{count-byte, columns-few, record-least}
use Rattle.store.proofs.References.{no-reference, column-past, column-refers}
use Rattle.store.proofs.local.first_reference.Goals as goal
use Rattle.store.proofs.local.first_reference.Goals.{in-Some+else-is_eq, in_default}

pub column_count-j-end-requires : goal.column_count-j-end-requires
column_count-j-end-requires c = record-least _ _ c.requires.0

pub read_column-requires : goal.read_column-requires
read_column-requires c = (c.requires.0, omega (arith, c.loop-j-test.true, c.column_count-j-end.ensures, count-byte c.args.p c.args.rec.now, columns-few _ _ c.requires.0))

pub returns-then-is_eq : goal.returns-then-is_eq
returns-then-is_eq c =
    column-refers _ _ c.requires.0 _ _ c.loop-j.invariant (omega (arith, c.loop-j-test.true, c.column_count-j-end.ensures, count-byte c.args.p c.args.rec.now)) c.read_column.result c.read_column.ensures
    (rw (c.in-Some.is, ← c.compare_texts.ensures) (sym (c.if-is_eq.ensures ∙ compared-equal c.compare_texts.result)))

pub loop-j-preserved : goal.loop-j-preserved
loop-j-preserved c =
    column-past _ _ c.requires.0 _ _ c.loop-j.invariant (omega (arith, c.loop-j-test.true, c.column_count-j-end.ensures, count-byte c.args.p c.args.rec.now)) c.read_column.result c.read_column.ensures
    (elim c.match-read_column.branch [
      | in-Some+else-is_eq w ↦ rw (w.in-Some.is, ← w.compare_texts.ensures) (sym (w.if-is_eq.ensures ∙ compared-equal w.compare_texts.result))
      | in_default w ↦ rw w.in_default.is refl
    ])

pub returns : goal.returns
returns c = no-reference _ _ _ c.loop-j.invariant (omega (arith, c.loop-j-test.false, c.column_count-j-end.ensures, count-byte c.args.p c.args.rec.now))
