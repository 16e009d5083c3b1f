-- The names from column j on decide.
use Rattle.std.proofs.Common.{arith, sym, ◌∙◌}
use Rattle.values.specs.Meaning.{ordering}
use Rattle.laid.specs.Column.{column_of}
use Rattle.laid.proofs.Columns.{columns-few}
use Rattle.checks.proofs.Checking.{compared-equal}
use Rattle.checks.proofs.Validating.{names-start, names-end, names-compared, name-repeats, name-differs}
use Rattle.checks.proofs.schema_fault.repeats.Goals as goal

pub read_column-requires : goal.read_column-requires
read_column-requires c = (c.requires.0, omega (arith, c.requires.1, columns-few _ _ c.requires.0))

pub loop-j-init : goal.loop-j-init
loop-j-init c = names-start c.args.p c.args.rec.now c.args.i

pub read_column-requires-in-loop-j : goal.read_column-requires-in-loop-j
read_column-requires-in-loop-j c = (c.requires.0, omega (arith, c.requires.1, columns-few _ _ c.requires.0))

pub returns-then-is_eq : goal.returns-then-is_eq
returns-then-is_eq c =
    let x = c.read_column in
    let y = c.read_column-in-loop-j in
    name-repeats c.args.p c.args.rec.now c.requires.0 c.args.i c.loop-j.j c.loop-j-test.true c.requires.1 (ordering c.compare_texts.result)
    (names-compared (column_of x.result) (column_of y.result) _ _ c.compare_texts.ensures x.ensures.is y.ensures.is)
    (sym (c.if-is_eq.ensures ∙ compared-equal c.compare_texts.result)) c.loop-j.invariant

pub loop-j-preserved : goal.loop-j-preserved
loop-j-preserved c =
    let x = c.read_column in
    let y = c.read_column-in-loop-j in
    name-differs c.args.p c.args.rec.now c.requires.0 c.args.i c.loop-j.j c.loop-j-test.true c.requires.1 (ordering c.compare_texts.result)
    (names-compared (column_of x.result) (column_of y.result) _ _ c.compare_texts.ensures x.ensures.is y.ensures.is)
    (sym (c.if-is_eq.ensures ∙ compared-equal c.compare_texts.result)) c.loop-j.invariant

pub returns : goal.returns
returns c = names-end c.args.p c.args.rec.now c.args.i c.loop-j.j c.loop-j-test.false c.loop-j.invariant
