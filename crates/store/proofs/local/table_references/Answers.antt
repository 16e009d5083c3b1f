-- The table at place i is the one itself, or references it, or not.
use Rattle.std.proofs.Common.{arith, sym, ◌∙◌}
use Rattle.values.specs.Meaning.{meaning}
use Rattle.checks.proofs.Checking.{compared-equal}
use Rattle.checks.proofs.Taking.{null-proper}
use Rattle.laid.proofs.Inside.{inside-header}
use Rattle.laid.proofs.Searching.{tables-count}
use Rattle.store.proofs.References.{not-referenced, table-itself, table-without, table-refers}
use Rattle.store.proofs.TableAt.{among-records, record-bytes, record-named}
use Rattle.store.proofs.local.table_references.Goals as goal

pub table_count-i-end-requires : goal.table_count-i-end-requires
table_count-i-end-requires c = inside-header _ _ _ c.requires.0.inside

pub table_record-rec-requires-clause-i_in_bounds : goal.table_record-rec-requires-clause-i_in_bounds
table_record-rec-requires-clause-i_in_bounds c = among-records c.args.p c.args.places c.args.s.now c.loop-i.i (omega (arith, c.loop-i-test.true, c.table_count-i-end.ensures))

pub compare_named-requires : goal.compare_named-requires
compare_named-requires c =
    let l = among-records c.args.p c.args.places c.args.s.now c.loop-i.i (omega (arith, c.loop-i-test.true, c.table_count-i-end.ensures)) in
    (record-named _ _ _ _ l _ c.table_record-rec.ensures c.requires.0, c.requires.1)

pub loop-i-preserved-then-is_eq : goal.loop-i-preserved-then-is_eq
loop-i-preserved-then-is_eq c =
    let l = among-records c.args.p c.args.places c.args.s.now c.loop-i.i (omega (arith, c.loop-i-test.true, c.table_count-i-end.ensures)) in
    table-itself _ _ _ _ _ c.loop-i.invariant l _ c.table_record-rec.ensures (rw (← c.compare_named.ensures) (sym (c.if-is_eq.ensures ∙ compared-equal c.compare_named.result)))

pub first_reference-requires : goal.first_reference-requires
first_reference-requires c =
    let l = among-records c.args.p c.args.places c.args.s.now c.loop-i.i (omega (arith, c.loop-i-test.true, c.table_count-i-end.ensures)) in
    (record-bytes _ _ _ _ l _ c.table_record-rec.ensures c.requires.0, c.requires.1)

pub read_name-requires : goal.read_name-requires
read_name-requires c =
    let l = among-records c.args.p c.args.places c.args.s.now c.loop-i.i (omega (arith, c.loop-i-test.true, c.table_count-i-end.ensures)) in
    record-named _ _ _ _ l _ c.table_record-rec.ensures c.requires.0

pub returns-in-Some : goal.returns-in-Some
unfolding meaning
returns-in-Some c =
    let l = among-records c.args.p c.args.places c.args.s.now c.loop-i.i (omega (arith, c.loop-i-test.true, c.table_count-i-end.ensures)) in (
      table-refers _ _ _ _ _ c.loop-i.invariant l _ c.table_record-rec.ensures _ _ (rw (← c.compare_named.ensures) (sym (c.if-is_eq.ensures ∙ compared-equal c.compare_named.result))) c.in-Some.ensures c.read_name.ensures.0,
      record { table = c.read_name.ensures.1; key = null-proper },
    )

pub loop-i-preserved : goal.loop-i-preserved
loop-i-preserved c =
    let l = among-records c.args.p c.args.places c.args.s.now c.loop-i.i (omega (arith, c.loop-i-test.true, c.table_count-i-end.ensures)) in
    table-without _ _ _ _ _ c.loop-i.invariant l _ c.table_record-rec.ensures (rw (← c.compare_named.ensures) (sym (c.if-is_eq.ensures ∙ compared-equal c.compare_named.result))) c.in_default.ensures

pub returns : goal.returns
returns c =
    (not-referenced _ _ _ c.loop-i.invariant (omega (arith, c.loop-i-test.false, c.table_count-i-end.ensures, tables-count c.args.p c.args.places c.args.s.now)), tt)
