-- The target is the schema itself, or stored, or neither.
use Rattle.std.proofs.Common.{arith, ap, sym, ◌∙◌}
use Rattle.values.specs.Basic.{cmp_bytes}
use Rattle.values.specs.Meaning.{text_bytes, ordering}
use Rattle.rules.specs.Layout.{read_table}
use Rattle.laid.proofs.Columns.{record-least, name-read}
use Rattle.laid.proofs.Searching.{found_within, table-bytes-at, target-itself, target-stored, target-missing}
use Rattle.checks.proofs.Checking.{compared-equal}
use Rattle.checks.proofs.schema_fault.target_kind.Goals as goal

pub read_name-requires : goal.read_name-requires
read_name-requires c = omega (arith, record-least _ _ c.requires.1)

pub returns-then-is_eq : goal.returns-then-is_eq
returns-then-is_eq c =
    target-itself c.args.p c.args.places c.args.s.now (read_table c.args.p c.args.rec.now) (text_bytes c.args.name) (ordering c.compare_texts.result)
    (c.compare_texts.ensures ∙ ap (cmp_bytes (text_bytes c.args.name)) (c.read_name.ensures.0 ∙ name-read c.args.p c.args.rec.now))
    c.key_kind.result (sym (c.if-is_eq.ensures ∙ compared-equal c.compare_texts.result)) c.key_kind.ensures

pub returns-in_err-i : goal.returns-in_err-i
returns-in_err-i c =
    rw c.from_residual.ensures
    (target-missing c.args.p c.args.places c.args.s.now (read_table c.args.p c.args.rec.now) (text_bytes c.args.name) (ordering c.compare_texts.result)
    (c.compare_texts.ensures ∙ ap (cmp_bytes (text_bytes c.args.name)) (c.read_name.ensures.0 ∙ name-read c.args.p c.args.rec.now))
    (sym (c.if-is_eq.ensures ∙ compared-equal c.compare_texts.result)) c.in_err-i.ensures)

pub table_record-requires-clause-i_in_bounds : goal.table_record-requires-clause-i_in_bounds
table_record-requires-clause-i_in_bounds c = found_within c.args.p c.args.places c.args.s.now (text_bytes c.args.name) c.in_ok-i.i c.in_ok-i.ensures

pub key_kind-requires-2 : goal.key_kind-requires-2
key_kind-requires-2 c =
    rw c.table_record.ensures (table-bytes-at c.args.p c.args.places c.args.s.now c.in_ok-i.i (found_within c.args.p c.args.places c.args.s.now (text_bytes c.args.name) c.in_ok-i.i c.in_ok-i.ensures) c.requires.0)

pub returns : goal.returns
returns c =
    target-stored c.args.p c.args.places c.args.s.now (read_table c.args.p c.args.rec.now) (text_bytes c.args.name) (ordering c.compare_texts.result)
    (c.compare_texts.ensures ∙ ap (cmp_bytes (text_bytes c.args.name)) (c.read_name.ensures.0 ∙ name-read c.args.p c.args.rec.now))
    (sym (c.if-is_eq.ensures ∙ compared-equal c.compare_texts.result)) c.in_ok-i.i c.key_kind-2.result c.in_ok-i.ensures
    (rw c.table_record.ensures at c.key_kind-2.ensures)
