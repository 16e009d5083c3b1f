use Rattle.std.proofs.Common.{sym, ◌∙◌, arith}
use Rattle.values.specs.Value.{null}
use Rattle.values.specs.Meaning.{text_bytes, meaning}
use Rattle.laid.specs.Column.{column_of}
use Rattle.laid.proofs.Stores.{held-inside}
use Rattle.laid.proofs.Columns.{record-least}
use Rattle.checks.proofs.Fitting.{schema-within, rec-bytes, key-of-table}
use Rattle.checks.proofs.Taking.{null-proper}
use Rattle.walks.proofs.Showing.{column-below, column-small, column-indexed, shown-indexed, shown-key, shown-other}
use Rattle.walks.proofs.referrer.is_shown.Goals as goal

pub table_record-rec-requires-clause-inside : goal.table_record-rec-requires-clause-inside
table_record-rec-requires-clause-inside c = held-inside c.args.p c.args.places c.args.s.now c.requires.0

pub table_record-rec-requires-clause-i_in_bounds : goal.table_record-rec-requires-clause-i_in_bounds
table_record-rec-requires-clause-i_in_bounds c = let a = c.args in schema-within a.p a.places a.s.now a.t c.requires.0 c.requires.1

pub read_name-name-requires : goal.read_name-name-requires
read_name-name-requires c = let a = c.args in omega (arith, record-least a.p _ (rec-bytes a.p a.places a.s.now a.t c.requires.0 c.requires.1 _ c.table_record-rec.ensures))

pub read_column-requires : goal.read_column-requires
read_column-requires c = let a = c.args in (rec-bytes a.p a.places a.s.now a.t c.requires.0 c.requires.1 _ c.table_record-rec.ensures, column-below a.p a.places a.s.now c.requires.0 a.t c.requires.1 a.j c.requires.2 _ c.table_record-rec.ensures)

pub overflow_cast-j : goal.overflow_cast-j
overflow_cast-j c = let a = c.args in omega (arith, column-small a.p a.places a.s.now c.requires.0 a.t c.requires.1 a.j c.requires.2 _ c.table_record-rec.ensures)

pub is_taken-requires-clause-laid_store : goal.is_taken-requires-clause-laid_store
is_taken-requires-clause-laid_store c = (c.requires.0, c.read_name-name.ensures.1, c.requires.3, null-proper)

pub is_taken-requires-clause-column_value : goal.is_taken-requires-clause-column_value
is_taken-requires-clause-column_value c =
    let a = c.args in
    column-indexed a.p a.places a.s.now c.requires.0 a.t c.requires.1 a.j c.requires.2 _ c.table_record-rec.ensures (column_of c.read_column.result) c.read_column.ensures.is (text_bytes c.read_name-name.result) c.read_name-name.ensures.0 c.if-read_column.true

pub returns-then-read_column : goal.returns-then-read_column
returns-then-read_column c =
    let a = c.args in
    shown-indexed a.p a.places a.s.now c.requires.0 a.t c.requires.1 a.j c.requires.2 _ c.table_record-rec.ensures (column_of c.read_column.result) c.read_column.ensures.is (text_bytes c.read_name-name.result) c.read_name-name.ensures.0 (meaning a.v) c.if-read_column.true null _ c.is_taken.ensures

pub key_column-requires : goal.key_column-requires
key_column-requires c = let a = c.args in omega (arith, record-least a.p _ (rec-bytes a.p a.places a.s.now a.t c.requires.0 c.requires.1 _ c.table_record-rec.ensures))

pub is_stored-requires : goal.is_stored-requires
is_stored-requires c =
    let a = c.args in
    (c.requires.0, key-of-table a.p a.places a.s.now a.t c.requires.0 c.requires.1 _ c.table_record-rec.ensures (text_bytes c.read_name-name.result) c.read_name-name.ensures.0 a.j (c.if-j-key_column.true ∙ c.key_column.ensures), c.read_name-name.ensures.1, c.requires.3)

pub returns-then-j-key_column : goal.returns-then-j-key_column
returns-then-j-key_column c =
    let a = c.args in
    shown-key a.p a.places a.s.now c.requires.0 a.t c.requires.1 a.j c.requires.2 _ c.table_record-rec.ensures (column_of c.read_column.result) c.read_column.ensures.is (text_bytes c.read_name-name.result) c.read_name-name.ensures.0 (meaning a.v) c.if-read_column.false (c.if-j-key_column.true ∙ c.key_column.ensures) _ c.is_stored.ensures

pub returns : goal.returns
returns c =
    let a = c.args in
    shown-other a.p a.places a.s.now c.requires.0 a.t c.requires.1 a.j c.requires.2 _ c.table_record-rec.ensures (column_of c.read_column.result) c.read_column.ensures.is (text_bytes c.read_name-name.result) c.read_name-name.ensures.0 (meaning a.v) c.if-read_column.false (λ e. c.if-j-key_column.false (e ∙ sym c.key_column.ensures))
