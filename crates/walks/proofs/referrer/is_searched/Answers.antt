use Rattle.std.proofs.Common.{◌∙◌}
use Rattle.values.specs.Meaning.{text_bytes}
use Rattle.laid.specs.Column.{column_of}
use Rattle.laid.proofs.Stores.{held-inside}
use Rattle.checks.proofs.Fitting.{schema-within, rec-bytes}
use Rattle.walks.proofs.Showing.{column-below, column-is, searched-not, searched-by}
use Rattle.walks.proofs.referrer.is_searched.Goals as goal

pub table_record-requires-clause-inside : goal.table_record-requires-clause-inside
table_record-requires-clause-inside c = held-inside c.args.p c.args.places c.args.s.now c.requires.0

pub table_record-requires-clause-i_in_bounds : goal.table_record-requires-clause-i_in_bounds
table_record-requires-clause-i_in_bounds c = let a = c.args in schema-within a.p a.places a.s.now a.t c.requires.0 c.requires.1

pub read_column-c-requires : goal.read_column-c-requires
read_column-c-requires c =
    let a = c.args in
    (rec-bytes a.p a.places a.s.now a.t c.requires.0 c.requires.1 _ c.table_record.ensures, column-below a.p a.places a.s.now c.requires.0 a.t c.requires.1 a.j c.requires.2 _ c.table_record.ensures)

pub returns-then-refers_to : goal.returns-then-refers_to
returns-then-refers_to c =
    let a = c.args in
    c.is_any_shown.ensures
    ∙ searched-by (text_bytes a.name) (column_of c.read_column-c.result) _ (column-is a.p a.places a.s.now c.requires.0 a.t c.requires.1 a.j c.requires.2 _ c.table_record.ensures _ c.read_column-c.ensures.is) _ c.refers_to.ensures _ c.if-refers_to.true

pub returns-else-refers_to : goal.returns-else-refers_to
returns-else-refers_to c =
    let a = c.args in
    searched-not (text_bytes a.name) (column_of c.read_column-c.result) _ (column-is a.p a.places a.s.now c.requires.0 a.t c.requires.1 a.j c.requires.2 _ c.table_record.ensures _ c.read_column-c.ensures.is) _ c.refers_to.ensures _ c.if-refers_to.false
