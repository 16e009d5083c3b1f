-- `walks::referrer::is_referring`: whether the keys have the row's cell decides, and of the own table whether they have its key. Assumes nothing.
use Rattle.std.proofs.Common.{ap, ◌∙◌, arith}
use Rattle.values.specs.Value.{Value, among}
use Rattle.checks.specs.Keys.{values_of}
use Rattle.laid.specs.Row.{row_in}
use Rattle.laid.proofs.Stores.{held-inside}
use Rattle.laid.proofs.RowFacts.{start-table, start-least}
use Rattle.walks.proofs.Searched.{counts-own, cell-there, key-there, key-held}
use Rattle.walks.proofs.referrer.is_referring.Goals as goal

pub cell_at-v-requires : goal.cell_at-v-requires
cell_at-v-requires c =
    let a = c.args in
    (c.requires.0, c.requires.1.stored, cell-there a.p a.places a.s.now c.requires.0 a.t a.k c.requires.1 a.j c.requires.2)

pub table_record-requires-clause-inside : goal.table_record-requires-clause-inside
table_record-requires-clause-inside c = held-inside c.args.p c.args.places c.args.s.now c.requires.0

pub table_record-requires-clause-i_in_bounds : goal.table_record-requires-clause-i_in_bounds
table_record-requires-clause-i_in_bounds c = start-table c.args.p c.args.places c.args.s.now c.requires.0 c.args.t c.requires.1.known

pub key_column-column-requires : goal.key_column-column-requires
key_column-column-requires c =
    let a = c.args in
    omega (arith, start-least a.p a.places a.s.now c.requires.0 a.t c.requires.1.known _ c.table_record.ensures)

pub cell_at-requires : goal.cell_at-requires
cell_at-requires c =
    let a = c.args in
    (c.requires.0, c.requires.1.stored, key-there a.p a.places a.s.now c.requires.0 a.t a.k c.requires.1 _ c.table_record.ensures _ c.key_column-column.ensures)

pub returns : goal.returns
returns c =
    let a = c.args in
    let ks = values_of a.values in
    counts-own ks a.j (row_in a.p a.places a.s.now a.k) _
    (c.is_among.ensures ∙ ap (λ (v : Value). among v ks) c.cell_at-v.ensures.0)
    a.own c.if-not-is_among.false c.if-not-own.false _
    (c.is_among-2.ensures
    ∙ ap (λ (v : Value). among v ks)
    (c.cell_at.ensures.0 ∙ key-held a.p a.places a.s.now c.requires.0 a.t a.k c.requires.1 _ c.table_record.ensures _ c.key_column-column.ensures))
