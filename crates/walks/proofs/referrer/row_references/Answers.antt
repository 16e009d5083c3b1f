use Rattle.std.proofs.Common.{ap, ◌∙◌, ◌<◌, length, arith}
use Rattle.values.specs.Meaning.{text_bytes}
use Rattle.values.proofs.Orders.{is_eq-ordering}
use lib.Dec.{compare_is_eq}
use Rattle.rules.specs.Layout.{parse}
use Rattle.checks.specs.Keys.{values_of}
use Rattle.laid.proofs.Inside.{inside-header}
use Rattle.laid.proofs.Searching.{tables-count}
use Rattle.laid.proofs.Stores.{held-inside}
use Rattle.laid.proofs.RowFacts.{start-table, start-least}
use Rattle.walks.proofs.Searched.{at_table, search-start, search-end, table-first, table-next, column-past, column-rows, column-next, row-of, row-past, row-hit, key-there, carried-is}
use Rattle.walks.proofs.referrer.row_references.Goals as goal
use Rattle.walks.proofs.referrer.row_references.Goals.{then-is_searched+else-loop-k-test, else-is_searched}

pub table_count-t-end-requires : goal.table_count-t-end-requires
table_count-t-end-requires c = let a = c.args in inside-header a.p a.places a.s.now (held-inside a.p a.places a.s.now c.requires.0)

pub loop-t-init : goal.loop-t-init
loop-t-init c = let a = c.args in search-start a.p a.places a.s.now (text_bytes a.name) (values_of a.values)

pub table_record-rec-requires-clause-inside : goal.table_record-rec-requires-clause-inside
table_record-rec-requires-clause-inside c = held-inside c.args.p c.args.places c.args.s.now c.requires.0

pub table_record-rec-requires-clause-i_in_bounds : goal.table_record-rec-requires-clause-i_in_bounds
table_record-rec-requires-clause-i_in_bounds c =
    let a = c.args in
    start-table a.p a.places a.s.now c.requires.0 c.loop-t.t (omega (arith, c.loop-t-test.true, c.table_count-t-end.ensures, tables-count a.p a.places a.s.now))

pub read_name-table-requires : goal.read_name-table-requires
read_name-table-requires c =
    let a = c.args in
    let h : c.loop-t.t < length (parse a.p a.places a.s.now).tables = omega (arith, c.loop-t-test.true, c.table_count-t-end.ensures, tables-count a.p a.places a.s.now) in
    omega (arith, start-least a.p a.places a.s.now c.requires.0 c.loop-t.t h _ c.table_record-rec.ensures)

pub column_count-j-end-requires : goal.column_count-j-end-requires
column_count-j-end-requires c =
    let a = c.args in
    let h : c.loop-t.t < length (parse a.p a.places a.s.now).tables = omega (arith, c.loop-t-test.true, c.table_count-t-end.ensures, tables-count a.p a.places a.s.now) in
    start-least a.p a.places a.s.now c.requires.0 c.loop-t.t h _ c.table_record-rec.ensures

pub loop-j-init : goal.loop-j-init
loop-j-init c =
    let a = c.args in
    let h : c.loop-t.t < length (parse a.p a.places a.s.now).tables = omega (arith, c.loop-t-test.true, c.table_count-t-end.ensures, tables-count a.p a.places a.s.now) in
    record {
      table =
          at_table a.p a.places a.s.now c.requires.0 (text_bytes a.name) c.loop-t.t h _ c.table_record-rec.ensures _ c.column_count-j-end.ensures _ c.read_name-table.ensures.0 c.read_name-table.ensures.1
          _ (c.is_eq-own.ensures ∙ is_eq-ordering c.compare_texts.result ∙ ap compare_is_eq c.compare_texts.ensures);
      left = table-first a.p a.places a.s.now (text_bytes a.name) (values_of a.values) c.loop-t.t h c.loop-t.invariant;
    }

pub is_searched-requires : goal.is_searched-requires
is_searched-requires c = let h = c.loop-j.invariant.table in (c.requires.0, h.known, omega (arith, h.counted, c.loop-j-test.true), c.requires.1)

pub scan-rows-requires : goal.scan-rows-requires
scan-rows-requires c = (c.requires.0, c.loop-j.invariant.table.packed)

pub loop-k-init : goal.loop-k-init
loop-k-init c =
    let a = c.args in
    let h = c.loop-j.invariant.table in
    column-rows a.p a.places a.s.now (text_bytes a.name) (values_of a.values) c.loop-t.t c.loop-j.j (omega (arith, h.counted, c.loop-j-test.true)) c.loop-j.invariant.left _ c.is_searched.ensures c.if-is_searched.true _ _ c.scan-rows.ensures h.named _ h.whose

pub is_referring-requires : goal.is_referring-requires
is_referring-requires c =
    let a = c.args in
    let h = c.loop-j.invariant.table in
    (c.requires.0, (row-of a.p a.places a.s.now (text_bytes a.name) (values_of a.values) c.requires.0 c.loop-t.t c.loop-j.j _ _ c.loop-k.k c.loop-k.invariant c.loop-k-test.true h.known), omega (arith, h.counted, c.loop-j-test.true))

pub key_column-column-requires : goal.key_column-column-requires
key_column-column-requires c =
    let a = c.args in
    omega (arith, start-least a.p a.places a.s.now c.requires.0 c.loop-t.t c.loop-j.invariant.table.known _ c.table_record-rec.ensures)

pub cell_at-key-requires : goal.cell_at-key-requires
cell_at-key-requires c =
    let a = c.args in
    let o = row-of a.p a.places a.s.now (text_bytes a.name) (values_of a.values) c.requires.0 c.loop-t.t c.loop-j.j _ _ c.loop-k.k c.loop-k.invariant c.loop-k-test.true c.loop-j.invariant.table.known in
    (c.requires.0, o.stored, key-there a.p a.places a.s.now c.requires.0 c.loop-t.t _ o _ c.table_record-rec.ensures _ c.key_column-column.ensures)

pub returns-then-is_referring : goal.returns-then-is_referring
returns-then-is_referring c =
    let a = c.args in
    let g = row-hit a.p a.places a.s.now (text_bytes a.name) (values_of a.values) c.requires.0 c.loop-t.t c.loop-j.j _ _ c.loop-k.k c.loop-k.invariant c.loop-k-test.true c.loop-j.invariant.table.known _ c.is_referring.ensures c.if-is_referring.true in (
      carried-is a.p a.places a.s.now (text_bytes a.name) (values_of a.values) c.requires.0 c.loop-t.t _ g _ c.table_record-rec.ensures _ c.key_column-column.ensures _ _ c.read_name-table.ensures.0 c.cell_at-key.ensures.0,
      record { table = c.read_name-table.ensures.1; key = c.cell_at-key.ensures.1 },
    )

pub loop-k-preserved : goal.loop-k-preserved
loop-k-preserved c =
    let a = c.args in
    row-past a.p a.places a.s.now (text_bytes a.name) (values_of a.values) c.requires.0 c.loop-t.t c.loop-j.j _ _ c.loop-k.k c.loop-k.invariant c.loop-k-test.true _ c.is_referring.ensures c.if-is_referring.false

pub loop-j-preserved : goal.loop-j-preserved
loop-j-preserved c =
    let a = c.args in
    let h = c.loop-j.invariant.table in
    record {
      table = h;
      left =
          elim c.if-is_searched.branch [
            | then-is_searched+else-loop-k-test w ↦ column-next a.p a.places a.s.now (text_bytes a.name) (values_of a.values) c.loop-t.t c.loop-j.j _ _ _ w.loop-k.invariant (omega (arith, w.loop-k-test.false))
            | else-is_searched w ↦ column-past a.p a.places a.s.now (text_bytes a.name) (values_of a.values) c.loop-t.t c.loop-j.j (omega (arith, h.counted, c.loop-j-test.true)) c.loop-j.invariant.left _ c.is_searched.ensures w.if-is_searched.false
          ];
    }

pub loop-t-preserved : goal.loop-t-preserved
loop-t-preserved c =
    let a = c.args in
    table-next a.p a.places a.s.now (text_bytes a.name) (values_of a.values) c.loop-t.t c.loop-j.j c.loop-j.invariant.left (omega (arith, c.loop-j.invariant.table.counted, c.loop-j-test.false))

pub returns-after-loop-t : goal.returns-after-loop-t
returns-after-loop-t c =
    let a = c.args in
    (search-end a.p a.places a.s.now (text_bytes a.name) (values_of a.values) c.loop-t.t c.loop-t.invariant (omega (arith, c.loop-t-test.false, c.table_count-t-end.ensures, tables-count a.p a.places a.s.now)), tt)
