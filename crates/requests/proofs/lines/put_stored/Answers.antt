-- `requests::lines::put_stored` meets its contract. Assumes nothing.
use mathlib.Core.Path.{◌≡◌, sym, ap, ◌∙◌}
use mathlib.Core.Option.{some}
use native.Mathlib.Omega.{arith}
use Rattle.values.specs.Meaning.{text_bytes}
use Rattle.rules.specs.State.{is_named}
use Rattle.rules.specs.Layout.{parse}
use Rattle.laid.specs.Catalog.{place_of, found_at}
use Rattle.laid.proofs.RowFacts.{start-least}
use Rattle.laid.proofs.Searching.{found_within}
use Rattle.laid.proofs.Stores.{held-inside, held-catalog}
use Rattle.requests.proofs.NextLines.{table-found, table-inside, cells-counted, cells-few}
use Rattle.requests.proofs.lines.put_stored.Goals as goal
use Rattle.requests.proofs.lines.put_stored.Goals.{After-unwrap-t}

-- the place that is found
place : (c : After-unwrap-t) → let a = c.args in some c.unwrap-t.result ≡ place_of (is_named (text_bytes a.name)) (parse a.p a.places a.s.now).tables
place c = sym (ap found_at c.unwrap-t.ensures) ∙ c.get_table.ensures

pub get_table-requires : goal.get_table-requires
get_table-requires c =
    (held-catalog c.args.p c.args.places c.args.s.now c.requires.0, c.requires.3)

pub unwrap-t-requires : goal.unwrap-t-requires
unwrap-t-requires c =
    let a = c.args in
    table-found a.p a.places a.s.now c.requires.0 a.i c.requires.2 (text_bytes a.name) c.requires.4 _ c.get_table.ensures

pub table_record-requires : goal.table_record-requires
table_record-requires c =
    let a = c.args in
    record {
      inside = held-inside a.p a.places a.s.now c.requires.0;
      i_in_bounds = found_within a.p a.places a.s.now (text_bytes a.name) c.unwrap-t.result (place c);
    }

pub column_count-columns-requires : goal.column_count-columns-requires
column_count-columns-requires c =
    let a = c.args in
    let t = c.unwrap-t.result in
    start-least a.p a.places a.s.now c.requires.0 t (table-inside a.p a.places a.s.now c.requires.0 a.i c.requires.2 (text_bytes a.name) c.requires.4 t (place (goal.at.column_count-columns-requires c).After-unwrap-t)) c.table_record.result.now c.table_record.ensures

pub put_row-requires : goal.put_row-requires
put_row-requires c =
    let m = c.column_count-columns in
    let r = c.table_record in
    let a = c.args in
    let t = c.unwrap-t.result in
    let e = place (goal.at.put_row-requires c).After-unwrap-t in (
      c.requires.0,
      c.requires.2,
      cells-counted a.p a.places a.s.now c.requires.0 a.i c.requires.2 (text_bytes a.name) c.requires.4 t e r.result.now r.ensures m.result m.ensures,
      omega (arith, c.requires.1, cells-few a.p a.places a.s.now c.requires.0 a.i c.requires.2 (text_bytes a.name) c.requires.4 t e r.result.now r.ensures m.result m.ensures),
      c.requires.5,
    )
