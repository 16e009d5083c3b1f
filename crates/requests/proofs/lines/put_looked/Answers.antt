-- `requests::lines::put_looked` meets its contract. Assumes nothing.
use mathlib.Core.Path.{refl}
use Rattle.values.specs.Meaning.{text_bytes, meaning, held}
use Rattle.checks.specs.Keys.{values_of}
use Rattle.store.proofs.Lookups.{table-known, column-indexed}
use Rattle.laid.proofs.Stores.{held-catalog}
use Rattle.requests.proofs.NextLines.{lookup-no-table, lookup-no-index, lookup-ended, lookup_first}
use Rattle.requests.proofs.lines.put_looked.Goals as goal

pub get_table-requires : goal.get_table-requires
get_table-requires c =
    (held-catalog c.args.p c.args.places c.args.s.now c.requires.0, c.requires.1)

pub returns-in_err-t : goal.returns-in_err-t
returns-in_err-t c =
    let a = c.args in
    rw c.from_residual.ensures (lookup-no-table a.p a.places a.s.now c.requires.0 (text_bytes a.name) a.column (values_of a.values) 0 (meaning a.after) c.in_err-t.ensures, refl)

pub is_indexed-requires : goal.is_indexed-requires
is_indexed-requires c =
    let a = c.args in
    (c.requires.0, table-known a.p a.places a.s.now (text_bytes a.name) c.in_ok-t.t c.in_ok-t.ensures)

pub returns-then-not-is_indexed : goal.returns-then-not-is_indexed
returns-then-not-is_indexed c =
    let x = c.is_indexed in
    let a = c.args in
    (lookup-no-index a.p a.places a.s.now c.requires.0 (text_bytes a.name) a.column (values_of a.values) 0 (meaning a.after) c.in_ok-t.t c.in_ok-t.ensures x.result x.ensures c.if-not-is_indexed.true, refl)

pub next_key-requires : goal.next_key-requires
next_key-requires c =
    let x = c.is_indexed in
    let a = c.args in (
      c.requires.0,
      c.requires.1,
      c.requires.2,
      column-indexed a.p a.places a.s.now (text_bytes a.name) c.in_ok-t.t c.in_ok-t.ensures a.column x.result x.ensures c.if-not-is_indexed.false,
    )

pub returns-in_err-key : goal.returns-in_err-key
returns-in_err-key c =
    let x = c.is_indexed in
    let a = c.args in
    rw c.from_residual-in_err-key.ensures (lookup-ended a.p a.places a.s.now c.requires.0 (text_bytes a.name) a.column (values_of a.values) 0 (meaning a.after) c.in_ok-t.t c.in_ok-t.ensures x.result x.ensures c.if-not-is_indexed.false c.in_err-key.ensures.0, refl)

pub returns : goal.returns
returns c =
    let w = c.put_single in
    let x = c.is_indexed in
    let a = c.args in
    let y = c.in_ok-key in
    record {
      values = _;
      first = lookup_first a.p a.places a.s.now c.requires.0 (text_bytes a.name) a.column (values_of a.values) 0 (meaning a.after) c.in_ok-t.t c.in_ok-t.ensures x.result x.ensures c.if-not-is_indexed.false (held y.key) y.ensures.0 0;
      front = w.ensures.0;
      short = w.ensures.1;
      proper = y.ensures.1;
    }
