-- 2, 37, or the number of keys.
use Rattle.std.proofs.Common.{◌∙◌}
use Rattle.values.specs.Meaning.{text_bytes}
use Rattle.laid.proofs.Stores.{held-catalog}
use Rattle.checks.specs.Keys.{values_of}
use Rattle.store.proofs.Lookups.{table-known, column-indexed, lookup-unknown, lookup-refused, lookup-counted}
use Rattle.store.proofs.reads.lookup_index.Goals as goal

pub get_table-requires : goal.get_table-requires
get_table-requires c = (held-catalog _ _ _ c.requires.0, c.requires.1)

pub returns-in_default : goal.returns-in_default
returns-in_default c =
    c.new.ensures ∙ lookup-unknown c.args.p c.args.places c.args.s.now (text_bytes c.args.name) c.args.column (values_of c.args.values) c.in_default.ensures

pub is_indexed-requires : goal.is_indexed-requires
is_indexed-requires c = (c.requires.0, table-known c.args.p c.args.places c.args.s.now (text_bytes c.args.name) c.in-Some.t c.in-Some.ensures)

pub returns-then-not-is_indexed : goal.returns-then-not-is_indexed
returns-then-not-is_indexed c =
    c.new-then-not-is_indexed.ensures
    ∙ lookup-refused c.args.p c.args.places c.args.s.now (text_bytes c.args.name) c.in-Some.t c.in-Some.ensures c.args.column c.is_indexed.result (rw c.from.ensures at c.is_indexed.ensures)
    (values_of c.args.values) c.if-not-is_indexed.true

pub key_count-requires : goal.key_count-requires
key_count-requires c = (
  c.requires.0,
  c.requires.1,
  column-indexed c.args.p c.args.places c.args.s.now (text_bytes c.args.name) c.in-Some.t c.in-Some.ensures c.args.column c.is_indexed.result (rw c.from.ensures at c.is_indexed.ensures)
      c.if-not-is_indexed.false,
)

pub returns : goal.returns
returns c =
    lookup-counted c.args.p c.args.places c.args.s.now (text_bytes c.args.name) c.in-Some.t c.in-Some.ensures c.args.column c.is_indexed.result (rw c.from.ensures at c.is_indexed.ensures)
    (values_of c.args.values) c.if-not-is_indexed.false c.key_count.result c.key_count.ensures
