use Rattle.std.proofs.Common.{length, ap, ◌∙◌, arith}
use Rattle.values.specs.Cell.{read_name}
use Rattle.rules.specs.Layout.{Rows}
use Rattle.laid.proofs.RowFacts.{start-table, start-least}
use Rattle.laid.proofs.Stores.{held-inside, held-catalog}
use Rattle.laid.proofs.Inside.{name-within}
use Rattle.journal.proofs.Turning.{content-long, answer-is, turn-known, turn-place, table-never, table-known, key-at}
use Rattle.journal.proofs.turn.named_at.Goals as goal

pub content_at-requires : goal.content_at-requires
content_at-requires c = (turn-known c.requires, turn-place c.requires)

pub read_name-name-requires : goal.read_name-name-requires
read_name-name-requires c = omega (arith, ap length c.content_at.ensures, content-long c.args.p c.args.j.now c.args.i (turn-place c.requires), name-within c.args.p Rows)

pub get_table-requires : goal.get_table-requires
get_table-requires c = (held-catalog c.args.p c.args.places c.args.s.now c.requires.batch.store, c.read_name-name.ensures.1)

pub unreachable-requires : goal.unreachable-requires
unreachable-requires c = table-never c.requires (c.read_name-name.ensures.0 ∙ ap read_name c.content_at.ensures) (answer-is c.in_default.is c.get_table.ensures)

pub table_record-requires-clause-inside : goal.table_record-requires-clause-inside
table_record-requires-clause-inside c = held-inside c.args.p c.args.places c.args.s.now c.requires.batch.store

pub table_record-requires-clause-i_in_bounds : goal.table_record-requires-clause-i_in_bounds
table_record-requires-clause-i_in_bounds c = start-table c.args.p c.args.places c.args.s.now c.requires.batch.store c.in-Some.table (table-known c.requires _ _ c.in-Some.ensures)

pub key_column-column-requires : goal.key_column-column-requires
key_column-column-requires c = omega (arith, start-least c.args.p c.args.places c.args.s.now c.requires.batch.store c.in-Some.table (table-known c.requires _ _ c.in-Some.ensures) c.table_record.result.now c.table_record.ensures)

pub returns : goal.returns
returns c =
    record {
      name = c.read_name-name.ensures.0 ∙ ap read_name c.content_at.ensures;
      proper = c.read_name-name.ensures.1;
      found = c.in-Some.ensures;
      key = key-at c.requires _ _ c.in-Some.ensures c.table_record.ensures c.key_column-column.ensures;
    }
