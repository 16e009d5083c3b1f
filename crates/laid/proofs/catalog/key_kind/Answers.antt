-- The key column is among the columns, or its kind counts as 0.
use Rattle.std.proofs.Common.{arith}
use Rattle.laid.proofs.Columns.{count-byte, columns-few, record-least, key-past, key-within}
use Rattle.laid.proofs.catalog.key_kind.Goals as goal

pub key_column-key-requires : goal.key_column-key-requires
key_column-key-requires c = omega (arith, record-least _ _ c.requires)

pub column_count-requires : goal.column_count-requires
column_count-requires c = record-least _ _ c.requires

pub returns-then-column_count-key : goal.returns-then-column_count-key
returns-then-column_count-key c = key-past _ _ c.requires (omega (arith, count-byte c.args.p c.args.rec.now))

pub column_record-requires : goal.column_record-requires
column_record-requires c = (c.requires, omega (arith, count-byte c.args.p c.args.rec.now, columns-few _ _ c.requires))

pub returns : goal.returns
returns c = let e = c.key_column-key.ensures in key-within _ _ c.requires c.column_record.result.now (rw (← e) c.column_record.ensures.read) (omega (arith, count-byte c.args.p c.args.rec.now))
