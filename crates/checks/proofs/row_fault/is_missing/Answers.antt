-- The target's table is looked up, and the row in it.
use Rattle.std.proofs.Common.{length, arith, ap}
use Rattle.values.specs.Meaning.{text_bytes, meaning}
use Rattle.laid.proofs.Stores.{held-inside, held-catalog}
use Rattle.laid.proofs.Columns.{record-least}
use Rattle.laid.proofs.Searching.{found_within, table-bytes-at}
use Rattle.checks.proofs.Checking.{no_rows, key-of-found}
use Rattle.checks.proofs.row_fault.is_missing.Goals as goal

pub get_table-requires : goal.get_table-requires
get_table-requires c = (held-catalog _ _ _ c.requires.0, rw c.in-Some.is at c.requires.3.reference)

pub returns-in_default-get_table : goal.returns-in_default-get_table
returns-in_default-get_table c =
    rw (
      c.in-Some.is,
      ← c.is_null.ensures,
      c.if-is_null.false,
      ← c.is_itself.ensures,
      c.if-is_itself.false,
      no_rows _ _ _ c.requires.0 (text_bytes c.in-Some.target) (meaning c.args.v) c.in_default-get_table.ensures,
    )

pub table_record-requires-clause-inside : goal.table_record-requires-clause-inside
table_record-requires-clause-inside c = held-inside _ _ _ c.requires.0

pub table_record-requires-clause-i_in_bounds : goal.table_record-requires-clause-i_in_bounds
table_record-requires-clause-i_in_bounds c = found_within c.args.p c.args.places c.args.s.now (text_bytes c.in-Some.target) c.in-Some-get_table.i c.in-Some-get_table.ensures

pub key_column-column-requires : goal.key_column-column-requires
key_column-column-requires c =
    let h = found_within c.args.p c.args.places c.args.s.now (text_bytes c.in-Some.target) c.in-Some-get_table.i c.in-Some-get_table.ensures in
    let t = table-bytes-at c.args.p c.args.places c.args.s.now c.in-Some-get_table.i h (held-catalog _ _ _ c.requires.0) in
    omega (arith, ap length c.table_record.ensures, record-least _ _ t)

pub is_stored-requires : goal.is_stored-requires
is_stored-requires c =
    let h = found_within c.args.p c.args.places c.args.s.now (text_bytes c.in-Some.target) c.in-Some-get_table.i c.in-Some-get_table.ensures in (
      c.requires.0,
      key-of-found _ _ _ c.requires.0 c.in-Some-get_table.i h c.key_column-column.result (rw c.table_record.ensures at c.key_column-column.ensures) (text_bytes c.in-Some.target) c.in-Some-get_table.ensures,
      rw c.in-Some.is at c.requires.3.reference,
      c.requires.4,
    )
