-- The row's key tells.
use Rattle.std.proofs.Common.{arith, sym}
use Rattle.values.specs.Meaning.{meaning}
use Rattle.journal.proofs.Booking.{laid-books}
use Rattle.store.proofs.TableAt.{record-asked, key_fits, key-few, key-proper, key-held}
use Rattle.store.proofs.Written.{pair-with-same, pair-with-other}
use Rattle.store.proofs.rows.update.Goals as goal

pub table_record-requires-clause-inside : goal.table_record-requires-clause-inside
table_record-requires-clause-inside c = (record-asked (laid-books c.requires.0).store _ c.requires.1.known).0

pub table_record-requires-clause-i_in_bounds : goal.table_record-requires-clause-i_in_bounds
table_record-requires-clause-i_in_bounds c = (record-asked (laid-books c.requires.0).store _ c.requires.1.known).1

pub key_column-column-requires : goal.key_column-column-requires
key_column-column-requires c = key_fits (laid-books c.requires.0).store _ c.requires.1.known c.table_record.ensures

pub bounds-row-column : goal.bounds-row-column
bounds-row-column c = key-few (laid-books c.requires.0).store _ c.requires.1.known c.table_record.ensures c.key_column-column.ensures c.requires.1

pub offset_bounds-row-column : goal.offset_bounds-row-column
offset_bounds-row-column c =
    let l = key-few (laid-books c.requires.0).store _ c.requires.1.known c.table_record.ensures c.key_column-column.ensures c.requires.1 in omega arith

pub is_same-requires : goal.is_same-requires
is_same-requires c = (c.requires.2, key-proper (laid-books c.requires.0).store _ c.requires.1.known c.table_record.ensures c.key_column-column.ensures c.requires.1)

pub returns-then-is_same : goal.returns-then-is_same
returns-then-is_same c =
    pair-with-same c.requires.0 c.requires.1 (meaning c.args.old)
    (key-held (laid-books c.requires.0).store _ c.requires.1.known c.table_record.ensures c.key_column-column.ensures c.requires.1) c.args.n (sym c.if-is_same.ensures) c.same_key.ensures

pub returns-else-is_same : goal.returns-else-is_same
returns-else-is_same c =
    pair-with-other c.requires.0 c.requires.1 (meaning c.args.old)
    (key-held (laid-books c.requires.0).store _ c.requires.1.known c.table_record.ensures c.key_column-column.ensures c.requires.1) c.args.n (sym c.if-is_same.ensures) c.other_key.ensures
