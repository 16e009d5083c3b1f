-- A key of an unknown table has no place.
use Rattle.values.specs.Meaning.{text_bytes, meaning}
use Rattle.laid.proofs.Stores.{held-catalog}
use Rattle.checks.proofs.Checking.{key-of-found}
use Rattle.store.proofs.Lookups.{table-known, key-nowhere}
use Rattle.store.proofs.TableAt.{table-among, record-asked, key_fits}
use Rattle.store.proofs.reads.get.Goals as goal

pub get_table-requires : goal.get_table-requires
get_table-requires c = (held-catalog _ _ _ c.requires.0, c.requires.1)

pub returns-in_err-t : goal.returns-in_err-t
returns-in_err-t c = rw c.from_residual.ensures (key-nowhere _ _ _ c.requires.0 (text_bytes c.args.name) (meaning c.args.key) c.in_err-t.ensures)

pub table_record-requires-clause-inside : goal.table_record-requires-clause-inside
table_record-requires-clause-inside c = (record-asked c.requires.0 _ (table-known c.args.p c.args.places c.args.s.now _ c.in_ok-t.t c.in_ok-t.ensures)).0

pub table_record-requires-clause-i_in_bounds : goal.table_record-requires-clause-i_in_bounds
table_record-requires-clause-i_in_bounds c = (record-asked c.requires.0 _ (table-known c.args.p c.args.places c.args.s.now _ c.in_ok-t.t c.in_ok-t.ensures)).1

pub key_column-column-requires : goal.key_column-column-requires
key_column-column-requires c = key_fits c.requires.0 _ (table-known c.args.p c.args.places c.args.s.now _ c.in_ok-t.t c.in_ok-t.ensures) c.table_record.ensures

pub find_row-requires : goal.find_row-requires
find_row-requires c =
    let k = table-known c.args.p c.args.places c.args.s.now _ c.in_ok-t.t c.in_ok-t.ensures in (
      c.requires.0,
      key-of-found _ _ _ c.requires.0 c.in_ok-t.t (table-among _ _ _ _ k) c.key_column-column.result (rw c.table_record.ensures at c.key_column-column.ensures) (text_bytes c.args.name) c.in_ok-t.ensures,
      c.requires.1,
      c.requires.2,
    )
