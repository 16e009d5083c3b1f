-- The row with the key goes, where there is one.
use Rattle.values.specs.Meaning.{meaning}
use Rattle.store.proofs.KeysRemoved.{row_below, one_place, row-its, key-gone, key-absent}
use Rattle.store.proofs.Settling.{roomy_of}
use Rattle.store.proofs.TableAt.{record-asked, name-fits, key_fits, its-name, its-key}
use Rattle.store.proofs.rows.remove_key.Goals as goal

pub table_record-rec-requires-clause-inside : goal.table_record-rec-requires-clause-inside
table_record-rec-requires-clause-inside c = (record-asked c.requires.0.store _ c.requires.1).0

pub table_record-rec-requires-clause-i_in_bounds : goal.table_record-rec-requires-clause-i_in_bounds
table_record-rec-requires-clause-i_in_bounds c = (record-asked c.requires.0.store _ c.requires.1).1

pub read_name-name-requires : goal.read_name-name-requires
read_name-name-requires c = name-fits c.requires.0.store _ c.requires.1 c.table_record-rec.ensures

pub key_column-column-requires : goal.key_column-column-requires
key_column-column-requires c = key_fits c.requires.0.store _ c.requires.1 c.table_record-rec.ensures

pub find_row-requires : goal.find_row-requires
find_row-requires c = (
  c.requires.0.store,
  its-key c.requires.0.store _ c.requires.1 c.table_record-rec.ensures c.key_column-column.ensures c.read_name-name.ensures.0,
  c.read_name-name.ensures.1,
  c.requires.2,
)

pub returns-in_default : goal.returns-in_default
returns-in_default c =
    key-absent c.requires.0 _ c.requires.1 (its-name c.requires.0.store _ c.requires.1 c.table_record-rec.ensures c.read_name-name.ensures.0) (meaning c.args.key) c.in_default.ensures

pub note_stored-requires : goal.note_stored-requires
note_stored-requires c =
    let n = its-name c.requires.0.store _ c.requires.1 c.table_record-rec.ensures c.read_name-name.ensures.0 in (
      c.requires.0.store,
      row_below c.requires.0 _ c.requires.1 n (meaning c.args.key) c.in-Some.ensures,
      roomy_of c.requires.0 (one_place c.requires.0 _ c.requires.1 n (meaning c.args.key) c.in-Some.ensures c.requires.3),
    )

pub remove_row-requires : goal.remove_row-requires
remove_row-requires c =
    let n = its-name c.requires.0.store _ c.requires.1 c.table_record-rec.ensures c.read_name-name.ensures.0 in
    (c.requires.0.store, row-its c.requires.0 _ c.requires.1 n (meaning c.args.key) c.in-Some.ensures)

pub returns : goal.returns
returns c =
    let n = its-name c.requires.0.store _ c.requires.1 c.table_record-rec.ensures c.read_name-name.ensures.0 in
    key-gone c.requires.0 _ c.requires.1 n (meaning c.args.key) c.in-Some.ensures c.requires.3 c.remove_row.ensures c.note_stored.ensures
