-- The key is the table's column of the row.
use Rattle.journal.proofs.Writing.{absent-long}
use Rattle.store.proofs.Settling.{noted-key}
use Rattle.store.proofs.TableAt.{record-asked, name-fits, key_fits, its-name, key-few, key-proper, key-held}
use Rattle.store.proofs.noting.note_new.Goals as goal

pub table_record-rec-requires-clause-inside : goal.table_record-rec-requires-clause-inside
table_record-rec-requires-clause-inside c = (record-asked c.requires.0 _ c.requires.1.known).0

pub table_record-rec-requires-clause-i_in_bounds : goal.table_record-rec-requires-clause-i_in_bounds
table_record-rec-requires-clause-i_in_bounds c = (record-asked c.requires.0 _ c.requires.1.known).1

pub key_column-requires : goal.key_column-requires
key_column-requires c = key_fits c.requires.0 _ c.requires.1.known c.table_record-rec.ensures

pub bounds-row-key_column : goal.bounds-row-key_column
bounds-row-key_column c = key-few c.requires.0 _ c.requires.1.known c.table_record-rec.ensures c.key_column.ensures c.requires.1

pub read_name-requires : goal.read_name-requires
read_name-requires c = name-fits c.requires.0 _ c.requires.1.known c.table_record-rec.ensures

pub note_absent-requires : goal.note_absent-requires
note_absent-requires c =
    (c.requires.2, c.read_name.ensures.1, key-proper c.requires.0 _ c.requires.1.known c.table_record-rec.ensures c.key_column.ensures c.requires.1)

pub returns : goal.returns
returns c =
    noted-key (its-name c.requires.0 _ c.requires.1.known c.table_record-rec.ensures c.read_name.ensures.0)
    (key-held c.requires.0 _ c.requires.1.known c.table_record-rec.ensures c.key_column.ensures c.requires.1)
    (absent-long _ c.requires.2.holds.paging c.read_name.result _ c.read_name.ensures.1
    (key-proper c.requires.0 _ c.requires.1.known c.table_record-rec.ensures c.key_column.ensures c.requires.1))
    c.note_absent.ensures
