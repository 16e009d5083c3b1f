use Rattle.store.proofs.TableAt.{table-among, record-named, name-read}
use Rattle.store.proofs.local.name_at.Goals as goal

pub table_record-requires-clause-i_in_bounds : goal.table_record-requires-clause-i_in_bounds
table_record-requires-clause-i_in_bounds c = table-among _ _ _ _ c.requires.1

pub read_name-requires : goal.read_name-requires
read_name-requires c = record-named _ _ _ _ (table-among _ _ _ _ c.requires.1) _ c.table_record.ensures c.requires.0

pub returns : goal.returns
returns c = name-read _ _ _ _ (table-among _ _ _ _ c.requires.1) _ c.table_record.ensures c.read_name.result c.read_name.ensures.0 c.read_name.ensures.1
