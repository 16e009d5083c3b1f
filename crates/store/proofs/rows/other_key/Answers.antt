-- 32, 43, or the old key's row goes and a row is put in.
use Rattle.std.proofs.Common.{arith, sym}
use Rattle.std.proofs.lemmas.Grind.{common_steps}
use Rattle.values.specs.Meaning.{meaning}
use Rattle.journal.proofs.Booking.{laid-books}
use Rattle.store.proofs.TableAt.{record-asked, name-fits, its-name}
use Rattle.store.proofs.Written.{Again, asked-for, referenced-kept, one_key, other-lacks, gone-booked, gone-full, again-settled}
use Rattle.store.proofs.rows.other_key.Goals as goal

pub table_record-requires-clause-inside : goal.table_record-requires-clause-inside
table_record-requires-clause-inside c = (record-asked (laid-books c.requires.0).store _ c.requires.1.known).0

pub table_record-requires-clause-i_in_bounds : goal.table_record-requires-clause-i_in_bounds
table_record-requires-clause-i_in_bounds c = (record-asked (laid-books c.requires.0).store _ c.requires.1.known).1

pub read_name-name-requires : goal.read_name-name-requires
read_name-name-requires c = name-fits (laid-books c.requires.0).store _ c.requires.1.known c.table_record.ensures

pub row_references-requires : goal.row_references-requires
row_references-requires c = ((laid-books c.requires.0).store, c.read_name-name.ensures.1)

pub returns-in-Some : goal.returns-in-Some
returns-in-Some c =
    let n = its-name (laid-books c.requires.0).store _ c.requires.1.known c.table_record.ensures c.read_name-name.ensures.0 in
    referenced-kept c.requires.0 c.requires.1 (meaning c.args.old) _ (asked-for c.requires.0 c.requires.1 (meaning c.args.old) n c.requires.3 c.in-Some.ensures.0) c.args.n _ c.carrying.ensures

pub lacks_places-requires : goal.lacks_places-requires
lacks_places-requires c = (laid-books c.requires.0, c.requires.1.known)

pub returns-then-lacks_places : goal.returns-then-lacks_places
returns-then-lacks_places c =
    let n = its-name (laid-books c.requires.0).store _ c.requires.1.known c.table_record.ensures c.read_name-name.ensures.0 in
    other-lacks c.requires.0 c.requires.1 (meaning c.args.old) (asked-for c.requires.0 c.requires.1 (meaning c.args.old) n c.requires.3 c.in_default.ensures.0)
    (sym (one_key c.requires.0 c.requires.1 (meaning c.args.old) c.requires.3 c.if-lacks_places.ensures)) c.args.n _ c.new.ensures

pub remove_key-gone-requires : goal.remove_key-gone-requires
remove_key-gone-requires c =
    (laid-books c.requires.0, c.requires.1.known, c.requires.2, sym (one_key c.requires.0 c.requires.1 (meaning c.args.old) c.requires.3 c.if-lacks_places.ensures))

pub insert-requires : goal.insert-requires
insert-requires c =
    let n = its-name (laid-books c.requires.0).store _ c.requires.1.known c.table_record.ensures c.read_name-name.ensures.0 in
    let u = asked-for c.requires.0 c.requires.1 (meaning c.args.old) n c.requires.3 c.in_default.ensures.0 in
    let l = sym (one_key c.requires.0 c.requires.1 (meaning c.args.old) c.requires.3 c.if-lacks_places.ensures) in
    let e = c.remove_key-gone.ensures.0 in
    (gone-booked c.requires.0 c.requires.1 (meaning c.args.old) u l e, gone-full c.requires.0 c.requires.1 (meaning c.args.old) u l e)

pub returns : goal.returns
returns c =
    let n = its-name (laid-books c.requires.0).store _ c.requires.1.known c.table_record.ensures c.read_name-name.ensures.0 in
    let u = asked-for c.requires.0 c.requires.1 (meaning c.args.old) n c.requires.3 c.in_default.ensures.0 in
    let l = sym (one_key c.requires.0 c.requires.1 (meaning c.args.old) c.requires.3 c.if-lacks_places.ensures) in
    let again : Again c.remove_key-gone.result c.insert.result c.map_err.result = grind (arith, common_steps) in
    again-settled c.requires.0 c.requires.1 (meaning c.args.old) u l c.remove_key-gone.ensures.0 c.args.n c.insert.ensures c.remove_key-gone.ensures.1 again
