-- 2, 32, 43, or the keys' rows go.
use Rattle.std.proofs.Common.{sym, refl}
use Rattle.values.specs.Meaning.{text_bytes}
use Rattle.checks.specs.Keys.{values_of}
use Rattle.laid.proofs.Stores.{store-catalog}
use Rattle.journal.proofs.Booking.{laid-books}
use Rattle.store.proofs.KeysRemoved.{delete-missed, delete-held, delete-lacks, delete-goes}
use Rattle.store.proofs.Lookups.{table-known}
use Rattle.store.proofs.rows.delete.Goals as goal

pub get_table-requires : goal.get_table-requires
get_table-requires c = (store-catalog _ _ _ c.requires.0.store, c.requires.1)

pub returns-in_default : goal.returns-in_default
returns-in_default c = delete-missed c.requires.0 (text_bytes c.args.name) (values_of c.args.values) c.in_default.ensures _ c.new.ensures

pub row_references-requires : goal.row_references-requires
row_references-requires c = ((laid-books c.requires.0).store, c.requires.1)

pub returns-in-Some-row_references : goal.returns-in-Some-row_references
returns-in-Some-row_references c =
    delete-held c.requires.0 (text_bytes c.args.name) (values_of c.args.values) c.in-Some.t c.in-Some.ensures _ c.in-Some-row_references.ensures.0 _ c.carrying.ensures

pub lacks_places-requires : goal.lacks_places-requires
lacks_places-requires c = (laid-books c.requires.0, table-known c.args.p c.args.places c.args.s.now (text_bytes c.args.name) c.in-Some.t c.in-Some.ensures)

pub returns-then-lacks_places : goal.returns-then-lacks_places
returns-then-lacks_places c =
    delete-lacks c.requires.0 (text_bytes c.args.name) (values_of c.args.values) c.in-Some.t c.in-Some.ensures c.in_default-row_references.ensures.0 (sym c.if-lacks_places.ensures) _
    c.new-then-lacks_places.ensures

pub remove_keys-requires : goal.remove_keys-requires
remove_keys-requires c =
    (laid-books c.requires.0, table-known c.args.p c.args.places c.args.s.now (text_bytes c.args.name) c.in-Some.t c.in-Some.ensures, sym c.if-lacks_places.ensures)

pub returns : goal.returns
returns c =
    delete-goes c.requires.0 (text_bytes c.args.name) (values_of c.args.values) c.in-Some.t c.in-Some.ensures c.in_default-row_references.ensures.0 (sym c.if-lacks_places.ensures)
    c.remove_keys.ensures _ refl
