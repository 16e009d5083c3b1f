-- `operations::create::create` meets its contract: the record that is written is that of the table that is read, and it is good. Assumes nothing.
use mathlib.Core.Path.{◌≡◌, refl, sym, ap, ◌∙◌}
use Prim.Native.Nat.{ℕ, ◌-◌, ◌≤◌}
use native.Mathlib.Omega.{arith}
use lib.ListN.{length, take, drop, replicate, length-replicate}
use borrow.Rule.Slice.PartMut.{put_mid}
use Rattle.values.specs.Bytes.{zeros}
use Rattle.values.proofs.Packing.{replicate-zeros}
use Rattle.rules.specs.Layout.{table_record}
use Rattle.records.specs.Record.{create_at}
use Rattle.operations.specs.Created.{table_of}
use Rattle.operations.proofs.Shut.{journal-there, create-quiet, outside-settled}
use Rattle.operations.proofs.SchemaWritten.{create-inside, CreateGot, create-got, create-bytes, create-long, create-acts, schema-room, room-clear, room_back}
use mathlib.Core.List.{List}
use Rattle.operations.proofs.create.create.Goals as goal
use Rattle.operations.proofs.create.create.Goals.{After-schema_width-width, After-write_schema}

read : (c : After-schema_width-width) → CreateGot c.args.rec.now c.args.p c.args.at
read c = create-got c.args.rec.now (λ i. omega (arith, c.type_inv.rec i)) c.args.p c.args.at c.requires.1

room : (c : After-schema_width-width) → c.schema_width-width.result ≤ 651
room c = omega (arith, c.schema_width-width.ensures, schema-room c.args.p c.requires.0.store.coded c.requires.0.paging.most)

long : (c : After-write_schema) → length c.write_schema.new.out ≡ c.schema_width-width.result
long c =
    create-long c.args.p c.requires.0.store.coded c.args.rec.now c.args.at (read (goal.at.After-write_schema c).After-schema_width-width) c.write_schema.new.out c.write_schema.ensures
    ∙ sym c.schema_width-width.ensures

abbrev written : After-write_schema → List ℕ
written c =
    let n = c.schema_width-width.result in
    take (n - 0) (drop 0 (put_mid 0 (n - 0) (replicate 651 0) c.write_schema.new.out))

told : (c : After-write_schema) → written c ≡ table_record c.args.p (table_of (create_at c.args.rec.now c.args.p c.args.at))
told c = room_back c.schema_width-width.result (replicate 651 0) c.write_schema.new.out (long c) ∙ c.write_schema.ensures

pub slice_bounds-room-end : goal.slice_bounds-room-end
slice_bounds-room-end c = room (goal.at.slice_bounds-room-end c).After-schema_width-width

pub write_schema-requires : goal.write_schema-requires
write_schema-requires c =
    let n = c.schema_width-width.result in
    let e = room-clear n (replicate 651 0) 651 (room (goal.at.write_schema-requires c).After-schema_width-width) refl in
    (c.requires.0.store.coded, ap length e ∙ length-replicate n 0 ∙ c.schema_width-width.ensures, ap zeros e ∙ replicate-zeros n, c.requires.1)

pub create_table-requires : goal.create_table-requires
create_table-requires c =
    let m = (goal.at.create_table-requires c).After-write_schema in
    (c.requires.0.store, create-bytes c.args.p c.requires.0.store.coded c.args.rec.now c.args.at (read (goal.at.create_table-requires c).After-schema_width-width) (written m) (told m))

pub is_open-requires : goal.is_open-requires
is_open-requires c = journal-there c.requires.0

pub returns-then-is_open : goal.returns-then-is_open
returns-then-is_open c =
    create-inside (create-got c.args.rec.now (λ i. omega (arith, c.type_inv.rec i)) c.args.p c.args.at c.requires.1) c.requires.0
    (sym c.is_open.ensures ∙ c.if-is_open.true) c.new.ensures

pub returns : goal.returns
returns c =
    let m = (goal.at.returns c).After-write_schema in
    create-acts c.args.p c.requires.0.store.coded c.args.rec.now c.args.at (read (goal.at.returns c).After-schema_width-width) (written m) (told m)
    (outside-settled c.requires.0 _ (sym c.is_open.ensures ∙ c.if-is_open.false) (create-quiet _ _ _) c.create_table.ensures)
