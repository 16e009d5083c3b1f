-- `operations::create::write_column` meets its contract: what is written so far over zeros is the column's record so far. Assumes nothing.
use mathlib.Core.Path.{◌≡◌, sym, ◌∙◌}
use native.Mathlib.Omega.{arith}
use lib.ListN.{length, length-set}
use Rattle.values.specs.Meaning.{text_bytes}
use Rattle.changes.proofs.Writing.{named-long}
use Rattle.mapping.proofs.ValuesFrom.{never-broken}
use Rattle.operations.proofs.SchemaWritten.{ColumnGot, column-got, column-name, moved, column-wide, Led, led-long, Defaulted, default-written, default-left, default-broken, default-long, reference-written, reference-left, reference-broken}
use borrow.Rule.Slice.PartMut.{put_mid}
use Rattle.operations.proofs.create.write_column.Goals.{After-byte_of, In-Ok, Joined-flags-eq1, then-flags-eq1+in-Ok-value_at, else-flags-eq1}
use Rattle.operations.proofs.create.write_column.Goals as goal

-- the name is read, and so is a column
column : (c : In-Ok) → ColumnGot c.args.rec.now c.args.at c.in-Ok.next (text_bytes c.in-Ok.name)
column c = column-got _ _ _ _ (sym c.in-Ok.ensures.is) c.requires.3

-- name, kind and flags are written
led : (c : After-byte_of) → Led c.args.p c.args.part.now c.in-Ok.name c.write_name.new.out c.byte_of.result c.byte_of-flags.result c.args.rec.now c.args.at c.in-Ok.next
led c = record {
  coded = c.requires.0;
  long = c.requires.1;
  clear = c.requires.2;
  packed = c.in-Ok.ensures.proper;
  cell = c.write_name.ensures;
  column = column (goal.at.After-byte_of c).In-Ok;
  kind-is = c.byte_of.ensures;
  flags-is = c.byte_of-flags.ensures;
}

default : (c : Joined-flags-eq1) → Defaulted (led (goal.at.Joined-flags-eq1 c).After-byte_of) c.if-flags-eq1.part c.if-flags-eq1.end
default c =
    let z = led (goal.at.Joined-flags-eq1 c).After-byte_of in
    elim c.if-flags-eq1.branch [
      | then-flags-eq1+in-Ok-value_at w ↦ moved (Defaulted z) _ _ _ _ w.part-is w.end-is
          (default-written z _ w.in-Ok-value_at.default _ w.if-flags-eq1.true (sym w.in-Ok-value_at.ensures.is) w.in-Ok-value_at.ensures.proper w.write_cell.ensures)
      | else-flags-eq1 w ↦ moved (Defaulted z) _ _ _ _ w.part-is w.end-is (default-left z w.if-flags-eq1.false)
    ]

long : (c : After-byte_of) → length (put_mid 0 25 c.args.part.now c.write_name.new.out) ≡ 78
long c =
    let w = column-wide c.args.p c.requires.0 in
    named-long c.args.part.now c.write_name.new.out c.in-Ok.name c.in-Ok.ensures.proper c.write_name.ensures (omega (arith, c.requires.1, w)) ∙ c.requires.1 ∙ w

pub unreachable-requires : goal.unreachable-requires
unreachable-requires c = never-broken _ _ (column-name _ _ c.requires.3) (sym c.in_default.ensures.is)

pub overflow_add-next : goal.overflow_add-next
overflow_add-next c = omega (arith, (column (goal.at.overflow_add-next c).In-Ok).inside)

pub slice_bounds-write_name-end : goal.slice_bounds-write_name-end
slice_bounds-write_name-end c = omega (arith, c.requires.1, column-wide c.args.p c.requires.0)

pub bounds-part-25 : goal.bounds-part-25
bounds-part-25 c = omega (arith, long (goal.at.bounds-part-25 c).After-byte_of)

pub bounds-part-26 : goal.bounds-part-26
bounds-part-26 c = simp length-set (omega (arith, long (goal.at.bounds-part-26 c).After-byte_of))

pub overflow_add-end : goal.overflow_add-end
overflow_add-end c = omega (arith, (column (goal.at.overflow_add-end c).In-Ok).inside)

pub unreachable-requires-in_default-value_at : goal.unreachable-requires-in_default-value_at
unreachable-requires-in_default-value_at c =
    default-broken (led (goal.at.unreachable-requires-in_default-value_at c).After-byte_of) _ c.if-flags-eq1.true (sym c.in_default-value_at.ensures.is)

pub slice_bounds-write_cell-end : goal.slice_bounds-write_cell-end
slice_bounds-write_cell-end c = omega (arith, led-long (led (goal.at.slice_bounds-write_cell-end c).After-byte_of))

pub unreachable-requires-in_default-name_at : goal.unreachable-requires-in_default-name_at
unreachable-requires-in_default-name_at c =
    let j = (goal.at.unreachable-requires-in_default-name_at c).Joined-flags-eq1 in
    reference-broken (led (goal.at.Joined-flags-eq1 j).After-byte_of) _ _ (default j) _ c.if-flags-eq1-2.true (sym c.in_default-name_at.ensures.is)

pub slice_bounds-write_name-end-then-flags-eq1-2 : goal.slice_bounds-write_name-end-then-flags-eq1-2
slice_bounds-write_name-end-then-flags-eq1-2 c =
    let j = (goal.at.slice_bounds-write_name-end-then-flags-eq1-2 c).Joined-flags-eq1 in
    omega (arith, default-long (led (goal.at.Joined-flags-eq1 j).After-byte_of) c.if-flags-eq1.part c.if-flags-eq1.end (default j))

pub returns-in-Ok-name_at : goal.returns-in-Ok-name_at
returns-in-Ok-name_at c =
    let j = (goal.at.returns-in-Ok-name_at c).Joined-flags-eq1 in
    reference-written (led (goal.at.Joined-flags-eq1 j).After-byte_of) _ _ (default j) _ c.in-Ok-name_at.target _ c.if-flags-eq1-2.true (sym c.in-Ok-name_at.ensures.is) c.write_name-then-flags-eq1-2.ensures

pub returns-else-flags-eq1-2 : goal.returns-else-flags-eq1-2
returns-else-flags-eq1-2 c =
    let j = (goal.at.returns-else-flags-eq1-2 c).Joined-flags-eq1 in
    reference-left (led (goal.at.Joined-flags-eq1 j).After-byte_of) _ _ (default j) c.if-flags-eq1-2.false
