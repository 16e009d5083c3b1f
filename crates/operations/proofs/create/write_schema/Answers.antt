-- `operations::create::write_schema` meets its contract: name, key column and column count, then column by column. Assumes nothing.
use mathlib.Core.Path.{◌≡◌, sym, ap, ◌∙◌, subst}
use Prim.Native.Nat.{ℕ, ◌+◌, ◌≤◌}
use native.Mathlib.Omega.{arith}
use lib.ListN.{length, drop, replicate, length-set}
use mathlib.Core.Bool.{true}
use mathlib.Core.List.{List, ◌++◌}
use Rattle.mapping.specs.Got.{is_got}
use Rattle.records.specs.Reading.{times}
use Rattle.records.specs.Record.{column_at}
use Rattle.values.specs.Cell.{name_cell}
use Rattle.values.specs.Meaning.{text_bytes}
use Rattle.rules.specs.Profile.{schema_width}
use Rattle.rules.proofs.Widths.{schema-most}
use Rattle.changes.proofs.Writing.{named-long}
use Rattle.mapping.proofs.ValuesFrom.{never-broken}
use Rattle.operations.proofs.SchemaWritten.{create-name, SchemaGot, schema-got, schema-start, column-room, column-inside, column-requires, schema-next, leading, schema_lead, lead_is, schema-least, schema-led-long, schema-led, schema-written}
use Rattle.operations.proofs.create.write_schema.Goals.{After-column_width-width, In-Ok}
use Rattle.operations.proofs.create.write_schema.Goals as goal

schema : (c : In-Ok) → SchemaGot c.args.rec.now c.args.p c.args.at c.in-Ok.next (text_bytes c.in-Ok.name)
schema c = schema-got _ _ _ _ _ (sym c.in-Ok.ensures.is) c.requires.3

least : (c : In-Ok) → 27 ≤ length c.args.out.now
least c = schema-least c.args.p c.args.out.now c.requires.1

-- name, key column and column count are written
abbrev lead : After-column_width-width → List ℕ
lead c = schema_lead c.args.rec.now c.args.at c.in-Ok.next c.byte_of-count.result

leads : (c : After-column_width-width) → lead c ≡ leading (name_cell (text_bytes c.in-Ok.name)) c.byte_of.result c.byte_of-count.result
leads c = lead_is c.args.rec.now c.args.at c.in-Ok.next c.byte_of-count.result c.byte_of.result (text_bytes c.in-Ok.name) (sym c.in-Ok.ensures.is) c.byte_of.ensures

lead-wide : (c : After-column_width-width) → length (lead c) ≡ 27
lead-wide c = ap length (leads c) ∙ schema-led-long c.in-Ok.name c.in-Ok.ensures.proper c.byte_of.result c.byte_of-count.result

pub unreachable-requires : goal.unreachable-requires
unreachable-requires c = never-broken _ _ (create-name _ _ _ c.requires.3) (sym c.in_default.ensures.is)

pub slice_bounds-write_name-end : goal.slice_bounds-write_name-end
slice_bounds-write_name-end c = omega (arith, least (goal.at.slice_bounds-write_name-end c).In-Ok)

pub bounds-out-25 : goal.bounds-out-25
bounds-out-25 c =
    let l = least (goal.at.bounds-out-25 c).In-Ok in
    omega (arith, l, named-long c.args.out.now c.write_name.new.out c.in-Ok.name c.in-Ok.ensures.proper c.write_name.ensures (omega (arith, l)))

pub overflow_add-next : goal.overflow_add-next
overflow_add-next c = omega (arith, (schema (goal.at.overflow_add-next c).In-Ok).inside)

pub bounds-out-26 : goal.bounds-out-26
bounds-out-26 c =
    let l = least (goal.at.bounds-out-26 c).In-Ok in
    simp length-set (omega (arith, l, named-long c.args.out.now c.write_name.new.out c.in-Ok.name c.in-Ok.ensures.proper c.write_name.ensures (omega (arith, l))))

pub overflow_add-q : goal.overflow_add-q
overflow_add-q c = omega (arith, (schema (goal.at.overflow_add-q c).In-Ok).inside)

pub loop-init : goal.loop-init
loop-init c =
    let w = (goal.at.loop-init c).After-column_width-width in
    let k = schema (goal.at.loop-init c).In-Ok in
    let a = c.args in
    let n = c.byte_of-count in
    schema-start a.p a.rec.now (lead w) n.result (c.in-Ok.next + 2) c.requires.0 (λ i. omega (arith, c.type_inv.rec i)) (omega (arith, k.few, n.ensures)) _ (lead-wide w)
    (schema-led a.p a.out.now c.requires.1 c.requires.2 c.in-Ok.name c.in-Ok.ensures.proper c.write_name.new.out c.write_name.ensures c.byte_of.result n.result
    ∙ ap (λ (x : List ℕ). x ++ drop 27 (replicate (schema_width a.p) 0)) (sym (leads w)))
    (subst (λ (m : ℕ). is_got (times (column_at a.rec.now) m (c.in-Ok.next + 2)) ≡ true) (sym n.ensures) k.columns)

pub overflow_add-to : goal.overflow_add-to
overflow_add-to c = omega (arith, column-room c.loop.invariant c.loop.auto.counter-end c.loop-test.true c.column_width-width.ensures, schema-most c.args.p c.requires.0.known)

pub slice_bounds-write_column-end : goal.slice_bounds-write_column-end
slice_bounds-write_column-end c = omega (arith, column-inside c.loop.invariant c.loop.auto.counter-end c.loop-test.true c.column_width-width.ensures)

pub write_column-q-requires : goal.write_column-q-requires
write_column-q-requires c = column-requires c.loop.invariant c.loop.auto.counter-end c.loop-test.true c.column_width-width.ensures

pub loop-preserved : goal.loop-preserved
loop-preserved c = schema-next c.loop.invariant c.loop.auto.counter-end c.loop-test.true c.column_width-width.ensures c.write_column-q.ensures.0 c.write_column-q.ensures.1

pub returns : goal.returns
returns c =
    let w = (goal.at.returns c).After-column_width-width in
    schema-written (schema (goal.at.returns c).In-Ok) c.byte_of.ensures c.byte_of-count.ensures (leads w) (lead-wide w) c.loop.invariant (omega arith)
