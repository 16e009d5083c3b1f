use Rattle.std.proofs.Common.{◌≡◌, ◌∙◌, arith, rules, true, false, length}
use Rattle.rules.specs.Rows.{other_count}
use Rattle.checks.specs.Keys.{values_of}
use Rattle.laid.proofs.Columns.{columns_of, count-byte, record-least}
use Rattle.mapping.specs.Mapped.{map_of}
use Rattle.mapping.proofs.Mapping.{too_many_lem, other-count, no_default, all-filled, other-counted}
use Rattle.mapping.proofs.executor.fill_fault.Goals as goal

pub column_count-requires : goal.column_count-requires
column_count-requires c = record-least _ _ c.requires.0

pub returns-then-column_count-values : goal.returns-then-column_count-values
returns-then-column_count-values c =
    let k : c.column_count.result ≡ length (columns_of c.args.p c.args.table.now) = c.column_count.ensures ∙ count-byte c.args.p c.args.table.now in
    too_many_lem _ _ _ (omega arith)

pub returns-then-is_some_and : goal.returns-then-is_some_and
returns-then-is_some_and c =
    let k : c.column_count.result ≡ length (columns_of c.args.p c.args.table.now) = c.column_count.ensures ∙ count-byte c.args.p c.args.table.now in
    let o : other_count (map_of c.args.rec.now c.args.m) (length (values_of c.args.values)) ≡ true =
    rw c.requires.3 (other-counted _ _ c.args.values.count c.is_some_and.result c.requires.2 (search rules) ∙ c.if-is_some_and.true) in
    other-count _ _ _ (omega arith) o

pub returns-in-Some : goal.returns-in-Some
returns-in-Some c =
    let k : c.column_count.result ≡ length (columns_of c.args.p c.args.table.now) = c.column_count.ensures ∙ count-byte c.args.p c.args.table.now in
    let o : other_count (map_of c.args.rec.now c.args.m) (length (values_of c.args.values)) ≡ false =
    rw c.requires.3 (other-counted _ _ c.args.values.count c.is_some_and.result c.requires.2 (search rules) ∙ c.if-is_some_and.false) in
    all-filled _ _ _ (omega arith) o _ c.in-Some.ensures.0

pub returns-in-None : goal.returns-in-None
returns-in-None c =
    let k : c.column_count.result ≡ length (columns_of c.args.p c.args.table.now) = c.column_count.ensures ∙ count-byte c.args.p c.args.table.now in
    let o : other_count (map_of c.args.rec.now c.args.m) (length (values_of c.args.values)) ≡ false =
    rw c.requires.3 (other-counted _ _ c.args.values.count c.is_some_and.result c.requires.2 (search rules) ∙ c.if-is_some_and.false) in
    no_default _ _ _ (omega arith) o c.in-None.ensures.0
