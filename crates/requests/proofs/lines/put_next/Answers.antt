-- `requests::lines::put_next` meets its contract. Assumes nothing.
use mathlib.Core.Path.{refl}
use native.Mathlib.Omega.{arith}
use borrow.Author.Rules.{rules}
use Rattle.checks.specs.Keys.{values_of}
use Rattle.requests.proofs.NextLines.{NameIs, name-read, name-missing, nameless-said, silent-said, get-inside, lookup-inside, next-named, next-got, next-looked, next-scanned}
use Rattle.requests.proofs.lines.put_next.Goals as goal
use Rattle.requests.proofs.lines.put_next.Goals.{In_ok-name}

pub returns-then-operation-eq9 : goal.returns-then-operation-eq9
returns-then-operation-eq9 c =
    let o = c.byte_of-operation in
    let a = c.args in
    next-named a.rec.now a.p c.requires.4 o.result o.ensures _ _ _ _ _ _ c.if-operation-eq9.true c.put_named.ensures

pub returns-in_err-name : goal.returns-in_err-name
returns-in_err-name c =
    let o = c.byte_of-operation in
    let a = c.args in
    let z = name-missing a.rec.now 2 c.name_at.result c.ok.result c.name_at.ensures c.ok.ensures.value c.in_err-name.was in
    rw c.from_residual.ensures (nameless-said a.rec.now a.p c.requires.4 o.result o.ensures c.if-operation-eq9.false z.0 z.1 _ _ _, refl)

-- the name that is read
name : (c : In_ok-name) → NameIs c.args.rec.now 2 c.in_ok-name.name c.in_ok-name.next
name c = name-read c.args.rec.now 2 c.name_at.result c.ok.result c.in_ok-name.name c.in_ok-name.next c.name_at.ensures c.ok.ensures.value c.in_ok-name.was

pub overflow_add-values : goal.overflow_add-values
overflow_add-values c =
    let o = c.byte_of-operation in
    let a = c.args in
    omega (arith, get-inside a.rec.now a.p c.requires.4 o.result o.ensures _ _ (name (goal.at.overflow_add-values c).In_ok-name).is c.in-6.is)

pub put_got-requires : goal.put_got-requires
put_got-requires c = (c.requires.0, c.requires.1, (name (goal.at.put_got-requires c).In_ok-name).packed, c.requires.3)

pub overflow_add-values-in-7 : goal.overflow_add-values-in-7
overflow_add-values-in-7 c =
    let o = c.byte_of-operation in
    let a = c.args in
    omega (arith, lookup-inside a.rec.now a.p c.requires.4 o.result o.ensures _ _ (name (goal.at.overflow_add-values-in-7 c).In_ok-name).is c.in-7.is)

pub overflow_add-next : goal.overflow_add-next
overflow_add-next c =
    let o = c.byte_of-operation in
    let a = c.args in
    omega (arith, lookup-inside a.rec.now a.p c.requires.4 o.result o.ensures _ _ (name (goal.at.overflow_add-next c).In_ok-name).is c.in-7.is)

pub put_looked-requires : goal.put_looked-requires
put_looked-requires c = (c.requires.0, (name (goal.at.put_looked-requires c).In_ok-name).packed, c.requires.2, c.requires.3)

pub put_scanned-requires : goal.put_scanned-requires
put_scanned-requires c = (c.requires.0, c.requires.1, (name (goal.at.put_scanned-requires c).In_ok-name).packed, c.requires.3)

pub returns-in-6 : goal.returns-in-6
unfolding values_of
returns-in-6 c =
    let o = c.byte_of-operation in
    let a = c.args in
    next-got a.rec.now a.p c.requires.4 o.result o.ensures _ _ _ _ _ _ _ _ (name (goal.at.returns-in-6 c).In_ok-name).is c.in-6.is _ c.byte_of.ensures c.put_got.ensures

pub returns-in-7 : goal.returns-in-7
unfolding values_of
returns-in-7 c =
    let o = c.byte_of-operation in
    let a = c.args in
    next-looked a.rec.now a.p c.requires.4 o.result o.ensures _ _ _ _ _ _ _ _ (name (goal.at.returns-in-7 c).In_ok-name).is c.in-7.is _ c.byte_of-column.ensures _ c.byte_of-in-7.ensures c.put_looked.ensures

pub returns-in-8 : goal.returns-in-8
returns-in-8 c =
    let o = c.byte_of-operation in
    let a = c.args in
    next-scanned a.rec.now a.p c.requires.4 o.result o.ensures _ _ _ _ _ _ _ _ (name (goal.at.returns-in-8 c).In_ok-name).is c.in-8.is c.put_scanned.ensures

pub returns-in_default : goal.returns-in_default
returns-in_default c =
    let o = c.byte_of-operation in
    let a = c.args in
    (silent-said a.rec.now a.p c.requires.4 o.result o.ensures (search rules) (search rules) (search rules) c.if-operation-eq9.false _ _ _, refl)
