-- `requests::lines::put_named` meets its contract. Assumes nothing.
use mathlib.Core.Path.{refl}
use Rattle.values.specs.Meaning.{Proper}
use Rattle.values.specs.Value.{null}
use Rattle.laid.proofs.Inside.{inside-header}
use Rattle.laid.proofs.Stores.{held-inside, held-catalog}
use Rattle.requests.proofs.NextLines.{names-ended, names-inside, names-first}
use Rattle.requests.proofs.lines.put_named.Goals as goal

pub table_count-requires : goal.table_count-requires
table_count-requires c =
    inside-header c.args.p c.args.places c.args.s.now (held-inside c.args.p c.args.places c.args.s.now c.requires.0)

pub returns-then-table_count-i : goal.returns-then-table_count-i
returns-then-table_count-i c =
    let a = c.args in
    (names-ended a.p a.places a.s.now c.table_count.result c.table_count.ensures a.i null c.if-table_count-i.true, refl)

pub name_at-requires : goal.name_at-requires
name_at-requires c =
    let a = c.args in
    (held-catalog a.p a.places a.s.now c.requires.0, names-inside a.p a.places a.s.now c.table_count.result c.table_count.ensures a.i c.if-table_count-i.false)

pub put_single-requires : goal.put_single-requires
unfolding Proper
put_single-requires c = (c.requires.1, c.name_at.ensures.proper)

pub returns : goal.returns
unfolding Proper
returns c =
    let x = c.put_single in
    let n = c.name_at in
    let a = c.args in
    record {
      values = _;
      first = names-first a.p a.places a.s.now c.table_count.result c.table_count.ensures a.i c.if-table_count-i.false n.result n.ensures null _;
      front = x.ensures.0;
      short = x.ensures.1;
      proper = tt;
    }
