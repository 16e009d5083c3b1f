-- `requests::lines::put_got` meets its contract. Assumes nothing.
use native.Mathlib.Omega.{arith}
use mathlib.Core.Logic.{inl}
use mathlib.Core.Path.{refl, ap}
use lib.ListN.{length}
use Rattle.values.specs.Meaning.{text_bytes, held, Proper}
use Rattle.laid.specs.Row.{row_in}
use Rattle.requests.specs.Places.{lines_from}
use Rattle.requests.proofs.NextLines.{Numbered, keys-counted, passing-start, passing-end, passing-missing, passing-found, key-proper, row_inside, row-found, row_named}
use Rattle.requests.proofs.lines.put_got.Goals as goal

pub loop-k-init : goal.loop-k-init
loop-k-init c =
    let it = c.into_iter-k-iterator in
    let h : Numbered c.args.values c.args.passed it.result = record { source = cc; count = cc; skips = cc } in
    record { goes_on = (tt, tt, inl (omega (arith, keys-counted c.args.values c.args.passed it.result h, c.ranges.values))); unwritten = refl; passing = passing-start _ _ _ _ c.args.values it.result h refl }

pub get-requires : goal.get-requires
get-requires c = (c.requires.0, c.requires.2, key-proper _ _ _ _ c.loop-k.k-iterator c.next.new.self c.loop-k.invariant.passing c.in-Some.k c.in-Some.cell c.in-Some.ensures.steps)

pub put_stored-requires : goal.put_stored-requires
put_stored-requires c =
    let a = c.args in
    let i = c.in-Some-get.i in
    let v = held c.in-Some.cell in (
      c.requires.0,
      c.requires.1,
      row_inside a.p a.places a.s.now c.requires.0 (text_bytes a.name) v i c.in-Some-get.ensures,
      c.requires.2,
      row_named a.p a.places a.s.now c.requires.0 (text_bytes a.name) v i c.in-Some-get.ensures,
      omega (arith, ap length c.loop-k.invariant.unwritten),
    )

pub returns-in-Some-get : goal.returns-in-Some-get
unfolding lines_from Proper
returns-in-Some-get c =
    let a = c.args in
    let l = c.loop-k in
    let i = c.in-Some-get.i in
    let v = held c.in-Some.cell in
    let row = row_in a.p a.places a.s.now i in
    record {
      values = row.cells;
      first = passing-found _ _ _ _ l.k-iterator c.next.new.self l.invariant.passing c.in-Some.k c.in-Some.cell c.in-Some.ensures.steps row (row-found a.p a.places a.s.now c.requires.0 (text_bytes a.name) v i c.in-Some-get.ensures);
      front = rw l.invariant.unwritten at c.put_stored.ensures.0;
      short = c.put_stored.ensures.1;
      proper = tt;
    }

pub loop-k-preserved : goal.loop-k-preserved
loop-k-preserved c =
    let l = c.loop-k in
    record { goes_on = c.in-Some.ensures.goes.keeps; unwritten = l.invariant.unwritten; passing = passing-missing _ _ _ _ l.k-iterator c.next.new.self l.invariant.passing c.in-Some.k c.in-Some.cell c.in-Some.ensures.steps c.in_default.ensures }

pub returns : goal.returns
unfolding lines_from
returns c = (passing-end _ _ _ _ c.loop-k.k-iterator c.next.new.self c.loop-k.invariant.passing c.in-None.ensures.steps, c.loop-k.invariant.unwritten)
