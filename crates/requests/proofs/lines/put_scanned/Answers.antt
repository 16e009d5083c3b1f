-- `requests::lines::put_scanned` meets its contract. Assumes nothing.
use mathlib.Core.Path.{refl}
use native.Mathlib.Omega.{arith}
use Rattle.values.specs.Meaning.{text_bytes, Proper}
use Rattle.values.specs.Value.{null}
use Rattle.laid.proofs.Stores.{held-state}
use Rattle.requests.proofs.NextLines.{scan-ended, scan-inside, scan-named, scan-first}
use Rattle.requests.proofs.lines.put_scanned.Goals as goal

pub returns-in_err-i : goal.returns-in_err-i
returns-in_err-i c =
    let a = c.args in
    rw c.from_residual.ensures (scan-ended a.p a.places a.s.now c.requires.0 (text_bytes a.name) a.from null c.in_err-i.ensures, refl)

pub put_stored-requires : goal.put_stored-requires
put_stored-requires c =
    let a = c.args in
    let i = c.in_ok-i.i in (
      c.requires.0,
      c.requires.1,
      scan-inside a.p a.places a.s.now c.requires.0 (text_bytes a.name) a.from null i c.in_ok-i.ensures,
      c.requires.2,
      scan-named a.p a.places a.s.now c.requires.0 (text_bytes a.name) a.from null i c.in_ok-i.ensures,
      c.requires.3,
    )

pub overflow_add-result : goal.overflow_add-result
overflow_add-result c =
    let a = c.args in
    omega (
      arith,
      scan-inside a.p a.places a.s.now c.requires.0 (text_bytes a.name) a.from null c.in_ok-i.i c.in_ok-i.ensures,
      (held-state a.p a.places a.s.now c.requires.0).few-rows,
      c.requires.0.places,
    )

pub returns : goal.returns
unfolding Proper
returns c =
    let w = c.put_stored in
    let a = c.args in
    record {
      values = _;
      first = scan-first a.p a.places a.s.now c.requires.0 (text_bytes a.name) a.from null c.in_ok-i.i c.in_ok-i.ensures _;
      front = w.ensures.0;
      short = w.ensures.1;
      proper = tt;
    }
