-- `requests::line::put_last` meets its contract. Assumes nothing.
use Rattle.requests.specs.Lines.{space, newline}
use Rattle.forms.specs.Print.{decimal}
use mathlib.Core.List.{◌∷◌}
use lib.ListN.{take}
use native.Mathlib.Omega.{arith}
use Rattle.requests.proofs.Fronts.{front-ended}
use Rattle.requests.proofs.line.put_last.Goals as goal

pub returns : goal.returns
returns c =
    let p = c.put_spaced-n in
    let a = c.args in
    (front-ended newline (take a.from a.out.now) (space ∷ decimal a.m) _ _ _ p.ensures.0 (omega (arith, p.ensures.1)), omega (arith, p.ensures.1))
