-- `requests::line::put_single` meets its contract. Assumes nothing.
use Prim.Native.Nat.{◌+◌}
use mathlib.Core.Path.{refl}
use mathlib.Core.List.{[], ◌∷◌}
use native.Mathlib.Omega.{arith}
use Rattle.values.specs.Meaning.{held}
use Rattle.requests.proofs.RowLines.{begun-one, line_row}
use Rattle.requests.proofs.line.put_single.Goals as goal

pub returns : goal.returns
returns c =
    let q = c.print_value-n in
    let a = c.args in
    let g = begun-one (held a.c) _ a.out.now q.new.out q.result c.copy_from_slice.ensures.after (omega arith) q.ensures.0 q.ensures.1 in
    (line_row _ 1 (114 ∷ 111 ∷ 119 ∷ []) a.out.now _ (4 + q.result) refl g (omega arith) (omega arith) (omega (arith, q.ensures.1)), omega (arith, q.ensures.1))
