-- The nine bytes are the line: its three numbers computed.
use mathlib.Core.Path.{refl, ap}
use mathlib.Core.List.{List, ◌++◌}
use Prim.Native.Nat.{ℕ}
use lib.ListN.{drop}
use Rattle.forms.specs.Print.{digits, decimal}
use Rattle.requests.specs.Lines.{answer_line}
use Rattle.requests.proofs.line.put_broken.Goals as goal

pub returns : goal.returns
unfolding answer_line decimal digits
returns c = record { count = refl; bytes = ap (λ (l : List ℕ). l ++ drop 9 c.args.out.now) c.copy_from_slice.ensures.after }
