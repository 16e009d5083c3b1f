-- Null is a proper value; a value that was read ends past its start.
use Rattle.std.proofs.Common.{arith}
use Rattle.forms.proofs.Reading.{cell-got}
use Rattle.values.specs.Meaning.{Proper}
use Rattle.values_main.proofs.show_all.Goals as goal

pub loop-at-init : goal.loop-at-init
unfolding Proper
loop-at-init g c = tt

pub loop-at-smaller : goal.loop-at-smaller
loop-at-smaller g c =
    let got = (cell-got _ _ _ _ _ c.value_at.ensures c.in-Ok.is).1 in
    omega (arith, got.after)
