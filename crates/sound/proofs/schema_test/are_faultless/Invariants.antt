-- What the loop of `schema_test::are_faultless` has found. Assumes nothing.
use Rattle.std.proofs.Common.{◌≡◌, drop}
use Rattle.values.specs.Basic.{is_none}
use Rattle.rules.specs.Schema.{schema_fault}
use Rattle.rules.specs.Layout.{parse}
use Rattle.rules.specs.Sound.{every, faultless}
use Rattle.rules.specs.State.{Table}
use Rattle.sound.proofs.schema_test.are_faultless.Given as goal

abbrev pub invariant-loop-i : goal.invariant-loop-i
invariant-loop-i l =
    faultless (parse l.p l.places l.s).tables ≡ every (λ (t : Table). is_none (schema_fault (parse l.p l.places l.s).tables t)) (drop l.i (parse l.p l.places l.s).tables)
