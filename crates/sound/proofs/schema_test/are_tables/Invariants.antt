-- What the loop of `schema_test::are_tables` has found. Assumes nothing.
use Rattle.std.proofs.Common.{◌≡◌, drop}
use Rattle.rules.specs.Layout.{lists}
use Rattle.rules.specs.Sound.{every}
use Rattle.sound.specs.Tested.{is_table}
use Rattle.sound.proofs.schema_test.are_tables.Given as goal

abbrev pub invariant-loop-i : goal.invariant-loop-i
invariant-loop-i l = every (is_table l.p) (lists l.p l.places l.s).schemas ≡ every (is_table l.p) (drop l.i (lists l.p l.places l.s).schemas)
