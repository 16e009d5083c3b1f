-- What the loop of `schema_test::are_tables_sorted` has found. Assumes nothing.
use Rattle.std.proofs.Common.{◌≡◌, ◌-◌, drop}
use Rattle.rules.specs.State.{cmp_table}
use Rattle.rules.specs.Layout.{parse}
use Rattle.rules.specs.Sound.{sorted}
use Rattle.sound.proofs.schema_test.are_tables_sorted.Given as goal

abbrev pub invariant-loop-i : goal.invariant-loop-i
invariant-loop-i l = sorted cmp_table (parse l.p l.places l.s).tables ≡ sorted cmp_table (drop (l.i - 1) (parse l.p l.places l.s).tables)
