-- What the loop of `schema_test::are_columns` has found. Assumes nothing.
use Rattle.std.proofs.Common.{◌≡◌, drop}
use Rattle.areas.specs.Records.{records}
use Rattle.rules.specs.Profile.{column_width}
use Rattle.rules.specs.Sound.{every}
use Rattle.sound.specs.Tested.{is_column}
use Rattle.sound.proofs.schema_test.are_columns.Given as goal

abbrev pub invariant-loop-i : goal.invariant-loop-i
invariant-loop-i l = every (is_column l.p) (records (column_width l.p) l.count (drop 27 l.rec)) ≡ every (is_column l.p) (drop l.i (records (column_width l.p) l.count (drop 27 l.rec)))
