use Rattle.std.proofs.Common.{◌≡◌, drop}
use Rattle.rules.specs.Rows.{map_fault}
use Rattle.mapping.proofs.executor.is_bad_map.Given as goal

-- what is said of the column numbers that remain is what is said of all
abbrev pub invariant-loop-i : goal.invariant-loop-i
invariant-loop-i l = map_fault l.columns (drop l.i l.named) ≡ map_fault l.columns l.named
