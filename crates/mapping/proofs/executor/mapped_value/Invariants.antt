use Rattle.std.proofs.Common.{◌≡◌}
use Rattle.std.specs.Slice.Iter.{iter_rest}
use Rattle.rules.specs.Rows.{mapped}
use Rattle.checks.specs.Keys.{values_of}
use Rattle.mapping.proofs.executor.mapped_value.Given as goal

-- what the rest of the map gives from the rest of the values is what it all gives
abbrev pub invariant-loop-x : goal.invariant-loop-x
invariant-loop-x l = mapped (iter_rest l.x-iterator.a) (values_of l.x-iterator.b) l.j ≡ mapped l.named (values_of l.values) l.j
