-- The faults of a column in the three parts that the code asks them in: 7 to 10, 11 to 13, 14 to 17; and what the code's answers say. Assumes nothing.
use Rattle.std.specs.Prelude.{Bool, not, ◌&&◌, List, [], ◌∷◌}
use Rattle.std.proofs.Math.Option.{Option, none, some}
use Rattle.values.specs.Basic.{is_nil, is_none, is_some}
use Rattle.rules.specs.Refusal.{Refusal}
use Rattle.rules.specs.Refusal.{EmptyColumnName, KeyNullable, KeyNotUnique, KeyIndexed, NullableWithoutDefault, NullDefault, DefaultKind, UniqueNotIndexed, ReferenceNotIndexed, UnknownTarget, TargetKind, refusal_of}
use Rattle.rules.specs.State.{Column, Table}
use Rattle.rules.specs.Schema.{first, target_kind, null_default, default_of_other_kind, no_target, target_of_other_kind, Fault}
use Rattle.std.specs.declared.result.Result.{Result}
use Rattle.std.specs.declared.result.Result.TheVariants.{Ok, Err}
use Rattle.rules.specs.declared.answer.Refusal as R
use Rattle.checks.specs.declared.schema_fault.Fault as D

unfoldable pub key_fault : Bool → Column → Option Refusal
key_fault key c =
    first
    ((EmptyColumnName, is_nil c.name)  -- 7
    ∷ (KeyNullable, key && c.nullable)  -- 8
    ∷ (KeyNotUnique, key && not c.unique)  -- 9
    ∷ (KeyIndexed, key && c.index)  -- 10
    ∷ [])

unfoldable pub default_fault : Column → Option Refusal
default_fault c =
    first
    ((NullableWithoutDefault, c.nullable && is_none c.default)  -- 11
    ∷ (NullDefault, not c.nullable && null_default c.default)  -- 12
    ∷ (DefaultKind, default_of_other_kind c.kind c.default)  -- 13
    ∷ [])

unfoldable pub reference_fault : List Table → Table → Bool → Column → Option Refusal
reference_fault ts t key c =
    first
    ((UniqueNotIndexed, c.unique && (not c.index && not key))  -- 14
    ∷ (ReferenceNotIndexed, is_some c.reference && (not c.index && not key))  -- 15
    ∷ (UnknownTarget, no_target (target_kind ts t) c.reference)  -- 16
    ∷ (TargetKind, target_of_other_kind (target_kind ts t) c.kind c.reference)  -- 17
    ∷ [])

-- ---- faults as the code answers them

abbrev pub broken_rule : Result Unit R.Refusal → Option Refusal
broken_rule (Ok u) = none
broken_rule (Err k) = some (refusal_of k)

abbrev pub fault_of : Result Unit D.Fault → Fault
fault_of (Ok u) = none
fault_of (Err f) = some (refusal_of f.kind, f.at)
