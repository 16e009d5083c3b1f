-- Values that stand in a request's bytes, one after the other. Assumes nothing.
use Rattle.std.specs.Prelude.{◌≡◌, ℕ, zero, suc, List, [], ◌∷◌}
use Rattle.std.specs.declared.option.Option.{Option}
use Rattle.std.specs.declared.option.Option.TheVariants.{None, Some}
use Rattle.values.specs.Value.{Value}
use Rattle.values.specs.Meaning.{held, ProperCell}
use Rattle.values.specs.declared.value.Cell.{Cell}
use Rattle.forms.specs.Read.{Read, got, broken, value_at}
use Rattle.checks.specs.declared.keys.Values.{Values}

-- by cases on a reading; shut, so that a proof can read its arguments off a goal
unfoldable pub on_read : {A B : Type 0} → Read A → B → (A → ℕ → B) → B
on_read (got a n) b f = f a n
on_read (broken x) b f = b

-- the values from a position on: n of them, or as many as can be read
unfoldable pub values_from : List ℕ → ℕ → ℕ → List Value
values_from s zero at = []
values_from s (suc n) at = on_read (value_at s at) [] (λ v b. v ∷ values_from s n b)

-- those that are left of the code's
unfoldable pub values_of : Values → List Value
values_of v = values_from v.bytes.now v.count v.at

-- the first of them, and the others; none where none is left
abbrev pub FirstValue : Values → Option Cell → Values → Type 0
FirstValue v None w = (values_of v ≡ []) × (values_of w ≡ [])
FirstValue v (Some c) w = (values_of v ≡ held c ∷ values_of w) × ProperCell c
