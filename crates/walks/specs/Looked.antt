-- Lookup in the steps that the code takes: the next key behind one, and the next index entry. Assumes nothing.
use Rattle.std.specs.Prelude.{◌≡◌, ◌&&◌, cond, ℕ, List, map}
use Rattle.std.proofs.Math.Option as O
use Rattle.std.proofs.Math.Option.{Option, none, some}
use Rattle.values.specs.Basic.{is_lt, nth, find, keep}
use Rattle.values.specs.Value.{Value, before, among}
use Rattle.values.specs.Meaning.{held, option_of}
use Rattle.rules.specs.declared.profile.Profile.{Profile}
use Rattle.rules.specs.State.{Name, Row, of_table, cell_at}
use Rattle.rules.specs.Index.{Entry, cmp_entry}
use Rattle.laid.specs.Entered.{entries_in}
use Rattle.std.specs.declared.option.Option.{Option as Held}
use Rattle.values.specs.declared.value.Cell.{Cell}

-- the keys of the rows that have one of the values in column i, rising
unfoldable pub keys_with : List Row → Name → ℕ → List Value → List Value
keys_with rs n i vs = map (λ (r : Row). r.key) (keep (λ r. of_table n r && among (cell_at r.cells i) vs) rs)

-- the first of them behind a key
unfoldable pub next_with : List Row → Name → ℕ → List Value → Value → Option Value
next_with rs n i vs k = find (before k) (keys_with rs n i vs)

-- the smaller of two that are there
unfoldable pub least_of : Option Value → Option Value → Option Value
least_of none b = b
least_of (some v) none = some v
least_of (some v) (some w) = cond (before w v) (some w) (some v)

abbrev pub next_of : Held Cell → Option Value
next_of r = O.map held (option_of r)

-- the entry at place i is the first behind e, and at none stands one where none is behind it
pub record FirstBehind (p : Profile) (R : ℕ) (s : List ℕ) (e : Entry) (i : ℕ) : Type 0 where
  pub is : nth (entries_in p R s) i ≡ find (λ x. is_lt (cmp_entry e x)) (entries_in p R s)
