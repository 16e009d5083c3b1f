-- The operands of an insert and an update as the code has them. Assumes nothing.
use Rattle.std.specs.Prelude.{ℕ, ◌+◌, ◌≤◌, List, [], length, take, drop, IfSome}
use Rattle.std.proofs.Math.Option.{Option, map}
use Rattle.std.specs.declared.option.Option.{Option as Held}
use Rattle.values.specs.Value.{Value}
use Rattle.values.specs.Meaning.{held, option_of}
use Rattle.values.specs.declared.value.Cell.{Cell}
use Rattle.rules.specs.Request.{Pair}
use Rattle.laid.specs.declared.row.Row.{Row}
use Rattle.laid.specs.Row.{in_flight, cells_of}
use Rattle.mapping.specs.declared.executor.Map.{Map}
use Rattle.records.specs.Reading.{times}
use Rattle.mapping.specs.Got.{got_or}
use Rattle.records.specs.Record.{values_at, pair_at}

-- the map's column numbers stand in the record
unfoldable pub map_of : List ℕ → Held Map → Option (List ℕ)
map_of rec m = map (λ (x : Map). take x.count (drop x.at rec)) (option_of m)

abbrev pub MapIn : List ℕ → Held Map → Type 0
MapIn rec m = IfSome m (λ (x : Map). x.at + x.count ≤ length rec)

abbrev pub given_of : Held Cell → Option Value
given_of g = map held (option_of g)

-- a row, where all of its columns are filled
abbrev pub filled_of : Held Row → Option (List Value)
filled_of r = map (λ (x : Row). cells_of (in_flight x)) (option_of r)

-- the rows and the pairs from a position on
unfoldable pub rows_at : List ℕ → ℕ → ℕ → List (List Value)
rows_at rec n at = got_or [] (times (values_at rec) n at)

unfoldable pub pairs_at : List ℕ → ℕ → ℕ → List Pair
pairs_at rec n at = got_or [] (times (pair_at rec) n at)
