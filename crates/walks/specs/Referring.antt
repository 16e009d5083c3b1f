-- Delete's reference test in the parts that the code asks it in. Assumes nothing.
use Rattle.std.specs.Prelude.{ℕ, Bool, true, not, ◌&&◌, ◌||◌, cond, List, eqb}
use Rattle.std.proofs.Math.Option.{Option, map}
use Rattle.values.specs.Basic.{any}
use Rattle.values.specs.Value.{Value, same, among}
use Rattle.values.specs.Meaning.{option_of}
use Rattle.rules.specs.State.{Name, Column, Table, Row, of_table, cell_at}
use Rattle.rules.specs.Request.{Carried, carried_of}
use Rattle.std.specs.declared.option.Option.{Option as Held}
use Rattle.rules.specs.declared.answer.Carried as C

-- some row of the table has the value in column j
abbrev pub holds : List Row → Name → ℕ → Value → Bool
holds rs n j v = any (λ r. of_table n r && same (cell_at r.cells j) v) rs

-- what can be seen by a search alone: of an indexed column by its index, of the key column by the rows' order, of any other nothing
unfoldable pub shown : List Row → Table → ℕ → Column → Value → Bool
shown rs t j c v = cond (c.index || eqb j t.key) (holds rs t.name j v) true

-- a row of the source table that counts: it holds one of the keys, and is not itself being deleted
abbrev pub counts : List Value → ℕ → Bool → Row → Bool
counts ks j own r = among (cell_at r.cells j) ks && not (own && among r.key ks)

abbrev pub referrer_of : Held C.Carried → Option Carried
referrer_of r = map carried_of (option_of r)
