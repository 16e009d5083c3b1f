-- The places of a table's rows. Assumes nothing.
use Rattle.std.specs.Prelude.{◌≡◌, ◌-◌, ◌≤◌, List, length, take, drop}
use Rattle.rules.specs.State.{Name, Row, rows_of}
use Rattle.walks.specs.declared.walk.Span.{Span}

-- from the first on, before the last
pub record Spans (rs : List Row) (n : Name) (x : Span) : Type 0 where
  pub start : x.from ≤ x.to
  pub inside : x.to ≤ length rs
  pub are : rows_of rs n ≡ take (x.to - x.from) (drop x.from rs)
