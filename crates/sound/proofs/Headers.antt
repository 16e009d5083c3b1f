-- The test of the layout as the code asks it. Assumes nothing.
use mathlib.Core.Path.{◌≡◌, refl}
use Prim.Native.Nat.{ℕ, ◌+◌, ◌*◌, ◌≤◌}
use native.Mathlib.Nat.{mul-le-mul, le_refl, add-sub_cancel_left}
use mathlib.Core.List.{List}
use lib.ListN.{drop}
use Rattle.values.specs.Bytes.{zeros}
use Rattle.values.specs.Area.{part}
use Rattle.areas.specs.Counted.{count_at}
use Rattle.rules.specs.declared.profile.Profile.{Profile}
use Rattle.rules.specs.Profile.{schema_width, row_width, entry_width, rows_at, entries_at, store_length}
use Rattle.rules.specs.Layout.{Schemas, Rows, Entries, tables_count, rows_count, entries_count}
use Rattle.rules.proofs.Widths.{header-within, area-within}
use Rattle.laid.proofs.Columns.{rest}
use Rattle.sound.specs.Tested.{spare}

-- ---- the header, and the bytes behind an area's records

pub ruleset header = (header-within)

pub ruleset part_rest = (rest, mul-le-mul)

-- ---- the areas, each with its numbers

module _ (p : Profile) (R : ℕ) where
  pub schemas_lie : 12 + p.tables * schema_width p ≤ store_length p R
  schemas_lie = area-within p R Schemas

  pub rows_lie : rows_at p + R * row_width p ≤ store_length p R
  rows_lie = area-within p R Rows

  pub entries_lie : entries_at p R + p.entries * R * entry_width p ≤ store_length p R
  entries_lie = area-within p R Entries

  module _ (s : List ℕ) where
    pub schemas_spare : spare p R s Schemas ≡ zeros (drop (count_at tables_count 1 s * schema_width p) (part 12 (12 + p.tables * schema_width p) s))
    unfolding spare
    schemas_spare = refl

    pub rows_spare : spare p R s Rows ≡ zeros (drop (count_at rows_count 2 s * row_width p) (part (rows_at p) (rows_at p + R * row_width p) s))
    unfolding spare
    rows_spare = refl

    pub entries_spare : spare p R s Entries ≡ zeros (drop (count_at entries_count 4 s * entry_width p) (part (entries_at p R) (entries_at p R + p.entries * R * entry_width p) s))
    unfolding spare
    entries_spare = refl

pub ruleset spares = (header-within, schemas_lie, rows_lie, entries_lie, schemas_spare, rows_spare, entries_spare)
