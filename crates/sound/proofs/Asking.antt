-- The tests of single records as the code asks them: flagged parts, columns, tables, entries, and which of two comes first. Assumes nothing.
use mathlib.Core.Path.{◌≡◌, refl}
use Prim.Native.Nat.{ℕ, ◌+◌, ◌*◌, ◌≤◌}
use native.Mathlib.Nat.{mul-le-mul, le_refl}
use native.Mathlib.Omega.{arith}
use mathlib.Core.List.{List, map}
use lib.ListN.{length, get_or, take, drop}
use Rattle.values.specs.Cell.{read_name, read_value}
use Rattle.areas.specs.Search.{cmp_named, cmp_content, cmp_entered}
use Rattle.rules.specs.declared.profile.Profile.{Profile}
use Rattle.rules.specs.Profile.{column_width, schema_width}
use Rattle.rules.specs.State.{cmp_table}
use Rattle.rules.specs.Index.{cmp_entry}
use Rattle.rules.specs.Layout.{lists, read_table, read_entry}
use Rattle.laid.specs.Entered.{entries_in}
use Rattle.laid.proofs.Columns.{rest, value-front}
use Rattle.sound.proofs.RecordPieces.{column_pieces, table_pieces, entry_pieces}

-- ---- which of two comes first

-- names compared are the tables compared
pub named_order : (p : Profile) (a b : List ℕ) → cmp_table (read_table p a) (read_table p b) ≡ cmp_named a (read_name b)
unfolding cmp_named read_table
named_order p a b = refl

-- entries compared are the records compared
pub entered_order : (p : Profile) → (a b : List ℕ) → p.cell ≡ 26
    → cmp_entry (read_entry p a) (read_entry p b) ≡ cmp_entered 26 a (read_name b) (get_or b 25 0) (read_value (take 26 (drop 26 b))) (read_value (take 26 (drop 52 b)))
unfolding cmp_entered cmp_content cmp_named cmp_entry read_entry
entered_order p a b k = rw (k, value-front 26 (drop 26 b) (omega arith), value-front 26 (drop 52 b) (omega arith)) refl

pub entries-read : (p : Profile) (R : ℕ) (s : List ℕ) → entries_in p R s ≡ map (read_entry p) (lists p R s).entries
unfolding entries_in
entries-read p R s = refl

-- ---- where columns lie

pub columns-fit : (p : Profile) (r : List ℕ) (w n : ℕ) → w ≡ column_width p → length r ≡ schema_width p → n ≤ p.columns → 27 + n * w ≤ length r
unfolding schema_width
columns-fit p r w n e l h =
    let m : n * column_width p ≤ p.columns * column_width p = mul-le-mul h (le_refl (column_width p)) in
    rw e (omega (arith, l))

pub ruleset table_tests = (table_pieces, columns-fit, rest)
