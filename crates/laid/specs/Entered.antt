-- The index in a buffer, as it is while a row is added, removed or replaced: laid out and sorted, not yet the one rebuilt from the rows.
-- Assumes nothing.
use Rattle.std.specs.Prelude.{Bool, ℕ, ◌≤◌, List, ◌∷◌, ◌++◌, map}
use Rattle.std.proofs.Math.Dec.{compare_is_eq}
use Rattle.values.specs.Basic.{is_lt, any}
use Rattle.values.specs.Value.{Value}
use Rattle.values.specs.Cell.{cell_width, name_cell, value_cell}
use Rattle.areas.specs.Records.{joined}
use Rattle.values.specs.declared.value.Text.{Text}
use Rattle.values.specs.declared.value.Value as D
use Rattle.values.specs.Meaning.{text_bytes, meaning, Packed, Proper}
use Rattle.areas.specs.Sorted.{Sorted, count_of, insert_at, remove_run}
use Rattle.rules.specs.declared.profile.Profile.{Profile}
use Rattle.rules.specs.Profile.{places_most}
use Rattle.rules.specs.Index.{Entry, cmp_entry}
use Rattle.rules.specs.Layout.{Lists, layout, lists, Laid, Entries, with_area, entry_record, read_entry}
use Rattle.laid.specs.Store.{Coded}

-- the index entries of a buffer
unfoldable pub entries_in : Profile → ℕ → List ℕ → List Entry
entries_in p R s = map (read_entry p) (lists p R s).entries

pub record Entered (p : Profile) (R : ℕ) (s : List ℕ) : Type 0 where
  pub coded : Coded p
  pub places : R ≤ places_most
  pub laid : Laid p R s (lists p R s)
  pub sorted : Sorted cmp_entry (entries_in p R s)

-- an entry as code hands it on
abbrev pub entry_of : Text → ℕ → D.Value → D.Value → Entry
entry_of n c v k = record { table = text_bytes n; column = c; value = meaning v; key = meaning k }

pub record ProperEntry (n : Text) (v k : D.Value) : Type 0 where
  pub name : Packed n
  pub value : Proper v
  pub key : Proper k

-- how many entries are before one, and whether it is there
abbrev pub entry_rank : Profile → ℕ → Entry → List ℕ → ℕ
entry_rank p R e s = count_of (λ x. is_lt (cmp_entry x e)) (entries_in p R s)

abbrev pub entry_in : Profile → ℕ → Entry → List ℕ → Bool
entry_in p R e s = any (λ x. compare_is_eq (cmp_entry x e)) (entries_in p R s)

-- the lists with an entry put in at its place, and with it taken out
unfoldable pub entry_added : Profile → ℕ → Entry → List ℕ → Lists
entry_added p R e s = with_area Entries (insert_at (entry_rank p R e s) (entry_record p e) (lists p R s).entries) (lists p R s)

unfoldable pub entry_removed : Profile → ℕ → Entry → List ℕ → Lists
entry_removed p R e s = with_area Entries (remove_run (entry_rank p R e s) 1 (lists p R s).entries) (lists p R s)

-- one taken out and then another put in
unfoldable pub entry_exchanged : Profile → ℕ → Entry → Entry → List ℕ → Lists
entry_exchanged p R old new s = entry_added p R new (layout p R (entry_removed p R old s))

-- ---- records as they are written

unfoldable pub entry_bytes : Entry → List ℕ
entry_bytes e = name_cell e.table ++ (e.column ∷ (value_cell cell_width e.value ++ value_cell cell_width e.key))

-- a name and cells
unfoldable pub row_bytes : List ℕ → List Value → List ℕ
row_bytes n vs = name_cell n ++ joined (map (value_cell cell_width) vs)
