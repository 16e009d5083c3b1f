-- Rows taken out by their keys, and a pair of an update as the code has it. Assumes nothing.
use Rattle.std.specs.Prelude.{◌≡◌, false, ℕ, List, length}
use Rattle.values.specs.Value.{Value}
use Rattle.values.specs.declared.value.Value as D
use Rattle.values.specs.Meaning.{meaning}
use Rattle.rules.specs.declared.profile.Profile.{Profile}
use Rattle.rules.specs.Layout.{parse}
use Rattle.rules.specs.Journal.{lacks}
use Rattle.rules.specs.Pages.{books_of}
use Rattle.rules.specs.Request.{Pair}
use Rattle.rules.specs.Step.{Change, changed, removals}
use Rattle.values.specs.declared.value.Cell.{Cell}
use Rattle.laid.specs.Row.{cells_of, table_in}
use Rattle.journal.specs.Books.{BytesOf}

-- what goes with the keys from the table at place t
unfoldable pub removals_in : Profile → ℕ → List ℕ → ℕ → List Value → List Change
removals_in p R s t ks = removals (parse p R s).rows (table_in p R s t).name ks

-- every byte afterwards
abbrev pub Removes : Profile → ℕ → List ℕ → List ℕ → ℕ → List Value → List ℕ → List ℕ → Type 0
Removes p R s j t ks s₁ j₁ = BytesOf p R (changed (removals_in p R s t ks) (books_of p R s j)) s₁ j₁

-- an open batch has a place for each row that goes
abbrev pub RoomFor : Profile → ℕ → List ℕ → List ℕ → ℕ → List Value → Type 0
RoomFor p R s j t ks = lacks (books_of p R s j).journal (length (removals_in p R s t ks)) ≡ false

abbrev pub pair_of : D.Value → List Cell → Pair
pair_of old row = record { old = meaning old; row = cells_of row }
