-- A batch as a case (document 02, T-06), with four journal places: requests out of turn, a batch that fills the journal and is taken back, and one that is
-- kept. Assumes nothing.
use Rattle.std.specs.Prelude.{ℕ, true, List, [], ◌∷◌}
use Rattle.std.proofs.Math.Option.{none, some}
use Rattle.values.specs.Value.{null}
use Rattle.rules.specs.Refusal.{BatchOutOfTurn, InsideBatch, JournalFull, KeyExists, ValueExists}
use Rattle.rules.specs.Ascii.{ascii}
use Rattle.rules.specs.State.{Name, Table}
use Rattle.rules.specs.Request.{Pair, Request, Create, Drop, Insert, Update, Delete, Scan, Open, Keep, Back, ok, no, with_gone}
use Rattle.rules.specs.Step.{Written}
use Rattle.rules.specs.Sheet.{Case, says, lists, int, key_column}

abbrev t : Name
t = ascii "t"

abbrev table : Table
table =
    record {
      name = t;
      key = 0;
      columns =
          key_column (ascii "id")
          ∷ record { name = ascii "v"; kind = 2; nullable = true; default = some null; unique = true; index = true; reference = none }
          ∷ [];
    }

abbrev to : ℕ → ℕ → ℕ → Pair
to a b c = record { old = int a; row = int b ∷ int c ∷ [] }

abbrev asked : List Request
asked =
    Create table
    ∷ Keep
    ∷ Back
    ∷ Insert t none ((int 1 ∷ int 1 ∷ []) ∷ (int 2 ∷ int 2 ∷ []) ∷ [])
    ∷ Open
    ∷ Open
    ∷ Create (record { name = ascii "u"; key = 0; columns = key_column (ascii "id") ∷ [] })
    ∷ Drop (ascii "nowhere") true
    ∷ Insert t none ((int 3 ∷ int 3 ∷ []) ∷ (int 4 ∷ int 3 ∷ []) ∷ [])
    ∷ Update t (to 1 10 1 ∷ [])
    ∷ Update t (to 2 20 2 ∷ [])
    ∷ Scan t
    ∷ Insert t none ((int 5 ∷ []) ∷ [])
    ∷ Insert t none ((int 10 ∷ []) ∷ [])
    ∷ Delete t (int 99 ∷ [])
    ∷ Delete t (int 3 ∷ int 99 ∷ [])
    ∷ Back
    ∷ Scan t
    ∷ Open
    ∷ Update t (to 1 1 1 ∷ to 2 2 5 ∷ [])
    ∷ Delete t (int 1 ∷ int 1 ∷ int 2 ∷ int 2 ∷ int 7 ∷ [])
    ∷ Insert t none ((int 8 ∷ []) ∷ [])
    ∷ Keep
    ∷ Scan t
    ∷ Insert t none ((int 8 ∷ []) ∷ [])
    ∷ []

abbrev written : List Written
written =
    says (ok 0)
    ∷ says (no BatchOutOfTurn 0)
    ∷ says (no BatchOutOfTurn 0)
    ∷ says (ok 2)
    ∷ says (ok 0)
    ∷ says (no BatchOutOfTurn 0)
    ∷ says (no InsideBatch 0)
    ∷ says (no InsideBatch 0)
    ∷ says (no ValueExists 1)
    ∷ says (ok 1)
    ∷ says (with_gone true (no JournalFull 0))
    ∷ lists ((int 3 ∷ int 3 ∷ []) ∷ (int 10 ∷ int 1 ∷ []) ∷ []) 2
    ∷ says (no JournalFull 0)
    ∷ says (no KeyExists 0)
    ∷ says (ok 1)
    ∷ says (no JournalFull 0)
    ∷ says (ok 0)
    ∷ lists ((int 1 ∷ int 1 ∷ []) ∷ (int 2 ∷ int 2 ∷ []) ∷ []) 2
    ∷ says (ok 0)
    ∷ says (ok 2)
    ∷ says (ok 5)
    ∷ says (no JournalFull 0)
    ∷ says (ok 0)
    ∷ lists [] 0
    ∷ says (ok 1)
    ∷ []

abbrev pub batch_sheet : Case
batch_sheet = record { places = 70; asked = asked; written = written }
