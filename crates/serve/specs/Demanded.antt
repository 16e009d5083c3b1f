-- Words in which the demands are said: what a lent store and journal are promised whatever comes, a sequence of calls, what is done between two files, a record
-- that leaves a table alone. Assumes nothing.
use Rattle.std.specs.Prelude.{◌≡◌, ℕ, ◌≤◌, true, false, List, [], ◌∷◌, ◌++◌, length, take, ◌≢◌}
use Rattle.std.proofs.Math.Option.{some}
use Rattle.values.specs.Bytes.{Bytes}
use Rattle.forms.specs.Read.{Read, got, broken}
use Rattle.rules.specs.Request.{Answer}
use Rattle.rules.specs.Profile.{full}
use Rattle.rules.specs.State.{Name}
use Rattle.rules.specs.Request.{Request}
use Rattle.rules.specs.Frame.{names, takes_back}
use Rattle.requests.specs.Stream.{whole_of, Lent}
use Rattle.serve.specs.declared.flow.Flow.{Flow}
use Rattle.serve.specs.declared.flow.Turn.{Turn}
use Rattle.serve.specs.declared.Taken.{Taken}
use Rattle.serve.specs.Buffers.{Buffers, sound_in}
use Rattle.serve.specs.Flow.{Turned}
use Rattle.serve.specs.Course.{TakenIn}

-- sound buffers stay sound, and where one is not sound both stay as they were
pub record Safe (before after : Buffers) : Type 0 where
  pub stays : sound_in full before ≡ true → sound_in full after ≡ true
  pub same : sound_in full before ≡ false → after ≡ before

-- what is promised of one record
abbrev pub Answers : Read Request → Buffers → Buffers → Answer → Type 0
Answers w before after a = Lent full w before.store before.journal after.store after.journal a

-- calls of the entry for one record one after the other, whatever bytes each is handed
unfoldable pub Calls : List (List ℕ) → Buffers → Buffers → Type 0
Calls [] before after = after ≡ before
Calls (rec ∷ recs) before after = (now : Buffers) × (a : Answer) × Bytes rec × Answers (whole_of full rec) before now a × Calls recs now after

-- ---- what is done between two files: a piece comes in, or a turn is taken through any two buffers for input and output

pub data Doing : Type 0 where
  reading turning : Doing

-- one after the other: behind the input's end nothing is read. `read` is all that came in, `wrote` all that was handed on, one behind the other
unfoldable pub Doings : ℕ → List Doing → Flow → Buffers → List ℕ → List ℕ → List ℕ → Flow → Buffers → List ℕ → Type 0
Doings R [] f before input read wrote g after kept = (g ≡ f) × (after ≡ before) × (kept ≡ input) × (read ≡ []) × (wrote ≡ [])
Doings R (reading ∷ ds) f before input read wrote g after kept =
    (mid rest : List ℕ) × (t : Taken) × (i : TakenIn f input mid t) × (f.ended ≡ false) × (read ≡ i.piece ++ rest)
    × Doings R ds t.flow before mid rest wrote g after kept
Doings R (turning ∷ ds) f before input read wrote g after kept =
    (now : Buffers) × (mid out done rest : List ℕ) × (t : Turn) × (f.have ≤ length input) × Turned full R f before now input mid out done t
    × (wrote ≡ take t.ran.written done ++ rest) × Doings R ds t.flow now mid read rest g after kept

-- what a record says does not name the table n and is no taking back; a broken one names none
abbrev pub Spares : Name → Read Request → Type 0
Spares n (got q e) = (names q ≢ some n) × (takes_back q ≡ false)
Spares n (broken x) = Unit {0}
