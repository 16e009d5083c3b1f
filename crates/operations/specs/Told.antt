-- What a record is answered and what it does (document 01, "Requests"): a broken one 1, else the request's step. Assumes nothing.
use Rattle.std.specs.Prelude.{ℕ, ◌≡◌, Bool, ◌&&◌, List, ltb}
use Rattle.forms.specs.Read.{Read, got, broken}
use Rattle.rules.specs.declared.profile.Profile.{Profile}
use Rattle.rules.specs.Request.{Answer}
use Rattle.rules.specs.Refusal.{RecordBroken}
use Rattle.rules.specs.Journal.{Journal, Books}
use Rattle.rules.specs.Layout.{parse}
use Rattle.rules.specs.Request.{Request, Names, said, no}
use Rattle.rules.specs.Step.{Outcome, refused, act, step}
use Rattle.rules.specs.Pages.{books_of}
use Rattle.journal.specs.Books.{Settled}
use Rattle.mapping.specs.Got.{got_or}

unfoldable pub outcome_of : Profile → ℕ → Books → Read Request → Outcome
outcome_of p R b (got q n) = step p R b q
outcome_of p R b (broken x) = refused (no RecordBroken 0)

-- the operations that only read: 6 get, 7 lookup, 8 scan, 9 list
unfoldable pub reads : ℕ → Bool
reads k = ltb 5 k && ltb k 10

-- an operation is carried out: the answer, and every byte of both buffers afterwards
abbrev pub Acted : Profile → ℕ → Read Request → List ℕ → List ℕ → List ℕ → List ℕ → Answer → Type 0
Acted p R q s j s₁ j₁ a = Settled p R (act p R (books_of p R s j) (got_or Names q)) s j s₁ j₁ a

-- an operation that only reads: its answer, whatever the journal
abbrev pub Replied : Profile → ℕ → Read Request → List ℕ → Answer → Type 0
Replied p R q s a = (x : Journal) → said a ≡ (act p R (record { store = parse p R s; journal = x }) (got_or Names q)).reply
