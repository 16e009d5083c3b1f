-- Words in which the demands are said: the lines and the requests of records, and a record that is accepted. Assumes nothing.
use Rattle.std.specs.Prelude.{ℕ, ◌≡◌, true, List, [], ◌∷◌, ◌++◌}
use Rattle.forms.specs.Read.{Read, got, broken}
use Rattle.rules.specs.Refusal.{RecordBroken}
use Rattle.rules.specs.Profile.{full}
use Rattle.rules.specs.Journal.{Books}
use Rattle.rules.specs.Request.{Request, no}
use Rattle.rules.specs.Step.{is_accepted, step, after}
use Rattle.requests.specs.Lines.{answer_line, lines_of}

-- record by record: of one that says q the lines of the rules' outcome, of a broken one the line of refusal 1, which changes nothing
unfoldable pub lines_for : ℕ → Books → List (Read Request) → List ℕ
lines_for R b [] = []
lines_for R b (got q n ∷ ws) =
    lines_of (record { lines = (step full R b q).lines; reply = (step full R b q).reply }) ++ lines_for R (after full R b q) ws
lines_for R b (broken x ∷ ws) = answer_line (no RecordBroken 0) ++ lines_for R b ws

-- the requests that were read, in order
unfoldable pub requests_in : List (Read Request) → List Request
requests_in [] = []
requests_in (got q n ∷ ws) = q ∷ requests_in ws
requests_in (broken x ∷ ws) = requests_in ws

-- the record is read, and the rules accept what it says
pub record Accepts (R : ℕ) (b : Books) (w : Read Request) : Type 0 where
  pub request : Request
  pub end : ℕ
  pub says : w ≡ got request end
  pub accepted : is_accepted (step full R b request).reply ≡ true
