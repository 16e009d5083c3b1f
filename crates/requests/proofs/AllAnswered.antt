-- Where an output has room for the whole text and the longest row line besides, a run answers every record and writes all of it.
-- Assumes nothing.
use Prim.Native.Nat.{ℕ, ◌+◌, ◌-◌, ◌≤◌}
use native.Mathlib.Omega.{arith}
use mathlib.Core.Path.{◌≡◌, sym, ap, ◌∙◌}
use mathlib.Core.Bool.{Bool, cond}
use mathlib.Core.List.{List, [], ◌∷◌, ◌++◌, append-nil}
use lib.ListN.{length, take, length-append, drop_of_length-le}
use Rattle.forms.specs.Read.{Read}
use Rattle.rules.specs.declared.profile.Profile.{Profile}
use Rattle.rules.specs.Journal.{Books}
use Rattle.rules.specs.Pages.{books_of}
use Rattle.rules.specs.Request.{Request}
use Rattle.rules.specs.Step.{Outcome, changed}
use Rattle.requests.specs.declared.entry.Halt.TheVariants.{Waiting, Stopped}
use Rattle.requests.specs.declared.entry.Ran.{Ran}
use Rattle.operations.specs.Told.{outcome_of}
use Rattle.requests.specs.Lines.{row_most}
use Rattle.requests.specs.Places.{text_from}
use Rattle.requests.specs.Stream.{Reach, reach, records_in, text_of, books_then, Runs}
use Rattle.requests.proofs.Reaching.{reach-end, reach-on}
use Rattle.requests.proofs.Running.{text-more}

-- how far it comes: behind every record, and then it waits or stops
record Through (ended : Bool) (n : ℕ) (x : Reach) : Type 0 where
  pub count : x.count ≡ n
  pub halt : x.halt ≡ cond ended Stopped Waiting

module _ (p : Profile) (R : ℕ) (ended : Bool) where
  through : (b : Books) (qs : List (Read Request)) (i room : ℕ) → length (text_of p R b qs i) + row_most ≤ room
      → Through ended (length qs) (reach p R ended b qs i room)
  through b [] i room h =
      let e = reach-end p R ended b i room (omega arith) in
      record { count = ap (λ (x : Reach). x.count) e; halt = ap (λ (x : Reach). x.halt) e }
  through b (q ∷ qs) i room h =
      let o : Outcome = outcome_of p R b q in
      let n : ℕ = length (text_from o i) in
      let t : Books = changed o.changes b in
      let l : length (text_of p R b (q ∷ qs) i) ≡ n + length (text_of p R t qs 0) =
      ap length (text-more p R b q qs i) ∙ length-append (text_from o i) (text_of p R t qs 0)
      in
      let e = reach-on p R ended b i room (omega (arith, l)) q qs (omega (arith, l)) in
      let r = through t qs 0 (room - n) (omega (arith, l)) in
      record { count = ap (λ (x : Reach). x.count) e ∙ omega (arith, r.count); halt = ap (λ (x : Reach). x.halt) e ∙ r.halt }

pub all-answered : (p : Profile) (R : ℕ) (input : List ℕ) (ended : Bool) (i : ℕ) (s j s₁ j₁ out done : List ℕ) (r : Ran)
    → Runs p R input ended i s j s₁ j₁ out done r
    → length (text_of p R (books_of p R s j) (records_in p input ended) i) + row_most ≤ length out
    → (r.count ≡ length (records_in p input ended))
    × (r.halt ≡ cond ended Stopped Waiting)
    × (take r.written done ≡ text_of p R (books_of p R s j) (records_in p input ended) i)
unfolding text_of
all-answered p R input ended i s j s₁ j₁ out done r x h =
    let t = through p R ended (books_of p R s j) (records_in p input ended) i (length out) h in
    let c : r.count ≡ length (records_in p input ended) = ap (λ (z : Reach). z.count) x.reached ∙ t.count in
    let none = drop_of_length-le (records_in p input ended) {i = r.count} (omega (arith, c)) in
    let rest : List (Read Request) → List ℕ = λ qs. text_of p R (books_then p R input ended (books_of p R s j) r.count) qs r.lines in (
      c,
      ap (λ (z : Reach). z.halt) x.reached ∙ t.halt,
      sym (x.text ∙ ap (λ (qs : List (Read Request)). take r.written done ++ rest qs) none ∙ append-nil (take r.written done)),
    )
