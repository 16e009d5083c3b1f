-- An operation of a batch that leaves the store: what it comes to beside any store. Assumes nothing.
use Rattle.std.specs.Prelude.{ℕ, List}
use Rattle.rules.specs.declared.profile.Profile.{Profile}
use Rattle.rules.specs.Request.{Answer}
use Rattle.rules.specs.Journal.{Books}
use Rattle.rules.specs.Pages.{books_of}
use Rattle.rules.specs.Step.{Outcome}
use Rattle.journal.specs.Books.{Booked, Settled}

pub record Batched (f : Books → Outcome) (j j₁ : List ℕ) (a : Answer) : Type 0 where
  pub of : (p : Profile) (R : ℕ) (s : List ℕ) → Booked p R s j → Settled p R (f (books_of p R s j)) s j s j₁ a
