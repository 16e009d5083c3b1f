-- A batch taken back whole: where the journal is backed there is room all the way, and the rows are those of before the batch. Assumes nothing.
use Prim.Native.Nat.{ℕ}
use mathlib.Core.Path.{◌≡◌, sym, ◌∙◌, ap, subst}
use mathlib.Core.Bool.{true, false}
use mathlib.Core.List.{List}
use mathlib.Core.Option.{some}
use lib.Dec.{eqb}
use lib.ListN.{get_or, drop}
use borrow.Author.Tests.{eqb-true}
use Rattle.values.specs.Basic.{maybe}
use Rattle.rules.specs.declared.profile.Profile.{Profile}
use Rattle.rules.specs.Journal.{unwound, roomy}
use Rattle.rules.specs.Layout.{image, parse}
use Rattle.rules.specs.Sound.{backed}
use Rattle.rules.specs.Pages.{open_image, journal_image, parse_journal, books_of}
use Rattle.rules.proofs.Removed.{with_rows}
use Rattle.rules.proofs.Backed.{backed-is}
use Rattle.areas.specs.Counted.{framed}
use Rattle.journal.specs.Turn.{events_in, Batch}
use Rattle.journal.specs.Books.{LaidBooks}
use Rattle.journal.specs.Back.{rows_of, events_of, Unwinds}
use Rattle.journal.proofs.Halfway.{half-store}

-- the places of an open journal are those in use
pub open-events : (p : Profile) (R : ℕ) (s j : List ℕ) → eqb (get_or j 0 0) 0 ≡ false → (books_of p R s j).journal.batch ≡ some (events_of p R s j)
unfolding parse_journal events_in
open-events p R s j o = rw o

module _ {p : Profile} {R : ℕ} {s j : List ℕ} where
  pub books-batch : LaidBooks p R s j → eqb (get_or j 0 0) 0 ≡ false → Batch p R s j
  unfolding parse_journal events_in journal_image maybe
  books-batch b o =
      record {
        store = b.store;
        paging = b.paging;
        most = b.most;
        few = rw (open-events p R s j o) at b.few;
        good = rw (open-events p R s j o) at b.good;
        bytes = b.bytes ∙ rw o;
      }

  module _ (b : Batch p R s j) where
    batch-open : eqb (get_or j 0 0) 0 ≡ false
    unfolding open_image framed
    batch-open = ap (λ (l : List ℕ). eqb (get_or l 0 0) 0) b.bytes

    -- the journal as `backed` has it
    pub batch-backed : backed p R (books_of p R s j) ≡ true → roomy R (events_of p R s j) (rows_of p R s) ≡ true
    batch-backed h = (backed-is p R (books_of p R s j) h (events_of p R s j) (open-events p R s j batch-open)).room

    module _ {r : ℕ} {s₁ j₁ : List ℕ} (u : Unwinds p R s j r s₁ j₁) (h : backed p R (books_of p R s j) ≡ true) where
      pub all_back : r ≡ 0
      all_back = eqb-true r 0 (sym u.all ∙ batch-backed h)

      pub back-state : parse p R s₁ ≡ with_rows (parse p R s) (unwound (events_of p R s j) (rows_of p R s))
      back-state = (subst (λ (k : ℕ). Unwinds p R s j k s₁ j₁) all_back u).half.state

      pub back-bytes : s₁ ≡ image p R (with_rows (parse p R s) (unwound (events_of p R s j) (rows_of p R s)))
      back-bytes = half-store u.half ∙ ap (λ (k : ℕ). image p R (with_rows (parse p R s) (unwound (drop k (events_of p R s j)) (rows_of p R s)))) all_back
