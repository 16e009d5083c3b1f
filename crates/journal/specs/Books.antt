-- A lent store and its journal, and what is promised of both afterwards. Assumes nothing.
use Rattle.std.specs.Prelude.{◌≡◌, true, List, ℕ, ◌≤◌, length}
use Rattle.rules.specs.declared.profile.Profile.{Profile}
use Rattle.rules.specs.Request.{Answer}
use Rattle.rules.specs.Journal.{Books}
use Rattle.rules.specs.Layout.{image, parse}
use Rattle.rules.specs.Request.{said}
use Rattle.rules.specs.Step.{Outcome, changed}
use Rattle.rules.specs.Sound.{every, good_event, backed}
use Rattle.rules.specs.Pages.{journal_most, journal_image, journal_places, books_of}
use Rattle.laid.specs.Store.{LaidStore, Store}
use Rattle.journal.specs.Page.{Paging, in_use}

-- a laid-out store and a journal whose places are of its tables: what the changes of a row need and keep
pub record LaidBooks (p : Profile) (R : ℕ) (s j : List ℕ) : Type 0 where
  pub store : LaidStore p R s
  pub paging : Paging p
  pub most : journal_places p j ≤ journal_most
  pub few : length (in_use (books_of p R s j).journal) ≤ journal_places p j
  pub good : every (good_event (parse p R s).tables) (in_use (books_of p R s j).journal) ≡ true
  pub bytes : j ≡ journal_image p (books_of p R s j).journal

-- a sound store with R row places and its journal: an open batch can be taken back
pub record Booked (p : Profile) (R : ℕ) (s j : List ℕ) : Type 0 where
  pub store : Store p R s
  pub paging : Paging p
  pub some : 1 ≤ journal_places p j
  pub most : journal_places p j ≤ journal_most
  pub bytes : j ≡ journal_image p (books_of p R s j).journal
  pub backed : backed p R (books_of p R s j) ≡ true

-- both buffers hold these books, to the byte
pub record BytesOf (p : Profile) (R : ℕ) (b : Books) (s j : List ℕ) : Type 0 where
  pub store : s ≡ image p R b.store
  pub journal : j ≡ journal_image p b.journal

-- the answer is the outcome's, and every byte afterwards is that of the books with the outcome's changes
pub record Settled (p : Profile) (R : ℕ) (o : Outcome) (s j s₁ j₁ : List ℕ) (a : Answer) : Type 0 where
  pub answer : said a ≡ o.reply
  pub bytes : BytesOf p R (changed o.changes (books_of p R s j)) s₁ j₁
