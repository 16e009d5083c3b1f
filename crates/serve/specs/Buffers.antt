-- The two lent buffers as one thing: a store and its journal. Assumes nothing.
use Rattle.std.specs.Prelude.{ℕ, Bool, List}
use Rattle.rules.specs.declared.profile.Profile.{Profile}
use Rattle.rules.specs.Journal.{Books}
use Rattle.rules.specs.Layout.{image, places_of}
use Rattle.rules.specs.Pages.{journal_image, books_of, sound_books}
use Rattle.journal.specs.Books.{Booked}

pub record Buffers : Type 0 where
  pub store : List ℕ
  pub journal : List ℕ

abbrev pub lent : List ℕ → List ℕ → Buffers
lent s j = record { store = s; journal = j }

-- what stands in them, and the bytes of what is to stand in them
abbrev pub books_in : Profile → ℕ → Buffers → Books
books_in p R x = books_of p R x.store x.journal

abbrev pub bytes_for : Profile → ℕ → Books → Buffers
bytes_for p R b = record { store = image p R b.store; journal = journal_image p b.journal }

-- how many row places there are, and whether both are sound
abbrev pub places_in : Profile → Buffers → ℕ
places_in p x = places_of p x.store

abbrev pub sound_in : Profile → Buffers → Bool
sound_in p x = sound_books p x.store x.journal

abbrev pub BookedIn : Profile → ℕ → Buffers → Type 0
BookedIn p R x = Booked p R x.store x.journal
