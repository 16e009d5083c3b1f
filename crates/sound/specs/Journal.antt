-- The test of a lent journal beside a sound store, in the parts that the code asks it in: its length, its header and the zeros behind its places, each
-- place, and the batch taken back. Assumes nothing.
use Rattle.std.specs.Prelude.{ℕ, ◌+◌, ◌*◌, Bool, ◌&&◌, List, [], ◌∷◌, eqb, leb, get_or, take, drop}
use Rattle.values.specs.Basic.{is_some}
use Rattle.values.specs.Bytes.{leqb, zeros}
use Rattle.values.specs.Cell.{read_name, is_name_cell, is_cell}
use Rattle.areas.specs.Records.{records}
use Rattle.areas.specs.Counted.{count_at}
use Rattle.rules.specs.declared.profile.Profile.{Profile}
use Rattle.rules.specs.State.{Table, table_named}
use Rattle.rules.specs.Journal.{Books, unwound, roomy}
use Rattle.rules.specs.Layout.{parse}
use Rattle.rules.specs.Sound.{all, good_event, backed, valid}
use Rattle.rules.specs.Pages.{used_at, journal_header, event_width, event_record, read_event, journal_image, journal_places, right_journal, books_of}
use Rattle.journal.specs.Back.{rows_of, events_of}

-- the header of an open journal, and zeros behind the places in use
unfoldable pub journal_laid : Profile → List ℕ → Bool
journal_laid p j =
    let n : ℕ = count_at used_at 2 j in
    all (eqb 1 (get_or j 0 0) ∷ leb n (journal_places p j) ∷ zeros (drop (journal_header + n * event_width p) j) ∷ [])

-- the bytes are a place's, and it is of a stored table
unfoldable pub is_event : Profile → List Table → List ℕ → Bool
is_event p ts r = leqb (event_record p (read_event p ts r)) r && good_event ts (read_event p ts r)

-- those of a place at whose key nothing stood
unfoldable pub is_absent : List Table → List ℕ → Bool
is_absent ts r =
    all
    (eqb 1 (get_or r 0 0)
    ∷ is_name_cell (take 25 (drop 1 r))
    ∷ is_cell (take 26 (drop 26 r))
    ∷ zeros (drop 52 r)
    ∷ is_some (table_named ts (read_name (drop 1 r)))
    ∷ [])

-- the bytes of the places in use
unfoldable pub pages_in : Profile → List ℕ → List (List ℕ)
pages_in p j = records (event_width p) (count_at used_at 2 j) (drop journal_header j)

-- an open batch can be taken back to a valid state
unfoldable pub taken_back : Profile → ℕ → List ℕ → List ℕ → Bool
taken_back p R s j =
    roomy R (events_of p R s j) (rows_of p R s) && valid p R (record { tables = (parse p R s).tables; rows = unwound (events_of p R s j) (rows_of p R s) })

-- the whole
unfoldable pub sound_journal : Profile → ℕ → List ℕ → List ℕ → Bool
sound_journal p R s j =
    let b : Books = books_of p R s j in
    all (right_journal p j ∷ leqb (journal_image p b.journal) j ∷ backed p R b ∷ [])
