-- Words in which a batch's promises are said (document 02, T-06): which requests it concerns, what outside means, what is noted. Assumes nothing.
use Rattle.std.specs.Prelude.{Bool, true, false, not, List, [], ◌∷◌, ◌++◌}
use Rattle.std.proofs.Math.Option.{none}
use Rattle.rules.specs.Journal.{Event, Journal, batch_of, is_open, Books}
use Rattle.rules.specs.Request.{Request, Create, Drop, Insert, Update, Delete, Get, Lookup, Scan, Names, Open, Keep, Back}
use Rattle.rules.specs.Step.{Change, noted}

-- no batch is open over the same store
abbrev pub shut : Books → Books
shut b = record { store = b.store; journal = batch_of b.journal.places none }

-- what is noted of some changes
unfoldable pub notes : List Change → List Event
notes [] = []
notes (c ∷ cs) = noted c ++ notes cs

-- neither a schema nor a batch
abbrev pub of_rows : Request → Bool
of_rows (Create t) = false
of_rows (Drop n x) = false
of_rows (Insert n m rows) = true
of_rows (Update n qs) = true
of_rows (Delete n ks) = true
of_rows (Get n ks) = true
of_rows (Lookup n i vs) = true
of_rows (Scan n) = true
of_rows Names = true
of_rows Open = false
of_rows Keep = false
of_rows Back = false

-- 44 inside a batch
abbrev pub of_schema : Request → Bool
of_schema (Create t) = true
of_schema (Drop n ifExists) = true
of_schema (Insert n m rows) = false
of_schema (Update n qs) = false
of_schema (Delete n ks) = false
of_schema (Get n ks) = false
of_schema (Lookup n i vs) = false
of_schema (Scan n) = false
of_schema Names = false
of_schema Open = false
of_schema Keep = false
of_schema Back = false

-- 45
abbrev pub misplaced : Journal → Request → Bool
misplaced j (Create t) = false
misplaced j (Drop n ifExists) = false
misplaced j (Insert n m rows) = false
misplaced j (Update n qs) = false
misplaced j (Delete n ks) = false
misplaced j (Get n ks) = false
misplaced j (Lookup n i vs) = false
misplaced j (Scan n) = false
misplaced j Names = false
misplaced j Open = is_open j
misplaced j Keep = not (is_open j)
misplaced j Back = not (is_open j)

-- neither kept nor taken back
abbrev pub goes_on : Request → Bool
goes_on (Create t) = true
goes_on (Drop n x) = true
goes_on (Insert n m rows) = true
goes_on (Update n qs) = true
goes_on (Delete n ks) = true
goes_on (Get n ks) = true
goes_on (Lookup n i vs) = true
goes_on (Scan n) = true
goes_on Names = true
goes_on Open = true
goes_on Keep = false
goes_on Back = false
