-- Records over a lent store and its journal (document 01, "Requests"): one whole record, and a stream of them with the text of their lines. Assumes nothing.
use Rattle.std.specs.Prelude.{ℕ, zero, suc, ◌+◌, ◌-◌, ◌≤◌, ◌<◌, min, ◌≡◌, Bool, true, false, cond, List, [], ◌∷◌, ◌++◌, eqb, leb, ltb, length, take, drop}
use Rattle.forms.specs.Read.{Read, broken}
use Rattle.forms.specs.Print.{Front}
use Rattle.rules.specs.declared.profile.Profile.{Profile}
use Rattle.rules.specs.Request.{Answer}
use Rattle.rules.specs.Refusal.{StoreUnsound}
use Rattle.rules.specs.Journal.{Books}
use Rattle.rules.specs.Layout.{places_of}
use Rattle.rules.specs.Request.{Request, said, no}
use Rattle.rules.specs.Step.{Outcome, changed, refused}
use Rattle.rules.specs.Pages.{books_of, sound_books}
use Rattle.journal.specs.Books.{Booked, BytesOf}
use Rattle.records.specs.declared.frame.Framed.{Framed}
use Rattle.records.specs.declared.frame.Framed.TheVariants.{Whole, Skip, More, Cut, Done}
use Rattle.requests.specs.declared.entry.Halt.{Halt}
use Rattle.requests.specs.declared.entry.Halt.TheVariants.{Full, Waiting, Stopped, Unsound}
use Rattle.requests.specs.declared.entry.Ran.{Ran}
use Rattle.requests.specs.declared.lines.Put.{Put}
use Rattle.records.specs.Record.{request_of}
use Rattle.records.specs.Frame.{framed}
use Rattle.requests.specs.Lines.{row_most, answer_line, answer_most}
use Rattle.operations.specs.Told.{outcome_of}
use Rattle.requests.specs.Places.{text_from, lines_to, Wrote}

-- ---- one record, its two length bytes included; shorter or longer than its length says it is broken

abbrev pub whole_as : Profile → List ℕ → Framed → Read Request
whole_as p rec (Whole n) = cond (eqb n (length rec)) (request_of (drop 2 rec) p) (broken 0)
whole_as p rec (Skip n) = broken 0
whole_as p rec More = broken 0
whole_as p rec Cut = broken 0
whole_as p rec Done = broken 0

unfoldable pub whole_of : Profile → List ℕ → Read Request
whole_of p rec = whole_as p rec (framed rec true)

-- unsound buffers: 38 and unchanged; else the record's outcome
unfoldable pub lent_outcome : Profile → List ℕ → List ℕ → Read Request → Outcome
lent_outcome p s j q = cond (sound_books p s j) (outcome_of p (places_of p s) (books_of p (places_of p s) s j) q) (refused (no StoreUnsound 0))

pub record Lent (p : Profile) (q : Read Request) (s j s₁ j₁ : List ℕ) (a : Answer) : Type 0 where
  pub answer : said a ≡ (lent_outcome p s j q).reply
  pub sound : sound_books p s j ≡ true → BytesOf p (places_of p s) (changed (lent_outcome p s j q).changes (books_of p (places_of p s) s j)) s₁ j₁
  pub unsound : sound_books p s j ≡ false → (s₁ ≡ s) × (j₁ ≡ j)

-- ---- many: what the records of an input say; one of bad length or cut off is broken

abbrev pub in_frame : Profile → List ℕ → Framed → (ℕ → List (Read Request)) → List (Read Request)
in_frame p s (Whole k) rest = request_of (take (k - 2) (drop 2 s)) p ∷ rest k
in_frame p s (Skip k) rest = broken 0 ∷ rest k
in_frame p s More rest = []
in_frame p s Cut rest = broken 0 ∷ []
in_frame p s Done rest = []

-- at the most n of them
unfoldable pub some_records : Profile → ℕ → List ℕ → Bool → List (Read Request)
some_records p zero s ended = []
some_records p (suc n) s ended = in_frame p s (framed s ended) (λ k. some_records p n (drop k s) ended)

-- each takes a byte at the least
unfoldable pub records_in : Profile → List ℕ → Bool → List (Read Request)
records_in p s ended = some_records p (length s) s ended

-- how many bytes the first n of them take; one of bad length may run past the end
abbrev pub in_bytes : List ℕ → Framed → (ℕ → ℕ) → ℕ
in_bytes s (Whole k) rest = k + rest k
in_bytes s (Skip k) rest = k + rest k
in_bytes s More rest = 0
in_bytes s Cut rest = length s
in_bytes s Done rest = 0

unfoldable pub bytes_of : ℕ → List ℕ → Bool → ℕ
bytes_of zero s ended = 0
bytes_of (suc n) s ended = in_bytes s (framed s ended) (λ k. bytes_of n (drop k s) ended)

-- ---- the text of their lines, `i` row lines of the first being written already, and the books after them

unfoldable pub text_of : Profile → ℕ → Books → List (Read Request) → ℕ → List ℕ
text_of p R b [] i = []
text_of p R b (q ∷ qs) i =
    let o : Outcome = outcome_of p R b q in
    text_from o i ++ text_of p R (changed o.changes b) qs 0

unfoldable pub books_after : Profile → ℕ → Books → List (Read Request) → Books
books_after p R b [] = b
books_after p R b (q ∷ qs) = books_after p R (changed (outcome_of p R b q).changes b) qs

-- ---- one of them answered: its lines, as many as fit, and every byte of both buffers; where not all fit it was a read

pub record Answered (p : Profile) (R : ℕ) (q : Read Request) (i : ℕ) (s j s₁ j₁ out done : List ℕ) (r : Put) : Type 0 where
  pub wrote : Wrote (outcome_of p R (books_of p R s j) q) i out done r
  pub bytes : BytesOf p R (changed (outcome_of p R (books_of p R s j) q).changes (books_of p R s j)) s₁ j₁
  pub again : r.done ≡ false → (outcome_of p R (books_of p R s j) q).changes ≡ []

-- ---- how far a run comes: records answered, row lines of the next one that are written, and why it ends

pub record Reach : Type 0 where
  pub count : ℕ
  pub lines : ℕ
  pub halt : Halt

abbrev pub halted : ℕ → Halt → Reach
halted i h = record { count = 0; lines = i; halt = h }

abbrev pub further : ℕ → Reach → Reach
further n x = record { count = n + x.count; lines = x.lines; halt = x.halt }

-- a record is begun where the longest row line has room; its text that is left is written whole where it fits, else as many lines as fit
unfoldable pub reach : Profile → ℕ → Bool → Books → List (Read Request) → ℕ → ℕ → Reach
reach p R ended b [] i room = halted i (cond (ltb room row_most) Full (cond ended Stopped Waiting))
reach p R ended b (q ∷ qs) i room =
    let o : Outcome = outcome_of p R b q in
    cond (ltb room row_most) (halted i Full)
    (cond (leb (length (text_from o i)) room)
    (further 1 (reach p R ended (changed o.changes b) qs 0 (room - length (text_from o i))))
    (halted (lines_to o i room) Full))

-- ---- a run over sound buffers: `count` records are answered, and what is left of the input and of the text is told

-- the books behind the records that are answered, and the records that are left
abbrev pub books_then : Profile → ℕ → List ℕ → Bool → Books → ℕ → Books
books_then p R input ended b n = books_after p R b (take n (records_in p input ended))

abbrev pub records_left : Profile → List ℕ → Bool → ℕ → List (Read Request)
records_left p input ended n = drop n (records_in p input ended)

pub record Runs (p : Profile) (R : ℕ) (input : List ℕ) (ended : Bool) (i : ℕ) (s j s₁ j₁ out done : List ℕ) (r : Ran) : Type 0 where
  pub reached : record { count = r.count; lines = r.lines; halt = r.halt }
      ≡ reach p R ended (books_of p R s j) (records_in p input ended) i (length out)
  pub few : r.count ≤ length (records_in p input ended)
  pub passed : r.taken ≡ min (bytes_of r.count input ended) (length input)
  pub over : r.skip ≡ bytes_of r.count input ended - length input
  pub rest : records_in p (drop r.taken input) ended ≡ records_left p input ended r.count
  pub bytes : BytesOf p R (books_then p R input ended (books_of p R s j) r.count) s₁ j₁
  pub text : text_of p R (books_of p R s j) (records_in p input ended) i ≡ take r.written done ++ text_of p R (books_then p R input ended (books_of p R s j) r.count) (records_left p input ended r.count) r.lines
  pub next : records_left p input ended r.count ≡ [] → r.lines ≡ cond (eqb r.count 0) i 0
  pub fits : r.written ≤ length out
  pub long : length done ≡ length out
  pub front : done ≡ take r.written done ++ drop r.written out
  pub kept : Booked p R s₁ j₁
  pub books : books_of p R s₁ j₁ ≡ books_then p R input ended (books_of p R s j) r.count
  pub full : r.halt ≡ Full → length out - r.written < row_most
  pub waits : r.halt ≡ Waiting → (ended ≡ false) × (records_left p input ended r.count ≡ [])
  pub stops : r.halt ≡ Stopped → (ended ≡ true) × (records_left p input ended r.count ≡ [])
  pub tested : r.halt ≡ Unsound → ⊥

-- unsound buffers: 38 once, where its line has room; no record is read
pub record Refuses (i : ℕ) (s j s₁ j₁ out done : List ℕ) (r : Ran) : Type 0 where
  pub halt : r.halt ≡ Unsound
  pub nothing : (r.taken ≡ 0) × (r.skip ≡ 0) × (r.count ≡ 0) × (r.lines ≡ i)
  pub bytes : (s₁ ≡ s) × (j₁ ≡ j)
  pub line : Front (cond (leb answer_most (length out)) (answer_line (no StoreUnsound 0)) []) out done r.written

pub record Many (p : Profile) (input : List ℕ) (ended : Bool) (i : ℕ) (s j s₁ j₁ out done : List ℕ) (r : Ran) : Type 0 where
  pub runs : sound_books p s j ≡ true → Runs p (places_of p s) input ended i s j s₁ j₁ out done r
  pub refuses : sound_books p s j ≡ false → Refuses i s j s₁ j₁ out done r
