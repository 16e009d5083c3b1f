-- An input that comes in pieces, as the rules see it: what stands between two reads, what was read and written since, and the records that are
-- left. Assumes nothing.
use Rattle.std.specs.Prelude.{◌≡◌, ℕ, ◌+◌, ◌-◌, ◌<◌, ◌≤◌, Bool, true, false, List, [], ◌++◌, length, take, drop, ◌≢◌}
use Rattle.values.specs.Basic.{is_nil}
use Rattle.forms.specs.Read.{Read}
use Rattle.rules.specs.declared.profile.Profile.{Profile}
use Rattle.rules.specs.Request.{Request}
use Rattle.records.specs.Frame.{most_length}
use Rattle.requests.specs.Stream.{records_in, bytes_of, text_of, books_after}
use Rattle.serve.specs.declared.flow.Flow.{Flow}
use Rattle.serve.specs.declared.End.{End}
use Rattle.serve.specs.declared.End.TheVariants.{Whole, Unsound}
use Rattle.std.specs.declared.result.Result.TheVariants.{Err}
use Rattle.std.specs.declared.option.Option.TheVariants.{None, Some}
use Rattle.serve.specs.declared.Rest.{Rest}
use Rattle.serve.specs.declared.Taken.{Taken}
use Rattle.serve.specs.declared.Report.{Report}
use Rattle.serve.specs.Buffers.{Buffers, books_in, places_in, sound_in, BookedIn}
use Rattle.serve.specs.Flow.{hand}

-- the bytes of store and journal, the bytes at hand, how many bytes are passed over before the next record, and how many of its row lines are written
pub record Standing : Type 0 where
  pub buffers : Buffers
  pub hand : List ℕ
  pub skip : ℕ
  pub lines : ℕ

-- before anything was read; and as the code has it
abbrev pub start : Buffers → Standing
start x = record { buffers = x; hand = []; skip = 0; lines = 0 }

abbrev pub standing : Buffers → Flow → List ℕ → Standing
standing x f input = record { buffers = x; hand = hand f input; skip = f.skip; lines = f.lines }

-- the longest record, its two length bytes included
abbrev pub record_most : ℕ
record_most = 2 + most_length

-- the bytes that are ahead where `more` is still to be read; the records that are left in them, and their text
abbrev pub ahead : Standing → List ℕ → List ℕ
ahead x more = drop x.skip (x.hand ++ more)

abbrev pub left : Profile → Standing → List ℕ → List (Read Request)
left p x more = records_in p (ahead x more) true

abbrev pub text_left : Profile → ℕ → Standing → List ℕ → List ℕ
text_left p R x more = text_of p R (books_in p R x.buffers) (left p x more) x.lines

-- from x, `read` was read and `wrote` written, and y stands: `count` records of what was read are carried out; whatever more follows
-- (nothing where the input has ended), they are the first ones, the others are left and stand behind their bytes, and the text is what was
-- written and what is left
pub record Came (p : Profile) (R : ℕ) (ended : Bool) (x : Standing) (read : List ℕ) (y : Standing) (wrote : List ℕ) : Type 0 where
  pub booked : BookedIn p R y.buffers
  pub count : ℕ
  pub held : count ≤ length (records_in p (ahead x read) ended)
  pub few : (more : List ℕ) → (ended ≡ true → more ≡ []) → count ≤ length (left p x (read ++ more))
  pub others : (more : List ℕ) → (ended ≡ true → more ≡ []) → left p y more ≡ drop count (left p x (read ++ more))
  pub place : (more : List ℕ) → (ended ≡ true → more ≡ [])
      → ahead y more ≡ drop (bytes_of count (ahead x (read ++ more)) true) (ahead x (read ++ more))
  pub books : (more : List ℕ) → (ended ≡ true → more ≡ [])
      → books_in p R y.buffers ≡ books_after p R (books_in p R x.buffers) (take count (left p x (read ++ more)))
  pub text : (more : List ℕ) → (ended ≡ true → more ≡ []) → text_left p R x (read ++ more) ≡ wrote ++ text_left p R y more

-- neither done nor refused

abbrev pub Fails : End → Type 0
Fails e = (e ≢ Whole) × (e ≢ Unsound)

-- ---- a piece came in behind the bytes at hand; none: the input has ended

pub record TakenIn (f : Flow) (before after : List ℕ) (r : Taken) : Type 0 where
  pub piece : List ℕ
  pub hand : hand r.flow after ≡ hand f before ++ piece
  pub have : r.flow.have ≤ length after
  pub skip : r.flow.skip ≡ f.skip
  pub lines : r.flow.lines ≡ f.lines
  pub ended : r.flow.ended ≡ is_nil piece
  pub lost : (e : End) → r.kept ≡ Err e → Fails e

-- ---- the records at hand answered, turn by turn

pub record Rested (p : Profile) (R : ℕ) (f : Flow) (before after : Buffers) (input kept : List ℕ) (r : Rest) : Type 0 where
  pub wrote : List ℕ
  pub came : Came p R f.ended (standing before f input) [] (standing after r.flow kept) wrote
  pub ended : r.flow.ended ≡ f.ended
  pub have : r.flow.have ≤ length kept
  pub passing : (r.flow.skip ≢ 0) → hand r.flow kept ≡ []
  pub waits : r.end ≡ None → (f.ended ≡ false) × (r.flow.have < record_most) × (records_in p (hand r.flow kept) false ≡ [])
  pub stops : r.end ≡ Some Whole → (f.ended ≡ true) × (left p (standing after r.flow kept) [] ≡ [])
  pub tested : r.end ≡ Some Unsound → ⊥

-- ---- a run over a sound store and journal: some input was read, some text written; where bytes are missing, none is at hand; where all is done,
-- nothing is left, or where more may follow (the input has not ended then), no whole record

pub record Course (p : Profile) (R : ℕ) (before after : Buffers) (last : Bool) (r : Report) : Type 0 where
  pub read : List ℕ
  pub wrote : List ℕ
  pub ended : Bool
  pub end : Standing
  pub came : Came p R ended (start before) read end wrote
  pub buffers : end.buffers ≡ after
  pub torn : r.torn ≡ length end.hand
  pub missing : r.missing ≡ end.skip
  pub passing : (end.skip ≢ 0) → end.hand ≡ []
  pub done : r.end ≡ Whole → last ≡ true → (ended ≡ true) × (left p end [] ≡ [])
  pub goes_on : last ≡ false → ended ≡ false
  pub rests : r.end ≡ Whole → last ≡ false → records_in p end.hand false ≡ []
  pub tested : r.end ≡ Unsound → ⊥

-- where one is not sound, both stay as they were; else they are the rules' books of the first records of what was read, and stay sound
pub record Served (p : Profile) (before after : Buffers) (last : Bool) (r : Report) : Type 0 where
  pub unsound : sound_in p before ≡ false → (after ≡ before) × (r.end ≡ Unsound)
  pub ran : sound_in p before ≡ true → Course p (places_in p before) before after last r
  pub sound : sound_in p before ≡ true → sound_in p after ≡ true

-- ---- a log as it is run on after a replay: `torn` bytes are cut off at its end, and `fill` is appended

abbrev pub mended : List ℕ → ℕ → List ℕ → List ℕ
mended log torn fill = take (length log - torn) log ++ fill
