-- A request's lines written one after the other: what is left of them from a place on, and as many at a time as fit. Assumes nothing.
use Rattle.std.specs.declared.option.Option.{Option}
use Rattle.std.specs.declared.option.Option.TheVariants.{None, Some}
use Rattle.std.specs.Prelude.{ℕ, suc, ◌+◌, ◌-◌, ◌≤◌, ◌<◌, min, ◌≡◌, false, cond, List, [], ◌∷◌, ◌++◌, map, leb, length, take, drop}
use Rattle.values.specs.Basic.{keep}
use Rattle.values.specs.Value.{Value, text, before}
use Rattle.forms.specs.Read.{Read}
use Rattle.forms.specs.Print.{Front}
use Rattle.values.specs.Meaning.{held, ProperCell}
use Rattle.rules.specs.declared.profile.Profile.{Profile}
use Rattle.rules.specs.State.{Table, Row, State, rows_of}
use Rattle.rules.specs.Journal.{Journal, Books}
use Rattle.rules.specs.Request.{Answer, Request, Create, Drop, Insert, Update, Delete, Get, Lookup, Scan, Names, Open, Keep, Back, said}
use Rattle.rules.specs.Step.{Outcome, found, lookup, is_accepted}
use Rattle.walks.specs.Looked.{keys_with}
use Rattle.operations.specs.Told.{outcome_of}
use Rattle.requests.specs.declared.lines.Step.{Step}
use Rattle.requests.specs.declared.lines.Put.{Put}
use Rattle.requests.specs.Lines.{row_line, row_lines, row_most, answer_line}

-- ---- the lines that are left: of get from a key on, of scan and list from a place in the store on, of lookup behind a key

abbrev pub cells_in : Row → List Value
cells_in r = r.cells

abbrev pub name_line : Table → List Value
name_line t = text t.name ∷ []

abbrev pub key_line : Value → List Value
key_line k = k ∷ []

unfoldable pub lines_from : State → Request → ℕ → Value → List (List Value)
lines_from s (Get n ks) i k = found s.rows n (drop i ks)
lines_from s (Lookup n c vs) i k =
    cond (is_accepted (lookup s n c vs).reply) (map key_line (keep (before k) (keys_with s.rows n c vs))) []
lines_from s (Scan n) i k = map cells_in (rows_of (drop i s.rows) n)
lines_from s Names i k = map name_line (drop i s.tables)
lines_from s (Create t) i k = []
lines_from s (Drop n b) i k = []
lines_from s (Insert n m rows) i k = []
lines_from s (Update n qs) i k = []
lines_from s (Delete n ks) i k = []
lines_from s Open i k = []
lines_from s Keep i k = []
lines_from s Back i k = []

-- the first of the lines that are left, written at the front of a buffer, and what is left behind it
pub record NextLine (s : State) (q : Request) (i : ℕ) (k : Value) (before after : List ℕ) (r : Step) : Type 0 where
  pub values : List Value
  pub first : lines_from s q i k ≡ values ∷ lines_from s q r.place.at (held r.place.key)
  pub front : Front (row_line values) before after r.count
  pub short : r.count ≤ row_most
  pub proper : ProperCell r.place.key

-- the next line of a request, or none because none is left: then nothing is written
abbrev pub Lined : State → Request → ℕ → Value → List ℕ → List ℕ → Option Step → Type 0
Lined s q i k before after None = (lines_from s q i k ≡ []) × (after ≡ before)
Lined s q i k before after (Some r) = NextLine s q i k before after r

-- ---- as many as fit

-- the text of an outcome, `i` of its row lines being written: the row lines that are left, and then the answer
unfoldable pub text_from : Outcome → ℕ → List ℕ
text_from o i = row_lines (drop i o.lines) ++ answer_line o.reply

-- how many of these row lines fit into a room, whole, one after the other
unfoldable pub fitting : List (List Value) → ℕ → ℕ
fitting [] room = 0
fitting (l ∷ ls) room = cond (leb (length (row_line l)) room) (suc (fitting ls (room - length (row_line l)))) 0

-- how many row lines of an outcome are written in all: `i` of them before, and as many more as fit
unfoldable pub lines_to : Outcome → ℕ → ℕ → ℕ
lines_to o i room = min i (length o.lines) + fitting (drop i o.lines) room

-- what was written and what is left are the text; all of it where it fits, else as many whole lines as fit
pub record Wrote (o : Outcome) (i : ℕ) (before after : List ℕ) (r : Put) : Type 0 where
  pub whole : r.done ≡ leb (length (text_from o i)) (length before)
  pub count : r.lines ≡ lines_to o i (length before)
  pub long : length after ≡ length before
  pub fits : r.written ≤ length before
  pub text : text_from o i ≡ take r.written after ++ cond r.done [] (text_from o r.lines)
  pub bytes : after ≡ take r.written after ++ drop r.written before
  pub room : r.done ≡ false → length before - r.written < row_most

-- ---- a request that only reads: its answer, and its lines, whatever the journal beside the store

abbrev pub beside : State → Journal → Books
beside s x = record { store = s; journal = x }

abbrev pub Replies : Profile → ℕ → State → Read Request → Answer → Type 0
Replies p R s q a = (x : Journal) → said a ≡ (outcome_of p R (beside s x) q).reply

abbrev pub Shows : Profile → ℕ → State → Read Request → ℕ → List ℕ → List ℕ → Put → Type 0
Shows p R s q i before after r = (x : Journal) → Wrote (outcome_of p R (beside s x) q) i before after r
