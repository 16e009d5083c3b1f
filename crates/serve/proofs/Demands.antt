-- THE THREE DEMANDS, for any bytes: read this file first. Each theorem starts from what an entry promises and ends in bytes: `Answers` is promised of one
-- record, `Many` of a stream at hand, `Served` of a file, `Freshened` of a fresh store; `Came` is an input that comes in any pieces, through any
-- buffers. `before` and `after` are the bytes of the lent store and of its journal, `full` is document 01's store. docs/RULES.md lists the definitions to
-- believe. Assumes nothing.
use Rattle.std.proofs.Common.{◌≡◌, ℕ, ◌+◌, ◌<◌, ◌≤◌, Bool, true, false, cond, not, ◌&&◌, ◌||◌, List, [], ◌∷◌, ◌++◌, map, length, take, replicate, sym, refl, ap, ◌∙◌, subst, true≢false, append-nil, arith}
use mathlib.Core.Option.{Option}
use Rattle.values.specs.Basic.{maybe}
use Rattle.values.specs.Bytes.{Bytes}
use Rattle.values.specs.Value.{Value, normalised}
use Rattle.forms.specs.Read.{Read, got, broken}
use Rattle.rules.specs.Request.{Answer}
use Rattle.rules.specs.Refusal.{StoreUnsound, JournalFull, InsideBatch, BatchOutOfTurn}
use Rattle.rules.specs.Profile.{full}
use Rattle.rules.specs.State.{Name, empty}
use Rattle.rules.specs.Journal.{Books, is_open, lacks, batch_of, with_notes}
use Rattle.rules.specs.Journal as Journal
use Rattle.rules.specs.Layout.{image, parse, places_of}
use Rattle.rules.specs.Pages.{journal_most, journal_length, journal_image}
use Rattle.rules.specs.Request.{Pair, Request, Insert, Update, Open, Keep, Back, entered_pair, Reply, said, no}
use Rattle.rules.specs.Step.{Change, Outcome, apply_all, note_all, changed, is_accepted, pair, step, after}
use Rattle.rules.specs.Refused.{one_of, stay_numbers, in_steps}
use Rattle.rules.specs.Stops.{outcome_at, InsertStops, UpdateStops}
use Rattle.rules.specs.Sound.{right_length, every}
use Rattle.rules.specs.Readable.{readable}
use Rattle.rules.specs.Frame.{Untouched}
use Rattle.rules.specs.Demand.{Demand3}
use Rattle.journal.specs.Books.{Settled, BytesOf}
use Rattle.sound.specs.Fresh.{Freshened}
use Rattle.operations.specs.Told.{outcome_of}
use Rattle.requests.specs.declared.entry.Halt.TheVariants.{Full, Waiting, Stopped, Unsound}
use Rattle.requests.specs.declared.entry.Ran.{Ran}
use Rattle.requests.specs.Lines.{row_most}
use Rattle.requests.specs.Demanded.{lines_for, requests_in}
use Rattle.requests.specs.Stream.{whole_of, records_in, text_of, books_after, Many}
use Rattle.serve.specs.declared.flow.Flow.{Flow}
use Rattle.serve.specs.declared.flow.Turn.{Turn}
use Rattle.serve.specs.declared.End.TheVariants.{Whole}
use Rattle.serve.specs.declared.Report.{Report}
use Rattle.serve.specs.Buffers.{Buffers, lent, books_in, bytes_for, places_in, sound_in, BookedIn}
use Rattle.serve.specs.Flow.{started, Turned}
use Rattle.serve.specs.Course.{Standing, start, standing, record_most, left, text_left, Came, Course, Served, mended}
use Rattle.serve.specs.Demanded.{Safe, Answers, Calls, Doing, Doings, Spares}
use Rattle.rules.proofs.Afterwards.{unchanged, refused-whole, insert-stops, update-stops, update-kept}
use Rattle.rules.specs.Batch.{goes_on, shut, of_rows, of_schema, misplaced, notes}
use Rattle.rules.proofs.Demand.{fresh-right}
use Rattle.rules.proofs.Frame.{untouched}
use Rattle.rules.proofs.Paged.{books-sound}
use Rattle.rules.proofs.Tests.{and_right}
use Rattle.sound.proofs.Lengths.{right_is}
use Rattle.rules.proofs.Widths.{full-known, full-indexed}
use Rattle.journal.proofs.Booking.{right_of, booked-sound, sound-booked}
use Rattle.requests.proofs.Lending.{full-paging}
use Rattle.requests.proofs.Entries.{lines-for, unsound-refused, sound-answered}
use Rattle.requests.proofs.Running.{books-more}
use Rattle.requests.proofs.Validity.{whole-readable, records-readable, lent-booked, lent-are}
use Rattle.requests.proofs.Batching.{requests-append, every_front, after-places, back-books, kept-bytes, booked-demand, sound-long}
use Rattle.serve.proofs.Pieces.{no-records}
use Rattle.serve.proofs.Coming.{bytes-are, booked-is, came-then, then-count, came-last, all-counted, all-text, all-bytes}
use Rattle.serve.proofs.Doing.{came-doings}
use Rattle.serve.proofs.Resting.{answering-start, rested-waiting, rested-stopped}
use Rattle.serve.proofs.Serving.{both-same, booked-places}
use Rattle.serve.proofs.Log.{came-mended}
use Rattle.serve.proofs.Answered.{answered-again}
use Rattle.serve.proofs.Replayed.{replayed}
use Rattle.rules.proofs.Backed.{place-had}
use Rattle.rules.proofs.Outside.{step-outside}
use Rattle.rules.proofs.Noted.{full-needs, full-where, noted-so-far}
use Rattle.rules.proofs.Refusals.{inside-refused, only-inside, only-misplaced, misplaced-refused}

-- ---- what is promised of one record

refused-38 : (w : Read Request) (before after : Buffers) (a : Answer) → Answers w before after a → sound_in full before ≡ false
    → (said a ≡ no StoreUnsound 0) × (after ≡ before)
refused-38 w before after a l h =
    let r = unsound-refused w before.store before.journal after.store after.journal a l h in
    (r.0, both-same r.1.0 r.1.1)

answered : (w : Read Request) (before after : Buffers) (a : Answer) → Answers w before after a → sound_in full before ≡ true
    → let R = places_in full before in
    Settled full R (outcome_of full R (books_in full R before) w) before.store before.journal after.store after.journal a
answered w before after a l h = sound-answered w before.store before.journal after.store after.journal a l h

module _ (rec : List ℕ) (before after : Buffers) (a : Answer) (h : Bytes rec) (l : Answers (whole_of full rec) before after a) (e : sound_in full before ≡ true) where
  answered-booked : BookedIn full (places_in full before) after
  answered-booked =
      lent-booked full (whole_of full rec) before.store before.journal after.store after.journal a l full-paging full-indexed (whole-readable full rec h) e

  answered-are : let R = places_in full before in
      books_in full R after ≡ changed (outcome_of full R (books_in full R before) (whole_of full rec)).changes (books_in full R before)
  answered-are =
      lent-are full (whole_of full rec) before.store before.journal after.store after.journal a l full-paging full-indexed (whole-readable full rec h) e

-- ==== DEMAND 1: any request bytes, any lent store and journal: both stay sound or both stay as they were, and each refusal has a stated effect on their
-- bytes

-- one record
pub demand-1-one : (rec : List ℕ) (before after : Buffers) (a : Answer) → Bytes rec → Answers (whole_of full rec) before after a
    → Safe before after × (sound_in full before ≡ false → said a ≡ no StoreUnsound 0)
demand-1-one rec before after a h l =
    (record { stays = stays-sound; same = λ e. (refused-38 (whole_of full rec) before after a l e).1 }, λ e. (refused-38 (whole_of full rec) before after a l e).0)
  where
    stays-sound : sound_in full before ≡ true → sound_in full after ≡ true
    stays-sound e = sound-booked (answered-booked rec before after a h l e)

-- any number of calls for one record
pub demand-1-calls : (recs : List (List ℕ)) (before after : Buffers) → Calls recs before after → Safe before after
unfolding Calls
demand-1-calls [] before after c = record { stays = λ h. ap (sound_in full) c ∙ h; same = λ h. c }
demand-1-calls (rec ∷ recs) before after c =
    let x = (demand-1-one rec before c.0 c.1 c.2 c.3).0 in
    let y = demand-1-calls recs c.0 after c.4 in
    record { stays = λ h. y.stays (x.stays h); same = λ h. y.same (ap (sound_in full) (x.same h) ∙ h) ∙ x.same h }

-- the records at hand
pub demand-1-many : (input : List ℕ) (before after : Buffers) (out done : List ℕ) (ended : Bool) (i : ℕ) (r : Ran)
    → Many full input ended i before.store before.journal after.store after.journal out done r → Safe before after
demand-1-many input before after out done ended i r m =
    record { stays = λ e. sound-booked (m.runs e).kept; same = λ e. both-same (m.refuses e).bytes.0 (m.refuses e).bytes.1 }

-- a file
pub demand-1-file : (before after : Buffers) (last : Bool) (r : Report) → Served full before after last r → Safe before after
demand-1-file before after last r s = record { stays = s.sound; same = λ e. (s.unsound e).0 }

-- ---- the effect of each number on the bytes

module _ (before after : Buffers) (a : Answer) where
  abbrev places : ℕ
  places = places_in full before

  abbrev stands : Books
  stands = books_in full places before

  -- a refusal that yields no change
  none-changed : (w : Read Request) → Answers w before after a → (sound_in full before ≡ true → (outcome_of full places stands w).changes ≡ []) → after ≡ before
  unfolding apply_all note_all
  none-changed w l h = go (sound_in full before) refl
    where
      go : (b : Bool) → sound_in full before ≡ b → after ≡ before
      go true e =
          bytes-are (answered w before after a l e).bytes
          ∙ ap (λ (cs : List Change). bytes_for full places (changed cs stands)) (h e)
          ∙ sym (booked-is (booked-sound full-paging full-indexed before.store before.journal e))
      go false e = (refused-38 w before after a l e).1

  no-changes : (w : Read Request) → is_accepted (outcome_of full places stands w).reply ≡ false → one_of stay_numbers (outcome_of full places stands w).reply.kind ≡ false
      → (outcome_of full places stands w).changes ≡ []
  unfolding outcome_of
  no-changes (got q e) = unchanged full places stands q
  no-changes (broken x) = λ h k. refl

  -- every number but 26 to 34 and 43 leaves every byte as it was, 38 and 1 too
  pub refused-unchanged : (w : Read Request) → Answers w before after a → is_accepted (said a) ≡ false → one_of stay_numbers (said a).kind ≡ false → after ≡ before
  refused-unchanged w l f g =
      none-changed w l
      (λ e.
      let s = (answered w before after a l e).answer in
      no-changes w (sym (ap is_accepted s) ∙ f) (sym (ap (λ (r : Reply). one_of stay_numbers r.kind) s) ∙ g))

  -- those too, where the request does not go row by row or pair by pair: a delete refused with 32
  pub refused-whole-unchanged : (q : Request) (e : ℕ) → Answers (got q e) before after a → in_steps q ≡ false → is_accepted (said a) ≡ false → after ≡ before
  unfolding outcome_of
  refused-whole-unchanged q e l h f =
      none-changed (got q e) l (λ k. refused-whole full places stands q h (sym (ap is_accepted (answered (got q e) before after a l k).answer) ∙ f))

  -- an insert that stops at a row: the rows before it stay, and nothing else changed
  pub insert-stays : (n : Name) (m : Option (List ℕ)) (rows : List (List Value)) (e : ℕ) → Answers (got (Insert n m rows) e) before after a → sound_in full before ≡ true
      → is_accepted (said a) ≡ false → one_of stay_numbers (said a).kind ≡ true
      → (h : InsertStops full places stands n m (map (map normalised) rows) (step full places stands (Insert n m rows))) × (after ≡ bytes_for full places (changed h.turn.earlier stands))
  unfolding outcome_of
  insert-stays n m rows e l k f g =
      let r = answered (got (Insert n m rows) e) before after a l k in
      let h = insert-stops full places stands n m rows (sym (ap is_accepted r.answer) ∙ f) (sym (ap (λ (x : Reply). one_of stay_numbers x.kind) r.answer) ∙ g) in
      (h, bytes-are r.bytes ∙ ap (λ (o : Outcome). bytes_for full places (changed o.changes stands)) h.is)

  -- an update that stops at a pair: the pairs before it stay and, where GONE is 0, nothing else changed; GONE 1: the pair's old row went too
  pub update-stays : (n : Name) (qs : List Pair) (e : ℕ) → Answers (got (Update n qs) e) before after a → sound_in full before ≡ true
      → is_accepted (said a) ≡ false → one_of stay_numbers (said a).kind ≡ true
      → (h : UpdateStops full places stands n (map entered_pair qs) (step full places stands (Update n qs)))
      × (after ≡ bytes_for full places (changed (h.turn.earlier ++ (outcome_at (pair full places h.table) h.turn).changes) stands))
      × ((said a).gone ≡ false → after ≡ bytes_for full places (changed h.turn.earlier stands))
  unfolding outcome_of
  update-stays n qs e l k f g =
      let r = answered (got (Update n qs) e) before after a l k in
      let h = update-stops full places stands n qs (sym (ap is_accepted r.answer) ∙ f) (sym (ap (λ (x : Reply). one_of stay_numbers x.kind) r.answer) ∙ g) in (
        h,
        bytes-are r.bytes ∙ ap (λ (o : Outcome). bytes_for full places (changed o.changes stands)) h.is,
        λ z.
            bytes-are r.bytes
            ∙ ap (λ (cs : List Change). bytes_for full places (changed cs stands))
            (update-kept full places stands n (map entered_pair qs) (step full places stands (Update n qs)) h (sym (ap (λ (x : Reply). x.gone) r.answer) ∙ z)),
      )

-- ---- it ends: each turn writes something, or waits with room for more to be read, or is the last. So nothing but the input decides how many there are

pub each_turn : (R : ℕ) (f : Flow) (before after : Buffers) (input kept out done : List ℕ) (t : Turn) → BookedIn full R before → f.have ≤ length input → row_most ≤ length out
    → length kept ≡ length input → length done ≡ length out → Turned full R f before after input kept out done t
    → (t.ran.halt ≡ Full → 1 ≤ t.ran.written)
    × (t.ran.halt ≡ Waiting → (f.ended ≡ false) × (t.flow.have < record_most))
    × (t.ran.halt ≡ Stopped → (f.ended ≡ true) × (left full (standing after t.flow kept) [] ≡ []))
    × (t.ran.halt ≡ Unsound → ⊥)
each_turn R f before after input kept out done t b have room same same_out turn =
    let h = answering-start full R f before input out b have room in (
      λ e. omega (arith, turn.ran.full e, room),
      λ e. let w = (rested-waiting full R f before input before input out f h after kept done t turn same same_out 0 e).waits refl in (w.0, w.1),
      λ e. (rested-stopped full R f before input before input out f h after kept done t turn same same_out 0 e).stops refl,
      turn.ran.tested,
    )

-- ==== DEMAND 2: it answers and stores what the rules say, for every input

-- one record over a sound store and journal: the answer, and every byte of both
pub demand-2-one : (w : Read Request) (before after : Buffers) (a : Answer) → Answers w before after a → sound_in full before ≡ true
    → let R = places_in full before in
    (said a ≡ (outcome_of full R (books_in full R before) w).reply)
    × (after ≡ bytes_for full R (changed (outcome_of full R (books_in full R before) w).changes (books_in full R before)))
demand-2-one w before after a l h = let r = answered w before after a l h in (r.answer, bytes-are r.bytes)

-- an input in any pieces, through any buffers, to its end: what was written is the text of the whole input, and store and journal are the rules'
-- books of its records
pub demand-2-whole : (R : ℕ) (before : Buffers) (input : List ℕ) (y : Standing) (wrote : List ℕ) → Came full R true (start before) input y wrote → left full y [] ≡ []
    → (wrote ≡ lines_for R (books_in full R before) (records_in full input true))
    × (y.buffers ≡ bytes_for full R (books_after full R (books_in full R before) (records_in full input true)))
demand-2-whole R before input y wrote c n = (
  sym (all-text full R (start before) y input wrote c n) ∙ lines-for R (books_in full R before) (records_in full input true),
  all-bytes full R (start before) y input wrote c n,
)

-- and at any moment, where writing fails, or the input ends early: a front of that text, and store and journal of the records that were carried out
pub demand-2-front : (R : ℕ) (ended : Bool) (before : Buffers) (input : List ℕ) (y : Standing) (wrote more : List ℕ) (c : Came full R ended (start before) input y wrote)
    → (ended ≡ true → more ≡ [])
    → (rest : List ℕ) × (lines_for R (books_in full R before) (records_in full (input ++ more) true) ≡ wrote ++ rest)
    × (y.buffers ≡ bytes_for full R (books_after full R (books_in full R before) (take c.count (records_in full (input ++ more) true))))
demand-2-front R ended before input y wrote more c e = (
  text_left full R y more,
  sym (lines-for R (books_in full R before) (records_in full (input ++ more) true)) ∙ c.text more e,
  booked-is c.booked ∙ ap (bytes_for full R) (c.books more e),
)

-- reads and turns as the program takes them, in any order and over any two buffers at each turn, to the end of the input
pub demand-2-pieces : (before : Buffers) → sound_in full before ≡ true
    → let R = places_in full before in
    (ds : List Doing) (buffer read wrote : List ℕ) (after : Buffers) (kept : List ℕ) (g : Flow) → Doings R ds started before buffer read wrote g after kept
    → g.ended ≡ true → left full (standing after g kept) [] ≡ []
    → (wrote ≡ lines_for R (books_in full R before) (records_in full read true)) × (after ≡ bytes_for full R (books_after full R (books_in full R before) (records_in full read true)))
demand-2-pieces before h ds buffer read wrote after kept g d e n =
    let R : ℕ = places_in full before in
    demand-2-whole R before read (standing after g kept) wrote
    (subst (λ (b : Bool). Came full R b (start before) read (standing after g kept) wrote) e
    (came-doings R ds started g before buffer read wrote after kept (booked-sound full-paging full-indexed before.store before.journal h) d))
    n

-- and at any moment before it
pub demand-2-moment : (before : Buffers) → sound_in full before ≡ true
    → let R = places_in full before in
    (ds : List Doing) (buffer read wrote : List ℕ) (after : Buffers) (kept more : List ℕ) (g : Flow) → Doings R ds started before buffer read wrote g after kept → (g.ended ≡ true → more ≡ [])
    → (rest : List ℕ) × (k : ℕ) × (lines_for R (books_in full R before) (records_in full (read ++ more) true) ≡ wrote ++ rest)
    × (after ≡ bytes_for full R (books_after full R (books_in full R before) (take k (records_in full (read ++ more) true))))
demand-2-moment before h ds buffer read wrote after kept more g d e =
    let R : ℕ = places_in full before in
    let c = came-doings R ds started g before buffer read wrote after kept (booked-sound full-paging full-indexed before.store before.journal h) d in
    let f = demand-2-front R g.ended before read (standing after g kept) wrote more c e in
    (f.0, c.count, f.1, f.2)

-- a file that was read to its end
pub demand-2-file : (R : ℕ) (before after : Buffers) (r : Report) (c : Course full R before after true r) → r.end ≡ Whole
    → (c.wrote ≡ lines_for R (books_in full R before) (records_in full c.read true))
    × (after ≡ bytes_for full R (books_after full R (books_in full R before) (records_in full c.read true)))
demand-2-file R before after r c w =
    let d = c.done w refl in
    let t = demand-2-whole R before c.read c.end c.wrote (subst (λ (b : Bool). Came full R b (start before) c.read c.end c.wrote) d.0 c.came) d.1 in
    (t.0, sym c.buffers ∙ t.1)

-- ==== DEMAND 3: from a fresh store, after any sequence of requests, refused ones too

-- beside a fresh store: the zeros of a journal of J places
abbrev pub fresh_with : List ℕ → ℕ → Buffers
fresh_with fresh J = lent fresh (replicate (journal_length full J) 0)

pub fresh-is-sound : (buffer fresh : List ℕ) (a : Answer) → Freshened full buffer fresh a → right_length full buffer ≡ true → (J : ℕ) → 1 ≤ J → J ≤ journal_most
    → sound_in full (fresh_with fresh J) ≡ true
unfolding journal_image maybe
fresh-is-sound buffer fresh a f h J least most =
    let b = right_is full buffer h in
    let R : ℕ = places_of full buffer in
    subst (λ (x : List ℕ). sound_in full (fresh_with x J) ≡ true) (sym (f.bytes ∙ ap (λ (x : Bool). cond x (image full R empty) buffer) h))
    (books-sound full full-known R (Journal.fresh J) (fresh-right full R J) most full-indexed b.most b.least least)

-- byte for byte: the index area is the one rebuilt from schemas and rows, no two places share a defined value of a unique column, every reference that is
-- not NULL names a stored row. Of any sound store, inside a batch and outside
pub demand-3 : (R : ℕ) (x : Buffers) → BookedIn full R x → Demand3 full R x.store
demand-3 R x b = booked-demand R b

demand-sound : (x : Buffers) → sound_in full x ≡ true → Demand3 full (places_in full x) x.store
demand-sound x h = demand-3 (places_in full x) x (booked-sound full-paging full-indexed x.store x.journal h)

module _ (buffer fresh : List ℕ) (a : Answer) (f : Freshened full buffer fresh a) (right : right_length full buffer ≡ true) (J : ℕ) (least : 1 ≤ J) (most : J ≤ journal_most) where
  -- so after any number of calls for one record,
  pub demand-3-calls : (b : Buffers) (recs : List (List ℕ)) → Calls recs (fresh_with fresh J) b → Demand3 full (places_in full b) b.store
  demand-3-calls b recs c = demand-sound b ((demand-1-calls recs (fresh_with fresh J) b c).stays (fresh-is-sound buffer fresh a f right J least most))

  -- after any part of an input in pieces, at every moment,
  pub demand-3-pieces : (R : ℕ) (ended : Bool) (input : List ℕ) (y : Standing) (wrote : List ℕ) → Came full R ended (start (fresh_with fresh J)) input y wrote
      → Demand3 full R y.buffers.store
  demand-3-pieces R ended input y wrote c = demand-3 R y.buffers c.booked

  -- and after a file
  pub demand-3-file : (after : Buffers) (last : Bool) (r : Report) → Served full (fresh_with fresh J) after last r → Demand3 full (places_in full after) after.store
  demand-3-file after last r s = demand-sound after (s.sound (fresh-is-sound buffer fresh a f right J least most))

-- what belongs to tables that a record does not name is as it was, save on a taking back: of every record of a stream in its turn (`books_after` goes on with
-- these books),
pub demand-3-others : (R : ℕ) (b : Books) (w : Read Request) (n : Name) → Spares n w → Untouched n b.store (changed (outcome_of full R b w).changes b).store
unfolding outcome_of apply_all after
demand-3-others R b (got q e) n h = untouched full R b q n h.0 h.1
demand-3-others R b (broken x) n h = record { schema = refl; rows = refl; entries = refl }

-- and of one record, as the bytes are read
pub demand-3-others-one : (rec : List ℕ) (before after : Buffers) (a : Answer) (n : Name) → Bytes rec → Answers (whole_of full rec) before after a → sound_in full before ≡ true
    → Spares n (whole_of full rec)
    → Untouched n (parse full (places_in full before) before.store) (parse full (places_in full before) after.store)
demand-3-others-one rec before after a n h l e sp =
    let R : ℕ = places_in full before in
    let b : Books = books_in full R before in
    subst (λ (x : Books). Untouched n b.store x.store) (sym (answered-are rec before after a h l e)) (demand-3-others R b (whole_of full rec) n sp)

-- ==== A BATCH, over an input in any pieces: at every moment, inside a batch too, both are sound (and so demand 3 holds of the store)

pub always-sound : (R : ℕ) (ended : Bool) (before : Buffers) (input : List ℕ) (y : Standing) (wrote : List ℕ) → Came full R ended (start before) input y wrote
    → sound_in full y.buffers ≡ true
always-sound R ended before input y wrote c = sound-booked c.booked

module _ (before : Buffers) (h : sound_in full before ≡ true) (input : List ℕ) (y : Standing) (wrote : List ℕ)
    (c : Came full (places_in full before) true (start before) input y wrote) (none : left full y [] ≡ []) where
  abbrev places₀ : ℕ
  places₀ = places_in full before

  abbrev books₀ : Books
  books₀ = books_in full places₀ before

  first-booked : BookedIn full places₀ before
  first-booked = booked-sound full-paging full-indexed before.store before.journal h

  -- of an input that opens a batch, goes on with whatever but keep and take back, broken and refused records too, and takes back: every byte as it was
  pub batch-back : Bytes input → is_open books₀.journal ≡ false → (n m : ℕ) (ws : List (Read Request))
      → records_in full input true ≡ got Open n ∷ (ws ++ (got Back m ∷ [])) → every goes_on (requests_in ws) ≡ true
      → y.buffers ≡ before
  unfolding requests_in every
  batch-back k o n m ws e g =
      let f : every (readable full) (requests_in ws ++ requests_in (got Back m ∷ [])) ≡ true =
      subst (λ (qs : List Request). every (readable full) qs ≡ true) (requests-append ws (got Back m ∷ []))
      (and_right (readable full Open) _ (subst (λ (us : List (Read Request)). every (readable full) (requests_in us) ≡ true) e (records-readable full input true k)))
      in
      (demand-2-whole places₀ before input y wrote c none).1
      ∙ ap (λ (us : List (Read Request)). bytes_for full places₀ (books_after full places₀ books₀ us)) e
      ∙ ap (bytes_for full places₀) (back-books places₀ books₀ (right_of first-booked) o n m ws (every_front (readable full) (requests_in ws) _ f) g)
      ∙ sym (booked-is first-booked)

  -- of one that ends with keep: the store as the records before it left it, and the journal zeros
  pub batch-kept : (n : ℕ) (ws : List (Read Request)) → records_in full input true ≡ ws ++ (got Keep n ∷ [])
      → y.buffers ≡ lent (image full places₀ (books_after full places₀ books₀ ws).store) (replicate (length before.journal) 0)
  unfolding outcome_of after
  batch-kept n ws e =
      let last : Books = books_after full places₀ books₀ ws in
      let z : y.buffers ≡ bytes_for full places₀ (after full places₀ last Keep) =
      (demand-2-whole places₀ before input y wrote c none).1
      ∙ ap (λ (us : List (Read Request)). bytes_for full places₀ (books_after full places₀ books₀ us)) e
      ∙ ap (bytes_for full places₀) (books-more full places₀ books₀ ws (got Keep n))
      in
      let k = kept-bytes places₀ last (record { store = ap (λ (x : Buffers). x.store) z; journal = ap (λ (x : Buffers). x.journal) z }) in
      both-same k.0
      (k.1
      ∙ ap (λ (l : ℕ). replicate (journal_length full l) 0) (after-places places₀ books₀ ws)
      ∙ ap (λ (l : ℕ). replicate l 0) (sound-long before.store before.journal h))

-- ==== INSIDE A BATCH, of one record that says q

module _ (q : Request) (e : ℕ) (before now : Buffers) (a : Answer) (l : Answers (got q e) before now a) (h : sound_in full before ≡ true) where
  abbrev here : ℕ
  here = places_in full before

  abbrev held : Books
  held = books_in full here before

  -- what it changes, and what it would change were no batch open
  abbrev inside : Outcome
  inside = step full here held q

  abbrev outside : Outcome
  outside = step full here (shut held) q

  told : said a ≡ inside.reply
  unfolding outcome_of
  told = (answered (got q e) before now a l h).answer

  held-now : BytesOf full here (changed inside.changes held) now.store now.journal
  unfolding outcome_of
  held-now = (answered (got q e) before now a l h).bytes

  not-overfull : lacks held.journal 0 ≡ false
  not-overfull =
      let r = right_of (booked-sound full-paging full-indexed before.store before.journal h) in
      place-had held.journal 0 (λ es f. omega (arith, (r.backed es f).few))

  -- where the places that are left suffice for what it changes outside, it is answered as outside and leaves the store so
  pub inside-as-outside : of_rows q ≡ true → lacks held.journal (length outside.changes) ≡ false
      → (said a ≡ outside.reply) × (now.store ≡ image full here (apply_all outside.changes held.store))
  inside-as-outside r f =
      let o = step-outside full here held q r f in
      (told ∙ ap (λ (x : Outcome). x.reply) o, held-now.store ∙ ap (λ (x : Outcome). image full here (apply_all x.changes held.store)) o)

  -- and 43 exactly where they do not
  pub inside-full : of_rows q ≡ true → lacks held.journal (length outside.changes) ≡ true → (said a).kind ≡ JournalFull
  inside-full r f = ap (λ (x : Reply). x.kind) told ∙ full-where full here held not-overfull q r f

  pub only-full : (said a).kind ≡ JournalFull → lacks held.journal (length outside.changes) ≡ true
  only-full f = full-needs full here held q (sym (ap (λ (x : Reply). x.kind) told) ∙ f)

  -- 44 exactly of a create or a drop inside a batch
  pub schema-inside : of_schema q ≡ true → is_open held.journal ≡ true → said a ≡ no InsideBatch 0
  schema-inside r o = told ∙ ap (λ (x : Outcome). x.reply) (inside-refused full here held q r o)

  pub only-schema : (said a).kind ≡ InsideBatch → (of_schema q && is_open held.journal) ≡ true
  only-schema f = only-inside full here held q (sym (ap (λ (x : Reply). x.kind) told) ∙ f)

  -- 45 exactly of an opening inside a batch and of an ending outside
  pub out-of-turn : misplaced held.journal q ≡ true → said a ≡ no BatchOutOfTurn 0
  out-of-turn m = told ∙ ap (λ (x : Outcome). x.reply) (misplaced-refused full here held q m)

  pub only-out-of-turn : (said a).kind ≡ BatchOutOfTurn → misplaced held.journal q ≡ true
  only-out-of-turn f = only-misplaced full here held q (sym (ap (λ (x : Reply). x.kind) told) ∙ f)

  -- after any refusal, and after any request of rows: the places that were in use, and one for each row changed so far
  pub places-so-far : (of_rows q || not (is_accepted (said a))) ≡ true
      → (now.journal ≡ journal_image full (batch_of held.journal.places (with_notes held.journal (notes inside.changes))))
      × (length (notes inside.changes) ≡ length inside.changes)
  unfolding after
  places-so-far r =
      let n = noted-so-far full here held q (subst (λ (x : Reply). (of_rows q || not (is_accepted x)) ≡ true) told r) in
      (held-now.journal ∙ ap (journal_image full) n.0, n.1)

-- ==== THE KIOSK'S LOG: it is replayed over a fresh store and journal (`c`, a run that more may follow), its torn bytes are cut off, and as many as are
-- missing appended, whatever they are; then new input is appended to it and run over what the replay left (`d`)

-- a store keeps its number of row places from one run to the next
pub places-stay : (before after : Buffers) (last : Bool) (r : Report) → Served full before after last r → sound_in full before ≡ true
    → places_in full after ≡ places_in full before
places-stay before after last r s h =
    let c = s.ran h in
    ap (places_in full) (sym c.buffers) ∙ booked-places full (places_in full before) c.end.buffers c.came.booked

still_open : (R : ℕ) (before after : Buffers) (r : Report) (c : Course full R before after false r)
    → Came full R false (start before) c.read c.end c.wrote
still_open R before after r c = subst (λ (b : Bool). Came full R b (start before) c.read c.end c.wrote) (c.goes_on refl) c.came

module _ (R : ℕ) (fresh now : Buffers) (r : Report) (c : Course full R fresh now false r) (fill : List ℕ)
    (filled : length fill ≡ r.missing) where
  abbrev first : Books
  first = books_in full R fresh

  -- the log as it is run on, and the lines of its records
  abbrev kept : List ℕ
  kept = mended c.read r.torn fill

  abbrev earlier : List ℕ
  earlier = lines_for R first (records_in full kept true)

  -- what the replay carried out is the kept log, all of it
  log-mended : Came full R false (start fresh) kept (start now) earlier
  log-mended =
      subst (λ (l : List ℕ). Came full R false (start fresh) kept (start now) l) (lines-for R first (records_in full kept true))
      (subst (λ (s : Buffers). Came full R false (start fresh) kept (start s) (text_of full R first (records_in full kept true) 0)) c.buffers
      (subst (λ (n : ℕ). Came full R false (start fresh) (mended c.read n fill) (start c.end.buffers)
      (text_of full R first (records_in full (mended c.read n fill) true) 0)) (sym c.torn)
      (came-mended full R fresh c.read c.end c.wrote (still_open R fresh now r c) fill (filled ∙ c.missing) c.passing)))

  -- so the replay leaves store and journal of the kept log's records
  pub log-kept : now ≡ bytes_for full R (books_after full R first (records_in full kept true))
  log-kept =
      (demand-2-whole R fresh kept (start now) earlier (came-last full R (start fresh) (start now) kept earlier log-mended)
      (no-records full true)).1

  -- and the two runs are one run over the kept log and the new input joined, at every moment
  pub log-joined : (ended : Bool) (input : List ℕ) (z : Standing) (wrote : List ℕ) → Came full R ended (start now) input z wrote
      → Came full R ended (start fresh) (kept ++ input) z (earlier ++ wrote)
  log-joined ended input z wrote d =
      came-then full R false ended (start fresh) (start now) z kept input earlier wrote log-mended d (λ e. absurd (true≢false (sym e)))

  -- it has carried out the records of the kept log, and those of the new input that the second run has
  abbrev reached : ℕ → ℕ
  reached n = length (records_in full kept true) + n

  joined-count : (ended : Bool) (input : List ℕ) (z : Standing) (wrote : List ℕ) (d : Came full R ended (start now) input z wrote)
      → (log-joined ended input z wrote d).count ≡ reached d.count
  unfolding log-joined
  joined-count ended input z wrote d =
      then-count full R false ended (start fresh) (start now) z kept input earlier wrote log-mended d (λ e. absurd (true≢false (sym e)))
      ∙ ap (λ (n : ℕ). n + d.count) (all-counted full R false (start fresh) (start now) kept earlier log-mended (no-records full true))

  -- in bytes: the lines of the second run follow those of the log, and store and journal are those of the records that were carried out
  pub log-front : (ended : Bool) (input : List ℕ) (z : Standing) (wrote more : List ℕ) (d : Came full R ended (start now) input z wrote)
      → (ended ≡ true → more ≡ [])
      → (rest : List ℕ) × (lines_for R first (records_in full ((kept ++ input) ++ more) true) ≡ (earlier ++ wrote) ++ rest)
      × (z.buffers ≡ bytes_for full R (books_after full R first (take (reached d.count) (records_in full ((kept ++ input) ++ more) true))))
  log-front ended input z wrote more d e =
      let t = demand-2-front R ended fresh (kept ++ input) z (earlier ++ wrote) more (log-joined ended input z wrote d) e in
      let ws : List (Read Request) = records_in full ((kept ++ input) ++ more) true in
      (t.0, t.1, t.2 ∙ ap (λ (n : ℕ). bytes_for full R (books_after full R first (take n ws))) (joined-count ended input z wrote d))

  -- after a power cut: whatever else was appended, the next replay carries out each record that was answered, in the same order
  pub log-answered : (input : List ℕ) (z : Standing) (wrote : List ℕ) (d : Came full R false (start now) input z wrote)
      → (rest : List ℕ) (again : Buffers) (x : Report) (e : Course full R fresh again false x) → e.read ≡ (kept ++ input) ++ rest → x.end ≡ Whole
      → let ws = records_in full ((kept ++ input) ++ rest) true in
      (m : ℕ) × (reached d.count ≤ m) × (z.buffers ≡ bytes_for full R (books_after full R first (take (reached d.count) ws)))
      × (again ≡ bytes_for full R (books_after full R first (take m ws)))
  log-answered input z wrote d rest again x e same w =
      let all : List ℕ = (kept ++ input) ++ rest in
      let a = subst (λ (l : List ℕ). Came full R false (start fresh) l e.end e.wrote) same (still_open R fresh again x e) in
      let never : (l : List ℕ) → false ≡ true → l ≡ [] = λ l f. absurd (true≢false (sym f)) in (
        a.count,
        subst (λ (n : ℕ). n ≤ a.count) (joined-count false input z wrote d)
            (answered-again full R fresh (kept ++ input) rest z (earlier ++ wrote) (log-joined false input z wrote d) e.end e.wrote a
            e.passing (e.rests w refl)),
        (log-front false input z wrote rest d (never rest)).2,
        sym e.buffers
            ∙ (demand-2-front R false fresh all e.end e.wrote [] a (never [])).2
            ∙ ap (λ (l : List ℕ). bytes_for full R (books_after full R first (take a.count (records_in full l true)))) (append-nil all),
      )

  -- to the end of the new input
  module _ (after : Buffers) (q : Report) (d : Course full R now after true q) (whole : q.end ≡ Whole) where
    joined-whole : Came full R true (start fresh) (kept ++ d.read) d.end (earlier ++ d.wrote)
    joined-whole =
        log-joined true d.read d.end d.wrote
        (subst (λ (b : Bool). Came full R b (start now) d.read d.end d.wrote) (d.done whole refl).0 d.came)

    pub log-whole : (earlier ++ d.wrote ≡ lines_for R first (records_in full (kept ++ d.read) true))
        × (after ≡ bytes_for full R (books_after full R first (records_in full (kept ++ d.read) true)))
    log-whole =
        let t = demand-2-whole R fresh (kept ++ d.read) d.end (earlier ++ d.wrote) joined-whole (d.done whole refl).1 in
        (t.0, sym d.buffers ∙ t.1)

    -- the next replay, of the log with what was appended, leaves store and journal that answered, a batch open as it was: a record cut off and refused is torn there
    pub log-again : (again : Buffers) (x : Report) (e : Course full R fresh again false x) → e.read ≡ kept ++ d.read → x.end ≡ Whole
        → again ≡ after
    log-again again x e same w =
        sym e.buffers
        ∙ replayed full R fresh e.read e.end e.wrote (still_open R fresh again x e) e.passing (e.rests w refl) d.end
        (earlier ++ d.wrote)
        (subst (λ (l : List ℕ). Came full R true (start fresh) l d.end (earlier ++ d.wrote)) (sym same) joined-whole)
        (d.done whole refl).1
        ∙ d.buffers
