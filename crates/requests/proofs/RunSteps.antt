-- How far a run came over the records of an input: where it begins, one record more, and its end. Assumes nothing.
use Prim.Native.Nat.{ℕ, suc, ◌+◌, ◌-◌, ◌≤◌, ◌<◌, min}
use native.Mathlib.Nat.{sub-zero}
use native.Mathlib.Omega.{arith}
use mathlib.Core.Path.{◌≡◌, refl, sym, ap, ◌∙◌, subst}
use mathlib.Core.Bool.{Bool, true, false, cond}
use mathlib.Core.List.{List, [], ◌∷◌, ◌++◌, append-nil, append_assoc}
use lib.Dec.{eqb}
use lib.ListN.{length, take, drop, length-drop, drop_of_length-le}
use lib.Seq.{take_all, drop-drop, length-take-le, drop-length}
use borrow.Author.Tests.{leb-false, ne_eqb}
use borrow.Rule.Slice.PartMut.{put_mid}
use Rattle.values.specs.Bytes.{Bytes}
use Rattle.forms.specs.Read.{Read, got, broken}
use Rattle.forms.specs.Print.{Front}
use Rattle.rules.specs.declared.profile.Profile.{Profile}
use Rattle.rules.specs.Request.{Answer}
use Rattle.rules.specs.Refusal.{RecordBroken}
use Rattle.rules.specs.Journal.{Books}
use Rattle.rules.specs.Request.{Request, said, no}
use Rattle.rules.specs.Readable.{readable}
use Rattle.rules.specs.Step.{Change, Outcome, apply_all, note_all, changed}
use Rattle.rules.specs.Pages.{books_of}
use Rattle.rules.proofs.Backed.{Right}
use Rattle.journal.specs.Books.{Booked, BytesOf}
use Rattle.journal.proofs.Booking.{right_of, booked-bytes, next-are, next-booked}
use Rattle.records.specs.declared.frame.Framed.{Framed}
use Rattle.records.specs.declared.frame.Framed.TheVariants.{Whole, Skip, More, Cut, Done}
use Rattle.requests.specs.declared.entry.Halt.{Halt}
use Rattle.requests.specs.declared.entry.Halt.TheVariants.{Full, Waiting, Stopped, Unsound}
use Rattle.requests.specs.declared.lines.Put.{Put}
use Rattle.records.specs.Record.{request_of}
use Rattle.records.specs.Frame.{framed}
use Rattle.requests.specs.Lines.{row_most, answer_line}
use Rattle.operations.specs.Told.{outcome_of}
use Rattle.requests.specs.Places.{text_from, lines_to, Wrote}
use Rattle.requests.specs.Stream.{in_frame, records_in, in_bytes, bytes_of, text_of, books_after, Answered, books_then, records_left, Runs}
use Rattle.requests.specs.Stream.{halted, further, reach}
use Rattle.mapping.proofs.Read.{read-readable}
use Rattle.requests.proofs.Answering.{Only, broken-answered, broken-outcome}
use Rattle.requests.proofs.Reaching.{further-one, further-none, reach-full, reach-end, reach-on, reach-stays}
use Rattle.requests.proofs.Copied.{front-is, front-told}
use Rattle.requests.proofs.Fronts.{front_length, front-then}
use Rattle.requests.proofs.Running.{Moves, moves, Says, says, bytes_one, bytes-more, records-by, none_left, some_left, take_more}
use Rattle.requests.proofs.Running.{drop_more, books-more, text-more, kept-right, never-got, part_bytes}

-- ---- how far a run came

pub record Running (p : Profile) (R : ℕ) (input : List ℕ) (ended : Bool) (i : ℕ) (s₀ j₀ s j out done : List ℕ)
    (taken count written lines : ℕ) : Type 0 where
  pub booked : Booked p R s j
  pub books : books_of p R s j ≡ books_then p R input ended (books_of p R s₀ j₀) count
  pub kept : (length s ≡ length s₀) × (length j ≡ length j₀)
  pub inside : taken ≤ length input
  pub few : count ≤ taken
  pub rest : records_in p (drop taken input) ended ≡ records_left p input ended count
  pub fits : written ≤ length done
  pub long : length done ≡ length out
  pub front : Front (take written done) out done written
  pub text : text_of p R (books_of p R s₀ j₀) (records_in p input ended) i
      ≡ take written done ++ text_of p R (books_then p R input ended (books_of p R s₀ j₀) count) (records_left p input ended count) lines
  pub next : records_left p input ended count ≡ [] → lines ≡ cond (eqb count 0) i 0
  pub reached : reach p R ended (books_of p R s₀ j₀) (records_in p input ended) i (length out)
      ≡ further count
      (reach p R ended (books_then p R input ended (books_of p R s₀ j₀) count) (records_left p input ended count) lines (length out - written))

-- what is passed of the input
pub record Passed (p : Profile) (input : List ℕ) (ended : Bool) (taken skip count : ℕ) : Type 0 where
  pub few : count ≤ length (records_in p input ended)
  pub passed : taken ≡ min (bytes_of count input ended) (length input)
  pub over : skip ≡ bytes_of count input ended - length input

pub pass-start : (p : Profile) (input : List ℕ) (ended : Bool) → Passed p input ended 0 0 0
unfolding bytes_of
pass-start p input ended = record { few = omega arith; passed = omega arith; over = omega arith }

pub run-start : (p : Profile) (R : ℕ) (input : List ℕ) (ended : Bool) (i : ℕ) (s j out : List ℕ) → Booked p R s j
    → Running p R input ended i s j s j out out 0 0 0 i
unfolding books_after
run-start p R input ended i s j out b =
    record {
      booked = b;
      books = refl;
      kept = (refl, refl);
      inside = omega arith;
      few = omega arith;
      rest = refl;
      fits = omega arith;
      long = refl;
      front = record { count = refl; bytes = refl };
      text = refl;
      next = λ e. refl;
      reached =
          ap (reach p R ended (books_of p R s j) (records_in p input ended) i) (sym (sub-zero (length out)))
          ∙ sym (further-none (reach p R ended (books_of p R s j) (records_in p input ended) i (length out - 0)));
    }

-- a run that went on by a record from where `before` bytes were taken
pub record On (p : Profile) (R : ℕ) (input : List ℕ) (ended : Bool) (i : ℕ) (s₀ j₀ s j out done : List ℕ) (taken skip count written before : ℕ) : Type 0 where
  pub running : Running p R input ended i s₀ j₀ s j out done taken count written 0
  pub passed : Passed p input ended taken skip count
  pub further : before < taken

-- ---- the next record answered: it says q, those behind it begin at `to`; the buffers are s₁ and j₁, the output behind what was written is `last`

pub record Turn (p : Profile) (R : ℕ) (input : List ℕ) (ended : Bool) (s j s₁ j₁ done last : List ℕ) (count written lines to : ℕ)
    (put : Put) : Type 0 where
  pub q : Read Request
  pub fine : (x : Request) (end : ℕ) → q ≡ got x end → readable p x ≡ true
  pub head : records_left p input ended count ≡ q ∷ records_in p (drop to input) ended
  pub answered : Answered p R q lines s j s₁ j₁ (take (length done - written) (drop written done)) last put
  pub kept : (length s₁ ≡ length s) × (length j₁ ≡ length j)

-- ---- from where a run came to

module _ {p : Profile} {R : ℕ} {input : List ℕ} {ended : Bool} {i : ℕ} {s₀ j₀ s j out done : List ℕ} {taken count written lines : ℕ}
    (g : Running p R input ended i s₀ j₀ s j out done taken count written lines) where
  abbrev left : List (Read Request)
  left = records_left p input ended count

  abbrev start : Books
  start = books_of p R s₀ j₀

  abbrev then : Books
  then = books_then p R input ended start count

  abbrev room : ℕ
  room = length out - written

  -- ---- its end

  abbrev Why : Halt → Type 0
  Why Full = room < row_most
  Why Waiting = (ended ≡ false) × (left ≡ [])
  Why Stopped = (ended ≡ true) × (left ≡ [])
  Why Unsound = ⊥

  module _ {skip : ℕ} (t : Passed p input ended taken skip count) where
    abbrev Ends : Halt → Type 0
    Ends h =
        Runs p R input ended i s₀ j₀ s j out done
        (record { halt = h; taken = taken; skip = skip; count = count; written = written; lines = lines })

    ran : (h : Halt) → Why h → reach p R ended then left lines room ≡ halted lines h → Ends h
    ran h w e =
        let z : count + 0 ≡ count = omega arith in
        record {
          reached = sym (g.reached ∙ ap (further count) e ∙ ap (λ (n : ℕ). record { count = n; lines = lines; halt = h }) z);
          few = t.few;
          passed = t.passed;
          over = t.over;
          rest = g.rest;
          bytes = subst (λ (b : Books). BytesOf p R b s j) g.books (booked-bytes g.booked);
          text = g.text;
          next = g.next;
          fits = omega (arith, g.fits, g.long);
          long = g.long;
          front = g.front.bytes;
          kept = g.booked;
          books = g.books;
          full = λ x. subst Why x w;
          waits = λ x. subst Why x w;
          stops = λ x. subst Why x w;
          tested = λ x. subst Why x w;
        }

    pub ran-full : length done - written < row_most → Ends Full
    ran-full l = let r : room < row_most = omega (arith, g.long) in ran Full r (reach-full p R ended then lines room left r)

    module _ (begun : row_most ≤ length done - written) (none : left ≡ []) where
      none-reached : (b : Bool) → ended ≡ b → reach p R ended then left lines room ≡ halted lines (cond b Stopped Waiting)
      none-reached b e =
          ap (λ (qs : List (Read Request)). reach p R ended then qs lines room) none
          ∙ reach-end p R ended then lines room (omega (arith, g.long))
          ∙ ap (λ (x : Bool). halted lines (cond x Stopped Waiting)) e

      pub ran-waiting : ended ≡ false → Ends Waiting
      ran-waiting e = ran Waiting (e, none) (none-reached false e)

      pub ran-stopped : ended ≡ true → Ends Stopped
      ran-stopped e = ran Stopped (e, none) (none-reached true e)

  -- ---- a broken record answered with 1: a is the answer

  abbrev part : List ℕ
  part = take (length done - written) (drop written done)

  part-long : length part ≡ length done - written
  part-long = length-take-le (length done - written) (drop written done) (rw (length-drop written done) (omega arith))

  pub part-room : row_most ≤ length done - written → row_most ≤ length part
  part-room h = omega (arith, part-long)

  module _ (a : Answer) (ea : said a ≡ no RecordBroken 0) {last : List ℕ} {put : Put} (w : Only (said a) part last put)
      (same : length last ≡ length part) where
    broken-turn : {to : ℕ} → left ≡ broken 0 ∷ records_in p (drop to input) ended
        → Turn p R input ended s j s j done last count written lines to put
    broken-turn head =
        record {
          q = broken 0;
          fine = never-got p;
          head = head;
          answered = broken-answered p R s j (broken 0) lines part last put g.booked (broken-outcome p R (books_of p R s j) 0) a ea w same;
          kept = (refl, refl);
        }

  -- ---- the next frame

  passes : (q : Read Request) (qs : List (Read Request)) → left ≡ q ∷ qs → (to skip : ℕ)
      → to ≡ min (bytes_of (count + 1) input ended) (length input)
      → skip ≡ bytes_of (count + 1) input ended - length input
      → Passed p input ended to skip (count + 1)
  passes q qs head to skip a b =
      record { few = omega (arith, length-drop count (records_in p input ended), ap length head); passed = a; over = b }

  input-is : take (length input - taken) (drop taken input) ≡ drop taken input
  input-is = take_all (length input - taken) (drop taken input) (rw (length-drop taken input) (omega (arith, g.inside)))

  module _ {f : Framed} (e : f ≡ framed (take (length input - taken) (drop taken input)) ended) where
    framed_is : f ≡ framed (drop taken input) ended
    framed_is = e ∙ ap (λ (s : List ℕ). framed s ended) input-is

    its-moves : Moves (length input - taken) f
    its-moves =
        subst (Moves (length input - taken)) (sym framed_is)
        (subst (λ (n : ℕ). Moves n (framed (drop taken input) ended)) (length-drop taken input) (moves (drop taken input) ended))

    records-are : (x : Framed) → f ≡ x → left ≡ in_frame p (drop taken input) x (λ k. records_in p (drop k (drop taken input)) ended)
    records-are x h = sym g.rest ∙ records-by p (drop taken input) ended x (sym h ∙ framed_is)

    its-says : Says ended f
    its-says = subst (Says ended) (sym framed_is) (says (drop taken input) ended)

    -- nothing is left, and more may come, or the input has ended
    pub more-none : f ≡ More → (left ≡ []) × (ended ≡ false)
    more-none h = (records-are More h, subst (Says ended) h its-says)

    pub done_none : f ≡ Done → (left ≡ []) × (ended ≡ true)
    done_none h = (records-are Done h, subst (Says ended) h its-says)

    -- bytes are left, so the records before took what was taken
    bytes-then : (skip : ℕ) → Passed p input ended taken skip count → taken < length input → (x : Framed) → f ≡ x
        → bytes_of (count + 1) input ended ≡ taken + in_bytes (drop taken input) x (λ k. 0)
    bytes-then skip t l x h =
        let b : bytes_of count input ended ≡ taken = omega (arith, t.passed, l) in
        let c : count + 1 ≡ suc count = omega arith in
        ap (λ (j : ℕ). bytes_of j input ended) c
        ∙ bytes-more count input ended
        ∙ ap (λ (j : ℕ). j + bytes_of 1 (drop j input) ended) b
        ∙ ap (λ (j : ℕ). taken + j) (bytes_one (drop taken input) ended x (sym h ∙ framed_is))

    -- cut off by the end of the input
    module _ (h : f ≡ Cut) where
      pub cut-moves : 1 ≤ length input - taken
      cut-moves = subst (Moves (length input - taken)) h its-moves

      cut_left : left ≡ broken 0 ∷ records_in p (drop (length input) input) ended
      cut_left =
          records-are Cut h
          ∙ ap (λ (l : List (Read Request)). broken 0 ∷ l) (sym (none_left p ended))
          ∙ ap (λ (s : List ℕ). broken 0 ∷ records_in p s ended) (sym (drop-length input))

      pub cut-turn : (a : Answer) → said a ≡ no RecordBroken 0 → {last : List ℕ} {put : Put} → Only (said a) part last put
          → length last ≡ length part
          → Turn p R input ended s j s j done last count written lines (length input) put
      cut-turn a ea w same = broken-turn a ea w same cut_left

      pub pass-cut : {skip : ℕ} → Passed p input ended taken skip count → Passed p input ended (length input) skip (count + 1)
      pass-cut {skip} t =
          let m = cut-moves in
          let x = bytes-then skip t (omega (arith, m)) Cut h in
          let d = length-drop taken input in
          passes _ _ cut_left (length input) skip (omega (arith, x, d, m)) (omega (arith, x, d, m, t.passed, t.over))

    -- whole
    module _ {n : ℕ} (h : f ≡ Whole n) where
      pub whole-moves : (4 ≤ n) × (n ≤ length input - taken)
      whole-moves = subst (Moves (length input - taken)) h its-moves

      abbrev its : List ℕ
      its = take (taken + n - (taken + 2)) (drop (taken + 2) input)

      whole-left : left ≡ request_of its p ∷ records_in p (drop (taken + n) input) ended
      whole-left =
          let k : n - 2 ≡ taken + n - (taken + 2) = omega arith in
          records-are (Whole n) h
          ∙ ap (λ (s : List ℕ). request_of (take (n - 2) s) p ∷ records_in p (drop n (drop taken input)) ended) (drop-drop 2 taken input)
          ∙ ap (λ (j : ℕ). request_of (take j (drop (taken + 2) input)) p ∷ records_in p (drop n (drop taken input)) ended) k
          ∙ ap (λ (s : List ℕ). request_of its p ∷ records_in p s ended) (drop-drop n taken input)

      pub pass-whole : {skip : ℕ} → Passed p input ended taken skip count → Passed p input ended (taken + n) skip (count + 1)
      pass-whole {skip} t =
          let m = whole-moves in
          let x = bytes-then skip t (omega (arith, m.0, m.1)) (Whole n) h in
          passes _ _ whole-left (taken + n) skip (omega (arith, x, m.0, m.1)) (omega (arith, x, m.0, m.1, t.passed, t.over))

      pub whole-turn : Bytes input → {s₁ j₁ last : List ℕ} {put : Put}
          → Answered p R (request_of its p) lines s j s₁ j₁ part last put → length s₁ ≡ length s → length j₁ ≡ length j
          → Turn p R input ended s j s₁ j₁ done last count written lines (taken + n) put
      whole-turn b w k l =
          let z = part_bytes (taken + n - (taken + 2)) (taken + 2) input b in
          record { q = request_of its p; fine = read-readable its z p; head = whole-left; answered = w; kept = (k, l) }

    -- of bad length
    module _ {n : ℕ} (h : f ≡ Skip n) where
      pub skip-moves : (2 ≤ n) × (2 ≤ length input - taken)
      skip-moves = subst (Moves (length input - taken)) h its-moves

      skip-left : left ≡ broken 0 ∷ records_in p (drop (taken + n) input) ended
      skip-left = records-are (Skip n) h ∙ ap (λ (s : List ℕ). broken 0 ∷ records_in p s ended) (drop-drop n taken input)

      skip-past : length input - taken < n → left ≡ broken 0 ∷ records_in p (drop (length input) input) ended
      skip-past l =
          let k : length input ≤ taken + n = omega arith in
          skip-left ∙ ap (λ (s : List ℕ). broken 0 ∷ records_in p s ended) (drop_of_length-le input k ∙ sym (drop-length input))

      module _ (a : Answer) (ea : said a ≡ no RecordBroken 0) {last : List ℕ} {put : Put} (w : Only (said a) part last put)
          (same : length last ≡ length part) where
        pub skip-turn : Turn p R input ended s j s j done last count written lines (taken + n) put
        skip-turn = broken-turn a ea w same skip-left

        pub past-turn : length input - taken < n → Turn p R input ended s j s j done last count written lines (length input) put
        past-turn l = broken-turn a ea w same (skip-past l)

      module _ {skip : ℕ} (t : Passed p input ended taken skip count) where
        bytes-skip : bytes_of (count + 1) input ended ≡ taken + n
        bytes-skip = let x = bytes-then skip t (omega (arith, skip-moves.1)) (Skip n) h in omega (arith, x)

        pub pass-skip : n ≤ length input - taken → Passed p input ended (taken + n) skip (count + 1)
        pass-skip l =
            let m = skip-moves in
            passes _ _ skip-left (taken + n) skip (omega (arith, bytes-skip, m.1)) (omega (arith, bytes-skip, m.1, t.passed, t.over))

        pub pass-past : length input - taken < n → Passed p input ended (length input) (n - (length input - taken)) (count + 1)
        pass-past l =
            let m = skip-moves in
            passes _ _ (skip-past l) (length input) (n - (length input - taken)) (omega (arith, bytes-skip, m.1))
            (omega (arith, bytes-skip, m.1))

  -- ---- a record answered

  module _ {s₁ j₁ last : List ℕ} {to : ℕ} {put : Put} (t : Turn p R input ended s j s₁ j₁ done last count written lines to put) where
    abbrev wide : ℕ
    wide = put.written

    abbrev next : List ℕ
    next = put_mid written (length done - written) done last

    abbrev o : Outcome
    o = outcome_of p R then t.q

    abbrev behind : List (Read Request)
    behind = records_in p (drop to input) ended

    -- of the buffers as they are
    abbrev o₁ : Outcome
    o₁ = outcome_of p R (books_of p R s j) t.q

    own : o₁ ≡ o
    own = ap (λ (b : Books). outcome_of p R b t.q) g.books

    wrote : Wrote o lines part last put
    wrote = subst (λ (x : Outcome). Wrote x lines part last put) own t.answered.wrote

    in-out : written ≤ length out
    in-out = omega (arith, g.fits, g.long)

    wide_fits : wide ≤ length last
    wide_fits = rw wrote.long wrote.fits

    front-last : Front (take wide last) part last wide
    front-last = record { count = sym (length-take-le wide last wide_fits); bytes = wrote.bytes }

    front-next : Front (take written done ++ take wide last) out next (written + wide)
    front-next = front-then (take written done) out done written g.front in-out (take wide last) last wide front-last

    pub wide-in : written + wide ≤ length done
    wide-in = omega (arith, wrote.fits, g.fits, part-long)

    long-next : length next ≡ length out
    long-next = front_length (take written done ++ take wide last) out next (written + wide) front-next (omega (arith, wide-in, g.long))

    is-next : take (written + wide) next ≡ take written done ++ take wide last
    is-next = front-is (take written done ++ take wide last) out next (written + wide) front-next

    right-next : Right p R (changed o₁.changes (books_of p R s j))
    right-next = kept-right p R (books_of p R s j) t.q t.fine (right_of g.booked)

    booked-next : Booked p R s₁ j₁
    booked-next = next-booked g.booked o₁.changes right-next t.answered.bytes

    are-next : books_of p R s₁ j₁ ≡ changed o.changes then
    are-next =
        next-are g.booked o₁.changes right-next t.answered.bytes
        ∙ ap (λ (b : Books). changed (outcome_of p R b t.q).changes b) g.books

    kept_next : (length s₁ ≡ length s₀) × (length j₁ ≡ length j₀)
    kept_next = (t.kept.0 ∙ g.kept.0, t.kept.1 ∙ g.kept.1)

    -- the text, `rest` being what is left of the record's own
    text-told : (rest : List ℕ) → cond put.done [] (text_from o put.lines) ≡ rest
        → text_of p R start (records_in p input ended) i
        ≡ take (written + wide) next ++ (rest ++ text_of p R (changed o.changes then) behind 0)
    text-told rest d =
        let others : List ℕ = text_of p R (changed o.changes then) behind 0 in
        g.text
        ∙ ap (λ (l : List (Read Request)). take written done ++ text_of p R then l lines) t.head
        ∙ ap (λ (x : List ℕ). take written done ++ x) (text-more p R then t.q behind lines)
        ∙ ap (λ (x : List ℕ). take written done ++ (x ++ others)) (wrote.text ∙ ap (λ (x : List ℕ). take wide last ++ x) d)
        ∙ ap (λ (x : List ℕ). take written done ++ x) (append_assoc (take wide last) rest others)
        ∙ sym (append_assoc (take written done) (take wide last) (rest ++ others))
        ∙ ap (λ (x : List ℕ). x ++ (rest ++ others)) (sym is-next)

    module _ (begun : row_most ≤ length done - written) where
      in-room : row_most ≤ room
      in-room = omega (arith, g.long)

      head-reached : reach p R ended start (records_in p input ended) i (length out)
          ≡ further count (reach p R ended then (t.q ∷ behind) lines room)
      head-reached = g.reached ∙ ap (λ (l : List (Read Request)). further count (reach p R ended then l lines room)) t.head

      -- all of its lines are written
      module _ (d : put.done ≡ true) where
        all-written : length (text_from o lines) ≡ wide
        all-written =
            ap length wrote.text
            ∙ ap (λ (b : Bool). length (take wide last ++ cond b [] (text_from o put.lines))) d
            ∙ ap length (append-nil (take wide last))
            ∙ length-take-le wide last wide_fits

        books-next : books_then p R input ended start (count + 1) ≡ changed o.changes then
        books-next =
            ap (books_after p R start) (take_more count (records_in p input ended) behind t.q t.head)
            ∙ books-more p R start (take count (records_in p input ended)) t.q

        left-next : records_left p input ended (count + 1) ≡ behind
        left-next = drop_more count (records_in p input ended) behind t.q t.head

        -- the two at once
        as-next : {A : Type 0} (f : Books → List (Read Request) → A)
            → f (changed o.changes then) behind
            ≡ f (books_then p R input ended start (count + 1)) (records_left p input ended (count + 1))
        as-next f =
            ap (λ (b : Books). f b behind) (sym books-next) ∙ ap (f (books_then p R input ended start (count + 1))) (sym left-next)

        reached-next : reach p R ended start (records_in p input ended) i (length out)
            ≡ further (count + 1) (reach p R ended (changed o.changes then) behind 0 (length out - (written + wide)))
        reached-next =
            let k : room - length (text_from o lines) ≡ length out - (written + wide) = omega (arith, all-written) in
            let h : length (text_from o lines) ≤ room = omega (arith, all-written, wide-in, g.long) in
            head-reached
            ∙ ap (further count) (reach-on p R ended then lines room in-room t.q behind h)
            ∙ further-one count (reach p R ended (changed o.changes then) behind 0 (room - length (text_from o lines)))
            ∙ ap (λ (n : ℕ). further (count + 1) (reach p R ended (changed o.changes then) behind 0 n)) k

        pub run_on : taken < to → to ≤ length input → Running p R input ended i s₀ j₀ s₁ j₁ out next to (count + 1) (written + wide) 0
        run_on l k =
            record {
              booked = booked-next;
              books = are-next ∙ sym books-next;
              kept = kept_next;
              inside = k;
              few = omega (arith, g.few);
              rest = sym left-next;
              fits = omega (arith, wide-in, long-next, g.long);
              long = long-next;
              front = front-told (take written done ++ take wide last) out next (written + wide) front-next;
              text =
                  text-told [] (ap (λ (b : Bool). cond b [] (text_from o put.lines)) d)
                  ∙ as-next (λ b qs. take (written + wide) next ++ text_of p R b qs 0);
              next = λ e. sym (ap (λ (b : Bool). cond b i 0) (ne_eqb (count + 1) 0 (omega arith)));
              reached = reached-next ∙ as-next (λ b qs. further (count + 1) (reach p R ended b qs 0 (length out - (written + wide))));
            }

      -- not all of them: it was a read, and the store is as it was
      module _ (d : put.done ≡ false) where
        too_long : room < length (text_from o lines)
        too_long = omega (arith, leb-false (length (text_from o lines)) _ (sym wrote.whole ∙ d), part-long, g.long)

        lines-told : lines_to o lines room ≡ put.lines
        lines-told =
            let k : room ≡ length part = omega (arith, part-long, g.long) in
            ap (lines_to o lines) k ∙ sym wrote.count

        pub stays-full : length next - (written + wide) < row_most
        stays-full = omega (arith, wrote.room d, long-next, g.long, part-long)

        pub run-stays : Running p R input ended i s₀ j₀ s₁ j₁ out next taken count (written + wide) put.lines
        unfolding apply_all note_all
        run-stays =
            let c : o.changes ≡ [] = ap (λ (x : Outcome). x.changes) (sym own) ∙ t.answered.again d in
            record {
              booked = booked-next;
              books = are-next ∙ ap (λ (cs : List Change). changed cs then) c;
              kept = kept_next;
              inside = g.inside;
              few = g.few;
              rest = g.rest;
              fits = omega (arith, wide-in, long-next, g.long);
              long = long-next;
              front = front-told (take written done ++ take wide last) out next (written + wide) front-next;
              text =
                  text-told (text_from o put.lines) (ap (λ (b : Bool). cond b [] (text_from o put.lines)) d)
                  ∙ ap (λ (x : List ℕ). take (written + wide) next ++ x) (sym (text-more p R then t.q behind put.lines))
                  ∙ ap (λ (l : List (Read Request)). take (written + wide) next ++ text_of p R then l put.lines) (sym t.head);
              next = λ e. absurd (some_left (sym t.head ∙ e));
              reached =
                  head-reached
                  ∙ ap (further count)
                  (reach-stays p R ended then lines room in-room t.q behind too_long
                  ∙ ap (λ (n : ℕ). halted n Full) lines-told
                  ∙ sym
                  (reach-full p R ended then put.lines (length out - (written + wide)) left (omega (arith, stays-full, long-next))));
            }

  -- ---- and the run goes on behind it

  module _ {skip : ℕ} (t : Passed p input ended taken skip count) (begun : row_most ≤ length done - written) {f : Framed}
      (e : f ≡ framed (take (length input - taken) (drop taken input)) ended) where
    turned : {s₁ j₁ last : List ℕ} {to : ℕ} {put : Put} → Turn p R input ended s j s₁ j₁ done last count written lines to put → put.done ≡ true → taken < to → to ≤ length input
        → {over : ℕ} → Passed p input ended to over (count + 1)
        → On p R input ended i s₀ j₀ s₁ j₁ out (put_mid written (length done - written) done last) to over (count + 1) (written + put.written) taken
    turned k d l m x = record { running = run_on k begun d l m; passed = x; further = l }

    pub on-whole : {n : ℕ} (h : f ≡ Whole n) → Bytes input → {s₁ j₁ last : List ℕ} {put : Put}
        → Answered p R (request_of (take (taken + n - (taken + 2)) (drop (taken + 2) input)) p) lines s j s₁ j₁ part last put → length s₁ ≡ length s → length j₁ ≡ length j
        → put.done ≡ true
        → On p R input ended i s₀ j₀ s₁ j₁ out (put_mid written (length done - written) done last) (taken + n) skip (count + 1) (written + put.written) taken
    on-whole h b w k l d =
        let m = whole-moves e h in
        turned (whole-turn e h b w k l) d (omega (arith, m.0)) (omega (arith, m.0, m.1)) (pass-whole e h t)

    -- the line of a broken record is written
    module _ (a : Answer) (ea : said a ≡ no RecordBroken 0) {last : List ℕ} {wide : ℕ} (w : Front (answer_line (said a)) part last wide) (same : length last ≡ length part) where
      abbrev Behind : ℕ → ℕ → Type 0
      Behind to over = On p R input ended i s₀ j₀ s j out (put_mid written (length done - written) done last) to over (count + 1) (written + wide) taken

      pub on-past : {n : ℕ} → f ≡ Skip n → length input - taken < n → Behind (length input) (n - (length input - taken))
      on-past h l = let m = skip-moves e h in turned (past-turn e h a ea (w, refl, refl) same l) refl (omega (arith, m.1)) (omega arith) (pass-past e h t l)

      pub on-skip : {n : ℕ} → f ≡ Skip n → n ≤ length input - taken → Behind (taken + n) skip
      on-skip h l = let m = skip-moves e h in turned (skip-turn e h a ea (w, refl, refl) same) refl (omega (arith, m.0)) (omega (arith, m.1)) (pass-skip e h t l)

      pub on-cut : f ≡ Cut → Behind (length input) skip
      on-cut h = let m = cut-moves e h in turned (cut-turn e h a ea (w, refl, refl) same) refl (omega (arith, m)) (omega arith) (pass-cut e h t)
