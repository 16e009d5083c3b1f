-- A run over an input, read by read. Assumes nothing.
use Rattle.std.proofs.Common.{◌≡◌, ℕ, ◌+◌, ◌<◌, ◌≤◌, Bool, true, false, List, [], ◌++◌, length, take, drop, sym, refl, ap, ◌∙◌, subst, true≢false, arith, length-take-le}
use lib.Seq.{take-append-add, take-append-le}
use borrow.Rule.Slice.PartMut.{put_mid}
use Rattle.rules.specs.declared.profile.Profile.{Profile}
use Rattle.rules.specs.Profile.{full}
use Rattle.rules.specs.Layout.{parse, places_of}
use Rattle.rules.proofs.Valid.{valid-is, valid-laid}
use Rattle.rules.proofs.Whole.{places-image}
use Rattle.rules.proofs.Widths.{full-indexed}
use Rattle.journal.proofs.Booking.{booked-sound, sound-booked}
use Rattle.requests.proofs.Lending.{full-paging}
use Rattle.requests.specs.Stream.{records_in}
use Rattle.serve.specs.declared.flow.Flow.{Flow}
use Rattle.serve.specs.declared.End.{End}
use Rattle.serve.specs.declared.End.TheVariants.{Whole, Unsound}
use Rattle.std.specs.declared.option.Option.TheVariants.{None, Some}
use Rattle.std.specs.declared.result.Result.{Result}
use Rattle.std.specs.declared.result.Result.TheVariants.{Err}
use Rattle.serve.specs.declared.Taken.{Taken}
use Rattle.serve.specs.declared.Rest.{Rest}
use Rattle.serve.specs.declared.Report.{Report}
use Rattle.serve.specs.Buffers.{Buffers, lent, places_in, sound_in, BookedIn}
use Rattle.serve.specs.Flow.{started, hand, Arrived}
use Rattle.serve.specs.Course.{Standing, start, standing, record_most, Came, Fails, TakenIn, Rested, Course, Served}
use Rattle.serve.proofs.Hand.{none-taken}
use Rattle.serve.proofs.Pieces.{no-records}
use Rattle.serve.proofs.Coming.{came-nowhere, came-taken, came-then}

-- ---- what came in stands behind the bytes at hand

pub taken_in : (f g : Flow) (n k : ℕ) (input part : List ℕ) (x : Result Unit End) → f.have ≤ length input → n ≤ length part → g.have ≤ length (put_mid f.have k input part) → Arrived f n g
    → ((e : End) → x ≡ Err e → Fails e)
    → TakenIn f input (put_mid f.have k input part) (record { flow = g; count = n; kept = x })
taken_in f g n k input part x l m h a z =
    let e : g.have ≡ length (hand f input) + n = omega (arith, a.have, length-take-le f.have input l) in
    record {
      piece = take n part;
      hand =
          ap (λ (j : ℕ). take j (put_mid f.have k input part)) e
          ∙ take-append-add (hand f input) (part ++ drop k (drop f.have input)) n
          ∙ ap (λ (s : List ℕ). hand f input ++ s) (take-append-le n part (drop k (drop f.have input)) m);
      have = h;
      skip = a.skip;
      lines = a.lines;
      ended = a.ended ∙ sym (none-taken n part m);
      lost = z;
    }

-- ---- how far the run came: it waits for more

pub record Serving (p : Profile) (R : ℕ) (before now : Buffers) (input : List ℕ) (f : Flow) : Type 0 where
  pub read : List ℕ
  pub wrote : List ℕ
  pub came : Came p R false (start before) read (standing now f input) wrote
  pub waits : f.ended ≡ false
  pub have : f.have < record_most
  pub passing : (f.skip ≡ 0 → ⊥) → hand f input ≡ []
  pub none : records_in p (hand f input) false ≡ []

module _ (p : Profile) (R : ℕ) (before : Buffers) where
  pub serving-start : (input : List ℕ) → BookedIn p R before → Serving p R before before input started
  serving-start input s =
      record {
        read = [];
        wrote = [];
        came = came-nowhere p R false (start before) s;
        waits = refl;
        have = omega arith;
        passing = λ z. refl;
        none = no-records p false;
      }

  module _ (now : Buffers) (input : List ℕ) (f : Flow) (h : Serving p R before now input f) (room : record_most ≤ length input) where
    -- ---- it ends between two reads

    pub course-waiting : (last : Bool) (r : Report) → r.torn ≡ f.have → r.missing ≡ f.skip → (r.end ≡ Whole → last ≡ false) → (r.end ≡ Unsound → ⊥)
        → Course p R before now last r
    course-waiting last r t m w u =
        record {
          read = h.read;
          wrote = h.wrote;
          ended = false;
          end = standing now f input;
          came = h.came;
          buffers = refl;
          torn = t ∙ sym (length-take-le f.have input (omega (arith, h.have, room)));
          missing = m;
          passing = h.passing;
          done = λ e l. absurd (true≢false (sym l ∙ w e));
          goes_on = λ l. refl;
          rests = λ e l. h.none;
          tested = u;
        }

    -- ---- something came in, and what is at hand is answered

    module _ (mid : List ℕ) (t : Taken) (took : TakenIn f input mid t) (after : Buffers) (kept : List ℕ) (r : Rest) (rest : Rested p R t.flow now after mid kept r) where
      abbrev piece : List ℕ
      piece = took.piece

      abbrev next : Standing
      next = standing after r.flow kept

      came-next : Came p R t.flow.ended (start before) ((h.read ++ piece) ++ []) next ((h.wrote ++ []) ++ rest.wrote)
      came-next =
          let never : false ≡ true → ⊥ = λ e. true≢false (sym e) in
          let at : Standing = standing now f input in
          let grown : Standing = standing now t.flow mid in
          came-then p R false t.flow.ended (start before) grown next (h.read ++ piece) [] (h.wrote ++ []) rest.wrote
          (came-then p R false false (start before) at grown h.read piece h.wrote [] h.came
          (came-taken p R f now input mid t took h.came.booked) (λ e. absurd (never e)))
          rest.came
          (λ e. absurd (never e))

      pub serving-next : r.end ≡ None → Serving p R before after kept r.flow
      serving-next w =
          let e = (rest.waits w).0 in
          record {
            read = (h.read ++ piece) ++ [];
            wrote = (h.wrote ++ []) ++ rest.wrote;
            came = subst (λ (b : Bool). Came p R b (start before) ((h.read ++ piece) ++ []) next ((h.wrote ++ []) ++ rest.wrote)) e came-next;
            waits = rest.ended ∙ e;
            have = (rest.waits w).1;
            passing = rest.passing;
            none = (rest.waits w).2;
          }

      -- where more may follow, it goes on only before the end
      pub course-after : (last : Bool) → (last ≡ false → t.flow.ended ≡ false) → (x : Report) → x.torn ≡ r.flow.have
          → x.missing ≡ r.flow.skip → r.end ≡ Some x.end
          → Course p R before after last x
      course-after last on x torn missing w =
          record {
            read = (h.read ++ piece) ++ [];
            wrote = (h.wrote ++ []) ++ rest.wrote;
            ended = t.flow.ended;
            end = next;
            came = came-next;
            buffers = refl;
            torn = torn ∙ sym (length-take-le r.flow.have kept rest.have);
            missing = missing;
            passing = rest.passing;
            done = λ e l. rest.stops (w ∙ ap Some e);
            goes_on = on;
            rests = λ e l. absurd (true≢false (sym (rest.stops (w ∙ ap Some e)).0 ∙ on l));
            tested = λ e. rest.tested (w ∙ ap Some e);
          }

-- ---- the store keeps its places

pub booked-places : (p : Profile) (R : ℕ) (x : Buffers) → BookedIn p R x → places_in p x ≡ R
booked-places p R x b =
    let s = b.store in
    ap (places_of p) s.bytes
    ∙ places-image p s.coded.known s.indexed R s.places (parse p R x.store) (valid-laid (valid-is p R (parse p R x.store) s.valid))

-- ---- tested once: the test leaves both as they were

pub both-same : {s j s₁ j₁ : List ℕ} → s₁ ≡ s → j₁ ≡ j → lent s₁ j₁ ≡ lent s j
both-same e f = rw (e, f)

pub tested-booked : (before tested : Buffers) → tested ≡ before → (R : ℕ) → R ≡ places_in full tested → sound_in full before ≡ true → BookedIn full R tested
tested-booked before tested same R q h =
    subst (λ (n : ℕ). BookedIn full n tested) (sym q)
    (booked-sound full-paging full-indexed tested.store tested.journal (ap (sound_in full) same ∙ h))

module _ (before : Buffers) (b : Bool) (e : b ≡ sound_in full before) (tested : Buffers) where
  pub served-unsound : (last : Bool) (r : Report) → tested ≡ before → b ≡ false → r.end ≡ Unsound → Served full before tested last r
  served-unsound last r same f u =
      record {
        unsound = λ h. (same, u);
        ran = λ h. absurd (true≢false (sym h ∙ sym e ∙ f));
        sound = λ h. absurd (true≢false (sym h ∙ sym e ∙ f));
      }

  pub served-sound : tested ≡ before → (R : ℕ) → R ≡ places_in full tested → (after : Buffers) (last : Bool) (r : Report) → b ≡ true → Course full R tested after last r
      → Served full before after last r
  served-sound same R q after last r t c =
      record {
        unsound = λ h. absurd (true≢false (sym t ∙ e ∙ h));
        ran = λ h. subst (λ (x : Buffers). Course full (places_in full x) x after last r) same (subst (λ (n : ℕ). Course full n tested after last r) q c);
        sound = λ h. subst (λ (x : Buffers). sound_in full x ≡ true) c.buffers (sound-booked c.came.booked);
      }
