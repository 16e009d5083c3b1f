-- The records at hand answered turn by turn. Assumes nothing.
use Rattle.std.proofs.Common.{◌≡◌, ℕ, suc, ◌+◌, ◌<◌, ◌≤◌, Bool, false, eqb, ltb, List, [], ◌++◌, length, take, drop, sym, refl, ap, ◌∙◌, subst, arith, length-append, length-take-le, ltb-false, ltb-true, eqb-true}
use Rattle.std.specs.declared.io.Error.{Error}
use Rattle.rules.specs.declared.profile.Profile.{Profile}
use Rattle.rules.proofs.Tests.{by_cond}
use Rattle.records.specs.declared.frame.Framed.{Framed}
use Rattle.records.specs.declared.frame.Framed.TheVariants.{Whole, Skip, More, Cut, Done}
use Rattle.records.specs.Frame.{framed, length_of, least_length, most_length}
use Rattle.requests.specs.declared.entry.Halt.TheVariants.{Full, Waiting, Stopped}
use Rattle.requests.specs.Lines.{row_most}
use Rattle.requests.specs.Stream.{records_in}
use Rattle.requests.proofs.Running.{records-by}
use Rattle.serve.specs.declared.flow.Flow.{Flow}
use Rattle.serve.specs.declared.flow.Turn.{Turn}
use Rattle.serve.specs.declared.End.TheVariants.{Whole, Unsound, Unwritten}
use Rattle.serve.specs.declared.End.{End}
use Rattle.std.specs.declared.option.Option.{Option}
use Rattle.std.specs.declared.option.Option.TheVariants.{None, Some}
use Rattle.serve.specs.Buffers.{Buffers, BookedIn}
use Rattle.serve.specs.Flow.{hand, Turned}
use Rattle.serve.specs.Course.{standing, record_most, Came, Rested}
use Rattle.serve.proofs.Coming.{came-nowhere, came-then}
use Rattle.serve.proofs.Turning.{at_hand, came-turn, turn-passing, text-shrinks, left-last}

-- ---- where no whole record is at hand, fewer bytes are than the longest record has

abbrev Short : List ℕ → Framed → Type 0
Short s (Whole k) = Unit {0}
Short s (Skip k) = Unit {0}
Short s More = length s < record_most
Short s Cut = ⊥
Short s Done = ⊥

short-frame : (s : List ℕ) → Short s (framed s false)
unfolding framed
short-frame s =
    by_cond (Short s) (eqb (length s) 0) _ _ (λ e. omega (arith, eqb-true (length s) 0 e))
    (λ e.
    by_cond (Short s) (eqb (length s) 1) _ _ (λ f. omega (arith, eqb-true (length s) 1 f))
    (λ f.
    by_cond (Short s) (ltb (length_of s) least_length) _ _ (λ g. tt)
    (λ g.
    by_cond (Short s) (ltb most_length (length_of s)) _ _ (λ h. tt)
    (λ h.
    by_cond (Short s) (ltb (length s) (2 + length_of s)) _ _
    (λ k. omega (arith, ltb-true (length s) (2 + length_of s) k, ltb-false most_length (length_of s) h))
    (λ k. tt)))))

module _ (p : Profile) where
  short-by : (s : List ℕ) (f : Framed) → f ≡ framed s false → Short s f → records_in p s false ≡ [] → length s < record_most
  short-by s (Whole k) e h n = let z : ◌≡◌ {A = ℕ} (suc (length (records_in p (drop k s) false))) 0 = ap length (sym (records-by p s false (Whole k) e) ∙ n) in absurd (omega arith)
  short-by s (Skip k) e h n = let z : ◌≡◌ {A = ℕ} (suc (length (records_in p (drop k s) false))) 0 = ap length (sym (records-by p s false (Skip k) e) ∙ n) in absurd (omega arith)
  short-by s More e h n = h
  short-by s Cut e h n = absurd h
  short-by s Done e h n = absurd h

  none-whole : (s : List ℕ) → records_in p s false ≡ [] → length s < record_most
  none-whole s = short-by s (framed s false) refl (short-frame s)

-- ---- how far the answering came

pub record Answering (p : Profile) (R : ℕ) (f : Flow) (before now : Buffers) (input kept out : List ℕ) (g : Flow) : Type 0 where
  pub wrote : List ℕ
  pub came : Came p R f.ended (standing before f input) [] (standing now g kept) wrote
  pub ended : g.ended ≡ f.ended
  pub have : g.have ≤ length kept
  pub room : row_most ≤ length out

module _ (p : Profile) (R : ℕ) (f : Flow) (before : Buffers) (input : List ℕ) where
  pub answering-start : (out : List ℕ) → BookedIn p R before → f.have ≤ length input → row_most ≤ length out → Answering p R f before before input input out f
  answering-start out s l m = record { wrote = []; came = came-nowhere p R f.ended (standing before f input) s; ended = refl; have = l; room = m }

  module _ (now : Buffers) (kept out : List ℕ) (g : Flow) (h : Answering p R f before now input kept out g) (after : Buffers) (rest done : List ℕ) (t : Turn)
      (turn : Turned p R g now after kept rest out done t) (same : length rest ≡ length kept) (same_out : length done ≡ length out) where
    pub answering-turn : Answering p R f before after input rest done t.flow
    answering-turn =
        record {
          wrote = h.wrote ++ take t.ran.written done;
          came =
              came-then p R f.ended f.ended (standing before f input) (standing now g kept) (standing after t.flow rest) [] [] h.wrote (take t.ran.written done) h.came
              (subst (λ (b : Bool). Came p R b (standing now g kept) [] (standing after t.flow rest) (take t.ran.written done)) h.ended
              (came-turn p R g now after kept rest out done t h.have turn))
              (λ e. (e, refl));
          ended = turn.ended ∙ h.ended;
          have = omega (arith, turn.have, h.have, same);
          room = omega (arith, h.room, same_out);
        }

    -- a turn that stops for room wrote something
    pub full-less : t.ran.halt ≡ Full → length (at_hand p R after t.flow rest) < length (at_hand p R now g kept)
    full-less e =
        let w : length (take t.ran.written done) ≡ t.ran.written = length-take-le t.ran.written done (omega (arith, turn.ran.fits, same_out)) in
        let l : length (at_hand p R now g kept) ≡ length (take t.ran.written done) + length (at_hand p R after t.flow rest) =
        ap length (text-shrinks p R g now after kept rest out done t h.have turn) ∙ length-append (take t.ran.written done) (at_hand p R after t.flow rest)
        in
        omega (arith, l, w, turn.ran.full e, h.room)

    passing : (t.flow.skip ≡ 0 → ⊥) → hand t.flow rest ≡ []
    passing = turn-passing p R g now after kept rest out done t h.have turn

    none-held : t.ran.halt ≡ Waiting → records_in p (hand t.flow rest) false ≡ []
    none-held e =
        ap (λ (s : List ℕ). records_in p s false) turn.hand
        ∙ subst (λ (b : Bool). records_in p (drop t.ran.taken (drop g.skip (hand g kept))) b ≡ []) (turn.ran.waits e).0
        (turn.ran.rest ∙ (turn.ran.waits e).1)

    short-hand : t.ran.halt ≡ Waiting → t.flow.have < record_most
    short-hand e =
        let l : length (hand t.flow rest) < record_most = none-whole p (hand t.flow rest) (none-held e) in
        omega (arith, l, length-take-le t.flow.have rest answering-turn.have)

    module _ (records : ℕ) where
      abbrev After : Option End → Type 0
      After x = Rested p R f before after input rest (record { flow = t.flow; records = records; end = x })

      rested : (x : Option End) → (x ≡ None → t.ran.halt ≡ Waiting) → (x ≡ Some Whole → t.ran.halt ≡ Stopped) → (x ≡ Some Unsound → ⊥) → After x
      rested x w d u =
          record {
            wrote = answering-turn.wrote;
            came = answering-turn.came;
            ended = answering-turn.ended;
            have = answering-turn.have;
            passing = passing;
            waits = λ e. let k = w e in (sym h.ended ∙ (turn.ran.waits k).0, short-hand k, none-held k);
            stops = λ e.
                let k = turn.ran.stops (d e) in
                (sym h.ended ∙ k.0, left-last p R g now after kept rest out done t h.have turn k.0 ∙ k.1);
            tested = u;
          }

      pub rested-unwritten : (x : Error) → After (Some (Unwritten x))
      rested-unwritten x =
          rested (Some (Unwritten x)) (λ e. let z : ◌≡◌ {A = ℕ} 0 1 = cc in absurd (omega arith)) (λ e. let z : ◌≡◌ {A = ℕ} 0 1 = cc in absurd (omega arith))
          (λ e. let z : ◌≡◌ {A = ℕ} 0 1 = cc in absurd (omega arith))

      pub rested-waiting : t.ran.halt ≡ Waiting → After None
      rested-waiting k =
          rested None (λ e. k) (λ e. let z : ◌≡◌ {A = ℕ} 0 1 = cc in absurd (omega arith)) (λ e. let z : ◌≡◌ {A = ℕ} 0 1 = cc in absurd (omega arith))

      pub rested-stopped : t.ran.halt ≡ Stopped → After (Some Whole)
      rested-stopped k =
          rested (Some Whole) (λ e. let z : ◌≡◌ {A = ℕ} 0 1 = cc in absurd (omega arith)) (λ e. k) (λ e. let z : ◌≡◌ {A = ℕ} 0 1 = cc in absurd (omega arith))
