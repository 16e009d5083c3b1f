-- A store and a journal that are lent: what one record does to them, and many over unsound ones. Assumes nothing.
use Prim.Native.Nat.{ℕ, ◌-◌, ◌≤◌, ◌<◌}
use native.Mathlib.Omega.{arith}
use mathlib.Core.Path.{◌≡◌, refl, sym, ap, ◌∙◌, subst}
use mathlib.Core.Bool.{Bool, true, false, cond, true≢false}
use mathlib.Core.List.{List, []}
use lib.ListN.{length, take, drop, length-drop}
use lib.Seq.{take_all}
use borrow.Author.Tests.{eq-eqb, ne_eqb, le-leb, lt-leb}
use Rattle.forms.specs.Print.{Front}
use Rattle.forms.specs.Read.{Read, broken}
use Rattle.rules.specs.declared.profile.Profile.{Profile}
use Rattle.rules.specs.Request.{Answer}
use Rattle.rules.specs.Refusal.{RecordBroken, StoreUnsound}
use Rattle.rules.specs.Profile.{full, Indexed}
use Rattle.rules.specs.Journal.{Books}
use Rattle.rules.specs.Layout.{places_of}
use Rattle.rules.specs.Request.{Request, said, no}
use Rattle.rules.specs.Step.{Outcome, refused}
use Rattle.rules.specs.Pages.{books_of, sound_books}
use Rattle.rules.proofs.Widths.{full-known}
use Rattle.laid.specs.Store.{Coded}
use Rattle.journal.specs.Page.{Paging}
use Rattle.journal.specs.Books.{Booked, Settled}
use Rattle.journal.proofs.Booking.{booked-sound, settled-still}
use Rattle.records.specs.declared.frame.Framed.{Framed}
use Rattle.records.specs.declared.frame.Framed.TheVariants.{Whole, Skip, More, Cut, Done}
use Rattle.requests.specs.declared.entry.Halt.TheVariants.{Unsound}
use Rattle.requests.specs.declared.entry.Ran.{Ran}
use Rattle.requests.specs.Lines.{answer_line}
use Rattle.records.specs.Record.{request_of}
use Rattle.records.specs.Frame.{framed}
use Rattle.operations.specs.Told.{outcome_of}
use Rattle.requests.specs.Stream.{whole_as, whole_of, lent_outcome, Lent, Runs, Refuses, Many}
use Rattle.requests.proofs.Answering.{broken-outcome}
use Rattle.requests.proofs.Running.{Moves, moves}

pub full-coded : Coded full
full-coded = record { known = full-known; cells = refl }

pub full-paging : Paging full
full-paging = record { coded = full-coded; most = omega arith }

-- sound buffers, of whichever count of row places the store has
pub sound-lent : {p : Profile} → Paging p → Indexed p → {R : ℕ} {s j : List ℕ} → R ≡ places_of p s → sound_books p s j ≡ true → Booked p R s j
sound-lent {p} g i {R} {s} {j} e h = subst (λ (n : ℕ). Booked p n s j) (sym e) (booked-sound g i s j h)

-- ---- the test with verdict v, which leaves both buffers as they were: t and u

pub tested : {s j t u : List ℕ} {b v : Bool} → (b ≡ sound_books full s j) × (t ≡ s) × (u ≡ j) → b ≡ v → sound_books full t u ≡ v
tested (e, f, g) h = rw (f, g) (sym e ∙ h)

pub lent-from : {p : Profile} {q : Read Request} {s j t u s₁ j₁ : List ℕ} {a : Answer} → t ≡ s → u ≡ j → Lent p q t u s₁ j₁ a → Lent p q s j s₁ j₁ a
lent-from {p} {q} {s} {j} {t} {u} {s₁} {j₁} {a} f g x = subst (λ (y : List ℕ). Lent p q y j s₁ j₁ a) f (subst (λ (y : List ℕ). Lent p q t y s₁ j₁ a) g x)

pub many-from : {p : Profile} {input : List ℕ} {ended : Bool} {i : ℕ} {s j t u s₁ j₁ out done : List ℕ} {r : Ran} → t ≡ s → u ≡ j
    → Many p input ended i t u s₁ j₁ out done r
    → Many p input ended i s j s₁ j₁ out done r
many-from {p} {input} {ended} {i} {s} {j} {t} {u} {s₁} {j₁} {out} {done} {r} f g x =
    subst (λ (y : List ℕ). Many p input ended i y j s₁ j₁ out done r) f (subst (λ (y : List ℕ). Many p input ended i t y s₁ j₁ out done r) g x)

-- ---- one record

pub lent-unsound : {p : Profile} {q : Read Request} {s j : List ℕ} → sound_books p s j ≡ false → {a : Answer} → said a ≡ no StoreUnsound 0 → Lent p q s j s j a
unfolding lent_outcome
lent-unsound h f = record { answer = f ∙ rw h; sound = λ t. absurd (true≢false (sym t ∙ h)); unsound = λ t. (refl, refl) }

-- the test failed, and 38 is answered
pub lent-untested : {q : Read Request} {s j t u : List ℕ} {b : Bool} {a : Answer} → (b ≡ sound_books full s j) × (t ≡ s) × (u ≡ j) → b ≡ false → said a ≡ no StoreUnsound 0 → Lent full q s j t u a
lent-untested e h f = lent-from e.1 e.2 (lent-unsound (tested e h) f)

-- sound buffers are as the outcome says
pub lent-settled : {p : Profile} {q : Read Request} {R : ℕ} {s j s₁ j₁ : List ℕ} {a : Answer} → R ≡ places_of p s → sound_books p s j ≡ true
    → Settled p R (outcome_of p R (books_of p R s j) q) s j s₁ j₁ a
    → Lent p q s j s₁ j₁ a
unfolding lent_outcome
lent-settled e h t = let u = rw e at t in record { answer = u.answer ∙ rw h; sound = λ z. rw h u.bytes; unsound = λ z. absurd (true≢false (sym h ∙ z)) }

pub lent-broken : {p : Profile} → Paging p → Indexed p → {q : Read Request} {s j : List ℕ} → sound_books p s j ≡ true → (x : ℕ) → q ≡ broken x
    → {a : Answer} → said a ≡ no RecordBroken 0
    → Lent p q s j s j a
lent-broken {p} g i {q} {s} {j} h x eq {a} f =
    let R : ℕ = places_of p s in
    let b : Books = books_of p R s j in
    let o : outcome_of p R b q ≡ refused (no RecordBroken 0) = ap (outcome_of p R b) eq ∙ broken-outcome p R b x in
    lent-settled refl h
    (settled-still (booked-sound g i s j h) (outcome_of p R b q) (ap (λ (y : Outcome). y.changes) o) a (f ∙ sym (ap (λ (y : Outcome). y.reply) o)))

-- ---- what a record says, its two length bytes included

module _ (p : Profile) (rec : List ℕ) (f : Framed) (e : f ≡ framed rec true) where
  whole_by : whole_of p rec ≡ whole_as p rec f
  unfolding whole_of
  whole_by = ap (whole_as p rec) (sym e)

  module _ (n : ℕ) (h : f ≡ Whole n) where
    pub whole-least : 4 ≤ n
    whole-least = (subst (Moves (length rec)) (sym e ∙ h) (moves rec true)).0

    pub whole-longer : (n ≡ length rec → ⊥) → whole_of p rec ≡ broken 0
    whole-longer l = whole_by ∙ ap (whole_as p rec) h ∙ rw (ne_eqb n (length rec) l)

    pub whole_says : n ≡ length rec → whole_of p rec ≡ request_of (take (length rec - 2) (drop 2 rec)) p
    whole_says l =
        let k : length (drop 2 rec) ≤ length rec - 2 = rw (length-drop 2 rec) (omega arith) in
        whole_by ∙ ap (whole_as p rec) h ∙ rw (eq-eqb n (length rec) l, take_all (length rec - 2) (drop 2 rec))

  -- any other frame
  pub no_whole : ((n : ℕ) → f ≡ Whole n → ⊥) → whole_of p rec ≡ broken 0
  no_whole h = whole_by ∙ go f h
    where
      go : (m : Framed) → ((n : ℕ) → m ≡ Whole n → ⊥) → whole_as p rec m ≡ broken 0
      go (Whole n) k = absurd (k n refl)
      go (Skip n) k = refl
      go More k = refl
      go Cut k = refl
      go Done k = refl

-- ---- many records over unsound buffers

module _ {input : List ℕ} {ended : Bool} {i : ℕ} {s j out : List ℕ} (h : sound_books full s j ≡ false) where
  unsound : {done : List ℕ} {r : Ran} → Refuses i s j s j out done r → Many full input ended i s j s j out done r
  unsound x = record { runs = λ t. absurd (true≢false (sym t ∙ h)); refuses = λ t. x }

  pub many-told : (a : Answer) → said a ≡ no StoreUnsound 0 → {done : List ℕ} {n : ℕ} → 66 ≤ length out → Front (answer_line (said a)) out done n
      → Many full input ended i s j s j out done (record { halt = Unsound; taken = 0; skip = 0; count = 0; written = n; lines = i })
  many-told a ea {done} {n} l f =
      unsound
      (record {
        halt = refl;
        nothing = (refl, refl, refl, refl);
        bytes = (refl, refl);
        line =
            subst (λ (z : List ℕ). Front z out done n)
            (ap answer_line ea ∙ sym (ap (λ (z : Bool). cond z (answer_line (no StoreUnsound 0)) []) (le-leb 66 (length out) l)))
            f;
      })

  pub many-untold : length out < 66 → Many full input ended i s j s j out out (record { halt = Unsound; taken = 0; skip = 0; count = 0; written = 0; lines = i })
  many-untold l =
      unsound
      (record {
        halt = refl;
        nothing = (refl, refl, refl, refl);
        bytes = (refl, refl);
        line =
            subst (λ (z : List ℕ). Front z out out 0)
            (sym (ap (λ (z : Bool). cond z (answer_line (no StoreUnsound 0)) []) (lt-leb 66 (length out) l)))
            (record { count = refl; bytes = refl });
      })

pub many-ran : {input : List ℕ} {ended : Bool} {i : ℕ} {s j s₁ j₁ out done : List ℕ} {r : Ran} {R : ℕ} → R ≡ places_of full s → sound_books full s j ≡ true
    → Runs full R input ended i s j s₁ j₁ out done r
    → Many full input ended i s j s₁ j₁ out done r
many-ran {input} {ended} {i} {s} {j} {s₁} {j₁} {out} {done} {r} e h x =
    record { runs = λ t. subst (λ (n : ℕ). Runs full n input ended i s j s₁ j₁ out done r) e x; refuses = λ t. absurd (true≢false (sym h ∙ t)) }
