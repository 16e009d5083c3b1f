-- What the entries promise, in the rules' words: the lines of a stream, the books behind it, what is accepted, what is unchanged. Assumes nothing.
use Prim.Native.Nat.{ℕ}
use mathlib.Core.Path.{◌≡◌, refl, sym, ◌∙◌, ap, subst}
use mathlib.Core.Bool.{Bool, true, false, true≢false}
use mathlib.Core.List.{List, [], ◌∷◌, ◌++◌}
use Rattle.forms.specs.Read.{Read, got, broken}
use Rattle.rules.specs.Request.{Answer}
use Rattle.rules.specs.Refusal.{RecordBroken, StoreUnsound}
use Rattle.rules.specs.Profile.{full}
use Rattle.rules.specs.Journal.{Books}
use Rattle.rules.specs.Layout.{places_of}
use Rattle.rules.specs.Request.{Request, Reply, said, no}
use Rattle.rules.specs.Step.{Outcome, apply_all, note_all, is_accepted, step, after, run, run_after}
use Rattle.rules.specs.Sound.{every}
use Rattle.rules.specs.Pages.{books_of, sound_books}
use Rattle.rules.proofs.Widths.{full-indexed}
use Rattle.journal.specs.Books.{Settled}
use Rattle.journal.proofs.Booking.{booked-bytes, booked-sound}
use Rattle.mapping.specs.Got.{is_got}
use Rattle.requests.specs.Lines.{row_lines, answer_line, lines_of, stream}
use Rattle.requests.specs.Places.{text_from}
use Rattle.operations.specs.Told.{outcome_of}
use Rattle.requests.specs.Stream.{Lent, text_of, books_after}
use Rattle.requests.specs.Demanded.{lines_for, requests_in, Accepts}
use Rattle.requests.proofs.Validity.{lent-unsound, lent-sound}
use Rattle.requests.proofs.Lending.{full-paging}
use Rattle.requests.proofs.OneAnswer.{bytes_one}

-- ---- what is written is what the rules say

pub lines-for : (R : ℕ) (b : Books) (ws : List (Read Request)) → text_of full R b ws 0 ≡ lines_for R b ws
unfolding lines_for text_of text_from outcome_of apply_all note_all after lines_of row_lines
lines-for R b [] = refl
lines-for R b (got q n ∷ ws) =
    ap (λ (l : List ℕ). lines_of (record { lines = (step full R b q).lines; reply = (step full R b q).reply }) ++ l) (lines-for R (after full R b q) ws)
lines-for R b (broken x ∷ ws) = ap (λ (l : List ℕ). answer_line (no RecordBroken 0) ++ l) (lines-for R b ws)

-- where every record is read, it is the rules' own stream
pub lines-run : (R : ℕ) (b : Books) (ws : List (Read Request)) → every is_got ws ≡ true → lines_for R b ws ≡ stream (run full R b (requests_in ws))
unfolding lines_for requests_in every is_got stream run after
lines-run R b [] h = refl
lines-run R b (got q n ∷ ws) h =
    ap (λ (l : List ℕ). lines_of (record { lines = (step full R b q).lines; reply = (step full R b q).reply }) ++ l) (lines-run R (after full R b q) ws h)
lines-run R b (broken x ∷ ws) h = absurd (true≢false (sym h))

-- the books are the rules' own, of the requests that were read: broken records change nothing
pub books-run : (R : ℕ) (b : Books) (ws : List (Read Request)) → books_after full R b ws ≡ run_after full R b (requests_in ws)
unfolding books_after requests_in outcome_of apply_all note_all after run_after
books-run R b [] = refl
books-run R b (got q n ∷ ws) = books-run R (after full R b q) ws
books-run R b (broken x ∷ ws) = books-run R b ws

-- ---- accepted exactly under the rules, and no second answer or second bytes would do

only-accepts : (R : ℕ) (b : Books) (w : Read Request) → is_accepted (outcome_of full R b w).reply ≡ true → Accepts R b w
unfolding outcome_of
only-accepts R b (got q n) h = record { request = q; end = n; says = refl; accepted = h }
only-accepts R b (broken x) h = absurd (true≢false (sym h))

pub accepted-exactly : (R : ℕ) (b : Books) (w : Read Request)
    → (is_accepted (outcome_of full R b w).reply ≡ true → Accepts R b w) × (Accepts R b w → is_accepted (outcome_of full R b w).reply ≡ true)
unfolding outcome_of
accepted-exactly R b w =
    (only-accepts R b w, λ y. subst (λ (v : Read Request). is_accepted (outcome_of full R b v).reply ≡ true) (sym y.says) y.accepted)

-- over lent buffers that are not sound: 38, and every byte as it was
pub unsound-refused : (w : Read Request) (s j s₁ j₁ : List ℕ) (a : Answer) → Lent full w s j s₁ j₁ a → sound_books full s j ≡ false
    → (said a ≡ no StoreUnsound 0) × ((s₁ ≡ s) × (j₁ ≡ j))
unsound-refused w s j s₁ j₁ a l h = lent-unsound full w s j s₁ j₁ a l h

-- over sound ones: the outcome's answer, and the bytes of the books with the outcome's changes
pub sound-answered : (w : Read Request) (s j s₁ j₁ : List ℕ) (a : Answer) → Lent full w s j s₁ j₁ a → sound_books full s j ≡ true
    → Settled full (places_of full s) (outcome_of full (places_of full s) (books_of full (places_of full s) s j) w) s j s₁ j₁ a
sound-answered w s j s₁ j₁ a l h = lent-sound full w s j s₁ j₁ a l h

-- so a record is accepted exactly where both buffers are sound, the record is read and the rules accept what it says
pub lent-accepted-exactly : (w : Read Request) (s j s₁ j₁ : List ℕ) (a : Answer) → Lent full w s j s₁ j₁ a
    → (is_accepted (said a) ≡ true → (sound_books full s j ≡ true) × Accepts (places_of full s) (books_of full (places_of full s) s j) w)
    × ((sound_books full s j ≡ true) × Accepts (places_of full s) (books_of full (places_of full s) s j) w → is_accepted (said a) ≡ true)
lent-accepted-exactly w s j s₁ j₁ a l = (λ h. go (sound_books full s j) refl h, λ y. back y.0 y.1)
  where
    R : ℕ
    R = places_of full s

    b : Books
    b = books_of full R s j

    go : (x : Bool) → sound_books full s j ≡ x → is_accepted (said a) ≡ true → (sound_books full s j ≡ true) × Accepts R b w
    go true e h = (e, only-accepts R b w (subst (λ (x : Reply). is_accepted x ≡ true) (sound-answered w s j s₁ j₁ a l e).answer h))
    go false e h = absurd (true≢false (sym (subst (λ (x : Reply). is_accepted x ≡ true) (unsound-refused w s j s₁ j₁ a l e).0 h)))

    back : sound_books full s j ≡ true → Accepts R b w → is_accepted (said a) ≡ true
    back e y = subst (λ (x : Reply). is_accepted x ≡ true) (sym (sound-answered w s j s₁ j₁ a l e).answer) ((accepted-exactly R b w).1 y)

pub settled-one : (R : ℕ) (o : Outcome) (s j s₁ j₁ s₂ j₂ : List ℕ) (a b : Answer) → Settled full R o s j s₁ j₁ a → Settled full R o s j s₂ j₂ b
    → (said a ≡ said b) × ((s₁ ≡ s₂) × (j₁ ≡ j₂))
settled-one R o s j s₁ j₁ s₂ j₂ a b l m = (l.answer ∙ sym m.answer, bytes_one full R refl l.bytes m.bytes)

pub one_answer : (w : Read Request) (s j s₁ j₁ s₂ j₂ : List ℕ) (a b : Answer) → Lent full w s j s₁ j₁ a → Lent full w s j s₂ j₂ b → said a ≡ said b
one_answer w s j s₁ j₁ s₂ j₂ a b l m = l.answer ∙ sym m.answer

pub one-bytes : (w : Read Request) (s j s₁ j₁ s₂ j₂ : List ℕ) (a b : Answer) → Lent full w s j s₁ j₁ a → Lent full w s j s₂ j₂ b → (s₁ ≡ s₂) × (j₁ ≡ j₂)
one-bytes w s j s₁ j₁ s₂ j₂ a b l m = go (sound_books full s j) refl
  where
    go : (x : Bool) → sound_books full s j ≡ x → (s₁ ≡ s₂) × (j₁ ≡ j₂)
    go true e = bytes_one full (places_of full s) refl (l.sound e) (m.sound e)
    go false e = let x = l.unsound e in let y = m.unsound e in (x.0 ∙ sym y.0, x.1 ∙ sym y.1)

-- ---- a broken record is refused and leaves every byte as it was

-- whether the buffers are sound or not: with 1 or 38
pub lent-unchanged : (x : ℕ) (s j s₁ j₁ : List ℕ) (a : Answer) → Lent full (broken x) s j s₁ j₁ a → (is_accepted (said a) ≡ false) × ((s₁ ≡ s) × (j₁ ≡ j))
unfolding outcome_of apply_all note_all
lent-unchanged x s j s₁ j₁ a l = go (sound_books full s j) refl
  where
    go : (b : Bool) → sound_books full s j ≡ b → (is_accepted (said a) ≡ false) × ((s₁ ≡ s) × (j₁ ≡ j))
    go true e =
        let r = sound-answered (broken x) s j s₁ j₁ a l e in
        (ap is_accepted r.answer, bytes_one full (places_of full s) refl r.bytes (booked-bytes (booked-sound full-paging full-indexed s j e)))
    go false e = let r = unsound-refused (broken x) s j s₁ j₁ a l e in (ap is_accepted r.0, r.1)
