-- A batch opened, kept, taken back, as the code does it; 45 where it is not as the operation needs it. Assumes nothing.
use Prim.Native.Nat.{ℕ}
use mathlib.Core.Path.{◌≡◌, refl, sym, ◌∙◌, ap}
use mathlib.Core.Bool.{true, false, not}
use mathlib.Core.List.{List, [], ◌∷◌}
use mathlib.Core.Option.{none}
use lib.Dec.{eqb}
use lib.ListN.{length, get_or, set, replicate}
use borrow.Author.Tests.{not-true}
use Rattle.values.specs.Basic.{maybe}
use Rattle.rules.specs.declared.profile.Profile.{Profile}
use Rattle.rules.specs.Request.{Answer}
use Rattle.rules.specs.Refusal.{BatchOutOfTurn}
use Rattle.rules.specs.Journal.{unwound, is_open, batch_of, Books}
use Rattle.rules.specs.Pages.{journal_image, parse_journal, books_of}
use Rattle.forms.specs.Read.{got}
use Rattle.rules.specs.Request.{Open, Keep, Back, said, ok, no}
use Rattle.rules.specs.Step.{taken_back, apply, apply_all, note, note_all, did, out_of_turn, open_batch, keep_batch, take_back, act}
use Rattle.mapping.specs.Got.{got_or}
use Rattle.operations.specs.Told.{Acted}
use Rattle.rules.proofs.Backed.{closed}
use Rattle.journal.specs.Turn.{events_in, Batch}
use Rattle.journal.specs.Back.{rows_of, events_of, Unwinds}
use Rattle.journal.specs.Books.{Booked, Settled}
use Rattle.journal.proofs.Booking.{laid-books, journaled}
use Rattle.journal.proofs.Noting.{book-length, opened-is, closed_is}
use Rattle.journal.proofs.TakenBack.{books-batch, back-bytes}
use Rattle.store.proofs.Settling.{left_alone}
use Rattle.operations.specs.Batched.{Batched}
use Rattle.operations.proofs.Shut.{opens_as}

-- ---- what each comes to

module _ (b : Books) where
  open-late : is_open b.journal ≡ true → open_batch b ≡ out_of_turn
  unfolding open_batch
  open-late h = rw h

  keep-early : is_open b.journal ≡ false → keep_batch b ≡ out_of_turn
  unfolding keep_batch
  keep-early h = rw h

  back_early : is_open b.journal ≡ false → take_back b ≡ out_of_turn
  unfolding take_back maybe
  back_early h = rw (closed b.journal.batch h)

back-open : (p : Profile) (R : ℕ) (s j : List ℕ) → eqb (get_or j 0 0) 0 ≡ false
    → take_back (books_of p R s j) ≡ did (taken_back (unwound (events_of p R s j) (rows_of p R s)) ∷ []) 0
unfolding take_back maybe parse_journal events_in
back-open p R s j o = rw o

-- ---- 12

module _ {j : List ℕ} {a : Answer} where
  pub opened-late : not (eqb (get_or j 0 0) 0) ≡ true → said a ≡ no BatchOutOfTurn 0 → Batched open_batch j j a
  opened-late h g =
      record { of = λ p R s b. left_alone b (open_batch (books_of p R s j)) (no BatchOutOfTurn 0) (open-late (books_of p R s j) (sym (opens_as p R s j) ∙ h)) a g }

  pub opened-now : not (eqb (get_or j 0 0) 0) ≡ false → {j₁ : List ℕ} → j₁ ≡ set j 0 1 → said a ≡ ok 0 → Batched open_batch j j₁ a
  unfolding open_batch apply_all apply note_all note journal_image maybe
  opened-now h x g =
      record {
        of = λ p R s b.
            let c : is_open (books_of p R s j).journal ≡ false = sym (opens_as p R s j) ∙ h in
            let e : (books_of p R s j).journal.batch ≡ none = closed _ c in
            let f : j ≡ journal_image p (batch_of (books_of p R s j).journal.places none) = b.bytes ∙ rw e refl in
            rw c
            (record {
              answer = g;
              bytes = record { store = b.store.bytes; journal = x ∙ ap (λ (l : List ℕ). set l 0 1) f ∙ opened-is p (books_of p R s j).journal.places };
            });
      }

  -- ---- 13

  pub kept-early : not (eqb (get_or j 0 0) 0) ≡ false → said a ≡ no BatchOutOfTurn 0 → Batched keep_batch j j a
  kept-early h g =
      record { of = λ p R s b. left_alone b (keep_batch (books_of p R s j)) (no BatchOutOfTurn 0) (keep-early (books_of p R s j) (sym (opens_as p R s j) ∙ h)) a g }

  pub kept-now : not (eqb (get_or j 0 0) 0) ≡ true → {j₁ : List ℕ} → j₁ ≡ replicate (length j) 0 → said a ≡ ok 0 → Batched keep_batch j j₁ a
  unfolding keep_batch apply_all apply note_all note
  kept-now h x g =
      record {
        of = λ p R s b.
            let c : is_open (books_of p R s j).journal ≡ true = sym (opens_as p R s j) ∙ h in
            rw c
            (record {
              answer = g;
              bytes = record { store = b.store.bytes; journal = x ∙ closed_is p (books_of p R s j).journal.places j (book-length (journaled (laid-books b))) };
            });
      }

-- ---- 14

module _ {p : Profile} {R : ℕ} {s j : List ℕ} (b : Booked p R s j) where
  pub back-refused : not (eqb (get_or j 0 0) 0) ≡ false → {a : Answer} → said a ≡ no BatchOutOfTurn 0 → Settled p R (take_back (books_of p R s j)) s j s j a
  back-refused h {a} g = left_alone b (take_back (books_of p R s j)) (no BatchOutOfTurn 0) (back_early (books_of p R s j) (sym (opens_as p R s j) ∙ h)) a g

  module _ (h : not (eqb (get_or j 0 0) 0) ≡ true) where
    pub batch-there : Batch p R s j
    batch-there = books-batch (laid-books b) (not-true _ h)

    pub back-now : {r : ℕ} {s₁ j₁ j₂ : List ℕ} → Unwinds p R s j r s₁ j₁ → length j₁ ≡ length j → j₂ ≡ replicate (length j₁) 0 → {a : Answer} → said a ≡ ok 0
        → Settled p R (take_back (books_of p R s j)) s j s₁ j₂ a
    unfolding apply_all apply note_all note
    back-now {r} {s₁} {j₁} u l x g =
        rw (back-open p R s j (not-true _ h))
        (record {
          answer = g;
          bytes = record { store = back-bytes batch-there u b.backed; journal = x ∙ closed_is p (books_of p R s j).journal.places j₁ (l ∙ book-length (journaled (laid-books b))) };
        })

-- ---- as the record says them

module _ {p : Profile} {R : ℕ} {s j : List ℕ} (b : Booked p R s j) (n : ℕ) where
  pub open-acted : {j₁ : List ℕ} {a : Answer} → Batched open_batch j j₁ a → Acted p R (got Open n) s j s j₁ a
  unfolding act got_or
  open-acted x = x.of p R s b

  pub keep-acted : {j₁ : List ℕ} {a : Answer} → Batched keep_batch j j₁ a → Acted p R (got Keep n) s j s j₁ a
  unfolding act got_or
  keep-acted x = x.of p R s b

pub back-acted : {p : Profile} {R : ℕ} {s j s₁ j₁ : List ℕ} {a : Answer} (n : ℕ) → Settled p R (take_back (books_of p R s j)) s j s₁ j₁ a → Acted p R (got Back n) s j s₁ j₁ a
unfolding act got_or
back-acted n h = h
