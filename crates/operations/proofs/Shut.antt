-- Operations outside a batch: 44 while one is open; else the journal's bytes stay. Assumes nothing.
use Prim.Native.Nat.{ℕ, ◌≤◌}
use native.Mathlib.Omega.{arith}
use mathlib.Core.Path.{◌≡◌, refl, sym, ◌∙◌, ap}
use mathlib.Core.Bool.{Bool, true, false, not, cond}
use mathlib.Core.List.{List, [], ◌∷◌, ◌++◌, map}
use mathlib.Core.Option.{none, some}
use lib.Dec.{eqb}
use lib.ListN.{length, get_or}
use Rattle.values.specs.Basic.{is_some}
use Rattle.areas.specs.Sorted.{All}
use Rattle.rules.specs.declared.profile.Profile.{Profile}
use Rattle.rules.specs.Request.{Answer}
use Rattle.rules.specs.Refusal.{InsideBatch}
use Rattle.rules.specs.State.{Name, Table, Row, State, rows_of}
use Rattle.rules.specs.Journal.{Event, Journal, is_open}
use Rattle.rules.specs.Pages.{journal_image, parse_journal, books_of}
use Rattle.rules.specs.Request.{said, no}
use Rattle.rules.specs.Step.{Change, created, dropped, added, removed, replaced, opened, kept, taken_back, note, note_all, Outcome, outside, create, drop}
use Rattle.rules.proofs.Backed.{closed}
use Rattle.rules.proofs.Tests.{by-option, by_cond}
use Rattle.laid.specs.Store.{Stored}
use Rattle.journal.specs.Books.{Booked, Settled}
use Rattle.journal.proofs.Booking.{laid-books, journaled}
use Rattle.journal.proofs.Noting.{book-long}
use Rattle.store.proofs.Settling.{left_alone}

-- ---- whether a batch is open, as the code asks

pub opens_as : (p : Profile) (R : ℕ) (s j : List ℕ) → not (eqb (get_or j 0 0) 0) ≡ is_open (books_of p R s j).journal
unfolding parse_journal
opens_as p R s j = go (eqb (get_or j 0 0) 0) _
  where
    go : (b : Bool) (es : List Event) → not b ≡ is_some (cond b none (some es))
    go true es = refl
    go false es = refl

-- ---- changes that open no batch are noted in none

abbrev Quiet : Change → Type 0
Quiet (created t) = Unit {0}
Quiet (dropped t) = Unit {0}
Quiet (added r) = Unit {0}
Quiet (removed r) = Unit {0}
Quiet (replaced old new) = Unit {0}
Quiet opened = ⊥
Quiet kept = Unit {0}
Quiet (taken_back rs) = Unit {0}

quiet-note : (c : Change) → Quiet c → (j : Journal) → j.batch ≡ none → note c j ≡ j
unfolding note
quiet-note (created t) q j e = refl
quiet-note (dropped t) q j e = refl
quiet-note (added r) q j e = rw e
quiet-note (removed r) q j e = rw e
quiet-note (replaced old new) q j e = rw e
quiet-note opened q j e = absurd q
quiet-note kept q j e = rw e
quiet-note (taken_back rs) q j e = rw e

quiet-notes : (cs : List Change) → All Quiet cs → (j : Journal) → j.batch ≡ none → note_all cs j ≡ j
unfolding note_all
quiet-notes [] q j e = refl
quiet-notes (c ∷ cs) q j e = ap (note_all cs) (quiet-note c q.0 j e) ∙ quiet-notes cs q.1 j e

pub create-quiet : (p : Profile) (s : State) (t : Table) → All Quiet (create p s t).changes
unfolding create
create-quiet p s t = by-option (λ (o : Outcome). All Quiet o.changes) _ _ _ (λ e. (tt, tt)) (λ x e. tt)

all-removed : (rs : List Row) (t : Table) → All Quiet (map removed rs ++ (dropped t ∷ []))
all-removed [] t = (tt, tt)
all-removed (r ∷ rs) t = (tt, all-removed rs t)

pub drop-quiet : (s : State) (n : Name) (x : Bool) → All Quiet (drop s n x).changes
unfolding drop
drop-quiet s n x =
    by-option (λ (o : Outcome). All Quiet o.changes) _ _ _
    (λ e. by_cond (λ (o : Outcome). All Quiet o.changes) x _ _ (λ f. tt) (λ f. tt))
    (λ t e. by-option (λ (o : Outcome). All Quiet o.changes) _ _ _ (λ f. all-removed (rows_of s.rows n) t) (λ y f. tt))

-- ---- 44, or what comes to the same as without a journal

pub journal-there : {p : Profile} {R : ℕ} {s j : List ℕ} → Booked p R s j → 1 ≤ length j
journal-there b = omega (arith, book-long (journaled (laid-books b)))

module _ {p : Profile} {R : ℕ} {s j : List ℕ} (b : Booked p R s j) (o : Outcome) where
  pub inside-refused : not (eqb (get_or j 0 0) 0) ≡ true → {a : Answer} → said a ≡ no InsideBatch 0 → Settled p R (outside (books_of p R s j) o) s j s j a
  inside-refused h {a} g = left_alone b (outside (books_of p R s j) o) (no InsideBatch 0) (rw (sym (opens_as p R s j) ∙ h)) a g

  pub outside-settled : not (eqb (get_or j 0 0) 0) ≡ false → All Quiet o.changes → {s₁ : List ℕ} {a : Answer} → Stored p R o s s₁ a
      → Settled p R (outside (books_of p R s j) o) s j s₁ j a
  outside-settled h q w =
      let c : is_open (books_of p R s j).journal ≡ false = sym (opens_as p R s j) ∙ h in
      rw c
      (record {
        answer = w.answer;
        bytes = record {
          store = w.bytes;
          journal = b.bytes ∙ ap (journal_image p) (sym (quiet-notes o.changes q (books_of p R s j).journal (closed (books_of p R s j).journal.batch c)));
        };
      })
