-- A store and its journal are read back from their bytes: of books that are laid out, of sound ones, and after a request. Assumes nothing.
use Prim.Native.Nat.{ℕ, ◌≤◌}
use native.Mathlib.Omega.{arith}
use mathlib.Core.Path.{◌≡◌, refl, sym, ◌∙◌, ap, subst}
use mathlib.Core.Bool.{true}
use mathlib.Core.List.{List, [], ◌∷◌}
use mathlib.Core.Option.{Option, none, some}
use lib.ListN.{length}
use Rattle.values.specs.Basic.{maybe}
use Rattle.rules.specs.declared.profile.Profile.{Profile}
use Rattle.rules.specs.Profile.{Indexed, places_most}
use Rattle.rules.specs.Journal.{Event, Journal, Books, batch_of}
use Rattle.rules.specs.Layout.{image, parse, places_of}
use Rattle.rules.specs.Request.{Request, said}
use Rattle.rules.specs.Request.{Answer}
use Rattle.rules.specs.Step.{Change, created, dropped, added, removed, replaced, opened, kept, taken_back, note, note_all, apply_all, changed, Outcome, after, step}
use Rattle.rules.specs.Readable.{readable}
use Rattle.rules.specs.Sound.{every, good_event}
use Rattle.rules.specs.Pages.{journal_most, event_width, event_record, journal_image, journal_places, parse_journal, books_of, sound_books}
use Rattle.rules.proofs.Tests.{every-at, every_of}
use Rattle.rules.proofs.Lists.{map-wide}
use Rattle.rules.proofs.Valid.{LaidState, valid-laid, laid_of, valid-of, valid-is}
use Rattle.rules.proofs.Whole.{parse-image}
use Rattle.rules.proofs.Backed.{Right, backed-is, backed-of, step_right}
use Rattle.rules.proofs.Paged.{event-long, open-back, closed-back, books-sound, sound-books-is}
use Rattle.laid.specs.Store.{LaidStore}
use Rattle.laid.proofs.Stores.{held-state}
use Rattle.journal.specs.Page.{Paging, in_use, Journaled}
use Rattle.journal.specs.Books.{LaidBooks, Booked, BytesOf, Settled}
use Rattle.journal.proofs.Events.{placed}

-- ---- laid out

-- books whose store is laid out and whose journal has places of its tables
pub record LaidPages (p : Profile) (R : ℕ) (b : Books) : Type 0 where
  pub store : LaidState p R b.store
  pub most : b.journal.places ≤ journal_most
  pub few : length (in_use b.journal) ≤ b.journal.places
  pub good : every (good_event b.store.tables) (in_use b.journal) ≡ true

-- a profile and R row places for which bytes can be read back
pub record Fitting (p : Profile) (R : ℕ) : Type 0 where
  pub paging : Paging p
  pub indexed : Indexed p
  pub places : R ≤ places_most

module _ {p : Profile} {R : ℕ} {b : Books} (f : Fitting p R) (h : LaidPages p R b) where
  abbrev J : ℕ
  J = b.journal.places

  its-place : (e : Event) → good_event b.store.tables e ≡ true → length (event_record p e) ≡ event_width p
  its-place e g =
      event-long p f.paging.coded.known.cell f.paging.coded.known.some-column b.store.tables e
      (placed p R b.store h.store f.paging.coded.known e g)

  pub laid-journal-back : parse_journal p b.store.tables (journal_image p b.journal) ≡ b.journal
  unfolding journal_image maybe
  laid-journal-back = go b.journal.batch refl
    where
      go : (o : Option (List Event)) → b.journal.batch ≡ o → parse_journal p b.store.tables (journal_image p (batch_of J o)) ≡ batch_of J o
      go none e = closed-back p f.paging.coded.known.cell f.paging.coded.known.some-column b.store.tables J
      go (some es) e =
          open-back p f.paging.coded.known.cell f.paging.coded.known.some-column b.store.tables J h.most es (rw e at h.few)
          (λ x m. placed p R b.store h.store f.paging.coded.known x (every-at (good_event b.store.tables) es (rw e at h.good) x m))

  pub journaled-of : {j : List ℕ} → j ≡ journal_image p b.journal → Journaled p b.journal j
  journaled-of e =
      record {
        paging = f.paging;
        most = h.most;
        few = h.few;
        wide = map-wide (event_width p) (event_record p) (in_use b.journal) (λ x m. its-place x (every-at (good_event b.store.tables) (in_use b.journal) h.good x m));
        bytes = e;
      }

  module _ {s j : List ℕ} (y : BytesOf p R b s j) where
    pub laid-parse : parse p R s ≡ b.store
    laid-parse = ap (parse p R) y.store ∙ parse-image p f.paging.coded.known f.indexed R f.places b.store h.store

    pub laid-are : books_of p R s j ≡ b
    laid-are = rw (laid-parse, y.journal, laid-journal-back)

    pub laid-store-of : LaidStore p R s
    laid-store-of =
        record {
          coded = f.paging.coded;
          indexed = f.indexed;
          places = f.places;
          laid = laid_of p R (parse p R s) (subst (LaidState p R) (sym laid-parse) h.store);
          bytes = y.store ∙ ap (image p R) (sym laid-parse);
        }

    its-places : journal_places p j ≡ J
    unfolding parse_journal
    its-places = ap (λ (x : Books). x.journal.places) laid-are

    pub laid-books-of : LaidBooks p R s j
    laid-books-of =
        record {
          store = laid-store-of;
          paging = f.paging;
          most = rw its-places h.most;
          few = subst (λ (x : Books). length (in_use x.journal) ≤ journal_places p j) (sym laid-are) (rw its-places h.few);
          good = subst (λ (x : Books). every (good_event x.store.tables) (in_use x.journal) ≡ true) (sym laid-are) h.good;
          bytes = y.journal ∙ ap (λ (x : Books). journal_image p x.journal) (sym laid-are);
        }

module _ {p : Profile} {R : ℕ} {s j : List ℕ} (b : LaidBooks p R s j) where
  pub laid-fitting : Fitting p R
  laid-fitting = record { paging = b.paging; indexed = b.store.indexed; places = b.store.places }

  pub laid-pages : LaidPages p R (books_of p R s j)
  unfolding parse_journal
  laid-pages = record { store = held-state p R s b.store; most = b.most; few = b.few; good = b.good }

  pub journaled : Journaled p (books_of p R s j).journal j
  journaled = journaled-of laid-fitting laid-pages b.bytes

-- ---- a journal keeps its places

note-places : (c : Change) (j : Journal) → (note c j).places ≡ j.places
unfolding note
note-places (created t) j = refl
note-places (dropped t) j = refl
note-places (added r) j = refl
note-places (removed r) j = refl
note-places (replaced old new) j = refl
note-places opened j = refl
note-places kept j = refl
note-places (taken_back rs) j = refl

pub noted-places : (cs : List Change) (j : Journal) → (note_all cs j).places ≡ j.places
unfolding note_all
noted-places [] j = refl
noted-places (c ∷ cs) j = noted-places cs (note c j) ∙ note-places c j

-- ---- sound

module _ {p : Profile} {R : ℕ} {b : Books} (r : Right p R b) where
  -- what can be taken back is laid out
  pub right-pages : b.journal.places ≤ journal_most → LaidPages p R b
  unfolding maybe every
  right-pages most = go b.journal.batch refl
    where
      go : (o : Option (List Event)) → b.journal.batch ≡ o → LaidPages p R b
      go none e = record { store = valid-laid r.valid; most = most; few = rw e (omega arith); good = rw e refl }
      go (some es) e =
          record {
            store = valid-laid r.valid;
            most = most;
            few = rw e (r.backed es e).few;
            good = rw e (every_of (good_event b.store.tables) es (r.backed es e).good);
          }

  module _ (f : Fitting p R) (some : 1 ≤ R) (least : 1 ≤ b.journal.places) (most : b.journal.places ≤ journal_most) {s j : List ℕ} (y : BytesOf p R b s j) where
    pub books-are : books_of p R s j ≡ b
    books-are = laid-are f (right-pages most) y

    pub booked-of : Booked p R s j
    unfolding parse_journal
    booked-of =
        let l = laid-books-of f (right-pages most) y in
        record {
          store =
              record {
                coded = f.paging.coded;
                indexed = f.indexed;
                some = some;
                places = f.places;
                valid = valid-of p R (parse p R s) (subst (λ (x : Books). Right p R x) (sym books-are) r).valid;
                bytes = l.store.bytes;
              };
          paging = f.paging;
          some = subst (λ (n : ℕ). 1 ≤ n) (sym (ap (λ (x : Books). x.journal.places) books-are)) least;
          most = l.most;
          bytes = l.bytes;
          backed = backed-of p R (books_of p R s j) (subst (λ (x : Books). Right p R x) (sym books-are) r).backed;
        }

module _ {p : Profile} {R : ℕ} {s j : List ℕ} (b : Booked p R s j) where
  pub right_of : Right p R (books_of p R s j)
  right_of = record { valid = valid-is p R (parse p R s) b.store.valid; backed = backed-is p R (books_of p R s j) b.backed }

  pub booked-fitting : Fitting p R
  booked-fitting = record { paging = b.paging; indexed = b.store.indexed; places = b.store.places }

  pub booked-bytes : BytesOf p R (books_of p R s j) s j
  booked-bytes = record { store = b.store.bytes; journal = b.bytes }

  pub laid-books : LaidBooks p R s j
  unfolding parse_journal
  laid-books = laid-books-of booked-fitting (right-pages right_of b.most) booked-bytes

  -- ---- after an outcome that changes nothing, a refusal or a read

  pub settled-still : (o : Outcome) → o.changes ≡ [] → (a : Answer) → said a ≡ o.reply → Settled p R o s j s j a
  unfolding apply_all note_all
  settled-still o e a h =
      let z : changed o.changes (books_of p R s j) ≡ books_of p R s j = ap (λ (cs : List Change). changed cs (books_of p R s j)) e in
      record { answer = h; bytes = subst (λ (x : Books). BytesOf p R x s j) (sym z) booked-bytes }

  -- ---- after changes that keep books right

  module _ (cs : List Change) (r : Right p R (changed cs (books_of p R s j))) {s₁ j₁ : List ℕ} (y : BytesOf p R (changed cs (books_of p R s j)) s₁ j₁) where
    same : (note_all cs (books_of p R s j).journal).places ≡ journal_places p j
    unfolding parse_journal
    same = noted-places cs (books_of p R s j).journal

    pub next-are : books_of p R s₁ j₁ ≡ changed cs (books_of p R s j)
    next-are = books-are r booked-fitting b.store.some (rw same b.some) (rw same b.most) y

    pub next-booked : Booked p R s₁ j₁
    next-booked = booked-of r booked-fitting b.store.some (rw same b.some) (rw same b.most) y

  -- after a request
  module _ (q : Request) (g : readable p q ≡ true) {s₁ j₁ : List ℕ} (y : BytesOf p R (changed (step p R (books_of p R s j) q).changes (books_of p R s j)) s₁ j₁) where
    stepped : Right p R (changed (step p R (books_of p R s j) q).changes (books_of p R s j))
    unfolding after
    stepped = step_right p R (books_of p R s j) q g right_of

    pub step-are : books_of p R s₁ j₁ ≡ changed (step p R (books_of p R s j) q).changes (books_of p R s j)
    step-are = next-are (step p R (books_of p R s j) q).changes stepped y

    pub step-booked : Booked p R s₁ j₁
    step-booked = next-booked (step p R (books_of p R s j) q).changes stepped y

-- ---- the test of both says it, and this is all that it says

pub booked-sound : {p : Profile} → Paging p → Indexed p → (s j : List ℕ) → sound_books p s j ≡ true → Booked p (places_of p s) s j
booked-sound {p} g i s j h =
    let x = sound-books-is p s j h in
    record {
      store = record { coded = g.coded; indexed = i; some = x.store.least; places = x.store.most; valid = valid-of p (places_of p s) (parse p (places_of p s) s) x.store.valid; bytes = sym x.store.laid };
      paging = g;
      some = x.least;
      most = x.most;
      bytes = sym x.laid;
      backed = backed-of p (places_of p s) (books_of p (places_of p s) s j) x.right.backed;
    }

pub sound-booked : {p : Profile} {R : ℕ} {s j : List ℕ} → Booked p R s j → sound_books p s j ≡ true
unfolding parse_journal
sound-booked {p} {R} {s} {j} b =
    let r = right_of b in
    let t = books-sound p b.paging.coded.known R (books_of p R s j) r b.most b.store.indexed b.store.places b.store.some b.some in
    rw (b.store.bytes, b.bytes) t
