-- A store and its journal under a write: how many places there are left, what is noted, both as they were, and both laid out after rows went.
-- Assumes nothing.
use Prim.Native.Nat.{ℕ}
use native.Mathlib.Omega.{arith}
use mathlib.Core.Path.{◌≡◌, refl, sym, ◌∙◌, ap, subst}
use mathlib.Core.Bool.{Bool, true, false, not}
use mathlib.Core.List.{List, [], ◌∷◌, ◌++◌}
use mathlib.Core.Option.{Option, none, some, map}
use lib.Dec.{eqb}
use lib.ListN.{length, length-append}
use borrow.Author.Tests.{not-true, not-false}
use Rattle.values.specs.Basic.{maybe}
use Rattle.values.specs.Value.{Value}
use Rattle.rules.specs.declared.profile.Profile.{Profile}
use Rattle.rules.specs.Request.{Answer}
use Rattle.rules.specs.Profile.{row_width}
use Rattle.rules.specs.State.{Name, Row}
use Rattle.rules.specs.Journal.{Event, absent, stood, lacks, Books}
use Rattle.rules.specs.declared.answer.Refusal as R
use Rattle.rules.specs.declared.answer.Refusal.TheVariants as V
use Rattle.rules.specs.declared.answer.Refused.{Refused}
use Rattle.rules.specs.Refusal.{number_of, refusal_of}
use Rattle.rules.specs.Request.{Reply, said, told}
use Rattle.rules.specs.Step.{Change, changed, Outcome, refused, is_accepted, apply_all, note_all}
use Rattle.rules.specs.Sound.{every, good_event}
use Rattle.rules.specs.Layout.{row_record}
use Rattle.rules.specs.Pages.{journal_length, event_width, event_record, books_of}
use Rattle.rules.proofs.Tests.{and_left, and_right, and_both, every_of}
use Rattle.rules.proofs.Valid.{LaidState}
use Rattle.rules.proofs.Backed.{More, has-place}
use Rattle.journal.specs.Page.{Paged, Roomy, has_places, with_place, Noted}
use Rattle.journal.specs.Books.{LaidBooks, Booked, Settled}
use Rattle.journal.proofs.Noting.{book-length, has-places-is}
use Rattle.journal.proofs.Writing.{row-place}
use Rattle.journal.proofs.Booking.{LaidPages, booked-bytes, journaled, noted-places}

-- ---- places left

module _ {p : Profile} {R : ℕ} {s j : List ℕ} (b : LaidBooks p R s j) where
  pub paged-of : Paged p j
  paged-of = record { journal = (books_of p R s j).journal; holds = journaled b }

  tells : (n : ℕ) {r : Bool} → r ≡ has_places p n j → r ≡ not (lacks (books_of p R s j).journal n)
  tells n e = e ∙ has-places-is (journaled b) n

  pub has_room : (n : ℕ) {r : Bool} → r ≡ has_places p n j → r ≡ true → lacks (books_of p R s j).journal n ≡ false
  has_room n e h = not-true _ (sym (tells n e) ∙ h)

  pub no_room : (n : ℕ) {r : Bool} → r ≡ has_places p n j → r ≡ false → lacks (books_of p R s j).journal n ≡ true
  no_room n e h = not-false _ (sym (tells n e) ∙ h)

  pub told-lacks : (m : ℕ) {n : ℕ} {r : Bool} → r ≡ has_places p m j → m ≡ n → not r ≡ lacks (books_of p R s j).journal n
  told-lacks m {n} e f =
      ap not (tells m e ∙ ap (λ (k : ℕ). not (lacks (books_of p R s j).journal k)) f) ∙ twice (lacks (books_of p R s j).journal n)
    where
      twice : (x : Bool) → not (not x) ≡ x
      twice true = refl
      twice false = refl

  module _ (l : lacks (books_of p R s j).journal 1 ≡ false) where
    pub roomy_of : Roomy p j
    roomy_of = record { journal = (books_of p R s j).journal; holds = journaled b; room = l }

-- ---- what is noted, as the code has it: a record's bytes, a name and a key

module _ {p : Profile} {j j₁ : List ℕ} where
  pub noted-row : {l : List ℕ} (r : Row) → l ≡ row_record p r → length l ≡ row_width p → j₁ ≡ with_place p (2 ∷ l) j → Noted p (stood r) j j₁
  unfolding event_record
  noted-row {l} r e w h = record { wide = ap (λ (x : List ℕ). length (2 ∷ x)) (sym e) ∙ row-place p l w; bytes = h ∙ ap (λ (x : List ℕ). with_place p (2 ∷ x) j) e }

  pub noted-key : {m n : Name} {k v : Value} → m ≡ n → k ≡ v → length (event_record p (absent m k)) ≡ event_width p → j₁ ≡ with_place p (event_record p (absent m k)) j → Noted p (absent n v) j j₁
  noted-key {m} {n} {k} {v} e f w h = subst (λ (x : Event). Noted p x j j₁) (rw (e, f) refl) (record { wide = w; bytes = h })

-- ---- after changes the journal is as long as it was

pub same-places : {p : Profile} {R : ℕ} {s j s₁ j₁ : List ℕ} → LaidBooks p R s j → LaidBooks p R s₁ j₁ → (cs : List Change) → books_of p R s₁ j₁ ≡ changed cs (books_of p R s j)
    → length j₁ ≡ length j
same-places {p} {R} {s} {j} b c cs e =
    book-length (journaled c)
    ∙ ap (journal_length p) (ap (λ (x : Books). x.journal.places) e ∙ noted-places cs (books_of p R s j).journal)
    ∙ sym (book-length (journaled b))

-- ---- answers

-- a refusal of the code is one
pub refusal-refuses : (k : R.Refusal) → eqb (number_of (refusal_of k)) 0 ≡ false
refusal-refuses V.RecordBroken = refl
refusal-refuses V.UnknownTable = refl
refusal-refuses V.TableExists = refl
refusal-refuses V.EmptyTableName = refl
refusal-refuses V.NoColumns = refl
refusal-refuses V.KeyColumnOutOfRange = refl
refusal-refuses V.EmptyColumnName = refl
refusal-refuses V.KeyNullable = refl
refusal-refuses V.KeyNotUnique = refl
refusal-refuses V.KeyIndexed = refl
refusal-refuses V.NullableWithoutDefault = refl
refusal-refuses V.NullDefault = refl
refusal-refuses V.DefaultKind = refl
refusal-refuses V.UniqueNotIndexed = refl
refusal-refuses V.ReferenceNotIndexed = refl
refusal-refuses V.UnknownTarget = refl
refusal-refuses V.TargetKind = refl
refusal-refuses V.ColumnTwice = refl
refusal-refuses V.TablesFull = refl
refusal-refuses V.TableReferenced = refl
refusal-refuses V.TooManyValues = refl
refusal-refuses V.MapCount = refl
refusal-refuses V.NoDefault = refl
refusal-refuses V.MapColumn = refl
refusal-refuses V.RowSize = refl
refusal-refuses V.KeyUndefined = refl
refusal-refuses V.KeyExists = refl
refusal-refuses V.WrongKind = refl
refusal-refuses V.NullNotAllowed = refl
refusal-refuses V.TargetMissing = refl
refusal-refuses V.ValueExists = refl
refusal-refuses V.RowReferenced = refl
refusal-refuses V.RowsFull = refl
refusal-refuses V.RowAbsent = refl
refusal-refuses V.KeysNotRising = refl
refusal-refuses V.NotIndexed = refl
refusal-refuses V.StoreUnsound = refl
refusal-refuses V.JournalFull = refl
refusal-refuses V.InsideBatch = refl
refusal-refuses V.BatchOutOfTurn = refl

pub told-refuses : (f : Refused) → is_accepted (told f) ≡ false
told-refuses f = refusal-refuses f.kind

-- ---- both stay as they are

pub left_alone : {p : Profile} {R : ℕ} {s j : List ℕ} → Booked p R s j → (o : Outcome) (r : Reply) → o ≡ refused r → (a : Answer) → said a ≡ r → Settled p R o s j s j a
unfolding apply_all note_all
left_alone b o r e a h = rw e (record { answer = h; bytes = booked-bytes b })

-- ---- rows changed, and noted

every_append : {A : Type 0} (f : A → Bool) (xs ys : List A) → every f xs ≡ true → every f ys ≡ true → every f (xs ++ ys) ≡ true
unfolding every
every_append f [] ys h k = k
every_append f (x ∷ xs) ys h k = and_both (and_left (f x) _ h) (every_append f xs ys (and_right (f x) _ h) k)

module _ {p : Profile} {R : ℕ} {b z : Books} (l : LaidPages p R b) (x : More R b z) (v : LaidState p R z.store) where
  pub more-pages : LaidPages p R z
  unfolding maybe every
  more-pages = go b.journal.batch refl
    where
      go : (o : Option (List Event)) → b.journal.batch ≡ o → LaidPages p R z
      go none e =
          let f : z.journal.batch ≡ none = x.batch ∙ ap (map (λ (es : List Event). es ++ x.notes)) e in
          record { store = v; most = rw x.places l.most; few = rw f (omega arith); good = rw f refl }
      go (some es) e =
          let f : z.journal.batch ≡ some (es ++ x.notes) = x.batch ∙ ap (map (λ (es : List Event). es ++ x.notes)) e in
          record {
            store = v;
            most = rw x.places l.most;
            few = rw f (omega (arith, has-place b.journal es (length x.notes) e x.few, length-append es x.notes, x.places));
            good = rw f (rw x.tables (every_append (good_event b.store.tables) es x.notes (rw e at l.good) (every_of (good_event b.store.tables) x.notes x.good)));
          }
