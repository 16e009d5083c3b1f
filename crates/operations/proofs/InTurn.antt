-- A loop over the items that `in_turn` goes through: what remains of it comes to what the whole comes to. Assumes nothing.
use Prim.Native.Nat.{ℕ, suc, ◌+◌}
use native.Mathlib.Numerals.{add-one}
use mathlib.Core.Path.{◌≡◌, refl, sym, ap, ◌∙◌, subst}
use mathlib.Core.Bool.{true, false}
use mathlib.Core.List.{List, [], ◌∷◌}
use lib.Dec.{eqb}
use Rattle.rules.specs.declared.profile.Profile.{Profile}
use Rattle.rules.specs.Request.{Answer}
use Rattle.rules.specs.Refusal.{Refusal, number_of, refusal_of}
use Rattle.std.specs.Result.{IsErrAnd}
use Rattle.rules.specs.declared.answer.Refusal as D
use Rattle.rules.specs.declared.answer.Refusal.TheVariants as V
use Rattle.rules.specs.declared.answer.Refused.{Refused}
use Rattle.std.specs.declared.result.Result.TheVariants.{Ok, Err}
use Rattle.rules.specs.Journal.{Books}
use Rattle.rules.specs.Pages.{books_of}
use Rattle.rules.specs.Request.{Reply, said, told, ok, no}
use Rattle.rules.specs.Step.{apply_all, note_all, changed, Outcome, is_accepted, at_place, numbered, in_turn}
use Rattle.rules.proofs.Removed.{changed-append}
use Rattle.rules.proofs.Turns.{in-turn-nil, in-turn-yes, in-turn-no, numbered-accepted, numbered-no}
use Rattle.journal.specs.Books.{BytesOf, Settled}

-- ---- a refusal of the code accepts nothing

refusal-not : (k : D.Refusal) → eqb (number_of (refusal_of k)) 0 ≡ false
refusal-not V.RecordBroken = refl
refusal-not V.UnknownTable = refl
refusal-not V.TableExists = refl
refusal-not V.EmptyTableName = refl
refusal-not V.NoColumns = refl
refusal-not V.KeyColumnOutOfRange = refl
refusal-not V.EmptyColumnName = refl
refusal-not V.KeyNullable = refl
refusal-not V.KeyNotUnique = refl
refusal-not V.KeyIndexed = refl
refusal-not V.NullableWithoutDefault = refl
refusal-not V.NullDefault = refl
refusal-not V.DefaultKind = refl
refusal-not V.UniqueNotIndexed = refl
refusal-not V.ReferenceNotIndexed = refl
refusal-not V.UnknownTarget = refl
refusal-not V.TargetKind = refl
refusal-not V.ColumnTwice = refl
refusal-not V.TablesFull = refl
refusal-not V.TableReferenced = refl
refusal-not V.TooManyValues = refl
refusal-not V.MapCount = refl
refusal-not V.NoDefault = refl
refusal-not V.MapColumn = refl
refusal-not V.RowSize = refl
refusal-not V.KeyUndefined = refl
refusal-not V.KeyExists = refl
refusal-not V.WrongKind = refl
refusal-not V.NullNotAllowed = refl
refusal-not V.TargetMissing = refl
refusal-not V.ValueExists = refl
refusal-not V.RowReferenced = refl
refusal-not V.RowsFull = refl
refusal-not V.RowAbsent = refl
refusal-not V.KeysNotRising = refl
refusal-not V.NotIndexed = refl
refusal-not V.StoreUnsound = refl
refusal-not V.JournalFull = refl
refusal-not V.InsideBatch = refl
refusal-not V.BatchOutOfTurn = refl

never-accepted : (y : Refused) → is_accepted (told y) ≡ false
never-accepted y = refusal-not y.kind

-- what the exit of a `?` says that a fault was turned into
pub refused-by : (r : Answer) (k : Refusal) (i : ℕ) → IsErrAnd r (λ y. told y ≡ no k i) → said r ≡ no k i
refused-by (Ok n) k i h = absurd h
refused-by (Err y) k i h = h

-- ---- what remains

module _ {A : Type 0} (f : Books → A → Outcome) (st : Books) (xs : List A) where
  -- i items are done, store and journal are `now`, and those of `left` are to come
  pub record Remains (now : Books) (i : ℕ) (left : List A) : Type 0 where
    pub reply : (in_turn f now i left).reply ≡ (in_turn f st 0 xs).reply
    pub books : changed (in_turn f now i left).changes now ≡ changed (in_turn f st 0 xs).changes st

  pub remains-start : Remains st 0 xs
  remains-start = record { reply = refl; books = refl }

  -- none is to come: all were accepted
  module _ (now : Books) (i : ℕ) (r : Remains now i []) where
    pub end-reply : (in_turn f st 0 xs).reply ≡ ok i
    end-reply = sym r.reply ∙ ap (λ (o : Outcome). o.reply) (in-turn-nil f now i)

    pub end-books : changed (in_turn f st 0 xs).changes st ≡ now
    unfolding apply_all note_all
    end-books = sym r.books ∙ ap (λ (o : Outcome). changed o.changes now) (in-turn-nil f now i)

  -- the turn of x
  module _ (now : Books) (i : ℕ) (x : A) (left : List A) (r : Remains now i (x ∷ left)) where
    -- accepted: the others go on from what it leaves
    pub remains-next : is_accepted (f now x).reply ≡ true → Remains (changed (f now x).changes now) (i + 1) left
    remains-next h =
        let q = in-turn-yes f now i x left h in
        let next : Books = changed (f now x).changes now in
        record {
          reply = ap (λ (j : ℕ). (in_turn f next j left).reply) (add-one i) ∙ sym (ap (λ (o : Outcome). o.reply) q) ∙ r.reply;
          books =
              ap (λ (j : ℕ). changed (in_turn f next j left).changes next) (add-one i)
              ∙ sym (changed-append (f now x).changes (in_turn f next (suc i) left).changes now)
              ∙ sym (ap (λ (o : Outcome). changed o.changes now) q)
              ∙ r.books;
        }

    -- refused: the answer is its own, at its place, and its changes are the last
    pub stop-reply : is_accepted (f now x).reply ≡ false → (in_turn f st 0 xs).reply ≡ at_place i (f now x).reply
    stop-reply h = sym r.reply ∙ ap (λ (o : Outcome). o.reply) (in-turn-no f now i x left h)

    pub stop-books : is_accepted (f now x).reply ≡ false → changed (in_turn f st 0 xs).changes st ≡ changed (f now x).changes now
    stop-books h = sym r.books ∙ ap (λ (o : Outcome). changed o.changes now) (in-turn-no f now i x left h)

-- ---- over the bytes of both buffers: s₀ and j₀ at the start, s and j now

module _ {A : Type 0} (p : Profile) (R : ℕ) (f : Books → A → Outcome) (s₀ j₀ : List ℕ) (xs : List A) where
  abbrev bk₀ : Books
  bk₀ = books_of p R s₀ j₀

  -- none is to come
  pub stored-end : (s j : List ℕ) → BytesOf p R (books_of p R s j) s j → (i : ℕ) → Remains f (books_of p R s₀ j₀) xs (books_of p R s j) i [] → (a : Answer) → said a ≡ ok i
      → Settled p R (in_turn f (books_of p R s₀ j₀) 0 xs) s₀ j₀ s j a
  stored-end s j b i r a h =
      record {
        answer = h ∙ sym (end-reply f bk₀ xs (books_of p R s j) i r);
        bytes = subst (λ (x : Books). BytesOf p R x s j) (sym (end-books f bk₀ xs (books_of p R s j) i r)) b;
      }

  -- the turn of x, which was answered by a and left s₁ and j₁
  module _ (s j : List ℕ) (i : ℕ) (x : A) (left : List A) (r : Remains f (books_of p R s₀ j₀) xs (books_of p R s j) i (x ∷ left)) (s₁ j₁ : List ℕ) (a : Answer)
      (h : Settled p R (numbered i (f (books_of p R s j) x)) s j s₁ j₁ a) where
    abbrev bk : Books
    bk = books_of p R s j

    accepted-as : is_accepted (f (books_of p R s j) x).reply ≡ is_accepted (said a)
    accepted-as = sym (ap (λ (y : Reply). is_accepted y) h.answer ∙ numbered-accepted i (f bk x))

    pub stored-stops : (y : Refused) → a ≡ Err y → Settled p R (in_turn f (books_of p R s₀ j₀) 0 xs) s₀ j₀ s₁ j₁ (Err y)
    stored-stops y e =
        let no : is_accepted (f (books_of p R s j) x).reply ≡ false = accepted-as ∙ rw e (never-accepted y) in
        rw (← e)
        (record {
          answer =
              h.answer
              ∙ ap (λ (o : Outcome). o.reply) (numbered-no i (f bk x) no)
              ∙ sym (stop-reply f bk₀ xs bk i x left r no);
          bytes = subst (λ (y : Books). BytesOf p R y s₁ j₁) (sym (stop-books f bk₀ xs bk i x left r no)) h.bytes;
        })

    pub stored_next : (n : ℕ) → a ≡ Ok n → books_of p R s₁ j₁ ≡ changed (f (books_of p R s j) x).changes (books_of p R s j)
        → Remains f (books_of p R s₀ j₀) xs (books_of p R s₁ j₁) (i + 1) left
    stored_next n g e = subst (λ (z : Books). Remains f bk₀ xs z (i + 1) left) (sym e) (remains-next f bk₀ xs bk i x left r (accepted-as ∙ rw g refl))
