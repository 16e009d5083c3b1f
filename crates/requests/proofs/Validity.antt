-- A record of bytes that is read says a readable request, so it keeps right books right; what lent buffers are promised where they are sound
-- and where they are not. Assumes nothing.
use Prim.Native.Nat.{ℕ, zero, suc, ◌-◌}
use mathlib.Core.Path.{◌≡◌, refl, ◌∙◌, ap, subst}
use mathlib.Core.Bool.{Bool, true, false, cond}
use mathlib.Core.List.{List, ◌∷◌}
use lib.Dec.{eqb}
use lib.ListN.{length, take, drop}
use Rattle.values.specs.Bytes.{Bytes}
use Rattle.values.proofs.Packing.{drop-bytes}
use Rattle.forms.specs.Read.{Read, got, broken}
use Rattle.rules.specs.declared.profile.Profile.{Profile}
use Rattle.rules.specs.Request.{Answer}
use Rattle.rules.specs.Refusal.{StoreUnsound}
use Rattle.rules.specs.Profile.{Indexed}
use Rattle.rules.specs.Journal.{Books}
use Rattle.rules.specs.Layout.{places_of}
use Rattle.rules.specs.Request.{Request, said, no}
use Rattle.rules.specs.Step.{Outcome, refused, changed}
use Rattle.rules.specs.Sound.{every}
use Rattle.rules.specs.Pages.{books_of, sound_books}
use Rattle.rules.specs.Readable.{readable}
use Rattle.rules.proofs.Backed.{Right}
use Rattle.rules.proofs.Tests.{by_cond, and_both}
use Rattle.journal.specs.Page.{Paging}
use Rattle.journal.specs.Books.{Booked, BytesOf, Settled}
use Rattle.journal.proofs.Booking.{right_of, next-are, next-booked, booked-sound}
use Rattle.records.specs.declared.frame.Framed.{Framed}
use Rattle.records.specs.declared.frame.Framed.TheVariants.{Whole, Skip, More, Cut, Done}
use Rattle.records.specs.Record.{request_of}
use Rattle.records.specs.Frame.{framed}
use Rattle.operations.specs.Told.{outcome_of}
use Rattle.requests.specs.Stream.{whole_as, whole_of, lent_outcome, Lent, in_frame, some_records, records_in}
use Rattle.requests.specs.Demanded.{requests_in}
use Rattle.mapping.proofs.Read.{Gives, gives, given, gives-broken, read-readable}
use Rattle.requests.proofs.Running.{kept-right, part_bytes}

module _ (p : Profile) where
  -- ---- what a record of bytes says is readable

  abbrev pub Readable : Read Request → Type 0
  Readable w = Gives (λ q. readable p q ≡ true) w

  record-readable : (s : List ℕ) → Bytes s → Readable (request_of s p)
  record-readable s h = gives (λ q. readable p q ≡ true) (request_of s p) (λ q n e. read-readable s h p q n e)

  whole_by : (rec : List ℕ) → Bytes rec → (f : Framed) → Readable (whole_as p rec f)
  whole_by rec h (Whole n) =
      by_cond Readable (eqb n (length rec)) _ _ (λ e. record-readable (drop 2 rec) (drop-bytes 2 rec h)) (λ e. gives-broken (λ q. readable p q ≡ true) 0)
  whole_by rec h (Skip n) = gives-broken (λ q. readable p q ≡ true) 0
  whole_by rec h More = gives-broken (λ q. readable p q ≡ true) 0
  whole_by rec h Cut = gives-broken (λ q. readable p q ≡ true) 0
  whole_by rec h Done = gives-broken (λ q. readable p q ≡ true) 0

  pub whole-readable : (rec : List ℕ) → Bytes rec → Readable (whole_of p rec)
  unfolding whole_of
  whole-readable rec h = whole_by rec h (framed rec true)

  -- ---- so is all that an input says

  abbrev AllReadable : List (Read Request) → Type 0
  AllReadable ws = every (readable p) (requests_in ws) ≡ true

  one_more : (w : Read Request) (ws : List (Read Request)) → Readable w → AllReadable ws → AllReadable (w ∷ ws)
  unfolding Gives requests_in every
  one_more (got q n) ws h k = and_both h k
  one_more (broken x) ws h k = k

  frame-readable : (s : List ℕ) → Bytes s → (f : Framed) (rest : ℕ → List (Read Request)) → ((k : ℕ) → AllReadable (rest k)) → AllReadable (in_frame p s f rest)
  unfolding requests_in every
  frame-readable s h (Whole k) rest r = one_more _ (rest k) (record-readable (take (k - 2) (drop 2 s)) (part_bytes (k - 2) 2 s h)) (r k)
  frame-readable s h (Skip k) rest r = r k
  frame-readable s h More rest r = refl
  frame-readable s h Cut rest r = refl
  frame-readable s h Done rest r = refl

  some-readable : (n : ℕ) (s : List ℕ) (ended : Bool) → Bytes s → AllReadable (some_records p n s ended)
  unfolding some_records requests_in every
  some-readable zero s ended h = refl
  some-readable (suc n) s ended h = frame-readable s h (framed s ended) _ (λ k. some-readable n (drop k s) ended (drop-bytes k s h))

  pub records-readable : (s : List ℕ) (ended : Bool) → Bytes s → every (readable p) (requests_in (records_in p s ended)) ≡ true
  unfolding records_in
  records-readable s ended h = some-readable (length s) s ended h

  -- ---- so a record keeps right books right

  pub outcome-right : (R : ℕ) (b : Books) (w : Read Request) → Readable w → Right p R b → Right p R (changed (outcome_of p R b w).changes b)
  outcome-right R b w h ok = kept-right p R b w (λ q n e. given (λ q. readable p q ≡ true) w q n h e) ok

  -- ---- lent buffers: refused with 38 where they are not sound, else what the record's outcome says

  module _ (w : Read Request) (s j s₁ j₁ : List ℕ) (a : Answer) (l : Lent p w s j s₁ j₁ a) where
    abbrev R : ℕ
    R = places_of p s

    abbrev books : Books
    books = books_of p R s j

    abbrev o : Outcome
    o = outcome_of p R books w

    abbrev unsound : Outcome
    unsound = refused (no StoreUnsound 0)

    pub lent-unsound : sound_books p s j ≡ false → (said a ≡ no StoreUnsound 0) × ((s₁ ≡ s) × (j₁ ≡ j))
    unfolding lent_outcome
    lent-unsound h = (l.answer ∙ ap (λ (b : Bool). (cond b o unsound).reply) h, l.unsound h)

    pub lent-sound : sound_books p s j ≡ true → Settled p R o s j s₁ j₁ a
    unfolding lent_outcome
    lent-sound h =
        record {
          answer = l.answer ∙ ap (λ (b : Bool). (cond b o unsound).reply) h;
          bytes = subst (λ (b : Bool). BytesOf p R (changed (cond b o unsound).changes books) s₁ j₁) h (l.sound h);
        }

    -- sound buffers stay sound, and hold the books with the outcome's changes
    module _ (g : Paging p) (i : Indexed p) (f : Readable w) (h : sound_books p s j ≡ true) where
      before : Booked p R s j
      before = booked-sound g i s j h

      right : Right p R (changed o.changes books)
      right = outcome-right R books w f (right_of before)

      pub lent-booked : Booked p R s₁ j₁
      lent-booked = next-booked before o.changes right (lent-sound h).bytes

      pub lent-are : books_of p R s₁ j₁ ≡ changed o.changes books
      lent-are = next-are before o.changes right (lent-sound h).bytes
