-- A batch over lent buffers (document 02, T-06): taken back, both are byte for byte as at its opening, whatever was asked inside; kept, the store stays
-- and the journal is zeros; every answer leaves both sound, 38 leaves them as they were. Assumes nothing.
use Prim.Native.Nat.{ℕ}
use native.Mathlib.Omega.{arith}
use mathlib.Core.Path.{◌≡◌, refl, sym, ap, ◌∙◌, subst}
use mathlib.Core.Bool.{Bool, true, false}
use mathlib.Core.List.{List, [], ◌∷◌, ◌++◌}
use lib.ListN.{length, replicate}
use lib.Seq.{take_all}
use Rattle.values.specs.Bytes.{Bytes}
use Rattle.forms.specs.Read.{Read, got, broken}
use Rattle.rules.specs.Request.{Answer}
use Rattle.rules.specs.Profile.{full}
use Rattle.rules.specs.Journal.{Books, is_open}
use Rattle.rules.specs.Layout.{image, parse, places_of}
use Rattle.rules.specs.Request.{Request, Open, Keep, Back}
use Rattle.rules.specs.Step.{after, changed, run_after}
use Rattle.rules.specs.Sound.{every}
use Rattle.rules.specs.Readable.{readable}
use Rattle.rules.specs.Demand.{Demand3}
use Rattle.rules.specs.Pages.{journal_length, parse_journal, books_of, sound_books}
use Rattle.rules.proofs.Backed.{Right}
use Rattle.rules.specs.Batch.{goes_on}
use Rattle.rules.proofs.Batches.{taken_back_lem}
use Rattle.rules.proofs.Demand.{demand-of}
use Rattle.rules.proofs.Noted.{kept-zero, kept_store}
use Rattle.rules.proofs.Paged.{sound-books-is}
use Rattle.rules.proofs.Tests.{and_left, and_right, and_both}
use Rattle.rules.proofs.Widths.{full-known, full-indexed}
use Rattle.journal.specs.Books.{Booked, BytesOf}
use Rattle.journal.proofs.Booking.{right_of, booked-bytes, noted-places, booked-sound, sound-booked}
use Rattle.operations.specs.Told.{outcome_of}
use Rattle.requests.specs.declared.entry.Halt.TheVariants.{Unsound}
use Rattle.requests.specs.declared.entry.Ran.{Ran}
use Rattle.requests.specs.Demanded.{requests_in}
use Rattle.requests.specs.Stream.{whole_of, Lent, records_in, books_after, Many}
use Rattle.requests.proofs.Entries.{books-run}
use Rattle.requests.proofs.Lending.{full-paging}
use Rattle.requests.proofs.OneAnswer.{bytes_one}
use Rattle.requests.proofs.Running.{books-more}
use Rattle.requests.proofs.Validity.{whole-readable, records-readable, lent-sound, lent-booked}

-- ---- of any records, over books

pub requests-append : (ws us : List (Read Request)) → requests_in (ws ++ us) ≡ requests_in ws ++ requests_in us
unfolding requests_in
requests-append [] us = refl
requests-append (got q n ∷ ws) us = ap (λ (qs : List Request). q ∷ qs) (requests-append ws us)
requests-append (broken x ∷ ws) us = requests-append ws us

pub every_front : (f : Request → Bool) (qs us : List Request) → every f (qs ++ us) ≡ true → every f qs ≡ true
unfolding every
every_front f [] us h = refl
every_front f (q ∷ qs) us h = and_both (and_left (f q) _ h) (every_front f qs us (and_right (f q) _ h))

module _ (R : ℕ) where
  pub after-places : (b : Books) (ws : List (Read Request)) → (books_after full R b ws).journal.places ≡ b.journal.places
  unfolding books_after
  after-places b [] = refl
  after-places b (w ∷ ws) = after-places (changed (outcome_of full R b w).changes b) ws ∙ noted-places (outcome_of full R b w).changes b.journal

  -- opened, any records but keep and back, broken ones and refused ones too, and taken back: the same books
  pub back-books : (b : Books) → Right full R b → is_open b.journal ≡ false → (n m : ℕ) (ws : List (Read Request))
      → every (readable full) (requests_in ws) ≡ true → every goes_on (requests_in ws) ≡ true
      → books_after full R b (got Open n ∷ (ws ++ (got Back m ∷ []))) ≡ b
  unfolding requests_in
  back-books b ok h n m ws r g =
      books-run R b (got Open n ∷ (ws ++ (got Back m ∷ [])))
      ∙ ap (λ (qs : List Request). run_after full R b (Open ∷ qs)) (requests-append ws (got Back m ∷ []))
      ∙ taken_back_lem full R b ok h (requests_in ws) r g

  -- kept: the store stays, and every byte of the journal is zero
  pub kept-bytes : (b : Books) {s₁ j₁ : List ℕ} → BytesOf full R (after full R b Keep) s₁ j₁
      → (s₁ ≡ image full R b.store) × (j₁ ≡ replicate (journal_length full b.journal.places) 0)
  kept-bytes b y = (y.store ∙ ap (image full R) (kept_store full R b), y.journal ∙ kept-zero full R b)

  -- demand 3 of the store's bytes, inside a batch and outside
  pub booked-demand : {s j : List ℕ} → Booked full R s j → Demand3 full R s
  booked-demand {s} {j} b =
      subst (Demand3 full R) (sym b.store.bytes)
      (demand-of full R (parse full R s) (right_of b).valid full-known full-indexed b.store.places)

-- a sound journal has the length that its places say
pub sound-long : (s j : List ℕ) → sound_books full s j ≡ true → journal_length full (books_of full (places_of full s) s j).journal.places ≡ length j
unfolding parse_journal
sound-long s j h = sym (sound-books-is full s j h).long

-- ---- one record

module _ (s j s₁ j₁ : List ℕ) (a : Answer) (h : sound_books full s j ≡ true) where
  pub one_kept : (n : ℕ) → Lent full (got Keep n) s j s₁ j₁ a → (s₁ ≡ s) × (j₁ ≡ replicate (length j) 0)
  unfolding outcome_of after
  one_kept n l =
      let b = booked-sound full-paging full-indexed s j h in
      let z = kept-bytes (places_of full s) (books_of full (places_of full s) s j) (lent-sound full (got Keep n) s j s₁ j₁ a l h).bytes in
      (z.0 ∙ sym b.store.bytes, z.1 ∙ ap (λ (k : ℕ). replicate k 0) (sound-long s j h))

  module _ (rec : List ℕ) (g : Bytes rec) (l : Lent full (whole_of full rec) s j s₁ j₁ a) where
    after_one : Booked full (places_of full s) s₁ j₁
    after_one = lent-booked full (whole_of full rec) s j s₁ j₁ a l full-paging full-indexed (whole-readable full rec g) h

    pub one-sound : sound_books full s₁ j₁ ≡ true
    one-sound = sound-booked after_one

    pub one-demand : Demand3 full (places_of full s) s₁
    one-demand = booked-demand (places_of full s) after_one

-- ---- many

module _ (input : List ℕ) (ended : Bool) (i : ℕ) (s j s₁ j₁ out done : List ℕ) (r : Ran) (x : Many full input ended i s j s₁ j₁ out done r) where
  abbrev R : ℕ
  R = places_of full s

  abbrev b : Books
  b = books_of full R s j

  -- 38: no record is read, both buffers are as they were
  pub many-refused : sound_books full s j ≡ false → (r.halt ≡ Unsound) × (r.count ≡ 0) × (s₁ ≡ s) × (j₁ ≡ j)
  many-refused h = let y = x.refuses h in (y.halt, y.nothing.2, y.bytes.0, y.bytes.1)

  module _ (h : sound_books full s j ≡ true) where
    -- wherever the run came to its end, inside a batch too
    pub many-sound : sound_books full s₁ j₁ ≡ true
    many-sound = sound-booked (x.runs h).kept

    pub many-demand : Demand3 full R s₁
    many-demand = booked-demand R (x.runs h).kept

    -- every record is answered
    module _ (all : r.count ≡ length (records_in full input ended)) where
      all-bytes : (ws : List (Read Request)) → records_in full input ended ≡ ws → BytesOf full R (books_after full R b ws) s₁ j₁
      all-bytes ws e =
          subst (λ (us : List (Read Request)). BytesOf full R (books_after full R b us) s₁ j₁)
          (take_all r.count (records_in full input ended) (omega (arith, all)) ∙ e) (x.runs h).bytes

      -- open, any records but keep and back, back: every byte as at the start
      pub batch-back : Bytes input → is_open b.journal ≡ false → (n m : ℕ) (ws : List (Read Request))
          → records_in full input ended ≡ got Open n ∷ (ws ++ (got Back m ∷ [])) → every goes_on (requests_in ws) ≡ true
          → (s₁ ≡ s) × (j₁ ≡ j)
      unfolding requests_in every
      batch-back k o n m ws e g =
          let start = booked-sound full-paging full-indexed s j h in
          let f : every (readable full) (requests_in ws ++ requests_in (got Back m ∷ [])) ≡ true =
          subst (λ (qs : List Request). every (readable full) qs ≡ true) (requests-append ws (got Back m ∷ []))
          (and_right (readable full Open) _ (subst (λ (us : List (Read Request)). every (readable full) (requests_in us) ≡ true) e (records-readable full input ended k)))
          in
          bytes_one full R (back-books R b (right_of start) o n m ws (every_front (readable full) (requests_in ws) _ f) g)
          (all-bytes (got Open n ∷ (ws ++ (got Back m ∷ []))) e) (booked-bytes start)

      -- keep at the end: the store as the records before left it, the journal zeros
      pub batch-kept : (n : ℕ) (ws : List (Read Request)) → records_in full input ended ≡ ws ++ (got Keep n ∷ [])
          → (s₁ ≡ image full R (books_after full R b ws).store) × (j₁ ≡ replicate (length j) 0)
      unfolding outcome_of after
      batch-kept n ws e =
          let y = subst (λ (c : Books). BytesOf full R c s₁ j₁) (books-more full R b ws (got Keep n)) (all-bytes (ws ++ (got Keep n ∷ [])) e) in
          let z = kept-bytes R (books_after full R b ws) y in
          (z.0, z.1 ∙ ap (λ (k : ℕ). replicate (journal_length full k) 0) (after-places R b ws) ∙ ap (λ (k : ℕ). replicate k 0) (sound-long s j h))
