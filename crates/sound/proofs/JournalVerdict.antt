-- The test of a lent journal as the code asks it: what each part gives to the next, and that all of them passed is the whole. Assumes nothing.
use Prim.Native.Nat.{ℕ, ◌+◌, ◌-◌, ◌*◌, ◌≤◌, ◌<◌}
use native.Mathlib.Nat.{zero-div, mul-le-mul, le_refl}
use native.Mathlib.Omega.{arith}
use mathlib.Core.Path.{◌≡◌, refl, sym, ap, ◌∙◌, subst}
use mathlib.Core.Bool.{Bool, true, false, ◌&&◌}
use mathlib.Core.List.{List, [], ◌∷◌, map}
use lib.Dec.{eqb, leb}
use lib.ListN.{length, get_or, drop}
use borrow.Author.Tests.{leb-true, eqb-true}
use Rattle.values.specs.Basic.{maybe}
use Rattle.values.specs.Bytes.{leqb, zeros, Bytes}
use Rattle.values.proofs.Scans.{leqb-eq}
use Rattle.areas.specs.Counted.{count_at}
use Rattle.areas.specs.Sorted.{In}
use Rattle.rules.specs.declared.profile.Profile.{Profile}
use Rattle.rules.specs.Profile.{Indexed}
use Rattle.rules.specs.State.{Table}
use Rattle.rules.specs.Journal.{Event, unwound, roomy}
use Rattle.rules.specs.Layout.{parse, places_of}
use Rattle.rules.specs.Sound.{all, every, laid, valid, backed, good_event, sound}
use Rattle.rules.specs.Pages.{used_at, event_width, journal_length, read_event, event_record, open_image, journal_image, journal_places, parse_journal, right_journal, sound_books}
use Rattle.rules.proofs.Tests.{and_left, and_right, all_head, all_tail}
use Rattle.rules.proofs.Lists.{bool_same}
use Rattle.rules.proofs.Trip.{table-good}
use Rattle.rules.proofs.Valid.{valid-of}
use Rattle.rules.proofs.Removed.{with_rows}
use Rattle.rules.proofs.Whole.{places-image, sound-image, sound-is}
use Rattle.laid.specs.Store.{Coded, LaidStore, Store}
use Rattle.laid.proofs.Stores.{held-state, laid-store, store-valid, store-catalog}
use Rattle.journal.specs.Page.{Paging}
use Rattle.journal.specs.Turn.{events_in, Batch}
use Rattle.journal.specs.Back.{rows_of, events_of, Halfway, Unwinds, Rewinds}
use Rattle.sound.specs.Tested.{Schemed}
use Rattle.sound.specs.Journal.{journal_laid, is_event, pages_in, taken_back, sound_journal}
use Rattle.sound.proofs.Pieces.{zeros-piece}
use Rattle.sound.proofs.RecordPieces.{every-both}
use Rattle.sound.proofs.PlacePieces.{places-many, journal-piece}

-- ---- the length

module _ (p : Profile) (j : List ℕ) where
  pub header-short : length j < 3 → journal_places p j ≡ 0
  unfolding journal_places
  header-short h =
      let z : length j - 3 ≡ 0 = omega arith in
      rw (z, zero-div)

  pub no_header : length j < 3 → false ≡ right_journal p j
  unfolding right_journal all
  no_header h = rw (header-short h)

  pub record RightJournal : Type 0 where
    pub least : 1 ≤ journal_places p j
    pub most : journal_places p j ≤ 8192
    pub long : length j ≡ 3 + journal_places p j * event_width p

  pub right-journal : right_journal p j ≡ true → RightJournal
  unfolding right_journal journal_length
  right-journal h =
      let h1 = all_tail _ _ h in
      record { least = leb-true _ _ (all_head _ _ h); most = leb-true _ _ (all_head _ _ h1); long = eqb-true _ _ (all_head _ _ (all_tail _ _ h1)) }

  -- the same, for a check that knows no more than that the length is right
  pub journal_long : right_journal p j ≡ true → (right_journal p j ≡ true) × (length j ≡ 3 + journal_places p j * event_width p)
  journal_long h = (h, (right-journal h).long)

  -- so many places lie inside
  pub used-inside : (n w : ℕ) → w ≡ event_width p → right_journal p j ≡ true → n ≤ journal_places p j → 3 + n * w ≤ length j
  used-inside n w e h l =
      let q : n * w ≤ journal_places p j * w = mul-le-mul l (le_refl w) in
      omega (arith, (right-journal h).long, ap (λ (x : ℕ). journal_places p j * x) e)

  -- then the places in use are no more than there are
  pub laid-few : journal_laid p j ≡ true → count_at used_at 2 j ≤ journal_places p j
  unfolding journal_laid
  laid-few h = leb-true _ _ (all_head _ _ (all_tail _ _ h))

-- ---- the whole

first_two : (a b : Bool) → all (true ∷ a ∷ b ∷ []) ≡ (a && b)
unfolding all
first_two true true = refl
first_two true false = refl
first_two false b = refl

middle : (a : Bool) → all (true ∷ a ∷ true ∷ []) ≡ a
unfolding all
middle true = refl
middle false = refl

journal-tests : (e s z g r v : Bool) → ((e && (s && z)) && all (true ∷ g ∷ r ∷ v ∷ [])) ≡ all (all (e ∷ true ∷ z ∷ []) ∷ (s && g) ∷ (r && v) ∷ [])
unfolding all
journal-tests true true true true true true = refl
journal-tests true true true true true false = refl
journal-tests true true true true false v = refl
journal-tests true true true false r v = refl
journal-tests true true false g r v = refl
journal-tests true false true g r v = refl
journal-tests true false false g r v = refl
journal-tests false s z g r v = refl

none-fit : (l e z g r v x y : Bool) → (l && all (false ∷ g ∷ r ∷ v ∷ [])) ≡ all (all (e ∷ false ∷ z ∷ []) ∷ x ∷ y ∷ [])
unfolding all
none-fit true true z g r v x y = refl
none-fit true false z g r v x y = refl
none-fit false true z g r v x y = refl
none-fit false false z g r v x y = refl

pub wrong_journal : (p : Profile) (R : ℕ) (s j : List ℕ) → right_journal p j ≡ false → sound_journal p R s j ≡ false
unfolding sound_journal all
wrong_journal p R s j h = rw h

-- no batch is open
pub closed_verdict : (p : Profile) (R : ℕ) (s j : List ℕ) → right_journal p j ≡ true → eqb (get_or j 0 0) 0 ≡ true → sound_journal p R s j ≡ zeros j
unfolding sound_journal backed journal_image parse_journal maybe journal_length
closed_verdict p R s j h o =
    rw (h, o)
    (ap (λ (b : Bool). all (true ∷ b ∷ true ∷ [])) (zeros-piece (3 + journal_places p j * event_width p) j (right-journal p j h).long) ∙ middle (zeros j))

module _ {p : Profile} {R : ℕ} {s : List ℕ} (b : Store p R s) where
  pub store-schemed : Schemed p R s
  unfolding valid laid
  store-schemed = record { catalog = store-catalog p R s b; faults = all_head _ _ (all_tail _ _ (all_tail _ _ (all_tail _ _ (all_tail _ _ (all_head _ _ b.valid))))) }

  few-columns : (t : Table) → In t (parse p R s).tables → length t.columns ≤ p.columns
  few-columns t m = (table-good p t ((store-valid p R s b).good-tables t m)).few

  -- a batch is open
  module _ (j : List ℕ) (bytes : Bytes j) (h : right_journal p j ≡ true) (o : eqb (get_or j 0 0) 0 ≡ false) where
    abbrev ts : List Table
    ts = (parse p R s).tables

    abbrev J : ℕ
    J = journal_places p j

    abbrev es : List Event
    es = map (read_event p (parse p R s).tables) (pages_in p j)

    long : length j ≡ journal_length p (journal_places p j)
    unfolding journal_length
    long = (right-journal p j h).long

    many : length es ≡ count_at used_at 2 j
    many = places-many p ts b.coded few-columns j bytes J long

    piece : count_at used_at 2 j ≤ journal_places p j → leqb (open_image p (journal_places p j) (map (read_event p (parse p R s).tables) (pages_in p j))) j
        ≡ (eqb 1 (get_or j 0 0) && (every (λ c. leqb (event_record p (read_event p (parse p R s).tables c)) c) (pages_in p j) && zeros (drop (3 + count_at used_at 2 j * event_width p) j)))
    piece l = journal-piece p ts b.coded few-columns j bytes J long l

    opened : sound_journal p R s j
        ≡ (leqb (open_image p J es) j
        && all (leb (length es) J ∷ every (good_event ts) es ∷ roomy R es (rows_of p R s) ∷ valid p R (with_rows (parse p R s) (unwound es (rows_of p R s))) ∷ []))
    unfolding sound_journal backed journal_image parse_journal pages_in maybe
    opened = rw (h, o) (first_two _ _)

    pub open_verdict : sound_journal p R s j ≡ all (journal_laid p j ∷ every (is_event p (parse p R s).tables) (pages_in p j) ∷ taken_back p R s j ∷ [])
    unfolding journal_laid is_event taken_back events_in pages_in
    open_verdict = opened ∙ go (leb (count_at used_at 2 j) J) refl
      where
        go : (q : Bool) → leb (count_at used_at 2 j) J ≡ q
            → (leqb (open_image p J es) j
            && all (leb (length es) J ∷ every (good_event ts) es ∷ roomy R es (rows_of p R s) ∷ valid p R (with_rows (parse p R s) (unwound es (rows_of p R s))) ∷ []))
            ≡ all (all (eqb 1 (get_or j 0 0) ∷ leb (count_at used_at 2 j) J ∷ zeros (drop (3 + count_at used_at 2 j * event_width p) j) ∷ [])
            ∷ every (λ c. leqb (event_record p (read_event p ts c)) c && good_event ts (read_event p ts c)) (pages_in p j)
            ∷ (roomy R es (rows_of p R s) && valid p R (with_rows (parse p R s) (unwound es (rows_of p R s)))) ∷ [])
        go true e =
            rw (many, e, piece (leb-true _ _ e), every-both (λ c. leqb (event_record p (read_event p ts c)) c) (read_event p ts) (good_event ts) (pages_in p j))
            (journal-tests (eqb 1 (get_or j 0 0)) (every (λ c. leqb (event_record p (read_event p ts c)) c) (pages_in p j)) (zeros (drop (3 + count_at used_at 2 j * event_width p) j))
            (every (good_event ts) es) (roomy R es (rows_of p R s)) (valid p R (with_rows (parse p R s) (unwound es (rows_of p R s)))))
        go false e =
            rw (many, e)
            (none-fit (leqb (open_image p J es) j) (eqb 1 (get_or j 0 0)) (zeros (drop (3 + count_at used_at 2 j * event_width p) j)) (every (good_event ts) es)
            (roomy R es (rows_of p R s)) (valid p R (with_rows (parse p R s) (unwound es (rows_of p R s))))
            (every (λ c. leqb (event_record p (read_event p ts c)) c && good_event ts (read_event p ts c)) (pages_in p j))
            (roomy R es (rows_of p R s) && valid p R (with_rows (parse p R s) (unwound es (rows_of p R s)))))

    -- where the places are a journal's, the batch can be taken back place by place
    pub open-batch : Paging p → journal_laid p j ≡ true → every (is_event p (parse p R s).tables) (pages_in p j) ≡ true → Batch p R s j
    unfolding journal_laid is_event events_in pages_in
    open-batch k l e =
        let l1 = all_tail _ _ l in
        let few : count_at used_at 2 j ≤ J = leb-true _ _ (all_head _ _ l1) in
        let first : eqb 1 (get_or j 0 0) ≡ true = all_head _ _ l in
        let last : zeros (drop (3 + count_at used_at 2 j * event_width p) j) ≡ true = all_head _ _ (all_tail _ _ l1) in
        let q = sym (every-both (λ c. leqb (event_record p (read_event p ts c)) c) (read_event p ts) (good_event ts) (pages_in p j)) ∙ e in
        let whole : every (λ c. leqb (event_record p (read_event p ts c)) c) (pages_in p j) ≡ true = and_left _ (every (good_event ts) es) q in
        record {
          store = laid-store p R s b;
          paging = k;
          most = (right-journal p j h).most;
          few = omega (arith, many, few);
          good = and_right (every (λ c. leqb (event_record p (read_event p ts c)) c) (pages_in p j)) _ q;
          bytes = sym (leqb-eq (open_image p J es) j (piece few ∙ rw (first, whole, last)));
        }

-- ---- taken back, tested and put forth again

-- bytes that are laid out are sound just where what they hold is valid
laid-sound : (p : Profile) (R : ℕ) (s : List ℕ) → LaidStore p R s → 1 ≤ R → sound p s ≡ valid p R (parse p R s)
laid-sound p R s b l =
    let v = held-state p R s b in
    let n : places_of p s ≡ R = ap (places_of p) b.bytes ∙ places-image p b.coded.known b.indexed R b.places (parse p R s) v in
    bool_same (sound p s) (valid p R (parse p R s))
    (λ h. subst (λ (m : ℕ). valid p m (parse p m s) ≡ true) n (valid-of p (places_of p s) (parse p (places_of p s) s) (sound-is p s h).valid))
    (λ h. subst (λ (x : List ℕ). sound p x ≡ true) (sym b.bytes) (sound-image p b.coded.known b.indexed R b.places (parse p R s) v h l))

module _ {p : Profile} {R : ℕ} {s j : List ℕ} {i : ℕ} {s₁ j₁ : List ℕ} (u : Unwinds p R s j i s₁ j₁) where
  pub tested : 1 ≤ R → {w : Bool} → w ≡ (eqb i 0 && sound p s₁) → w ≡ taken_back p R s j
  unfolding taken_back
  tested l e = e ∙ go (eqb i 0) refl
    where
      go : (q : Bool) → eqb i 0 ≡ q
          → (q && sound p s₁) ≡ (roomy R (events_of p R s j) (rows_of p R s) && valid p R (with_rows (parse p R s) (unwound (events_of p R s j) (rows_of p R s))))
      go true h =
          let m : Halfway p R s j 0 s₁ j₁ = subst (λ (n : ℕ). Halfway p R s j n s₁ j₁) (eqb-true i 0 h) u.half in
          rw (u.all, h) (laid-sound p R s₁ m.batch.store l ∙ ap (valid p R) m.state)
      go false h = rw (u.all, h)

  pub restored : {s₂ j₂ : List ℕ} → Rewinds p R s₁ j₁ i s₂ j₂ → (s₂ ≡ s) × (j₂ ≡ j)
  restored r = r.forth s j u.half

-- ---- both buffers

module _ (p : Profile) (s j : List ℕ) where
  pub unsound_books : sound p s ≡ false → sound_books p s j ≡ false
  unfolding sound_books all
  unsound_books h = rw h

  pub sound_both : sound p s ≡ true → (R : ℕ) → R ≡ places_of p s → sound_books p s j ≡ sound_journal p R s j
  unfolding sound_books sound_journal all
  sound_both h R f = rw (h, f) refl

  pub sound-store : Coded p → Indexed p → sound p s ≡ true → (R : ℕ) → R ≡ places_of p s → Store p R s
  sound-store k i h R f =
      let x = sound-is p s h in
      rw f
      (record {
        coded = k;
        indexed = i;
        some = x.least;
        places = x.most;
        valid = valid-of p (places_of p s) (parse p (places_of p s) s) x.valid;
        bytes = sym x.laid;
      })

pub ruleset lengths = (header-short, journal_long)
