-- A journal's bytes and what they stand for say the same: places are read back, and so is the whole; a store and its journal that are right are read back
-- from their images, and two sound buffers are the images of what they are read as. Assumes nothing.
use Prim.Native.Nat.{ℕ, zero, suc, ◌+◌, ◌-◌, ◌*◌, ◌/◌, ◌≤◌}
use native.Mathlib.Nat.{mul-div_cancel, add-sub_cancel_left, mul-le-mul_right, one-mul}
use native.Mathlib.Omega.{arith}
use mathlib.Core.Path.{◌≡◌, refl, sym, ◌∙◌, ap, subst}
use mathlib.Core.Bool.{true}
use mathlib.Core.List.{List, [], ◌∷◌, ◌++◌, map}
use mathlib.Core.Option.{Option, none, some}
use lib.ListN.{length, get_or, replicate, length-append, length-map, length-replicate}
use lib.Seq.{drop_at}
use borrow.Author.Tests.{leb-true, le-leb, eqb-true, eq-eqb}
use Rattle.values.specs.Basic.{maybe}
use Rattle.values.specs.Bytes.{pad, leqb}
use Rattle.values.specs.Value.{Value, normalised}
use Rattle.values.specs.Cell.{name_width, cell_width, name_cell, value_cell}
use Rattle.values.proofs.Packing.{length-pad}
use Rattle.values.proofs.Cells.{length-name, name_back}
use Rattle.values.proofs.Orders.{same-exact}
use Rattle.values.proofs.Scans.{leqb-refl, leqb-eq}
use Rattle.areas.specs.Sorted.{In}
use Rattle.areas.specs.Counted.{framed, Frame}
use Rattle.areas.proofs.Counting.{framed-length, framed-records}
use Rattle.areas.proofs.Sorting.{find-in}
use Rattle.rules.specs.declared.profile.Profile.{Profile}
use Rattle.rules.specs.Profile.{Indexed, places_most, row_width, Known}
use Rattle.rules.specs.State.{Name, Table, Row, is_named, table_named, key_of}
use Rattle.rules.specs.Journal.{Event, absent, stood, Books, batch_of}
use Rattle.rules.specs.Layout.{image, places_of}
use Rattle.rules.specs.Sound.{good_table, good_cells, good_event, canonical, good_name}
use Rattle.rules.specs.Pages.{journal_most, used_at, journal_header, event_width, journal_length, event_record, read_event, open_image, journal_image, journal_places, parse_journal, books_of, right_journal, sound_books}
use Rattle.rules.proofs.Tests.{all_head, all_tail, all_nil, all_cons, some_is}
use Rattle.rules.proofs.Lists.{map_back, map-wide}
use Rattle.rules.proofs.Valid.{row_laid, valid-laid, valid-of}
use Rattle.rules.proofs.Keeps.{named-is}
use Rattle.rules.proofs.Backed.{Right, backed-is, backed-of}
use Rattle.rules.proofs.Trip.{name-short, canonical-normal, cell-long, cell-back, table-good, GoodRow, row-long, row_back}
use Rattle.rules.proofs.Whole.{places-image, parse-image, sound-image, Sound, sound-is, sound-of}

one-times : (n w : ℕ) → 1 ≤ n → w ≤ n * w
one-times n w h = omega (arith, mul-le-mul_right w h, one-mul w)

first-zero : (n : ℕ) → get_or {A = ℕ} (replicate n 0) 0 0 ≡ 0
first-zero zero = refl
first-zero (suc n) = refl

-- ---- a place

-- a place in the terms of the store's own records
pub data Placed (p : Profile) (ts : List Table) : Event → Type 0 where
  nothing : (n : Name) (k : Value) → good_name n ≡ true → canonical k ≡ true → Placed p ts (absent n k)
  a-row : (r : Row) (t : Table) → GoodRow p r → table_named ts r.table ≡ some t → t.name ≡ r.table → length r.cells ≡ length t.columns
      → r.key ≡ normalised (key_of t r.cells) → Placed p ts (stood r)

module _ (p : Profile) (w : cell_width ≤ p.cell) (few : 1 ≤ p.columns) (ts : List Table) where
  one-fits : (k : Value) → canonical k ≡ true → length (value_cell p.cell k) ≤ p.columns * p.cell
  one-fits k h = rw (cell-long p.cell k w h) (one-times p.columns p.cell few)

  pub event-long : (e : Event) → Placed p ts e → length (event_record p e) ≡ event_width p
  unfolding event_record event_width row_width
  event-long (absent n k) (nothing n' k' h c) =
      let a = length-name n (name-short n h) in
      let l = length-pad (p.columns * p.cell) (value_cell p.cell k) (one-fits k c) in
      simp length-append (omega arith)
  event-long (stood r) (a-row r' t g e f n k) = ap suc (row-long p w r g) ∙ omega arith

  pub event-back : (e : Event) → Placed p ts e → read_event p ts (event_record p e) ≡ e
  unfolding event_record read_event pad
  event-back (absent n k) (nothing n' k' h c) =
      let tail : List ℕ = value_cell p.cell k ++ replicate (p.columns * p.cell - length (value_cell p.cell k)) 0 in
      rw (name_back n tail (name-short n h), drop_at (name_cell n) tail name_width (length-name n (name-short n h)), cell-back p.cell k (replicate (p.columns * p.cell - length (value_cell p.cell k)) 0) w c)
  event-back (stood r) (a-row r' t g e f n k) = ap stood (row_back p w r g ts t e f n k)

  -- ---- the whole

  -- how many places a length has room for
  pub places-back : (J : ℕ) → (l : ℕ) → l ≡ journal_length p J → (l - journal_header) / event_width p ≡ J
  unfolding journal_length event_width
  places-back J l e = ap (λ (n : ℕ). (n - journal_header) / (1 + row_width p)) e ∙ ap (λ (n : ℕ). n / (1 + row_width p)) (add-sub_cancel_left journal_header (J * (1 + row_width p))) ∙ mul-div_cancel J (omega arith)

  module _ (J : ℕ) (most : J ≤ journal_most) (es : List Event) (le : length es ≤ J) (placed : (e : Event) → In e es → Placed p ts e) where
    frame : Frame (1 ∷ []) used_at 2 [] journal_header (event_width p) J (map (event_record p) es)
    frame =
        record {
          start = refl;
          end = refl;
          wide = map-wide (event_width p) (event_record p) es (λ e m. event-long e (placed e m));
          few = rw length-map le;
          small = omega (arith, most);
        }

    pub open-length : length (open_image p J es) ≡ journal_length p J
    unfolding open_image journal_length
    open-length = framed-length (1 ∷ []) used_at 2 [] journal_header (event_width p) J (map (event_record p) es) [] frame ∙ omega arith

    open-first : get_or (open_image p J es) 0 0 ≡ 1
    unfolding open_image framed
    open-first = refl

    pub open-back : parse_journal p ts (open_image p J es) ≡ record { places = J; batch = some es }
    unfolding parse_journal journal_places open_image
    open-back =
        rw (
          open-first,
          places-back J (length (open_image p J es)) open-length,
          framed-records (1 ∷ []) used_at 2 [] journal_header (event_width p) J (map (event_record p) es) [] frame,
          map_back (event_record p) (read_event p ts) es (λ e m. event-back e (placed e m)),
        )

  pub closed-back : (J : ℕ) → parse_journal p ts (journal_image p (record { places = J; batch = none })) ≡ record { places = J; batch = none }
  unfolding parse_journal journal_places journal_image maybe
  closed-back J = rw (places-back J (length {A = ℕ} (replicate (journal_length p J) 0)) (length-replicate {A = ℕ} (journal_length p J) 0), first-zero (journal_length p J))

-- ---- places as the test has them

-- a good place of good schemas
pub placed_of : (p : Profile) (ts : List Table) → ((t : Table) → In t ts → good_table p t ≡ true) → (e : Event) → good_event ts e ≡ true → Placed p ts e
unfolding good_event good_cells
placed_of p ts good (absent n k) h =
    let q = some_is (table_named ts n) (all_head _ _ h) in
    let g = table-good p q.0 (good q.0 (find-in (is_named n) ts q.0 q.1).0) in
    nothing n k (subst (λ (m : Name). good_name m ≡ true) (named-is ts n q.0 q.1) g.name) (all_head _ _ (all_tail _ _ h))
placed_of p ts good (stood r) h =
    let h1 = all_tail _ _ h in
    let h2 = all_tail _ _ h1 in
    let w = row_laid ts r (all_head _ _ h) (all_head _ _ h1) (all_head _ _ h2) (all_head _ _ (all_tail _ _ h2)) in
    let c = w.good in
    let g = table-good p w.table (good w.table (find-in (is_named r.table) ts w.table w.named).0) in
    a-row r w.table
    (record { name = all_head _ _ c; cells = all_head _ _ (all_tail _ _ (all_tail _ _ c)); few = omega (arith, w.full, g.few) })
    w.named (named-is ts r.table w.table w.named) w.full
    (sym (canonical-normal r.key (all_head _ _ (all_tail _ _ c))) ∙ same-exact r.key _ w.key)

-- ---- the two buffers

module _ (p : Profile) (k : Known p) (R : ℕ) (b : Books) (ok : Right p R b) (most : b.journal.places ≤ journal_most) where
  abbrev J : ℕ
  J = b.journal.places

  placed : (es : List Event) → b.journal.batch ≡ some es → (e : Event) → In e es → Placed p b.store.tables e
  placed es f e m = placed_of p b.store.tables ok.valid.good-tables e ((ok.backed es f).good e m)

  pub journal-back : parse_journal p b.store.tables (journal_image p b.journal) ≡ b.journal
  unfolding journal_image maybe
  journal-back = go b.journal.batch refl
    where
      go : (o : Option (List Event)) → b.journal.batch ≡ o → parse_journal p b.store.tables (journal_image p (batch_of J o)) ≡ batch_of J o
      go none e = closed-back p k.cell k.some-column b.store.tables J
      go (some es) e = open-back p k.cell k.some-column b.store.tables J most es (ok.backed es e).few (placed es e)

  pub journal-length : length (journal_image p b.journal) ≡ journal_length p J
  unfolding journal_image maybe
  journal-length = go b.journal.batch refl
    where
      go : (o : Option (List Event)) → b.journal.batch ≡ o → length (journal_image p (batch_of J o)) ≡ journal_length p J
      go none e = length-replicate {A = ℕ} (journal_length p J) 0
      go (some es) e = open-length p k.cell k.some-column b.store.tables J most es (ok.backed es e).few (placed es e)

  journal-places : journal_places p (journal_image p b.journal) ≡ J
  unfolding journal_places
  journal-places = places-back p k.cell k.some-column b.store.tables J _ journal-length

  module _ (i : Indexed p) (less : R ≤ places_most) where
    -- both are read back from their bytes
    pub books-back : books_of p R (image p R b.store) (journal_image p b.journal) ≡ b
    books-back = rw (parse-image p k i R less b.store (valid-laid ok.valid), journal-back)

    -- and the bytes pass the test
    pub books-sound : 1 ≤ R → 1 ≤ J → sound_books p (image p R b.store) (journal_image p b.journal) ≡ true
    unfolding sound_books right_journal
    books-sound least one =
        let v = valid-laid ok.valid in
        rw (places-image p k i R less b.store v, parse-image p k i R less b.store v, journal-back, journal-places)
        (all_cons _ _ (sound-image p k i R less b.store v (valid-of p R b.store ok.valid) least)
        (all_cons _ _
        (all_cons _ _ (le-leb 1 J one) (all_cons _ _ (le-leb J journal_most most) (all_cons _ _ (eq-eqb _ _ journal-length) all_nil)))
        (all_cons _ _ (leqb-refl (journal_image p b.journal)) (all_cons _ _ (backed-of p R b ok.backed) all_nil))))

-- what the test says, and this is all that it says
pub record SoundBooks (p : Profile) (s j : List ℕ) : Type 0 where
  pub store : Sound p s
  pub least : 1 ≤ journal_places p j
  pub most : journal_places p j ≤ journal_most
  pub long : length j ≡ journal_length p (journal_places p j)
  pub laid : journal_image p (books_of p (places_of p s) s j).journal ≡ j
  pub right : Right p (places_of p s) (books_of p (places_of p s) s j)

module _ (p : Profile) (s j : List ℕ) where
  abbrev its : Books
  its = books_of p (places_of p s) s j

  pub sound-books-is : sound_books p s j ≡ true → SoundBooks p s j
  unfolding sound_books right_journal
  sound-books-is h =
      let st = sound-is p s (all_head _ _ h) in
      let h1 = all_tail _ _ h in
      let h2 = all_tail _ _ h1 in
      let r = all_head _ _ h1 in
      let r1 = all_tail _ _ r in
      record {
        store = st;
        least = leb-true _ _ (all_head _ _ r);
        most = leb-true _ _ (all_head _ _ r1);
        long = eqb-true _ _ (all_head _ _ (all_tail _ _ r1));
        laid = leqb-eq (journal_image p its.journal) j (all_head _ _ h2);
        right = record { valid = st.valid; backed = backed-is p (places_of p s) its (all_head _ _ (all_tail _ _ h2)) };
      }

  pub sound-books-of : SoundBooks p s j → sound_books p s j ≡ true
  unfolding sound_books right_journal
  sound-books-of x =
      all_cons _ _ (sound-of p s x.store)
      (all_cons _ _ (all_cons _ _ (le-leb _ _ x.least) (all_cons _ _ (le-leb _ _ x.most) (all_cons _ _ (eq-eqb _ _ x.long) all_nil)))
      (all_cons _ _ (ap (λ (l : List ℕ). leqb l j) x.laid ∙ leqb-refl j)
      (all_cons _ _ (backed-of p (places_of p s) its x.right.backed) all_nil)))
