-- A journal's bytes: what is read of them, and a place more. Assumes nothing.
use mathlib.Core.Path.{◌≡◌, refl, sym, ap, ◌∙◌}
use mathlib.Core.Bool.{Bool, true, false, not, true≢false, false≢true, cond}
use mathlib.Core.Option.{Option, none, some}
use Prim.Native.Nat.{ℕ, zero, suc, ◌+◌, ◌-◌, ◌*◌, ◌≤◌, ◌<◌}
use native.Mathlib.Nat.{sub-zero}
use native.Mathlib.Omega.{arith}
use mathlib.Core.List.{List, [], ◌∷◌, ◌++◌, map, append-nil}
use lib.Dec.{eqb, leb, ltb}
use lib.ListN.{length, get_or, take, drop, set, replicate, length-map, length-replicate}
use borrow.Author.Tests.{le-leb, lt-leb, ltb-false, ltb-true}
use Rattle.values.specs.Basic.{maybe}
use Rattle.values.specs.Area.{record_at, with_record}
use Rattle.values.specs.Bytes.{be}
use Rattle.areas.specs.Records.{joined, area, filled, Wide}
use Rattle.areas.specs.Sorted.{insert_at, replace_at}
use Rattle.areas.specs.Counted.{framed, Frame, Fresh, Grows, count_at, grown}
use Rattle.areas.proofs.Records.{times-lt}
use Rattle.areas.proofs.Changes.{map-replace-at, map-insert-at}
use Rattle.areas.proofs.Counting.{framed-length, framed-count, grown-framed, frame-insert, opened-recorded, written-framed, record-framed, grows}
use Rattle.rules.specs.declared.profile.Profile.{Profile}
use Rattle.rules.specs.Journal.{Event, Journal, lacks}
use Rattle.rules.specs.Pages.{journal_most, used_at, journal_header, event_width, journal_length, event_record, open_image, journal_image, journal_places}
use Rattle.rules.proofs.Paged.{places-back}
use Rattle.journal.specs.Page.{Journaled, Paged, Roomy, noting, Spacious, Opened, opens, has_places, with_zeros, with_place, closed_of, Noted}

first-zero : (n : ℕ) → get_or {A = ℕ} (replicate n 0) 0 0 ≡ 0
first-zero zero = refl
first-zero (suc n) = refl

insert-last : {A : Type 0} (xs : List A) (x : A) → insert_at (length xs) x xs ≡ xs ++ (x ∷ [])
unfolding insert_at
insert-last {A = A} xs x = go xs
  where
    go : (l : List A) → take (length l) l ++ (x ∷ drop (length l) l) ≡ l ++ (x ∷ [])
    go [] = refl
    go (y ∷ l) = ap (λ (z : List A). y ∷ z) (go l)

-- ---- an open journal

module _ (p : Profile) (J : ℕ) (most : J ≤ journal_most) (es : List Event) (few : length es ≤ J) (wide : Wide (event_width p) (map (event_record p) es)) where
  abbrev rs : List (List ℕ)
  rs = map (event_record p) es

  pub open-frame : Frame (1 ∷ []) used_at 2 [] journal_header (event_width p) J (map (event_record p) es)
  open-frame = record { start = refl; end = refl; wide = wide; few = rw length-map few; small = omega (arith, most) }

  pub open-length : length (open_image p J es) ≡ journal_length p J
  unfolding open_image journal_length
  open-length = framed-length (1 ∷ []) used_at 2 [] journal_header (event_width p) J rs [] open-frame ∙ omega arith

  pub open-first : get_or (open_image p J es) 0 0 ≡ 1
  unfolding open_image framed
  open-first = refl

  pub open-used : count_at used_at 2 (open_image p J es) ≡ length es
  unfolding open_image
  open-used = framed-count (1 ∷ []) used_at 2 [] journal_header (event_width p) J rs [] open-frame ∙ length-map es (event_record p)

  pub open-record : (i : ℕ) → i < length es → record_at journal_header (event_width p) i (open_image p J es) ≡ get_or (map (event_record p) es) i []
  unfolding open_image
  open-record i h = record-framed (1 ∷ []) used_at 2 [] journal_header (event_width p) J rs [] open-frame i (rw length-map h)

  pub open-within : (i : ℕ) → i < J → journal_header + i * event_width p + event_width p ≤ length (open_image p J es)
  unfolding journal_length
  open-within i h = let t = times-lt i J (event_width p) h in omega (arith, open-length)

  -- another place i
  pub open-put : (i : ℕ) (e : Event) → length (event_record p e) ≡ event_width p → i < length es
      → with_record journal_header i (event_record p e) (open_image p J es) ≡ open_image p J (replace_at i e es)
  unfolding open_image
  open-put i e l h =
      written-framed (1 ∷ []) used_at 2 [] journal_header (event_width p) J rs [] open-frame i (event_record p e) l (rw length-map h)
      ∙ ap (λ (x : List (List ℕ)). framed (1 ∷ []) 2 [] (event_width p) J x []) (sym (map-replace-at (event_record p) i e es))

  -- a place more
  module _ (room : length es < J) where
    fresh : (r : List ℕ) → length r ≡ event_width p → Fresh (event_width p) J (length es) r (map (event_record p) es)
    fresh r l = record { width = l; at-le = rw length-map (omega arith); room = rw length-map room }

    pub open-grows : Grows (open_image p J es) used_at 2 journal_header J (length es) (event_width p)
    unfolding open_image
    open-grows = grows (1 ∷ []) used_at 2 [] journal_header (event_width p) J rs [] open-frame (length es) (omega arith) (rw length-map (omega arith)) (rw length-map room)

    pub grown-long : length (grown used_at 2 journal_header J (length es) (replicate (event_width p) 0) (open_image p J es)) ≡ journal_length p J
    unfolding open_image journal_length
    grown-long =
        let z : List ℕ = replicate (event_width p) 0 in
        let f = fresh z (length-replicate (event_width p) 0) in
        ap length (grown-framed (1 ∷ []) used_at 2 [] journal_header (event_width p) J rs [] open-frame (length es) z f)
        ∙ framed-length (1 ∷ []) used_at 2 [] journal_header (event_width p) J (insert_at (length es) z rs) [] (frame-insert (1 ∷ []) used_at 2 [] journal_header (event_width p) J rs open-frame (length es) z f)
        ∙ omega arith

    pub open-noted : (e : Event) → length (event_record p e) ≡ event_width p
        → with_record journal_header (length es) (event_record p e) (grown used_at 2 journal_header J (length es) (replicate (event_width p) 0) (open_image p J es)) ≡ open_image p J (es ++ (e ∷ []))
    unfolding open_image
    open-noted e l =
        opened-recorded (1 ∷ []) used_at 2 [] journal_header (event_width p) J rs open-frame [] (length es) (event_record p e) (fresh (event_record p e) l)
        ∙ ap (λ (x : List (List ℕ)). framed (1 ∷ []) 2 [] (event_width p) J x []) (sym (map-insert-at (event_record p) (length es) e es) ∙ ap (map (event_record p)) (insert-last es e))

-- ---- any journal

-- what is read of it: none is open, or one with places es
pub record OpenAs (p : Profile) (x : Journal) (es : List Event) (j : List ℕ) : Type 0 where
  pub batch : x.batch ≡ some es
  pub few : length es ≤ x.places
  pub wide : Wide (event_width p) (map (event_record p) es)
  pub bytes : j ≡ open_image p x.places es

module _ {p : Profile} {x : Journal} {j : List ℕ} (h : Journaled p x j) where
  pub by-batch : (Q : Type 0) → (x.batch ≡ none → j ≡ replicate (journal_length p x.places) 0 → Q) → ((es : List Event) → OpenAs p x es j → Q) → Q
  unfolding journal_image maybe
  by-batch Q f g = go x.batch refl
    where
      go : (o : Option (List Event)) → x.batch ≡ o → Q
      go none e = f e (h.bytes ∙ rw e)
      go (some es) e = g es (record { batch = e; few = rw e at h.few; wide = rw e at h.wide; bytes = h.bytes ∙ rw e })

  pub book-length : length j ≡ journal_length p x.places
  book-length =
      by-batch (length j ≡ journal_length p x.places) (λ e f. ap length f ∙ length-replicate (journal_length p x.places) 0)
      (λ es o. ap length o.bytes ∙ open-length p x.places h.most es o.few o.wide)

  pub book-long : 3 ≤ length j
  unfolding journal_length
  book-long = omega (arith, book-length)

  pub book-places : journal_places p j ≡ x.places
  unfolding journal_places
  book-places = places-back p h.paging.coded.known.cell h.paging.coded.known.some-column [] x.places (length j) book-length

  pub book-closed : opens j ≡ false → x.batch ≡ none
  book-closed c =
      by-batch (x.batch ≡ none) (λ e f. e)
      (λ es o. absurd (true≢false (sym (ap opens o.bytes ∙ ap (λ (n : ℕ). not (eqb n 0)) (open-first p x.places h.most es o.few o.wide)) ∙ c)))

  closed-lacks : (n : ℕ) → opens j ≡ false → lacks x n ≡ false
  unfolding lacks maybe
  closed-lacks n c = rw (book-closed c)

  pub book-open : opens j ≡ true → (Q : Type 0) → ((es : List Event) → OpenAs p x es j → Q) → Q
  book-open c Q g =
      by-batch Q (λ e f. absurd (false≢true (sym (ap opens f ∙ ap (λ (n : ℕ). not (eqb n 0)) (first-zero (journal_length p x.places))) ∙ c))) g

  module _ {es : List Event} (o : OpenAs p x es j) where
    pub book-used : count_at used_at 2 j ≡ length es
    book-used = ap (count_at used_at 2) o.bytes ∙ open-used p x.places h.most es o.few o.wide

    lacks-is : (n : ℕ) → lacks x n ≡ ltb x.places (length es + n)
    unfolding lacks maybe
    lacks-is n = rw o.batch

    pub room-is : lacks x 1 ≡ false → length es < x.places
    room-is l = omega (arith, ltb-false x.places (length es + 1) (sym (lacks-is 1) ∙ l))

    pub book-spacious : lacks x 1 ≡ false → Spacious p j
    book-spacious l =
        record {
          known = h.paging.coded.known;
          long = book-long;
          grows = rw (book-places, book-used, o.bytes) (open-grows p x.places h.most es o.few o.wide (room-is l));
        }

    module _ {i : ℕ} {j₁ : List ℕ} (n : Opened p j i j₁) (l : lacks x 1 ≡ false) where
      zeroed : j₁ ≡ grown used_at 2 journal_header x.places (length es) (replicate (event_width p) 0) (open_image p x.places es)
      unfolding with_zeros
      zeroed = n.bytes ∙ rw (book-places, book-used, o.bytes)

      pub place-there : journal_header + i * event_width p + event_width p ≤ length j₁
      unfolding journal_length
      place-there =
          let t = times-lt (length es) x.places (event_width p) (room-is l) in
          let e : i ≡ length es = n.place ∙ book-used in
          rw e (omega (arith, ap length zeroed, grown-long p x.places h.most es o.few o.wide (room-is l)))

      noted-image : (e : Event) → journal_image p (noting e x) ≡ open_image p x.places (es ++ (e ∷ []))
      unfolding journal_image maybe
      noted-image e = rw o.batch

      pub place-noted : (e : Event) → length (event_record p e) ≡ event_width p → with_record journal_header i (event_record p e) j₁ ≡ journal_image p (noting e x)
      place-noted e w =
          let q : i ≡ length es = n.place ∙ book-used in
          rw (noted-image e, zeroed, q) (open-noted p x.places h.most es o.few o.wide (room-is l) e w)

-- ---- what the code asks and writes, of whichever journal the bytes are

module _ {p : Profile} {x : Journal} {j : List ℕ} (h : Journaled p x j) where
  pub has-places-is : (n : ℕ) → has_places p n j ≡ not (lacks x n)
  unfolding has_places
  has-places-is n = go (opens j) refl
    where
      enough : (J k : ℕ) → k ≤ J → leb n (J - k) ≡ not (ltb J (k + n))
      enough J k f = by-test (ltb J (k + n)) refl
        where
          by-test : (t : Bool) → ltb J (k + n) ≡ t → leb n (J - k) ≡ not t
          by-test true e = lt-leb n (J - k) (omega (arith, ltb-true J (k + n) e))
          by-test false e = le-leb n (J - k) (omega (arith, ltb-false J (k + n) e))

      go : (t : Bool) → opens j ≡ t → cond t (leb n (journal_places p j - count_at used_at 2 j)) true ≡ not (lacks x n)
      go true c = book-open h c _ (λ es o. rw (book-places h, book-used h o) (enough x.places (length es) o.few) ∙ ap not (sym (lacks-is h o n)))
      go false c = sym (ap not (closed-lacks h n c))

  pub noted-is : lacks x 1 ≡ false → (e : Event) {j₁ : List ℕ} → Noted p e j j₁ → j₁ ≡ journal_image p (noting e x)
  unfolding with_place journal_image maybe
  noted-is l e y = y.bytes ∙ go (opens j) refl
    where
      go : (t : Bool) → opens j ≡ t → cond t (with_record journal_header (count_at used_at 2 j) (event_record p e) (with_zeros p j)) j ≡ journal_image p (noting e x)
      go true c = book-open h c _ (λ es o. place-noted h o (record { place = refl; bytes = refl }) l e y.wide)
      go false c = let n = book-closed h c in h.bytes ∙ rw n

-- a batch opened and closed
three-zeros : (n : ℕ) → replicate {A = ℕ} (3 + n) 0 ≡ 0 ∷ 0 ∷ 0 ∷ replicate n 0
three-zeros n = let e : 3 + n ≡ suc (suc (suc n)) = omega arith in rw e

pub opened-is : (p : Profile) (J : ℕ) → set (journal_image p (closed_of J)) 0 1 ≡ open_image p J []
unfolding journal_image journal_length open_image framed filled area joined be maybe
opened-is p J =
    ap (λ (l : List ℕ). set l 0 1) (three-zeros (J * event_width p))
    ∙ ap (λ (l : List ℕ). 1 ∷ 0 ∷ 0 ∷ l) (sym (rw (sub-zero J) (append-nil (replicate (J * event_width p) 0))))

pub closed_is : (p : Profile) (J : ℕ) (j : List ℕ) → length j ≡ journal_length p J → replicate (length j) 0 ≡ journal_image p (closed_of J)
unfolding journal_image maybe
closed_is p J j l = rw l

-- ---- inside the functions

pub places-closed : (p : Profile) (j : List ℕ) (n : ℕ) → opens j ≡ false → true ≡ has_places p n j
unfolding has_places
places-closed p j n c = rw c

used-within : {p : Profile} {j : List ℕ} → Paged p j → opens j ≡ true → count_at used_at 2 j ≤ journal_places p j
used-within b c =
    book-open b.holds c _ (λ es o. omega (arith, book-used b.holds o, book-places b.holds, o.few))

module _ {p : Profile} {j : List ℕ} (b : Paged p j) (c : opens j ≡ true) {places used : ℕ} (ep : places ≡ journal_places p j) (eu : used ≡ count_at used_at 2 j) where
  pub used-few : used ≤ places
  used-few = omega (arith, used-within b c)

  pub places-open : (n : ℕ) → leb n (places - used) ≡ has_places p n j
  unfolding has_places
  places-open n = rw (c, ep, eu)

pub note-none : (p : Profile) {j : List ℕ} (r : List ℕ) → opens j ≡ false → j ≡ with_place p r j
unfolding with_place
note-none p r c = rw c

module _ {p : Profile} {j : List ℕ} (b : Roomy p j) (c : opens j ≡ true) where
  pub spacious-of : Spacious p j
  spacious-of = book-open b.holds c _ (λ es o. book-spacious b.holds o b.room)

  module _ {i : ℕ} {j₁ : List ℕ} (n : Opened p j i j₁) where
    pub place_of : journal_header + i * event_width p + event_width p ≤ length j₁
    place_of = book-open b.holds c _ (λ es o. place-there b.holds o n b.room)

    pub note-one : (r : List ℕ) {j₂ : List ℕ} → j₂ ≡ with_record journal_header i r j₁ → j₂ ≡ with_place p r j
    unfolding with_place
    note-one r f = f ∙ sym (rw (c, sym n.place, sym n.bytes))
