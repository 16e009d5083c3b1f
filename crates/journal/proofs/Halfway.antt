-- Half of the way back: from place i on a batch is taken back. One place more back, one forth again, and both ends. Assumes nothing.
use Prim.Native.Nat.{ℕ, zero, suc, ◌+◌, ◌-◌, ◌<◌}
use native.Mathlib.Numerals.{add-one}
use native.Mathlib.Omega.{arith}
use mathlib.Core.Path.{◌≡◌, refl, sym, ◌∙◌, ap, subst}
use mathlib.Core.Bool.{Bool, true, false, ◌&&◌}
use mathlib.Core.List.{List, [], ◌∷◌, ◌++◌, append-nil}
use mathlib.Core.Option.{some-injective}
use lib.Dec.{leb}
use lib.ListN.{length, get_or, take, drop, length-append, length-take, length-drop}
use lib.Seq.{take-length, drop-length, length-take-le, take-suc, drop-cons, append_snoc, take_at, drop_at, get_or_at}
use borrow.Author.Tests.{leb-true, ne_eqb}
use Rattle.values.specs.Value.{null}
use Rattle.areas.specs.Sorted.{replace_at}
use Rattle.rules.specs.declared.profile.Profile.{Profile}
use Rattle.rules.specs.State.{Row, State}
use Rattle.rules.specs.Journal.{Event, absent, stood, put, stand, unwound, turned, roomy}
use Rattle.rules.specs.Layout.{image, parse}
use Rattle.rules.specs.Sound.{every, good_event, good_cells}
use Rattle.rules.specs.Pages.{journal_length, open_image, journal_places}
use Rattle.rules.proofs.Tests.{and_left, and_right, and_both, all_head, all_tail}
use Rattle.rules.proofs.Trip.{canonical-normal}
use Rattle.rules.proofs.Valid.{LaidState}
use Rattle.rules.proofs.Removed.{with_rows}
use Rattle.rules.proofs.Unwinding.{Normal, NormalEvent, turn-rows, turn-event}
use Rattle.laid.proofs.Finding.{nth-get_or}
use Rattle.laid.proofs.Stores.{held-state, held-inside}
use Rattle.journal.specs.Turn.{event_at, events_in, Batch, PlaceIn, Turnable, Turned}
use Rattle.journal.specs.Back.{rows_of, events_of, fits, Halfway, Unwinds, Rewindable, Rewinds}
use Rattle.journal.proofs.Events.{its-row, put-laid}
use Rattle.journal.proofs.Turning.{at_i, batch-long}
use Rattle.journal.proofs.Onward.{next-parse, next-events, next-places, next-batch}

-- what stands past the end of a list of places
abbrev blank : Event
blank = absent [] null

-- ---- lists of places

turned-long : (es : List Event) (rs : List Row) → length (turned es rs) ≡ length es
unfolding turned
turned-long [] rs = refl
turned-long (e ∷ es) rs = ap suc (turned-long es rs)

-- place i, at a seam
replaced-at : {A : Type 0} (a : List A) (x y : A) (b : List A) (i : ℕ) → length a ≡ i → replace_at i y (a ++ (x ∷ b)) ≡ a ++ (y ∷ b)
unfolding replace_at
replaced-at {A = A} a x y b i l =
    ap (λ (z : List A). z ++ (y ∷ drop (suc i) (a ++ (x ∷ b)))) (take_at a (x ∷ b) i l)
    ∙ ap (λ (z : List A). a ++ (y ∷ z)) (ap (drop (suc i)) (sym (append_snoc a x b)) ∙ drop_at (a ++ (x ∷ [])) b (suc i) (length-append a (x ∷ []) ∙ omega arith))

take-seam : (xs ys : List Event) (i : ℕ) → i < length xs → take (suc i) xs ++ ys ≡ take i xs ++ (get_or xs i blank ∷ ys)
take-seam xs ys i l = ap (λ (z : List Event). z ++ ys) (take-suc xs i blank l) ∙ append_snoc (take i xs) (get_or xs i blank) ys

-- ---- every state on the way is laid out

module _ (p : Profile) (R : ℕ) (st : State) (v : LaidState p R st) where
  pub unwound-laid : (es : List Event) → every (good_event st.tables) es ≡ true → roomy R es st.rows ≡ true → LaidState p R (with_rows st (unwound es st.rows))
  unfolding unwound roomy every
  unwound-laid [] g h = v
  unwound-laid (e ∷ es) g h =
      let now : List Row = unwound es st.rows in
      put-laid p R (with_rows st now) (unwound-laid es (and_right (good_event st.tables e) _ g) (and_right (leb (length (put e now)) R) _ h)) e (and_left _ _ g)
      (leb-true (length (put e now)) R (and_left _ _ h))

  normal-rows : Normal st.rows
  unfolding good_cells
  normal-rows r m = canonical-normal r.key (all_head _ _ (all_tail _ _ (v.rows r m).good))

  normal-event : (e : Event) → good_event st.tables e ≡ true → NormalEvent e
  unfolding good_event good_cells
  normal-event (absent n k) g = canonical-normal k (all_head _ _ (all_tail _ _ g))
  normal-event (stood r) g = canonical-normal r.key (all_head _ _ (all_tail _ _ (its-row p R st v r g).good))

every_drop : {A : Type 0} (f : A → Bool) (i : ℕ) (xs : List A) → every f xs ≡ true → every f (drop i xs) ≡ true
unfolding every
every_drop f zero xs h = h
every_drop f (suc i) [] h = h
every_drop f (suc i) (x ∷ xs) h = every_drop f i xs (and_right (f x) _ h)

every-get_or : (f : Event → Bool) (i : ℕ) (xs : List Event) → every f xs ≡ true → i < length xs → f (get_or xs i blank) ≡ true
unfolding every
every-get_or f i xs h l = and_left _ _ (rw (drop-cons xs i blank l) at (every_drop f i xs h))

-- where there is no room on the way, there is none all the way
stuck : (R : ℕ) (es : List Event) (rs : List Row) (i : ℕ) → roomy R (drop i es) rs ≡ false → roomy R es rs ≡ false
unfolding roomy
stuck R es rs zero h = h
stuck R [] rs (suc i) h = h
stuck R (e ∷ es) rs (suc i) h = no_room (leb (length (unwound (e ∷ es) rs)) R) (stuck R es rs i h)
  where
    no_room : (a : Bool) {b : Bool} → b ≡ false → (a && b) ≡ false
    no_room true k = k
    no_room false k = refl

-- ---- one place

module _ {p : Profile} {R : ℕ} {s₀ j₀ : List ℕ} {i : ℕ} {s j : List ℕ} where
  -- the places that are in use are still so many
  pub half-long : Halfway p R s₀ j₀ i s j → length (events_of p R s j) ≡ length (events_of p R s₀ j₀)
  half-long m =
      ap (λ (x : State). length (events_in p x.tables j)) m.state
      ∙ ap length m.events
      ∙ simp (length-append, length-take, length-drop, turned-long) (omega (arith, m.inside))

  pub half-lengths : Halfway p R s₀ j₀ i s j → (length s ≡ length s₀) × (length j ≡ length j₀)
  half-lengths m = (
    (held-inside p R s m.batch.store).long ∙ sym (held-inside p R s₀ m.before.store).long,
    batch-long m.batch ∙ ap (journal_length p) m.places ∙ sym (batch-long m.before),
  )

  -- every byte of both
  pub half-store : Halfway p R s₀ j₀ i s j → s ≡ image p R (with_rows (parse p R s₀) (unwound (drop i (events_of p R s₀ j₀)) (rows_of p R s₀)))
  half-store m = m.batch.store.bytes ∙ ap (image p R) m.state

  pub half-journal : Halfway p R s₀ j₀ i s j
      → j ≡ open_image p (journal_places p j₀) (take i (events_of p R s₀ j₀) ++ turned (drop i (events_of p R s₀ j₀)) (rows_of p R s₀))
  half-journal m =
      m.batch.bytes ∙ ap (λ (x : State). open_image p (journal_places p j) (events_in p x.tables j)) m.state
      ∙ ap (open_image p (journal_places p j)) m.events
      ∙ ap (λ (n : ℕ). open_image p n (take i (events_of p R s₀ j₀) ++ turned (drop i (events_of p R s₀ j₀)) (rows_of p R s₀))) m.places

  pub half_place : {k : ℕ} → Halfway p R s₀ j₀ i s j → k < length (events_of p R s₀ j₀) → PlaceIn p R s j k
  half_place m l = record { batch = m.batch; within = omega (arith, half-long m) }

-- what place i holds halfway
at_place : {p : Profile} {R : ℕ} {s j : List ℕ} {i : ℕ} → PlaceIn p R s j i → {st : State} → parse p R s ≡ st → (a : List Event) (e : Event) (b : List Event)
    → events_in p st.tables j ≡ a ++ (e ∷ b) → length a ≡ i → event_at p (parse p R s).tables j i ≡ e
at_place {p} {R} {s} {j} {i} h q a e b f l =
    some-injective _ _ (sym (at_i h) ∙ nth-get_or (events_of p R s j) i blank h.within)
    ∙ ap (λ (x : State). get_or (events_in p x.tables j) i blank) q
    ∙ ap (λ (x : List Event). get_or x i blank) f
    ∙ get_or_at a e b blank i l

module _ (p : Profile) (R : ℕ) (s₀ j₀ : List ℕ) (i : ℕ) (l : i < length (events_of p R s₀ j₀)) where
  abbrev st : State
  st = parse p R s₀

  abbrev es : List Event
  es = events_of p R s₀ j₀

  abbrev rs : List Row
  rs = rows_of p R s₀

  abbrev e : Event
  e = get_or (events_of p R s₀ j₀) i blank

  abbrev later : List Event
  later = drop (suc i) (events_of p R s₀ j₀)

  -- the rows where place i is not taken back yet
  abbrev u : List Row
  u = unwound (drop (suc i) (events_of p R s₀ j₀)) (rows_of p R s₀)

  left-long : length (take i (events_of p R s₀ j₀)) ≡ i
  left-long = length-take-le i es (omega arith)

  next-drop : drop i (events_of p R s₀ j₀) ≡ get_or (events_of p R s₀ j₀) i blank ∷ drop (suc i) (events_of p R s₀ j₀)
  next-drop = drop-cons es i blank l

  -- ---- back

  module _ {s j : List ℕ} (m : Halfway p R s₀ j₀ (suc i) s j) where
    back-event : event_at p (parse p R s).tables j i ≡ get_or (events_of p R s₀ j₀) i blank
    back-event = at_place (half_place m l) m.state (take i es) e (turned later rs) (m.events ∙ take-seam es (turned later rs) i l) left-long

    back_fits : fits p R s j i ≡ leb (length (unwound (drop i (events_of p R s₀ j₀)) (rows_of p R s₀))) R
    unfolding unwound
    back_fits =
        ap (λ (x : Event). leb (length (put x (rows_of p R s))) R) back-event
        ∙ ap (λ (x : State). leb (length (put e x.rows)) R) m.state
        ∙ ap (λ (x : List Event). leb (length (unwound x rs)) R) (sym next-drop)

    back-turnable : fits p R s j i ≡ true → Turnable p R s j i
    back-turnable f = record { place = half_place m l; room = leb-true (length (put (event_at p (parse p R s).tables j i) (rows_of p R s))) R f }

    back-room : fits p R s j i ≡ true → roomy R (drop i (events_of p R s₀ j₀)) (rows_of p R s₀) ≡ true
    unfolding roomy
    back-room f =
        ap (λ (x : List Event). roomy R x rs) next-drop
        ∙ and_both (ap (λ (x : List Event). leb (length (unwound x rs)) R) (sym next-drop) ∙ sym back_fits ∙ f) m.room

    one-back : {s₁ j₁ : List ℕ} → fits p R s j i ≡ true → Turned p R s j i s₁ j₁ → Halfway p R s₀ j₀ i s₁ j₁
    unfolding unwound turned
    one-back {s₁} {j₁} f t =
        let h : Turnable p R s j i = back-turnable f in
        record {
          before = m.before;
          inside = omega arith;
          room = back-room f;
          batch = next-batch h t;
          state =
              next-parse h t
              ∙ ap (λ (x : Event). with_rows (parse p R s) (put x (rows_of p R s))) back-event
              ∙ ap (λ (x : State). with_rows x (put e x.rows)) m.state
              ∙ ap (λ (x : List Event). with_rows st (unwound x rs)) (sym next-drop);
          events =
              ap (λ (x : State). events_in p x.tables j₁) (sym m.state)
              ∙ next-events h t
              ∙ ap (λ (x : Event). replace_at i (stand x (rows_of p R s)) (events_of p R s j)) back-event
              ∙ ap (λ (x : State). replace_at i (stand e x.rows) (events_in p x.tables j)) m.state
              ∙ ap (replace_at i (stand e u)) (m.events ∙ take-seam es (turned later rs) i l)
              ∙ replaced-at (take i es) e (stand e u) (turned later rs) i left-long
              ∙ ap (λ (x : List Event). take i es ++ turned x rs) (sym next-drop);
          places = next-places h t ∙ m.places;
        }

    -- no room here is no room all the way
    none-back : fits p R s j i ≡ false → roomy R (events_of p R s₀ j₀) (rows_of p R s₀) ≡ false
    unfolding roomy
    none-back f =
        stuck R es rs i
        (ap (λ (x : List Event). roomy R x rs) next-drop
        ∙ ap (λ (b : Bool). b && roomy R later rs) (ap (λ (x : List Event). leb (length (unwound x rs)) R) (sym next-drop) ∙ sym back_fits ∙ f))

  -- ---- forth

  module _ {s j : List ℕ} (m : Halfway p R s₀ j₀ i s j) where
    laid-later : LaidState p R (with_rows (parse p R s₀) (unwound (drop (suc i) (events_of p R s₀ j₀)) (rows_of p R s₀)))
    unfolding roomy
    laid-later =
        unwound-laid p R st (held-state p R s₀ m.before.store) later (every_drop (good_event st.tables) (suc i) es m.before.good)
        (and_right (leb (length (unwound (e ∷ later) rs)) R) _ (ap (λ (x : List Event). roomy R x rs) (sym next-drop) ∙ m.room))

    good-e : good_event (parse p R s₀).tables (get_or (events_of p R s₀ j₀) i blank) ≡ true
    good-e = every-get_or (good_event st.tables) i es m.before.good l

    state-put : parse p R s ≡ with_rows (parse p R s₀) (put (get_or (events_of p R s₀ j₀) i blank) (unwound (drop (suc i) (events_of p R s₀ j₀)) (rows_of p R s₀)))
    unfolding unwound
    state-put = m.state ∙ ap (λ (x : List Event). with_rows st (unwound x rs)) next-drop

    events-put : events_in p (parse p R s₀).tables j ≡ take i (events_of p R s₀ j₀) ++ (stand (get_or (events_of p R s₀ j₀) i blank) (unwound (drop (suc i) (events_of p R s₀ j₀)) (rows_of p R s₀)) ∷ turned (drop (suc i) (events_of p R s₀ j₀)) (rows_of p R s₀))
    unfolding turned
    events-put = m.events ∙ ap (λ (x : List Event). take i es ++ turned x rs) next-drop

    forth-event : event_at p (parse p R s).tables j i ≡ stand (get_or (events_of p R s₀ j₀) i blank) (unwound (drop (suc i) (events_of p R s₀ j₀)) (rows_of p R s₀))
    forth-event = at_place (half_place m l) m.state (take i es) (stand e u) (turned later rs) events-put left-long

    forth-rows : put (event_at p (parse p R s).tables j i) (rows_of p R s) ≡ unwound (drop (suc i) (events_of p R s₀ j₀)) (rows_of p R s₀)
    forth-rows =
        ap (λ (x : Event). put x (rows_of p R s)) forth-event
        ∙ ap (λ (x : State). put (stand e u) x.rows) state-put
        ∙ turn-rows e u laid-later.rows-sorted

    pub forth-turnable : Turnable p R s j i
    forth-turnable = record { place = half_place m l; room = omega (arith, ap length forth-rows, laid-later.few-rows) }

    pub one-forth : {s₁ j₁ : List ℕ} → Turned p R s j i s₁ j₁ → Halfway p R s₀ j₀ (suc i) s₁ j₁
    unfolding roomy
    one-forth {s₁} {j₁} t =
        let h : Turnable p R s j i = forth-turnable in
        record {
          before = m.before;
          inside = l;
          room = and_right (leb (length (unwound (e ∷ later) rs)) R) _ (ap (λ (x : List Event). roomy R x rs) (sym next-drop) ∙ m.room);
          batch = next-batch h t;
          state = next-parse h t ∙ ap (with_rows (parse p R s)) forth-rows ∙ ap (λ (x : State). with_rows x u) m.state;
          events =
              ap (λ (x : State). events_in p x.tables j₁) (sym m.state)
              ∙ next-events h t
              ∙ ap (λ (x : Event). replace_at i (stand x (rows_of p R s)) (events_of p R s j)) forth-event
              ∙ ap (λ (x : State). replace_at i (stand (stand e u) x.rows) (events_in p x.tables j)) state-put
              ∙ ap (λ (x : Event). replace_at i x (events_in p st.tables j))
              (turn-event e u laid-later.rows-sorted (normal-rows p R (with_rows st u) laid-later) (normal-event p R (with_rows st u) laid-later e good-e))
              ∙ ap (replace_at i e) events-put
              ∙ replaced-at (take i es) (stand e u) e (turned later rs) i left-long
              ∙ sym (take-seam es (turned later rs) i l);
          places = next-places h t ∙ m.places;
        }

-- ---- the way back

module _ {p : Profile} {R : ℕ} {s₀ j₀ : List ℕ} where
  pub half-start : {i : ℕ} → Batch p R s₀ j₀ → i ≡ length (events_of p R s₀ j₀) → Halfway p R s₀ j₀ i s₀ j₀
  unfolding unwound turned roomy
  half-start {i} b n =
      let es : List Event = events_of p R s₀ j₀ in
      let d : drop i es ≡ [] = ap (λ (k : ℕ). drop k es) n ∙ drop-length es in
      let t : take i es ≡ es = ap (λ (k : ℕ). take k es) n ∙ take-length es in
      record {
        before = b;
        inside = omega (arith, n);
        room = rw d;
        batch = b;
        state = rw d;
        events = rw (d, t) (sym (append-nil es));
        places = refl;
      }

  last : {i : ℕ} {s j : List ℕ} → Halfway p R s₀ j₀ i s j → 0 < i → Halfway p R s₀ j₀ (suc (i - 1)) s j
  last {i} {s} {j} m h = let e : i ≡ suc (i - 1) = omega arith in subst (λ (k : ℕ). Halfway p R s₀ j₀ k s j) e m

  pub back-place : {i : ℕ} {s j : List ℕ} → Halfway p R s₀ j₀ i s j → 0 < i → PlaceIn p R s j (i - 1)
  back-place m h = half_place m (omega (arith, m.inside))

  pub back-ready : {i : ℕ} {s j : List ℕ} → Halfway p R s₀ j₀ i s j → 0 < i → fits p R s j (i - 1) ≡ true → Turnable p R s j (i - 1)
  back-ready {i} m h f = back-turnable p R s₀ j₀ (i - 1) (omega (arith, m.inside)) (last m h) f

  pub back-turn : {i : ℕ} {s j s₁ j₁ : List ℕ} → Halfway p R s₀ j₀ i s j → 0 < i → fits p R s j (i - 1) ≡ true → Turned p R s j (i - 1) s₁ j₁ → Halfway p R s₀ j₀ (i - 1) s₁ j₁
  back-turn {i} m h f t = one-back p R s₀ j₀ (i - 1) (omega (arith, m.inside)) (last m h) f t

  pub back-stuck : {i : ℕ} {s j : List ℕ} → Halfway p R s₀ j₀ i s j → 0 < i → fits p R s j (i - 1) ≡ false → Unwinds p R s₀ j₀ (i - 1 + 1) s j
  back-stuck {i} {s} {j} m h f =
      let e : i - 1 + 1 ≡ i = omega arith in
      rw e (record {
        half = m;
        all = none-back p R s₀ j₀ (i - 1) (omega (arith, m.inside)) (last m h) f ∙ sym (ne_eqb i 0 (λ e. omega (arith, h, e)));
      })

  pub back-all : {i : ℕ} {s j : List ℕ} → Halfway p R s₀ j₀ i s j → (0 < i → ⊥) → Unwinds p R s₀ j₀ 0 s j
  back-all {i = zero} m h = record { half = m; all = m.room }
  back-all {i = suc i} m h = absurd (h (omega arith))

  -- both buffers are as they were
  pub half-end : {i : ℕ} {s j : List ℕ} → Halfway p R s₀ j₀ i s j → i ≡ length (events_of p R s₀ j₀) → (s ≡ s₀) × (j ≡ j₀)
  unfolding unwound turned
  half-end {i} {s} {j} m n =
      let es : List Event = events_of p R s₀ j₀ in
      let d : drop i es ≡ [] = ap (λ (k : ℕ). drop k es) n ∙ drop-length es in
      let t : take i es ≡ es = ap (λ (k : ℕ). take k es) n ∙ take-length es in
      let q : parse p R s ≡ parse p R s₀ = m.state ∙ rw d in
      let f : events_of p R s j ≡ es = ap (λ (x : State). events_in p x.tables j) q ∙ m.events ∙ rw (d, t) (append-nil es) in (
        m.batch.store.bytes ∙ ap (image p R) q ∙ sym m.before.store.bytes,
        m.batch.bytes ∙ rw (m.places, f) (sym m.before.bytes),
      )

-- ---- the way forth: whatever was taken back from `from` on is so from i on

pub record Forth (p : Profile) (R : ℕ) (s₀ j₀ : List ℕ) (from i : ℕ) (s j : List ℕ) : Type 0 where
  pub forth : (a b : List ℕ) → Halfway p R a b from s₀ j₀ → Halfway p R a b i s j

module _ {p : Profile} {R : ℕ} {s₀ j₀ : List ℕ} {from : ℕ} where
  pub forth-start : Forth p R s₀ j₀ from from s₀ j₀
  forth-start = record { forth = λ a b m. m }

  pub forth-ready : {i : ℕ} {s j : List ℕ} → Rewindable p R s₀ j₀ from → Forth p R s₀ j₀ from i s j → i < length (events_of p R s₀ j₀) → Turnable p R s j i
  forth-ready {i} w f l = forth-turnable p R w.store w.journal i (omega (arith, half-long w.half)) (f.forth w.store w.journal w.half)

  pub forth-turn : {i : ℕ} {s j s₁ j₁ : List ℕ} → Forth p R s₀ j₀ from i s j → i < length (events_of p R s₀ j₀) → Turned p R s j i s₁ j₁
      → Forth p R s₀ j₀ from (i + 1) s₁ j₁
  forth-turn {i} f l t = record { forth = λ a b m. rw (add-one i) (one-forth p R a b i (omega (arith, half-long m)) (f.forth a b m) t) }

  pub forth-end : {i : ℕ} {s j : List ℕ} → Forth p R s₀ j₀ from i s j → i ≡ length (events_of p R s₀ j₀) → Rewinds p R s₀ j₀ from s j
  forth-end f n = record { forth = λ a b m. half-end (f.forth a b m) (n ∙ half-long m) }
