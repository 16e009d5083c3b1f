-- A row written to a store, and noted in its journal: what each write comes to, case by case, and both again after it. Assumes nothing.
use mathlib.Core.Path.{◌≡◌, refl, sym, ap, ◌∙◌, subst}
use mathlib.Core.Bool.{Bool, true, false, not, true≢false}
use mathlib.Core.Option.{Option, none, some, some-injective}
use Prim.Native.Nat.{ℕ, ◌<◌}
use mathlib.Core.List.{List, [], ◌∷◌, ◌++◌, map}
use lib.Dec.{eqb}
use lib.ListN.{length, length-map}
use Rattle.values.specs.Basic.{is_nil, nth, or_default, maybe}
use Rattle.values.specs.Value.{Value, normalised, same}
use Rattle.areas.specs.Sorted.{All}
use Rattle.values.specs.Meaning.{held, ProperCell}
use Rattle.values.specs.declared.value.Cell.{Cell}
use Rattle.values.proofs.Cells.{proper-storable}
use Rattle.areas.proofs.Sorting.{find-in}
use Rattle.rules.specs.declared.profile.Profile.{Profile}
use Rattle.rules.specs.Request.{Answer}
use Rattle.rules.specs.Refusal.{Refusal}
use Rattle.rules.specs.Refusal.{RowReferenced, JournalFull}
use Rattle.rules.specs.Refusal.{number_of, refusal_of}
use Rattle.rules.specs.declared.answer.Refusal as D
use Rattle.rules.specs.State as S
use Rattle.rules.specs.State.{Name, Table, State, table_named, of_table, is_row, row_with, has_row, key_of, row_of}
use Rattle.rules.specs.Layout.{image, parse, unknown}
use Rattle.rules.specs.Journal.{absent, stood, lacks, Books}
use Rattle.rules.specs.Pages.{journal_image, books_of}
use Rattle.rules.specs.Schema.{first, at}
use Rattle.rules.specs.Request.{Pair, Reply, said, told, ok, no, Carried, no_carrying, with_gone}
use Rattle.std.specs.declared.result.Result.TheVariants.{Ok, Err}
use Rattle.std.specs.Result.{MatchResult, IsErrAnd}
use Rattle.rules.specs.Rows.{row_fault, row_referenced}
use Rattle.rules.specs.Sound.{every, canonical}
use Rattle.rules.specs.Step.{Change, added, replaced, with_row, apply, apply_all, note, note_all, changed, Outcome, did, refused, is_accepted, at_place, numbered, journal_fault, put_fault, insert_row, same_key, reinsert, other_key, pair, removals}
use Rattle.rules.proofs.Asked.{Ready}
use Rattle.rules.proofs.Catalog.{stored-named}
use Rattle.rules.proofs.Cells.{row-passes}
use Rattle.rules.proofs.Backed.{Right, right-keeps}
use Rattle.rules.proofs.Kept.{put-valid}
use Rattle.rules.proofs.Removed.{changed-append, with_rows, removals-come}
use Rattle.rules.proofs.Tests.{and_left, and_right, and_both, name-is, first-none, or_else-none}
use borrow.Author.Tests.{not-false}
use Rattle.rules.proofs.Trip.{range-canonical, canonical-normal, canonical-cell}
use Rattle.rules.proofs.Turns.{numbered-accepted, numbered-no}
use Rattle.rules.proofs.Valid.{Valid, laid_of, valid-laid}
use Rattle.laid.specs.Catalog.{place_of}
use Rattle.laid.specs.Row.{cells_of, NormalCell, row_in, table_in, Addable, Replaceable, FullRow}
use Rattle.journal.specs.Page.{noting, Noted}
use Rattle.journal.specs.Books.{Booked, BytesOf, Settled}
use Rattle.journal.proofs.Booking.{laid-books, right_of, next-are, next-booked, journaled}
use Rattle.store.specs.Removed.{removals_in, Removes, RoomFor}
use Rattle.checks.proofs.Faulting.{or-first, or-second, Told, told as first-told, or-told}
use Rattle.checks.proofs.Fitting.{cells_told}
use Rattle.laid.proofs.Finding.{place_found}
use Rattle.laid.proofs.Keyed.{row_at}
use Rattle.store.proofs.Settling.{refusal-refuses, told-refuses, left_alone}
use Rattle.journal.proofs.Noting.{noted-is}
use Rattle.laid.proofs.RowFacts.{table-held}
use Rattle.laid.proofs.Stores.{store-valid, laid-store}

-- ---- a fault is none of the accepted

pub row_told : (p : Profile) (R : ℕ) (st : State) (t : Table) (u : Bool) (v : List Value) → Told (row_fault p R st t u v)
unfolding row_fault
row_told p R st t u v =
    or-told _ _ (first-told _ (refl, (refl, tt)))
    (or-told _ _ (cells_told st.rows t u (key_of t v) 0 t.columns v) (first-told _ (refl, (refl, tt))))

-- ---- a row's faults, and 43 behind them

module _ (p : Profile) (R : ℕ) (t : Table) (b : Books) (u : Bool) (v : List Value) where
  pub put-told : Told (put_fault p R t b u v)
  unfolding journal_fault
  put-told = or-told _ _ (row_told p R b.store t u v) (first-told _ (refl, tt))

  pub put-faulty : (k : Refusal) → some k ≡ row_fault p R b.store t u v → some k ≡ put_fault p R t b u v
  put-faulty k e = or-first k _ _ e

  pub put_full : none ≡ row_fault p R b.store t u v → lacks b.journal 1 ≡ true → some JournalFull ≡ put_fault p R t b u v
  unfolding journal_fault first
  put_full e l = or-second _ _ _ e (rw l)

  pub put-free : none ≡ row_fault p R b.store t u v → lacks b.journal 1 ≡ false → none ≡ put_fault p R t b u v
  unfolding journal_fault first
  put-free e l = or-second _ _ _ e (rw l)

  module _ (h : none ≡ put_fault p R t b u v) where
    pub free-row : row_fault p R b.store t u v ≡ none
    free-row = (or_else-none _ _ (sym h)).0

    pub free-place : lacks b.journal 1 ≡ false
    unfolding journal_fault
    free-place = (first-none _ _ _ (or_else-none _ _ (sym h)).1).0

-- the fault of the row or pair with number m
fault-at : (m : ℕ) (o : Option Refusal) (k : Refusal) (i : ℕ) → some (k, i) ≡ at m o → (some k ≡ o) × (i ≡ m)
unfolding at
fault-at m none k i e = absurd (cc)
fault-at m (some x) k i e = let q : (k, i) ≡ (x, m) = some-injective _ _ e in (ap (λ (y : Refusal × ℕ). some y.0) q, ap (λ (y : Refusal × ℕ). y.1) q)

pub none-at : (m : ℕ) (o : Option Refusal) → none ≡ at m o → none ≡ o
unfolding at
none-at m none e = refl
none-at m (some x) e = absurd (cc)

-- ---- outcomes of one row and one pair

module _ (p : Profile) (R : ℕ) (t : Table) (b : Books) (v : List Value) where
  pub insert-faulty : (k : Refusal) → some k ≡ put_fault p R t b false v → insert_row p R t b v ≡ refused (no k 0)
  unfolding insert_row maybe
  insert-faulty k e = rw (← e)

  pub insert-passes : none ≡ put_fault p R t b false v → insert_row p R t b v ≡ did (added (row_of t v) ∷ []) 1
  unfolding insert_row maybe
  insert-passes e = rw (← e)

  pub same-faulty : (k : Refusal) → some k ≡ put_fault p R t b true v → same_key p R t b v ≡ refused (no k 0)
  unfolding same_key maybe
  same-faulty k e = rw (← e)

  pub same-passes : (old : S.Row) → none ≡ put_fault p R t b true v → row_with b.store.rows t.name (key_of t v) ≡ some old
      → same_key p R t b v ≡ did (replaced old (row_of t v) ∷ []) 1
  unfolding same_key maybe
  same-passes old e g = rw (← e, g)

  pub again-faulty : (cs : List Change) (k : Refusal) → some k ≡ put_fault p R t b false v
      → reinsert p R t b cs v ≡ record { changes = cs; lines = []; reply = with_gone (not (is_nil cs)) (no k 0) }
  unfolding reinsert maybe
  again-faulty cs k e = rw (← e)

  pub again-passes : (cs : List Change) → none ≡ put_fault p R t b false v → reinsert p R t b cs v ≡ did (cs ++ (added (row_of t v) ∷ [])) 1
  unfolding reinsert maybe
  again-passes cs e = rw (← e)

module _ (p : Profile) (R : ℕ) (t : Table) (b : Books) (q : Pair) where
  pub other-referenced : (x : Carried) → some x ≡ row_referenced b.store.rows t.name (q.old ∷ []) b.store.tables → other_key p R t b q ≡ refused (no_carrying RowReferenced 0 x)
  unfolding other_key maybe
  other-referenced x e = rw (← e)

  module _ (e : none ≡ row_referenced b.store.rows t.name (q.old ∷ []) b.store.tables) where
    pub other-full : lacks b.journal (length (removals b.store.rows t.name (q.old ∷ []))) ≡ true → other_key p R t b q ≡ refused (no JournalFull 0)
    unfolding other_key maybe journal_fault first
    other-full l = rw (← e, l)

    pub other-free : lacks b.journal (length (removals b.store.rows t.name (q.old ∷ []))) ≡ false
        → other_key p R t b q ≡ reinsert p R t (changed (removals b.store.rows t.name (q.old ∷ [])) b) (removals b.store.rows t.name (q.old ∷ [])) q.row
    unfolding other_key maybe journal_fault first
    other-free l = rw (← e, l)

  pub pair_same : same q.old (key_of t q.row) ≡ true → pair p R t b q ≡ same_key p R t b q.row
  unfolding pair
  pair_same e = rw e

  pub pair-other : same q.old (key_of t q.row) ≡ false → pair p R t b q ≡ other_key p R t b q
  unfolding pair
  pair-other e = rw e

-- x is the answer a, with GONE where that is a refusal
abbrev pub Again : Bool → Answer → Answer → Type 0
Again g a x = MatchResult a (λ n. x ≡ Ok n) (λ f. IsErrAnd x (λ y. told y ≡ with_gone g (told f)))

-- the row or pair with number m is refused, and nothing changes
refused-at : {p : Profile} {R : ℕ} {s j : List ℕ} → Booked p R s j → (m : ℕ) (o : Outcome) (r : Reply) → o ≡ refused r → is_accepted r ≡ false
    → (a : Answer) → said a ≡ at_place m r → Settled p R (numbered m o) s j s j a
refused-at b m o r e g a h = left_alone b (numbered m o) (at_place m r) (ap (numbered m) e ∙ numbered-no m (refused r) g) a h

-- ---- a full row

cells-canonical : (cs : List Cell) → All ProperCell cs → All NormalCell cs → every canonical (map held cs) ≡ true
unfolding every
cells-canonical [] h n = refl
cells-canonical (c ∷ cs) h n =
    and_both
    (subst (λ (v : Value). canonical v ≡ true) n.0 (range-canonical (held c) (proper-storable c.value h.0).inside))
    (cells-canonical cs h.1 n.1)

module _ {p : Profile} {R : ℕ} {s j : List ℕ} (b : Booked p R s j) {t : ℕ} {row : List Cell} (f : FullRow p R s t row) where
  abbrev st : State
  st = parse p R s

  abbrev bk : Books
  bk = books_of p R s j

  abbrev T : Table
  T = table_in p R s t

  abbrev v : List Value
  v = cells_of row

  pub row-ready : Ready T v
  unfolding cells_of
  row-ready = (
    length-map row held ∙ f.full,
    cells-canonical row f.proper.proper f.normal,
  )

  pub own-named : table_named st.tables T.name ≡ some T
  own-named = stored-named st.tables (store-valid p R s b.store).tables-sorted T (table-held p R s (laid-store p R s b.store) t f.known)

  with-row : (u : Bool) → row_fault p R st T u v ≡ none → Valid p R (with_rows st (with_row (row_of T v) st.rows))
  with-row u h = put-valid p R st T u v own-named row-ready (row-passes p R st T u v h) (store-valid p R s b.store)

  -- ---- an insert, the row with number m

  pub insert-refused : (m : ℕ) (k : D.Refusal) (i : ℕ) → some (refusal_of k, i) ≡ at m (put_fault p R T bk false v) → (a : Answer) → said a ≡ no (refusal_of k) i
      → Settled p R (numbered m (insert_row p R T bk v)) s j s j a
  insert-refused m k i e a h =
      let q = fault-at m (put_fault p R T bk false v) (refusal_of k) i e in
      refused-at b m (insert_row p R T bk v) (no (refusal_of k) 0) (insert-faulty p R T bk v (refusal_of k) q.0) (refusal-refuses k) a (rw q.1 at h)

  module _ (free : row_fault p R st T false v ≡ none) where
    pub row-addable : Addable p R s t v
    unfolding apply
    row-addable =
        record {
          known = f.known;
          new = (row-passes p R st T false v free).new;
          laid = laid_of p R (with_rows st (with_row (row_of T v) st.rows)) (valid-laid (with-row false free));
        }

  module _ (h : none ≡ put_fault p R T bk false v) where
    free-new : row_fault p R st T false v ≡ none
    free-new = free-row p R T bk false v h

    pub put-addable : Addable p R s t v
    put-addable = row-addable free-new

    pub row-inserted : {s₁ j₁ : List ℕ} → s₁ ≡ image p R (apply (added (row_of T v)) st)
        → Noted p (absent T.name (key_of T v)) j j₁ → (m : ℕ) (a : Answer) → said a ≡ ok 1
        → Settled p R (numbered m (insert_row p R T bk v)) s j s₁ j₁ a
    unfolding apply_all note_all note
    row-inserted e n m a w =
        let k : key_of T v ≡ normalised (key_of T v) = sym (canonical-normal _ (canonical-cell v T.key row-ready.1)) in
        rw (insert-passes p R T bk v h)
        (record {
          answer = w;
          bytes = record { store = e; journal = noted-is (journaled (laid-books b)) (free-place p R T bk false v h) (absent T.name (key_of T v)) n ∙ ap (λ (x : Value). journal_image p (noting (absent T.name x) bk.journal)) k };
        })

  -- ---- a row in place of the one with its key

  pub same-refused : (m : ℕ) (k : D.Refusal) (i : ℕ) → some (refusal_of k, i) ≡ at m (put_fault p R T bk true v) → (a : Answer) → said a ≡ no (refusal_of k) i
      → Settled p R (numbered m (same_key p R T bk v)) s j s j a
  same-refused m k i e a h =
      let q = fault-at m (put_fault p R T bk true v) (refusal_of k) i e in
      refused-at b m (same_key p R T bk v) (no (refusal_of k) 0) (same-faulty p R T bk v (refusal_of k) q.0) (refusal-refuses k) a (rw q.1 at h)

  module _ (h : none ≡ put_fault p R T bk true v) where
    free-old : row_fault p R st T true v ≡ none
    free-old = free-row p R T bk true v h

    module _ {n : Name} (en : n ≡ T.name) {key : Value} (ey : key ≡ key_of T v) where
      -- a row has the key
      pub row-present : has_row st.rows n key ≡ true
      row-present = rw (en, ey) (not-false _ (row-passes p R st T true v free-old).present)

      module _ {i : ℕ} (e : some i ≡ place_of (is_row n key) st.rows) where
        pub row-there : i < length st.rows
        row-there = (place_found (is_row n key) st.rows i (sym e)).0

        found : row_with st.rows n key ≡ some (row_in p R s i)
        found = sym (place_found (is_row n key) st.rows i (sym e)).1 ∙ row_at p R s (laid-store p R s b.store) i row-there

        is-it : is_row n key (row_in p R s i) ≡ true
        is-it = (find-in (is_row n key) st.rows (row_in p R s i) found).1

        pub row-replaceable : Replaceable p R s t i v
        unfolding apply
        row-replaceable =
            record {
              row = record { known = f.known; stored = row-there; of = name-is _ _ (and_left _ _ is-it) ∙ en };
              same = rw ey at (and_right (of_table n (row_in p R s i)) (same (row_in p R s i).key key) is-it);
              laid = laid_of p R (with_rows st (with_row (row_of T v) st.rows)) (valid-laid (with-row true free-old));
            }

        pub row-replaced : {s₁ j₁ : List ℕ} → s₁ ≡ image p R (apply (replaced (row_in p R s i) (row_of T v)) st) → Noted p (stood (row_in p R s i)) j j₁
            → (m : ℕ) (a : Answer) → said a ≡ ok 1 → Settled p R (numbered m (same_key p R T bk v)) s j s₁ j₁ a
        unfolding apply_all note_all note
        row-replaced q w m a x =
            rw (same-passes p R T bk v (row_in p R s i) h (rw (en, ey) at found))
            (record { answer = x; bytes = record { store = q; journal = noted-is (journaled (laid-books b)) (free-place p R T bk true v h) (stood (row_in p R s i)) w } })

  -- ---- the old key's row goes, and then an insert

  module _ (old : Value) where
    abbrev q : Pair
    q = record { old = old; row = v }

    abbrev cs : List Change
    cs = removals_in p R s t (old ∷ [])

    -- the references that the code looks for, by the table's name and the one key
    pub asked-for : {o : Option Carried} {n : Name} → n ≡ T.name → {ks : List Value} → ks ≡ old ∷ [] → o ≡ row_referenced st.rows n ks st.tables
        → o ≡ row_referenced st.rows T.name (old ∷ []) st.tables
    asked-for en eks e = rw (en, eks) at e

    pub referenced-kept : (x : Carried) → some x ≡ row_referenced st.rows T.name (old ∷ []) st.tables → (m : ℕ) (a : Answer) → said a ≡ no_carrying RowReferenced m x
        → Settled p R (numbered m (other_key p R T bk q)) s j s j a
    referenced-kept x e m a h =
        refused-at b m (other_key p R T bk q) (no_carrying RowReferenced 0 x) (other-referenced p R T bk q x e) refl a h

    -- whether there is a place for it, as the code asks
    pub one_key : {x : Bool} {ks : List Value} → ks ≡ old ∷ [] → x ≡ lacks bk.journal (length (removals_in p R s t ks)) → x ≡ lacks bk.journal (length cs)
    one_key eks e = rw eks at e

    module _ (unreferenced : none ≡ row_referenced st.rows T.name (old ∷ []) st.tables) where
      pub other-lacks : lacks bk.journal (length cs) ≡ true → (m : ℕ) (a : Answer) → said a ≡ no JournalFull m → Settled p R (numbered m (other_key p R T bk q)) s j s j a
      unfolding removals_in
      other-lacks l m a h = refused-at b m (other_key p R T bk q) (no JournalFull 0) (other-full p R T bk q unreferenced l) refl a h

      module _ (room : RoomFor p R s j t (old ∷ [])) {s₁ j₁ : List ℕ} (e₁ : Removes p R s j t (old ∷ []) s₁ j₁) where
        gone-right : Right p R (changed cs bk)
        unfolding removals_in
        gone-right = (right-keeps p R).rows-removed bk T.name T (old ∷ []) tt own-named (sym unreferenced) room (right_of b)

        pub gone-booked : Booked p R s₁ j₁
        gone-booked = next-booked b cs gone-right e₁

        gone-are : books_of p R s₁ j₁ ≡ changed cs bk
        gone-are = next-are b cs gone-right e₁

        gone-tables : (parse p R s₁).tables ≡ st.tables
        unfolding removals_in
        gone-tables = ap (λ (x : Books). x.store.tables) gone-are ∙ ap (λ (x : State). x.tables) (removals-come (old ∷ []) T.name st)

        gone-table : table_in p R s₁ t ≡ T
        unfolding table_in
        gone-table = ap (λ (ts : List Table). or_default (nth ts t) (unknown [])) gone-tables

        pub gone-full : FullRow p R s₁ t row
        gone-full =
            record {
              known = subst (λ (ts : List Table). t < length ts) (sym gone-tables) f.known;
              proper = f.proper;
              full = f.full ∙ ap (λ (x : Table). length x.columns) (sym gone-table);
              normal = f.normal;
            }

        module _ (m : ℕ) {a : Answer} {s₂ j₂ : List ℕ} (h : Settled p R (numbered m (insert_row p R (table_in p R s₁ t) (books_of p R s₁ j₁) v)) s₁ j₁ s₂ j₂ a) where
          abbrev after : Outcome
          after = insert_row p R T (changed cs bk) v

          outcome-is : insert_row p R (table_in p R s₁ t) (books_of p R s₁ j₁) v ≡ after
          outcome-is = ap (λ (x : Table). insert_row p R x (books_of p R s₁ j₁) v) gone-table ∙ ap (λ (x : Books). insert_row p R T x v) gone-are

          answered : said a ≡ (numbered m after).reply
          answered = h.answer ∙ ap (λ (o : Outcome). (numbered m o).reply) outcome-is

          accepted-as : (o : Outcome) → after ≡ o → is_accepted (said a) ≡ is_accepted o.reply
          accepted-as o e =
              ap (λ (r : Reply). is_accepted r) answered ∙ numbered-accepted m after ∙ ap (λ (o : Outcome). is_accepted o.reply) e

          bytes-are : (o : Outcome) → after ≡ o → BytesOf p R (changed o.changes (changed cs bk)) s₂ j₂
          bytes-are o e =
              subst (λ (x : Books). BytesOf p R (changed o.changes x) s₂ j₂) gone-are
              (subst (λ (x : Outcome). BytesOf p R (changed x.changes (books_of p R s₁ j₁)) s₂ j₂) (outcome-is ∙ e) h.bytes)

          other-is : other_key p R T bk q ≡ reinsert p R T (changed cs bk) cs v
          unfolding removals_in
          other-is = other-free p R T bk q unreferenced room

          abbrev fault : Option Refusal
          fault = put_fault p R T (changed cs bk) false v

          -- it was put in
          accepted-by : (o : Option Refusal) → fault ≡ o → is_accepted (said a) ≡ true → Settled p R (numbered m (other_key p R T bk q)) s j s₂ j₂ a
          accepted-by none e g =
              let i = insert-passes p R T (changed cs bk) v (sym e) in
              rw (other-is ∙ again-passes p R T (changed cs bk) v cs (sym e))
              (record {
                answer = answered ∙ ap (λ (o : Outcome). (numbered m o).reply) i;
                bytes = subst (λ (x : Books). BytesOf p R x s₂ j₂) (sym (changed-append cs (added (row_of T v) ∷ []) bk)) (bytes-are _ i);
              })
          accepted-by (some k) e g =
              absurd (true≢false (sym g ∙ accepted-as _ (insert-faulty p R T (changed cs bk) v k (sym e)) ∙ put-told p R T (changed cs bk) false v k (sym e)))

          -- it was refused: GONE where a row went
          refused-by : (o : Option Refusal) → fault ≡ o → is_accepted (said a) ≡ false → (x : Answer) → said x ≡ with_gone (not (is_nil cs)) (said a)
              → Settled p R (numbered m (other_key p R T bk q)) s j s₂ j₂ x
          unfolding apply_all note_all
          refused-by none e g x ex = absurd (true≢false (sym (accepted-as _ (insert-passes p R T (changed cs bk) v (sym e))) ∙ g))
          refused-by (some k) e g x ex =
              let i = insert-faulty p R T (changed cs bk) v k (sym e) in
              let f : eqb (number_of k) 0 ≡ false = sym (accepted-as (refused (no k 0)) i) ∙ g in
              let over : Outcome = record { changes = cs; lines = []; reply = with_gone (not (is_nil cs)) (no k 0) } in
              subst (λ (o : Outcome). Settled p R o s j s₂ j₂ x)
              (sym (ap (numbered m) (other-is ∙ again-faulty p R T (changed cs bk) v cs k (sym e)) ∙ numbered-no m over f))
              (record {
                answer = ex ∙ ap (with_gone (not (is_nil cs))) (answered ∙ ap (λ (o : Outcome). o.reply) (ap (numbered m) i ∙ numbered-no m (refused (no k 0)) f));
                bytes = bytes-are _ i;
              })

          -- either, as the code answers it
          pub again-settled : {went : Bool} → went ≡ not (is_nil cs) → {x : Answer} → Again went a x → Settled p R (numbered m (other_key p R T bk q)) s j s₂ j₂ x
          again-settled {went} g {x} r = go a x refl r
            where
              go : (y z : Answer) → a ≡ y → Again went y z → Settled p R (numbered m (other_key p R T bk q)) s j s₂ j₂ z
              go (Ok n) z e f = rw (f, ← e) (accepted-by fault refl (ap (λ (y : Answer). is_accepted (said y)) e))
              go (Err f) (Ok n) e h = absurd h
              go (Err f) (Err w) e h =
                  refused-by fault refl (ap (λ (y : Answer). is_accepted (said y)) e ∙ told-refuses f) (Err w)
                  (h ∙ ap (λ (x : Bool). with_gone x (told f)) g ∙ ap (λ (y : Answer). with_gone (not (is_nil cs)) (said y)) (sym e))

    -- ---- either

    module _ {key : Value} (ey : key ≡ key_of T v) (m : ℕ) {s₁ j₁ : List ℕ} {a : Answer} where
      pub pair-with-same : same old key ≡ true → Settled p R (numbered m (same_key p R T bk v)) s j s₁ j₁ a → Settled p R (numbered m (pair p R T bk q)) s j s₁ j₁ a
      pair-with-same g h = rw (pair_same p R T bk q (rw ey at g)) h

      pub pair-with-other : same old key ≡ false → Settled p R (numbered m (other_key p R T bk q)) s j s₁ j₁ a → Settled p R (numbered m (pair p R T bk q)) s j s₁ j₁ a
      pair-with-other g h = rw (pair-other p R T bk q (rw ey at g)) h
