-- Inside a batch requests are answered as outside, given journal room (document 02, T-06): where the places that are left suffice for what the request
-- changes outside a batch, its outcome is the same. Assumes nothing.
use Prim.Native.Nat.{ℕ, suc, ◌+◌, ◌≤◌}
use native.Mathlib.Omega.{arith}
use mathlib.Core.Path.{◌≡◌, refl, sym, ◌∙◌, ap, subst}
use mathlib.Core.Bool.{Bool, true, false, not, cond, true≢false}
use mathlib.Core.List.{List, [], ◌∷◌, ◌++◌, map, append-nil}
use mathlib.Core.Option
use mathlib.Core.Option.{Option, none, some}
use lib.Dec.{ltb}
use lib.ListN.{length, length-append}
use Rattle.values.specs.Basic.{is_nil, is_some, ◌or_else◌, maybe}
use Rattle.values.specs.Value.{Value, same}
use Rattle.areas.specs.Sorted.{All}
use Rattle.rules.specs.declared.profile.Profile.{Profile}
use Rattle.rules.specs.Refusal.{Refusal, JournalFull, RowReferenced}
use Rattle.rules.specs.State.{Name, Table, Row, table_named, row_with, key_of, row_of}
use Rattle.rules.specs.Journal.{Event, Journal, lacks, Books, batch_of, with_notes}
use Rattle.rules.specs.Request.{Pair, Request, Create, Drop, Insert, Update, Delete, Get, Lookup, Scan, Names, Open, Keep, Back, no, Carried, no_carrying, with_gone, entered}
use Rattle.rules.specs.Schema.{first}
use Rattle.rules.specs.Rows.{row_fault, row_referenced, full_row}
use Rattle.rules.specs.Step.{Change, created, dropped, added, removed, replaced, opened, kept, taken_back, without_row, apply_all, noted, note, note_all, changed, Outcome, did, refused, is_accepted, at_place, in_turn, journal_fault, insert_row, removals, delete, same_key, reinsert, other_key, pair, insert, update, act, step}
use Rattle.rules.proofs.Tests.{by-option, by_cond, none_first}
use Rattle.rules.proofs.Cells.{row-passes}
use Rattle.rules.proofs.Turns.{in-turn-nil, in-turn-yes, in-turn-no}
use Rattle.rules.proofs.Backed.{has-place, place-had, notes-twice}
use Rattle.rules.specs.Batch.{shut, notes, of_rows}

-- ---- changes of rows: each is noted once, and where no batch is open nothing is

pub data RowChange : Change → Type 0 where
  by-added : (r : Row) → RowChange (added r)
  by-removed : (r : Row) → RowChange (removed r)
  by-replaced : (old new : Row) → RowChange (replaced old new)

one-note : (c : Change) → RowChange c → length (noted c) ≡ 1
one-note (added r) (by-added r') = refl
one-note (removed r) (by-removed r') = refl
one-note (replaced old new) (by-replaced o' n') = refl
one-note (created _) x = elim x [ ]
one-note (dropped _) x = elim x [ ]
one-note opened x = elim x [ ]
one-note kept x = elim x [ ]
one-note (taken_back _) x = elim x [ ]

note-is : (c : Change) (j : Journal) → RowChange c → note c j ≡ batch_of j.places (with_notes j (noted c))
unfolding note
note-is (added r) j (by-added r') = refl
note-is (removed r) j (by-removed r') = refl
note-is (replaced old new) j (by-replaced o' n') = refl
note-is (created _) j x = elim x [ ]
note-is (dropped _) j x = elim x [ ]
note-is opened j x = elim x [ ]
note-is kept j x = elim x [ ]
note-is (taken_back _) j x = elim x [ ]

-- one for each
pub notes-length : (cs : List Change) → All RowChange cs → length (notes cs) ≡ length cs
unfolding notes
notes-length [] k = refl
notes-length (c ∷ cs) k = length-append (noted c) (notes cs) ∙ omega (arith, one-note c k.0, notes-length cs k.1)

-- behind those in use, where a batch is open
pub notes-are : (cs : List Change) (j : Journal) → All RowChange cs → note_all cs j ≡ batch_of j.places (with_notes j (notes cs))
unfolding notes note_all
notes-are [] j k = ap (batch_of j.places) (all_of j.batch)
  where
    all_of : (o : Option (List Event)) → o ≡ Option.map (λ (es : List Event). es ++ []) o
    all_of none = refl
    all_of (some es) = ap some (sym (append-nil es))
notes-are (c ∷ cs) j k =
    notes-are cs (note c j) k.1
    ∙ ap (λ (x : Journal). batch_of x.places (with_notes x (notes cs))) (note-is c j k.0)
    ∙ ap (batch_of j.places) (notes-twice j.batch (noted c) (notes cs))

-- ---- room, and a batch that is not open, after such changes

pub lacks-noted : (cs : List Change) (j : Journal) (n : ℕ) → All RowChange cs → lacks (note_all cs j) n ≡ lacks j (length cs + n)
unfolding lacks maybe
lacks-noted cs j n k = ap (λ (x : Journal). lacks x n) (notes-are cs j k) ∙ go j.batch
  where
    go : (o : Option (List Event))
        → maybe (Option.map (λ (es : List Event). es ++ notes cs) o) false (λ es. ltb j.places (length es + n))
        ≡ maybe o false (λ es. ltb j.places (length es + (length cs + n)))
    go none = refl
    go (some es) = ap (ltb j.places) (omega (arith, length-append es (notes cs), notes-length cs k))

pub lacks_less : (j : Journal) (m n : ℕ) → n ≤ m → lacks j m ≡ false → lacks j n ≡ false
lacks_less j m n l h = place-had j n (λ es e. omega (arith, has-place j es m e h, l))

pub shut-notes : (cs : List Change) (n : ℕ) → All RowChange cs → note_all cs (batch_of n none) ≡ batch_of n none
shut-notes cs n k = notes-are cs (batch_of n none) k

pub shut-after : (cs : List Change) (b : Books) → All RowChange cs → changed cs (shut b) ≡ shut (changed cs b)
shut-after cs b k = rw (shut-notes cs b.journal.places k, notes-are cs b.journal k)

pub shut-lacks : (n m : ℕ) → lacks (batch_of n none) m ≡ false
unfolding lacks maybe
shut-lacks n m = refl

pub first-nil : first [] ≡ none
unfolding first
first-nil = refl

pub not-lacking : (j : Journal) (n : ℕ) → lacks j n ≡ false → journal_fault j n ≡ none
unfolding journal_fault
not-lacking j n h = none_first JournalFull (lacks j n) [] h first-nil

pub removals-rows : (ks : List Value) (n : Name) (rs : List Row) → All RowChange (removals rs n ks)
unfolding removals maybe
removals-rows [] n rs = tt
removals-rows (x ∷ ks) n rs = go (row_with rs n x) (removals-rows ks n rs) (λ r. removals-rows ks n (without_row r rs))
  where
    go : (o : Option Row) → All RowChange (removals rs n ks) → ((r : Row) → All RowChange (removals (without_row r rs) n ks))
        → All RowChange (maybe o (removals rs n ks) (λ r. removed r ∷ removals (without_row r rs) n ks))
    go none a f = a
    go (some r) a f = (by-removed r, f r)

-- ---- one row, one pair

-- the outcome inside and outside, and what it changes outside
abbrev pub Alike : Journal → Outcome → Outcome → Type 0
Alike j o out = lacks j (length out.changes) ≡ false → o ≡ out

abbrev pub Rowwise : Outcome → Type 0
Rowwise o = All RowChange o.changes

module _ (p : Profile) (R : ℕ) (t : Table) (b : Books) where
  abbrev j : Journal
  j = b.journal

  abbrev z : Journal
  z = batch_of b.journal.places none

  no-fault : (n : ℕ) → journal_fault z n ≡ none
  no-fault n = not-lacking z n (shut-lacks b.journal.places n)

  pub insert-alike : (v : List Value) → Alike j (insert_row p R t b v) (insert_row p R t (shut b) v)
  unfolding insert_row maybe ◌or_else◌
  insert-alike v = go (row_fault p R b.store t false v)
    where
      X : Outcome
      X = did (added (row_of t v) ∷ []) 1

      F : Refusal → Outcome
      F k = refused (no k 0)

      go : (o : Option Refusal) → Alike j (maybe (o or_else journal_fault j 1) X F) (maybe (o or_else journal_fault z 1) X F)
      go (some k) h = refl
      go none h = rw (no-fault 1, not-lacking j 1 (rw (no-fault 1) at h))

  pub insert-rowwise : (v : List Value) → Rowwise (insert_row p R t b v)
  unfolding insert_row
  insert-rowwise v = by-option Rowwise _ _ _ (λ e. (by-added (row_of t v), tt)) (λ k e. tt)

  same_alike : (v : List Value) → Alike j (same_key p R t b v) (same_key p R t (shut b) v)
  unfolding same_key maybe ◌or_else◌
  same_alike v = go (row_fault p R b.store t true v) refl (row_with b.store.rows t.name (key_of t v)) refl
    where
      F : Refusal → Outcome
      F k = refused (no k 0)

      X : Option Row → Outcome
      X o = maybe o (did [] 1) (λ old. did (replaced old (row_of t v) ∷ []) 1)

      there : row_fault p R b.store t true v ≡ none → row_with b.store.rows t.name (key_of t v) ≡ none → ⊥
      there e f = true≢false (sym (ap (λ (o : Option Row). not (is_some o)) f) ∙ (row-passes p R b.store t true v e).present)

      go : (o : Option Refusal) → row_fault p R b.store t true v ≡ o → (r : Option Row) → row_with b.store.rows t.name (key_of t v) ≡ r
          → Alike j (maybe (o or_else journal_fault j 1) (X r) F) (maybe (o or_else journal_fault z 1) (X r) F)
      go (some k) e r f h = refl
      go none e none f h = absurd (there e f)
      go none e (some r) f h = rw (no-fault 1, not-lacking j 1 (rw (no-fault 1) at h))

  other-alike : (q : Pair) → Alike j (other_key p R t b q) (other_key p R t (shut b) q)
  unfolding other_key reinsert maybe ◌or_else◌
  other-alike q = go (row_referenced b.store.rows t.name (q.old ∷ []) b.store.tables)
    where
      cs : List Change
      cs = removals b.store.rows t.name (q.old ∷ [])

      rowwise : All RowChange cs
      rowwise = removals-rows (q.old ∷ []) t.name b.store.rows

      F : Refusal → Outcome
      F k = refused (no k 0)

      again : Option Refusal → Outcome
      again o = maybe o (did (cs ++ (added (row_of t q.row) ∷ [])) 1) (λ k. record { changes = cs; lines = []; reply = with_gone (not (is_nil cs)) (no k 0) })

      fault : Option Refusal
      fault = row_fault p R (apply_all cs b.store) t false q.row

      zs : Journal
      zs = note_all cs z

      outside-free : journal_fault zs 1 ≡ none
      outside-free = ap (λ (x : Journal). journal_fault x 1) (shut-notes cs b.journal.places rowwise) ∙ no-fault 1

      inner : (o : Option Refusal) → lacks j (length (again (o or_else journal_fault zs 1)).changes) ≡ false
          → maybe (journal_fault j (length cs)) (again (o or_else journal_fault (note_all cs j) 1)) F ≡ again (o or_else journal_fault zs 1)
      inner (some k) h = rw (not-lacking j (length cs) h)
      inner none h =
          let l : lacks j (length cs + 1) ≡ false = subst (λ (n : ℕ). lacks j n ≡ false) (length-append cs (added (row_of t q.row) ∷ [])) (rw outside-free at h) in
          rw (not-lacking j (length cs) (lacks_less j (length cs + 1) (length cs) (omega arith) l), outside-free, not-lacking (note_all cs j) 1 (lacks-noted cs j 1 rowwise ∙ l))

      go : (o : Option Carried) → Alike j
          (maybe o (maybe (journal_fault j (length cs)) (again (fault or_else journal_fault (note_all cs j) 1)) F) (λ x. refused (no_carrying RowReferenced 0 x)))
          (maybe o (maybe (journal_fault z (length cs)) (again (fault or_else journal_fault zs 1)) F) (λ x. refused (no_carrying RowReferenced 0 x)))
      go (some x) h = refl
      go none h = inner fault (rw (no-fault (length cs)) at h) ∙ rw (no-fault (length cs))

  pub pair-alike : (q : Pair) → Alike j (pair p R t b q) (pair p R t (shut b) q)
  unfolding pair
  pair-alike q = go (same q.old (key_of t q.row))
    where
      go : (c : Bool) → Alike j (cond c (same_key p R t b q.row) (other_key p R t b q)) (cond c (same_key p R t (shut b) q.row) (other_key p R t (shut b) q))
      go true = same_alike q.row
      go false = other-alike q

-- ---- in turn

module _ {A : Type 0} (f : Books → A → Outcome) (alike : (b : Books) (x : A) → Alike b.journal (f b x) (f (shut b) x)) (rowwise : (b : Books) (x : A) → Rowwise (f b x)) where
  pub turn-alike : (b : Books) (i : ℕ) (xs : List A) → Alike b.journal (in_turn f b i xs) (in_turn f (shut b) i xs)
  turn-alike b i [] = λ h. in-turn-nil f b i ∙ sym (in-turn-nil f (shut b) i)
  turn-alike b i (x ∷ xs) = go (is_accepted (f (shut b) x).reply) refl (turn-alike (changed (f b x).changes b) (suc i) xs)
    where
      first : Outcome
      first = f (shut b) x

      go : (a : Bool) → is_accepted first.reply ≡ a
          → Alike (changed (f b x).changes b).journal (in_turn f (changed (f b x).changes b) (suc i) xs) (in_turn f (shut (changed (f b x).changes b)) (suc i) xs)
          → Alike b.journal (in_turn f b i (x ∷ xs)) (in_turn f (shut b) i (x ∷ xs))
      go false e r h =
          let out = in-turn-no f (shut b) i x xs e in
          let k : f b x ≡ first = alike b x (subst (λ (o : Outcome). lacks b.journal (length o.changes) ≡ false) out h) in
          in-turn-no f b i x xs (ap (λ (o : Outcome). is_accepted o.reply) k ∙ e)
          ∙ ap (λ (o : Outcome). record { changes = o.changes; lines = []; reply = at_place i o.reply }) k
          ∙ sym out
      go true e r h =
          let out = in-turn-yes f (shut b) i x xs e in
          let rest : Outcome = in_turn f (changed first.changes (shut b)) (suc i) xs in
          let l : lacks b.journal (length first.changes + length rest.changes) ≡ false =
          subst (λ (n : ℕ). lacks b.journal n ≡ false) (length-append first.changes rest.changes) (subst (λ (o : Outcome). lacks b.journal (length o.changes) ≡ false) out h)
          in
          let k : f b x ≡ first = alike b x (lacks_less b.journal _ (length first.changes) (omega arith) l) in
          let same_rest : in_turn f (shut (changed (f b x).changes b)) (suc i) xs ≡ rest =
          ap (λ (c : Books). in_turn f c (suc i) xs) (sym (shut-after (f b x).changes b (rowwise b x)) ∙ ap (λ (o : Outcome). changed o.changes (shut b)) k)
          in
          let m : lacks (note_all (f b x).changes b.journal) (length rest.changes) ≡ false =
          lacks-noted (f b x).changes b.journal (length rest.changes) (rowwise b x)
          ∙ (subst (λ (o : Outcome). lacks b.journal (length o.changes + length rest.changes) ≡ false) (sym k) l)
          in
          let s : in_turn f (changed (f b x).changes b) (suc i) xs ≡ rest =
          r (subst (λ (o : Outcome). lacks (note_all (f b x).changes b.journal) (length o.changes) ≡ false) (sym same_rest) m) ∙ same_rest
          in
          in-turn-yes f b i x xs (ap (λ (o : Outcome). is_accepted o.reply) k ∙ e)
          ∙ glue (f b x) first k (in_turn f (changed (f b x).changes b) (suc i) xs) rest s
          ∙ sym out
        where
          glue : (o o' : Outcome) → o ≡ o' → (u u' : Outcome) → u ≡ u'
              → ◌≡◌ {A = Outcome} (record { changes = o.changes ++ u.changes; lines = []; reply = u.reply }) (record { changes = o'.changes ++ u'.changes; lines = []; reply = u'.reply })
          glue o o' e u u' f = rw (e, f)

-- ---- every request

pub rowwise-append : (cs ds : List Change) → All RowChange cs → All RowChange ds → All RowChange (cs ++ ds)
rowwise-append [] ds h k = k
rowwise-append (c ∷ cs) ds h k = (h.0, rowwise-append cs ds h.1 k)

pub pair-rowwise : (p : Profile) (R : ℕ) (t : Table) (b : Books) (q : Pair) → Rowwise (pair p R t b q)
unfolding pair same_key other_key reinsert
pair-rowwise p R t b q =
    by_cond Rowwise (same q.old (key_of t q.row)) _ _
    (λ e. by-option Rowwise _ _ _ (λ f. by-option Rowwise _ _ _ (λ g. tt) (λ old g. (by-replaced old (row_of t q.row), tt))) (λ k f. tt))
    (λ e. by-option Rowwise _ _ _
    (λ f.
    let cs : List Change = removals b.store.rows t.name (q.old ∷ []) in
    let h = removals-rows (q.old ∷ []) t.name b.store.rows in
    by-option Rowwise (journal_fault b.journal (length cs)) _ _
    (λ g. by-option Rowwise _ _ _ (λ i. rowwise-append cs (added (row_of t q.row) ∷ []) h (by-added (row_of t q.row), tt)) (λ k i. h))
    (λ k g. tt))
    (λ x f. tt))

module _ (p : Profile) (R : ℕ) (b : Books) where
  -- where an option stands before what differs
  under : {A : Type 0} (o : Option A) (x : Outcome) (f g : A → Outcome) → ((a : A) → o ≡ some a → Alike b.journal (f a) (g a)) → Alike b.journal (maybe o x f) (maybe o x g)
  unfolding maybe
  under none x f g h l = refl
  under (some a) x f g h l = h a refl l

  unless : {A : Type 0} (o : Option A) (x y : Outcome) (f : A → Outcome) → Alike b.journal x y → Alike b.journal (maybe o x f) (maybe o y f)
  unfolding maybe
  unless none x y f h l = h l
  unless (some a) x y f h l = refl

  -- a delete has all its places
  all-places : (n : ℕ) (cs : List Change) → Alike b.journal
      (maybe (journal_fault b.journal (length cs)) (did cs n) (λ k. refused (no k 0)))
      (maybe (journal_fault (batch_of b.journal.places none) (length cs)) (did cs n) (λ k. refused (no k 0)))
  unfolding maybe
  all-places n cs l =
      let z = not-lacking (batch_of b.journal.places none) (length cs) (shut-lacks b.journal.places (length cs)) in
      rw (z, not-lacking b.journal (length cs) (rw z at l))

  -- given journal room a request is answered and carried out inside a batch as it is outside
  pub as-outside : (q : Request) → of_rows q ≡ true → lacks b.journal (length (act p R (shut b) q).changes) ≡ false → act p R b q ≡ act p R (shut b) q
  unfolding act insert update delete
  as-outside (Insert n m rows) h =
      under (table_named b.store.tables n) _ _ _
      (λ t e. unless _ _ _ _ (turn-alike (insert_row p R t) (insert-alike p R t) (insert-rowwise p R t) b 0 (map (full_row t m) rows)))
  as-outside (Update n qs) h =
      under (table_named b.store.tables n) _ _ _
      (λ t e. unless _ _ _ _ (turn-alike (pair p R t) (pair-alike p R t) (pair-rowwise p R t) b 0 qs))
  as-outside (Delete n ks) h =
      under (table_named b.store.tables n) _ _ _
      (λ t e. unless _ _ _ _ (all-places (length ks) (removals b.store.rows n ks)))
  as-outside (Get n ks) h = λ l. refl
  as-outside (Lookup n i vs) h = λ l. refl
  as-outside (Scan n) h = λ l. refl
  as-outside Names h = λ l. refl
  as-outside (Create t) h = absurd (true≢false (sym h))
  as-outside (Drop n x) h = absurd (true≢false (sym h))
  as-outside Open h = absurd (true≢false (sym h))
  as-outside Keep h = absurd (true≢false (sym h))
  as-outside Back h = absurd (true≢false (sym h))

  rows-entered : (q : Request) → of_rows (entered q) ≡ of_rows q
  rows-entered (Create t) = refl
  rows-entered (Drop n x) = refl
  rows-entered (Insert n m rows) = refl
  rows-entered (Update n qs) = refl
  rows-entered (Delete n ks) = refl
  rows-entered (Get n ks) = refl
  rows-entered (Lookup n i vs) = refl
  rows-entered (Scan n) = refl
  rows-entered Names = refl
  rows-entered Open = refl
  rows-entered Keep = refl
  rows-entered Back = refl

  pub step-outside : (q : Request) → of_rows q ≡ true → lacks b.journal (length (step p R (shut b) q).changes) ≡ false → step p R b q ≡ step p R (shut b) q
  unfolding step
  step-outside q h l = as-outside (entered q) (rows-entered q ∙ h) l
