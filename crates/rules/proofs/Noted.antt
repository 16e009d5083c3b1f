-- What a batch's journal holds after each request, and when it is full (document 02, T-06): a place for each row changed so far, after a refusal too; 43
-- exactly where the places left are fewer than what the request changes outside a batch; zeros after either ending. Assumes nothing.
use Prim.Native.Nat.{ℕ, suc, ◌+◌}
use native.Mathlib.Nat.{add-zero}
use mathlib.Core.Path.{◌≡◌, refl, sym, ◌∙◌, ap, subst}
use mathlib.Core.Bool.{Bool, true, false, not, ◌||◌, cond, true≢false, false≢true}
use mathlib.Core.List.{List, [], ◌∷◌, ◌++◌}
use mathlib.Core.Option.{Option, none, some, none-ne-some}
use lib.Dec.{eqb}
use lib.ListN.{length, replicate, length-append}
use Rattle.values.specs.Basic.{is_nil, ◌or_else◌, maybe}
use Rattle.values.specs.Value.{Value, same}
use Rattle.areas.specs.Sorted.{All}
use Rattle.rules.specs.declared.profile.Profile.{Profile}
use Rattle.rules.specs.Refusal.{Refusal, JournalFull, RowReferenced, number_of}
use Rattle.rules.specs.State.{Table, Row, table_named, row_with, key_of, row_of}
use Rattle.rules.specs.Journal.{Journal, is_open, lacks, Books, batch_of, with_notes}
use Rattle.rules.specs.Request.{Pair, Request, Create, Drop, Insert, Update, Delete, Get, Lookup, Scan, Names, Open, Keep, Back, entered, no, Carried, no_carrying, with_gone}
use Rattle.rules.specs.Schema.{first}
use Rattle.rules.specs.Rows.{row_fault, row_referenced}
use Rattle.rules.specs.Step.{Change, added, replaced, note, note_all, apply, apply_all, changed, Outcome, did, refused, is_accepted, onward, in_turn, journal_fault, insert_row, insert, removals, delete, same_key, reinsert, other_key, pair, update, lookup, keep_batch, take_back, act, step, after}
use Rattle.rules.specs.Pages.{journal_length, journal_image}
use Rattle.rules.proofs.Tests.{by-option, by_cond}
use Rattle.rules.proofs.Turns.{in-turn-nil, in-turn-yes, in-turn-no}
use Rattle.rules.proofs.Numbers.{or_else-some, put_fault, row_numbers, fault-only}
use Rattle.rules.proofs.Backed.{closed}
use Rattle.rules.proofs.Outside.{RowChange, notes-length, notes-are, lacks-noted, shut-notes, shut-after, shut-lacks, not-lacking, removals-rows, Alike, Rowwise, insert-alike, insert-rowwise, pair-alike, rowwise-append, pair-rowwise, as-outside}
use Rattle.rules.proofs.Refusals.{no_number}
use Rattle.rules.proofs.Afterwards.{refused-whole, map-only, pairs-only}
use Rattle.rules.specs.Refused.{one_of}
use Rattle.rules.specs.Batch.{shut, notes, of_rows}

-- ---- a place for each row that is changed

turn-rowwise : {A : Type 0} (f : Books → A → Outcome) → ((b : Books) (x : A) → Rowwise (f b x)) → (b : Books) (i : ℕ) (xs : List A) → Rowwise (in_turn f b i xs)
unfolding in_turn onward
turn-rowwise f h b i [] = tt
turn-rowwise f h b i (x ∷ xs) =
    by_cond Rowwise (is_accepted (f b x).reply) _ _
    (λ e. rowwise-append (f b x).changes _ (h b x) (turn-rowwise f h (changed (f b x).changes b) (suc i) xs)) (λ e. h b x)

module _ (p : Profile) (R : ℕ) (b : Books) where
  whole-rowwise : (q : Request) → (step p R b q).changes ≡ [] → Rowwise (step p R b q)
  whole-rowwise q e = subst (All RowChange) (sym e) tt

  not_yes : (x : Bool) → (false || not x) ≡ true → x ≡ false
  not_yes true h = absurd (false≢true h)
  not_yes false h = refl

  -- requests of rows, and refused ones, change rows and nothing else
  pub step-rowwise : (q : Request) → (of_rows q || not (is_accepted (step p R b q).reply)) ≡ true → Rowwise (step p R b q)
  unfolding step act insert update delete lookup
  step-rowwise (Insert n m rows) h =
      by-option Rowwise (table_named b.store.tables n) _ _ (λ e. tt)
      (λ t e. by-option Rowwise _ _ _ (λ f. turn-rowwise (insert_row p R t) (insert-rowwise p R t) b 0 _) (λ x f. tt))
  step-rowwise (Update n qs) h =
      by-option Rowwise (table_named b.store.tables n) _ _ (λ e. tt)
      (λ t e. by-option Rowwise _ _ _ (λ f. turn-rowwise (pair p R t) (pair-rowwise p R t) b 0 _) (λ x f. tt))
  step-rowwise (Delete n ks) h =
      by-option Rowwise (table_named b.store.tables n) _ _ (λ e. tt)
      (λ t e.
      by-option Rowwise (row_referenced b.store.rows n _ b.store.tables) _ _
      (λ f. by-option Rowwise _ _ _ (λ g. removals-rows _ n b.store.rows) (λ k g. tt)) (λ x f. tt))
  step-rowwise (Get n ks) h = tt
  step-rowwise (Lookup n i vs) h =
      by-option Rowwise (table_named b.store.tables n) _ _ (λ e. tt) (λ t e. by-option Rowwise _ _ _ (λ f. tt) (λ x f. tt))
  step-rowwise (Scan n) h = tt
  step-rowwise Names h = tt
  step-rowwise (Create t) h = whole-rowwise (Create t) (refused-whole p R b (Create t) refl (not_yes _ h))
  step-rowwise (Drop n x) h = whole-rowwise (Drop n x) (refused-whole p R b (Drop n x) refl (not_yes _ h))
  step-rowwise Open h = whole-rowwise Open (refused-whole p R b Open refl (not_yes _ h))
  step-rowwise Keep h = whole-rowwise Keep (refused-whole p R b Keep refl (not_yes _ h))
  step-rowwise Back h = whole-rowwise Back (refused-whole p R b Back refl (not_yes _ h))

  -- so the journal has the places that it had and one for each row changed so far
  pub noted-so-far : (q : Request) → (of_rows q || not (is_accepted (step p R b q).reply)) ≡ true
      → ((after p R b q).journal ≡ batch_of b.journal.places (with_notes b.journal (notes (step p R b q).changes)))
      × (length (notes (step p R b q).changes) ≡ length (step p R b q).changes)
  unfolding after
  noted-so-far q h =
      let k = step-rowwise q h in
      (notes-are (step p R b q).changes b.journal k, notes-length (step p R b q).changes k)

-- ---- 43

abbrev Calm : Outcome → Type 0
Calm o = o.reply.kind ≡ JournalFull → ⊥

other-kind : (k : Refusal) → eqb (number_of k) 43 ≡ false → k ≡ JournalFull → ⊥
other-kind k h e = true≢false (sym (ap (λ (x : Refusal). eqb (number_of x) 43) e) ∙ h)

free : (b : Books) (n : ℕ) → journal_fault (shut b).journal n ≡ none
free b n = not-lacking (shut b).journal n (shut-lacks b.journal.places n)

module _ (p : Profile) (R : ℕ) (t : Table) where
  put-calm : (z : Books) (u : Bool) (v : List Value) → journal_fault z.journal 1 ≡ none → (k : Refusal) → put_fault p R t z u v ≡ some k → k ≡ JournalFull → ⊥
  put-calm z u v n =
      or_else-some (λ x. x ≡ JournalFull → ⊥) (row_fault p R z.store t u v) (journal_fault z.journal 1)
      (λ k f e. false≢true (ap (one_of row_numbers) (sym e) ∙ fault-only p R z.store t u v k f)) (λ k f e. none-ne-some k (sym n ∙ f))

  insert-calm : (b : Books) (v : List Value) → Calm (insert_row p R t (shut b) v)
  unfolding insert_row
  insert-calm b v = by-option Calm (put_fault p R t (shut b) false v) _ _ (λ e. other-kind _ refl) (λ k e. put-calm (shut b) false v (free b 1) k e)

  pair-calm : (b : Books) (q : Pair) → Calm (pair p R t (shut b) q)
  unfolding pair same_key other_key reinsert
  pair-calm b q =
      by_cond Calm (same q.old (key_of t q.row)) _ _
      (λ e.
      by-option Calm (put_fault p R t (shut b) true q.row) _ _
      (λ f. by-option Calm (row_with b.store.rows t.name (key_of t q.row)) _ _ (λ g. other-kind _ refl) (λ r g. other-kind _ refl))
      (λ k f. put-calm (shut b) true q.row (free b 1) k f))
      (λ e.
      by-option Calm (row_referenced b.store.rows t.name (q.old ∷ []) b.store.tables) _ _
      (λ f.
      let cs : List Change = removals b.store.rows t.name (q.old ∷ []) in
      let still : journal_fault (changed cs (shut b)).journal 1 ≡ none =
      ap (λ (z : Books). journal_fault z.journal 1) (shut-after cs b (removals-rows (q.old ∷ []) t.name b.store.rows)) ∙ free (changed cs b) 1
      in
      by-option Calm (journal_fault (shut b).journal (length cs)) _ _
      (λ g.
      by-option Calm (put_fault p R t (changed cs (shut b)) false q.row) _ _ (λ i. other-kind _ refl)
      (λ k i. put-calm (changed cs (shut b)) false q.row still k i))
      (λ k g i. none-ne-some k (sym (free b (length cs)) ∙ g)))
      (λ x f. other-kind _ refl))

turn-calm : {A : Type 0} (f : Books → A → Outcome) → ((b : Books) (x : A) → Rowwise (f b x)) → ((b : Books) (x : A) → Calm (f (shut b) x))
    → (b : Books) (i : ℕ) (xs : List A) → Calm (in_turn f (shut b) i xs)
unfolding in_turn onward
turn-calm f h c b i [] = other-kind _ refl
turn-calm f h c b i (x ∷ xs) =
    let cs : List Change = (f (shut b) x).changes in
    by_cond Calm (is_accepted (f (shut b) x).reply) _ _
    (λ e. subst (λ (z : Books). Calm (in_turn f z (suc i) xs)) (sym (shut-after cs b (h (shut b) x))) (turn-calm f h c (changed cs b) (suc i) xs))
    (λ e. c b x)

module _ (p : Profile) (R : ℕ) (b : Books) where
  -- outside a batch it never comes
  pub never-43 : (q : Request) → (step p R (shut b) q).reply.kind ≡ JournalFull → ⊥
  unfolding step act insert update delete
  never-43 (Insert n m rows) =
      by-option Calm (table_named b.store.tables n) _ _ (λ e. other-kind _ refl)
      (λ t e. by-option Calm _ _ _ (λ f. turn-calm (insert_row p R t) (insert-rowwise p R t) (insert-calm p R t) b 0 _)
      (λ x f e. false≢true (ap (one_of (24 ∷ 21 ∷ 22 ∷ 23 ∷ [])) (sym e) ∙ map-only t m _ x f)))
  never-43 (Update n qs) =
      by-option Calm (table_named b.store.tables n) _ _ (λ e. other-kind _ refl)
      (λ t e. by-option Calm _ _ _ (λ f. turn-calm (pair p R t) (pair-rowwise p R t) (pair-calm p R t) b 0 _)
      (λ x f e. false≢true (ap (one_of (35 ∷ 25 ∷ [])) (sym e) ∙ pairs-only t _ x f)))
  never-43 (Delete n ks) =
      by-option Calm (table_named b.store.tables n) _ _ (λ e. other-kind _ refl)
      (λ t e.
      by-option Calm (row_referenced b.store.rows n _ b.store.tables) _ _
      (λ f. by-option Calm _ _ _ (λ g. other-kind _ refl) (λ k g i. none-ne-some k (sym (free b _) ∙ g)))
      (λ x f. other-kind _ refl))
  never-43 (Create t) = no_number p R (shut b) (Create t) JournalFull refl refl
  never-43 (Drop n x) = no_number p R (shut b) (Drop n x) JournalFull refl refl
  never-43 (Get n ks) = no_number p R (shut b) (Get n ks) JournalFull refl refl
  never-43 (Lookup n i vs) = no_number p R (shut b) (Lookup n i vs) JournalFull refl refl
  never-43 (Scan n) = no_number p R (shut b) (Scan n) JournalFull refl refl
  never-43 Names = no_number p R (shut b) Names JournalFull refl refl
  never-43 Open = no_number p R (shut b) Open JournalFull refl refl
  never-43 Keep = no_number p R (shut b) Keep JournalFull refl refl
  never-43 Back = no_number p R (shut b) Back JournalFull refl refl

  -- inside one, only where the places left are fewer than what the request changes outside
  pub full-needs : (q : Request) → (step p R b q).reply.kind ≡ JournalFull → lacks b.journal (length (step p R (shut b) q).changes) ≡ true
  unfolding step
  full-needs q e = go (lacks b.journal (length (act p R (shut b) (entered q)).changes)) refl
    where
      of-rows : (q : Request) → (step p R b q).reply.kind ≡ JournalFull → of_rows (entered q) ≡ true
      of-rows (Insert n m rows) f = refl
      of-rows (Update n qs) f = refl
      of-rows (Delete n ks) f = refl
      of-rows (Get n ks) f = refl
      of-rows (Lookup n i vs) f = refl
      of-rows (Scan n) f = refl
      of-rows Names f = refl
      of-rows (Create t) f = absurd (no_number p R b (Create t) JournalFull refl refl f)
      of-rows (Drop n x) f = absurd (no_number p R b (Drop n x) JournalFull refl refl f)
      of-rows Open f = absurd (no_number p R b Open JournalFull refl refl f)
      of-rows Keep f = absurd (no_number p R b Keep JournalFull refl refl f)
      of-rows Back f = absurd (no_number p R b Back JournalFull refl refl f)

      go : (x : Bool) → lacks b.journal (length (act p R (shut b) (entered q)).changes) ≡ x → x ≡ true
      go true h = refl
      go false h = absurd (never-43 q (ap (λ (o : Outcome). o.reply.kind) (sym (as-outside p R b (entered q) (of-rows q e) h)) ∙ e))

-- and there it comes: where the places do not suffice for what the request changes outside

abbrev Fills : Journal → Outcome → Outcome → Type 0
Fills j o out = lacks j (length out.changes) ≡ true → o.reply.kind ≡ JournalFull

full : (j : Journal) (n : ℕ) → lacks j n ≡ true → journal_fault j n ≡ some JournalFull
unfolding journal_fault first
full j n h = rw h

module _ (p : Profile) (R : ℕ) (t : Table) (b : Books) (room : lacks b.journal 0 ≡ false) where
  abbrev j : Journal
  j = b.journal

  abbrev z : Journal
  z = (shut b).journal

  unchanged-fits : lacks j 0 ≡ true → ⊥
  unchanged-fits h = true≢false (sym h ∙ room)

  insert-fills : (v : List Value) → Fills j (insert_row p R t b v) (insert_row p R t (shut b) v)
  unfolding insert_row maybe ◌or_else◌
  insert-fills v = go (row_fault p R b.store t false v)
    where
      X : Outcome
      X = did (added (row_of t v) ∷ []) 1

      F : Refusal → Outcome
      F k = refused (no k 0)

      go : (o : Option Refusal) → Fills j (maybe (o or_else journal_fault j 1) X F) (maybe (o or_else journal_fault z 1) X F)
      go (some k) h = absurd (unchanged-fits h)
      go none h = rw (full j 1 (rw (free b 1) at h))

  same-fills : (v : List Value) → Fills j (same_key p R t b v) (same_key p R t (shut b) v)
  unfolding same_key maybe ◌or_else◌
  same-fills v = go (row_fault p R b.store t true v) (row_with b.store.rows t.name (key_of t v))
    where
      F : Refusal → Outcome
      F k = refused (no k 0)

      X : Option Row → Outcome
      X o = maybe o (did [] 1) (λ old. did (replaced old (row_of t v) ∷ []) 1)

      go : (o : Option Refusal) (r : Option Row) → Fills j (maybe (o or_else journal_fault j 1) (X r) F) (maybe (o or_else journal_fault z 1) (X r) F)
      go (some k) r h = absurd (unchanged-fits h)
      go none none h = absurd (unchanged-fits (rw (free b 1) at h))
      go none (some r) h = rw (full j 1 (rw (free b 1) at h))

  other-fills : (q : Pair) → Fills j (other_key p R t b q) (other_key p R t (shut b) q)
  unfolding other_key reinsert maybe ◌or_else◌
  other-fills q = go (row_referenced b.store.rows t.name (q.old ∷ []) b.store.tables)
    where
      cs : List Change
      cs = removals b.store.rows t.name (q.old ∷ [])

      rowwise : All RowChange cs
      rowwise = removals-rows (q.old ∷ []) t.name b.store.rows

      F : Refusal → Outcome
      F k = refused (no k 0)

      again : Option Refusal → Outcome
      again o = maybe o (did (cs ++ (added (row_of t q.row) ∷ [])) 1) (λ k. record { changes = cs; lines = []; reply = with_gone (not (is_nil cs)) (no k 0) })

      fault : Option Refusal
      fault = row_fault p R (apply_all cs b.store) t false q.row

      zs : Journal
      zs = note_all cs z

      outside-free : journal_fault zs 1 ≡ none
      outside-free = ap (λ (x : Journal). journal_fault x 1) (shut-notes cs b.journal.places rowwise) ∙ free b 1

      inner : (x : Bool) → lacks j (length cs) ≡ x → (o : Option Refusal) → lacks j (length (again (o or_else journal_fault zs 1)).changes) ≡ true
          → (maybe (journal_fault j (length cs)) (again (o or_else journal_fault (note_all cs j) 1)) F).reply.kind ≡ JournalFull
      inner true e o h = rw (full j (length cs) e)
      inner false e (some k) h = absurd (true≢false (sym h ∙ e))
      inner false e none h =
          let l : lacks j (length cs + 1) ≡ true = subst (λ (n : ℕ). lacks j n ≡ true) (length-append cs (added (row_of t q.row) ∷ [])) (rw outside-free at h) in
          rw (not-lacking j (length cs) e, full (note_all cs j) 1 (lacks-noted cs j 1 rowwise ∙ l))

      go : (o : Option Carried) → Fills j
          (maybe o (maybe (journal_fault j (length cs)) (again (fault or_else journal_fault (note_all cs j) 1)) F) (λ x. refused (no_carrying RowReferenced 0 x)))
          (maybe o (maybe (journal_fault z (length cs)) (again (fault or_else journal_fault zs 1)) F) (λ x. refused (no_carrying RowReferenced 0 x)))
      go (some x) h = absurd (unchanged-fits h)
      go none h = inner (lacks j (length cs)) refl fault (rw (free b (length cs)) at h)

  pair-fills : (q : Pair) → Fills j (pair p R t b q) (pair p R t (shut b) q)
  unfolding pair
  pair-fills q = go (same q.old (key_of t q.row))
    where
      go : (c : Bool) → Fills j (cond c (same_key p R t b q.row) (other_key p R t b q)) (cond c (same_key p R t (shut b) q.row) (other_key p R t (shut b) q))
      go true = same-fills q.row
      go false = other-fills q

module _ {A : Type 0} (f : Books → A → Outcome) (alike : (b : Books) (x : A) → Alike b.journal (f b x) (f (shut b) x)) (rowwise : (b : Books) (x : A) → Rowwise (f b x))
    (fills : (b : Books) → lacks b.journal 0 ≡ false → (x : A) → Fills b.journal (f b x) (f (shut b) x)) where
  turn-fills : (b : Books) (i : ℕ) (xs : List A) → lacks b.journal 0 ≡ false → Fills b.journal (in_turn f b i xs) (in_turn f (shut b) i xs)
  turn-fills b i [] room h = absurd (true≢false (sym h ∙ ap (λ (o : Outcome). lacks b.journal (length o.changes)) (in-turn-nil f (shut b) i) ∙ room))
  turn-fills b i (x ∷ xs) room h =
      go (lacks b.journal (length (f (shut b) x).changes)) refl (is_accepted (f (shut b) x).reply) refl (turn-fills (changed (f b x).changes b) (suc i) xs)
    where
      first : Outcome
      first = f (shut b) x

      go : (l : Bool) → lacks b.journal (length first.changes) ≡ l → (a : Bool) → is_accepted first.reply ≡ a
          → (lacks (note_all (f b x).changes b.journal) 0 ≡ false
          → Fills (note_all (f b x).changes b.journal) (in_turn f (changed (f b x).changes b) (suc i) xs) (in_turn f (shut (changed (f b x).changes b)) (suc i) xs))
          → (in_turn f b i (x ∷ xs)).reply.kind ≡ JournalFull
      go true l a e r =
          let k = fills b room x l in
          ap (λ (o : Outcome). o.reply.kind) (in-turn-no f b i x xs (ap (λ (y : Refusal). eqb (number_of y) 0) k)) ∙ k
      go false l false e r =
          absurd (true≢false (sym h ∙ ap (λ (o : Outcome). lacks b.journal (length o.changes)) (in-turn-no f (shut b) i x xs e) ∙ l))
      go false l true e r =
          let cs : List Change = (f b x).changes in
          let k : f b x ≡ first = alike b x l in
          let out = in-turn-yes f (shut b) i x xs e in
          let rest : Outcome = in_turn f (changed first.changes (shut b)) (suc i) xs in
          let m : lacks b.journal (length first.changes + length rest.changes) ≡ true =
          subst (λ (n : ℕ). lacks b.journal n ≡ true) (length-append first.changes rest.changes)
          (sym (ap (λ (o : Outcome). lacks b.journal (length o.changes)) out) ∙ h)
          in
          let same_rest : in_turn f (shut (changed cs b)) (suc i) xs ≡ rest =
          ap (λ (c : Books). in_turn f c (suc i) xs) (sym (shut-after cs b (rowwise b x)) ∙ ap (λ (o : Outcome). changed o.changes (shut b)) k)
          in
          let still : lacks (note_all cs b.journal) 0 ≡ false =
          lacks-noted cs b.journal 0 (rowwise b x) ∙ ap (lacks b.journal) (add-zero (length cs)) ∙ ap (λ (o : Outcome). lacks b.journal (length o.changes)) k ∙ l
          in
          let more : lacks (note_all cs b.journal) (length (in_turn f (shut (changed cs b)) (suc i) xs).changes) ≡ true =
          lacks-noted cs b.journal _ (rowwise b x)
          ∙ ap (λ (o : Outcome). lacks b.journal (length cs + length o.changes)) same_rest
          ∙ ap (λ (o : Outcome). lacks b.journal (length o.changes + length rest.changes)) k
          ∙ m
          in
          ap (λ (o : Outcome). o.reply.kind) (in-turn-yes f b i x xs (ap (λ (o : Outcome). is_accepted o.reply) k ∙ e)) ∙ r still more

module _ (p : Profile) (R : ℕ) (b : Books) (room : lacks b.journal 0 ≡ false) where
  no-changes : (cs : List Change) → cs ≡ [] → lacks b.journal (length cs) ≡ true → ⊥
  no-changes cs e l = true≢false (sym l ∙ ap (λ (cs : List Change). lacks b.journal (length cs)) e ∙ room)

  fills-under : {A : Type 0} (o : Option A) (x : Outcome) (f g : A → Outcome) → x.changes ≡ [] → ((a : A) → Fills b.journal (f a) (g a))
      → Fills b.journal (maybe o x f) (maybe o x g)
  unfolding maybe
  fills-under none x f g e h l = absurd (no-changes x.changes e l)
  fills-under (some a) x f g e h l = h a l

  fills-unless : {A : Type 0} (o : Option A) (x y : Outcome) (f : A → Outcome) → ((a : A) → (f a).changes ≡ []) → Fills b.journal x y
      → Fills b.journal (maybe o x f) (maybe o y f)
  unfolding maybe
  fills-unless none x y f e h l = h l
  fills-unless (some a) x y f e h l = absurd (no-changes (f a).changes (e a) l)

  fills-all : (n : ℕ) (cs : List Change) → Fills b.journal
      (maybe (journal_fault b.journal (length cs)) (did cs n) (λ k. refused (no k 0)))
      (maybe (journal_fault (shut b).journal (length cs)) (did cs n) (λ k. refused (no k 0)))
  unfolding maybe
  fills-all n cs l = rw (full b.journal (length cs) (rw (free b (length cs)) at l))

  pub full-where : (q : Request) → of_rows q ≡ true → lacks b.journal (length (step p R (shut b) q).changes) ≡ true → (step p R b q).reply.kind ≡ JournalFull
  unfolding step act insert update delete lookup
  full-where (Insert n m rows) h =
      fills-under (table_named b.store.tables n) _ _ _ refl
      (λ t. fills-unless _ _ _ _ (λ x. refl) (turn-fills (insert_row p R t) (insert-alike p R t) (insert-rowwise p R t) (insert-fills p R t) b 0 _ room))
  full-where (Update n qs) h =
      fills-under (table_named b.store.tables n) _ _ _ refl
      (λ t. fills-unless _ _ _ _ (λ x. refl) (turn-fills (pair p R t) (pair-alike p R t) (pair-rowwise p R t) (pair-fills p R t) b 0 _ room))
  full-where (Delete n ks) h =
      fills-under (table_named b.store.tables n) _ _ _ refl (λ t. fills-unless _ _ _ _ (λ x. refl) (fills-all _ (removals b.store.rows n _)))
  full-where (Get n ks) h = λ l. absurd (no-changes [] refl l)
  full-where (Lookup n i vs) h =
      fills-under (table_named b.store.tables n) _ _ _ refl (λ t. fills-unless _ _ _ _ (λ x. refl) (λ l. absurd (no-changes [] refl l)))
  full-where (Scan n) h = λ l. absurd (no-changes [] refl l)
  full-where Names h = λ l. absurd (no-changes [] refl l)
  full-where (Create t) h = absurd (false≢true h)
  full-where (Drop n x) h = absurd (false≢true h)
  full-where Open h = absurd (false≢true h)
  full-where Keep h = absurd (false≢true h)
  full-where Back h = absurd (false≢true h)

-- ---- either ending leaves zeros, and keeping leaves the store

module _ (p : Profile) (R : ℕ) (b : Books) where
  shut-image : (j : Journal) → is_open j ≡ false → journal_image p j ≡ replicate (journal_length p j.places) 0
  unfolding journal_image maybe
  shut-image j h = rw (closed j.batch h)

  pub kept-zero : journal_image p (after p R b Keep).journal ≡ replicate (journal_length p b.journal.places) 0
  unfolding after step act keep_batch note_all note
  kept-zero =
      by_cond (λ (o : Outcome). journal_image p (note_all o.changes b.journal) ≡ replicate (journal_length p b.journal.places) 0) (is_open b.journal) _ _
      (λ e. shut-image (batch_of b.journal.places none) refl) (λ e. shut-image b.journal e)

  pub back-zero : journal_image p (after p R b Back).journal ≡ replicate (journal_length p b.journal.places) 0
  unfolding after step act take_back note_all note
  back-zero =
      by-option (λ (o : Outcome). journal_image p (note_all o.changes b.journal) ≡ replicate (journal_length p b.journal.places) 0) b.journal.batch _ _
      (λ e. shut-image b.journal (rw e)) (λ es e. shut-image (batch_of b.journal.places none) refl)

  pub kept_store : (after p R b Keep).store ≡ b.store
  unfolding after step act keep_batch apply_all apply
  kept_store = by_cond (λ (o : Outcome). apply_all o.changes b.store ≡ b.store) (is_open b.journal) _ _ (λ e. refl) (λ e. refl)
