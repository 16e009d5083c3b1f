-- A request that a record's bytes say: it is as it is on entry, since values are normalised as they are read; it is what its operands say; and what
-- a walked record comes to in a store. Assumes nothing.
use Rattle.records.specs.Walked.{Walked}
use Rattle.std.specs.declared.result.Result.TheVariants.{Ok, Err}
use Rattle.forms.specs.declared.read.Broken.{Broken}
use Rattle.std.specs.Result.{is_err}
use Prim.Native.Nat.{ℕ, zero, suc, ◌<◌}
use native.Mathlib.Omega.{arith}
use mathlib.Core.Path.{◌≡◌, refl, sym, ap, ◌∙◌}
use mathlib.Core.Bool.{true, false, true≢false, cond}
use mathlib.Core.List.{List, [], ◌∷◌, map}
use mathlib.Core.Option
use mathlib.Core.Option.{Option, none, some}
use lib.Dec.{eqb, ltb}
use lib.ListN.{length, get_or}
use borrow.Author.Tests.{ne_eqb, ltb-true}
use Rattle.values.specs.Basic.{maybe}
use Rattle.values.specs.Value.{Value, normalised}
use Rattle.forms.specs.Read.{Read, got, broken, name_at, value_at}
use Rattle.forms.proofs.Reading.{value_read}
use Rattle.rules.specs.declared.profile.Profile.{Profile}
use Rattle.rules.specs.Request.{Answer}
use Rattle.rules.specs.Refusal.{RecordBroken}
use Rattle.rules.specs.State.{Name}
use Rattle.rules.specs.Journal.{Books}
use Rattle.rules.specs.Layout.{bit}
use Rattle.rules.specs.Request.{Request, Delete, Get, Lookup, Scan, Names, Open, Keep, Back, entered_column, entered_pair, entered, said, no}
use Rattle.rules.specs.Step.{Outcome, refused, lookup, act, step}
use Rattle.rules.specs.Pages.{books_of}
use Rattle.rules.proofs.Tests.{and_left, and_right}
use Rattle.journal.specs.Books.{Booked, Settled}
use Rattle.journal.proofs.Booking.{settled-still}
use Rattle.mapping.specs.Got.{is_got, got_or}
use Rattle.records.specs.Reading.{and_then, times, flagged, byte_at, byte_from}
use Rattle.records.specs.Record.{values_at, column_at, create_at, drop_at, map_at, insert_at, pair_at, update_at, keys_at, lookup_at, scan_at, operands_at, request_of}
use Rattle.operations.specs.Told.{Acted, Replied, reads, outcome_of}
use Rattle.records.specs.Walked.{walked_as}
use Rattle.mapping.proofs.ValuesFrom.{was-got, got-is, got-gives, unbroken, parted, then_is, then-first, then_next, byte-got, from-got}
use Rattle.mapping.proofs.Read.{Gives, gives, given, gives-either, gives-got, gives-broken, gives_then, gives-flagged, Any, any}

-- f leaves it as it is
abbrev pub Same : {A : Type 0} → (A → A) → A → Type 0
Same f a = f a ≡ a

pub gives_same : {A : Type 0} (f : A → A) (g : ℕ → Read A) (n at : ℕ) → ((b : ℕ) → Gives (Same f) (g b)) → Gives (Same (map f)) (times g n at)
unfolding times
gives_same f g zero at h = gives-got (Same (map f)) [] at refl
gives_same f g (suc n) at h =
    gives_then (Same f) (Same (map f)) (g at) _ (h at)
    (λ a b e.
    gives_then (Same (map f)) (Same (map f)) (times g n b) _ (gives_same f g n b h)
    (λ rest c k. gives-got (Same (map f)) (a ∷ rest) c (rw (e, k))))

module _ (s : List ℕ) where
  same-value : (at : ℕ) → Gives (Same normalised) (value_at s at)
  same-value at = gives (Same normalised) (value_at s at) (λ v n e. (value_read s at v n e).normal)

  same-values : (at : ℕ) → Gives (Same (map normalised)) (values_at s at)
  unfolding values_at
  same-values at =
      gives_then Any (Same (map normalised)) (byte_at s at) _ (any (byte_at s at))
      (λ n b e. gives_same normalised (value_at s) n b same-value)

  pub same-column : (at : ℕ) → Gives (Same entered_column) (column_at s at)
  unfolding column_at
  same-column at =
      gives_then Any (Same entered_column) (name_at s at) _ (any (name_at s at))
      (λ name a e.
      gives_then Any (Same entered_column) (byte_from 1 4 s a) _ (any (byte_from 1 4 s a))
      (λ kind b k.
      gives_then Any (Same entered_column) (byte_from 0 31 s b) _ (any (byte_from 0 31 s b))
      (λ f c x.
      gives_then (Same (Option.map normalised)) (Same entered_column) (flagged (bit 2 f) (value_at s) c) _
      (gives-flagged (Same normalised) (Same (Option.map normalised)) (bit 2 f) (value_at s) c (same-value c) refl (λ v y. ap some y))
      (λ d n y.
      gives_then Any (Same entered_column) (flagged (bit 16 f) (name_at s) n) _ (any (flagged (bit 16 f) (name_at s) n))
      (λ r m z. gives-got (Same entered_column) _ m (rw y))))))

  same-pair : (at : ℕ) → Gives (Same entered_pair) (pair_at s at)
  unfolding pair_at
  same-pair at =
      gives_then (Same normalised) (Same entered_pair) (value_at s at) _ (same-value at)
      (λ old a e.
      gives_then (Same (map normalised)) (Same entered_pair) (values_at s a) _ (same-values a)
      (λ row b k. gives-got (Same entered_pair) _ b (rw (e, k))))

  module _ (p : Profile) where
    same-create : (at : ℕ) → Gives (Same entered) (create_at s p at)
    unfolding create_at
    same-create at =
        gives_then Any (Same entered) (name_at s at) _ (any (name_at s at))
        (λ name a e.
        gives_then Any (Same entered) (byte_at s a) _ (any (byte_at s a))
        (λ key b x.
        gives_then Any (Same entered) (byte_from 0 p.columns s b) _ (any (byte_from 0 p.columns s b))
        (λ n c y.
        gives_then (Same (map entered_column)) (Same entered) (times (column_at s) n c) _ (gives_same entered_column (column_at s) n c same-column)
        (λ cs d k. gives-got (Same entered) _ d (rw k)))))

    same_drop : (at : ℕ) → Gives (Same entered) (drop_at s at)
    unfolding drop_at
    same_drop at =
        gives_then Any (Same entered) (name_at s at) _ (any (name_at s at))
        (λ name a e. gives_then Any (Same entered) (byte_from 0 1 s a) _ (any (byte_from 0 1 s a)) (λ x b y. gives-got (Same entered) _ b refl))

    same-insert : (at : ℕ) → Gives (Same entered) (insert_at s at)
    unfolding insert_at
    same-insert at =
        gives_then Any (Same entered) (name_at s at) _ (any (name_at s at))
        (λ name a e.
        gives_then Any (Same entered) (map_at s a) _ (any (map_at s a))
        (λ m b x.
        gives_then Any (Same entered) (byte_at s b) _ (any (byte_at s b))
        (λ n c y.
        gives_then (Same (map (map normalised))) (Same entered) (times (values_at s) n c) _ (gives_same (map normalised) (values_at s) n c same-values)
        (λ rows d k. gives-got (Same entered) _ d (rw k)))))

    same_update : (at : ℕ) → Gives (Same entered) (update_at s at)
    unfolding update_at
    same_update at =
        gives_then Any (Same entered) (name_at s at) _ (any (name_at s at))
        (λ name a e.
        gives_then Any (Same entered) (byte_at s a) _ (any (byte_at s a))
        (λ n b x.
        gives_then (Same (map entered_pair)) (Same entered) (times (pair_at s) n b) _ (gives_same entered_pair (pair_at s) n b same-pair)
        (λ qs c k. gives-got (Same entered) _ c (rw k))))

    same_keys : (make : List ℕ → List Value → Request) (at : ℕ) → ((n : List ℕ) (ks : List Value) → Same (map normalised) ks → Same entered (make n ks))
        → Gives (Same entered) (keys_at s make at)
    unfolding keys_at
    same_keys make at f =
        gives_then Any (Same entered) (name_at s at) _ (any (name_at s at))
        (λ name a e.
        gives_then (Same (map normalised)) (Same entered) (values_at s a) _ (same-values a) (λ ks b k. gives-got (Same entered) _ b (f name ks k)))

    same-lookup : (at : ℕ) → Gives (Same entered) (lookup_at s at)
    unfolding lookup_at
    same-lookup at =
        gives_then Any (Same entered) (name_at s at) _ (any (name_at s at))
        (λ name a e.
        gives_then Any (Same entered) (byte_at s a) _ (any (byte_at s a))
        (λ i b x.
        gives_then (Same (map normalised)) (Same entered) (values_at s b) _ (same-values b) (λ vs c k. gives-got (Same entered) _ c (rw k))))

    same-scan : (at : ℕ) → Gives (Same entered) (scan_at s at)
    unfolding scan_at
    same-scan at = gives_then Any (Same entered) (name_at s at) _ (any (name_at s at)) (λ name a e. gives-got (Same entered) _ a refl)

    pub same_operands : (k at : ℕ) → Gives (Same entered) (operands_at s p k at)
    unfolding operands_at
    same_operands k at =
        gives-either (Same entered) (eqb k 1) _ _ (same-create at)
        (gives-either (Same entered) (eqb k 2) _ _ (same_drop at)
        (gives-either (Same entered) (eqb k 3) _ _ (same-insert at)
        (gives-either (Same entered) (eqb k 4) _ _ (same_update at)
        (gives-either (Same entered) (eqb k 5) _ _ (same_keys Delete at (λ n ks e. ap (Delete n) e))
        (gives-either (Same entered) (eqb k 6) _ _ (same_keys Get at (λ n ks e. ap (Get n) e))
        (gives-either (Same entered) (eqb k 7) _ _ (same-lookup at)
        (gives-either (Same entered) (eqb k 8) _ _ (same-scan at)
        (gives-either (Same entered) (eqb k 9) _ _ (gives-got (Same entered) Names at refl)
        (gives-either (Same entered) (eqb k 12) _ _ (gives-got (Same entered) Open at refl)
        (gives-either (Same entered) (eqb k 13) _ _ (gives-got (Same entered) Keep at refl)
        (gives-either (Same entered) (eqb k 14) _ _ (gives-got (Same entered) Back at refl) (gives-broken (Same entered) 1))))))))))))

    -- a request that is read is as it is on entry
    pub read-entered : (q : Request) (end : ℕ) → request_of s p ≡ got q end → entered q ≡ q
    unfolding request_of
    read-entered q end e =
        given (Same entered) (request_of s p) q end
        (gives_then Any (Same entered) (byte_from 1 1 s 0) _ (any (byte_from 1 1 s 0))
        (λ v a x.
        gives_then Any (Same entered) (byte_at s a) _ (any (byte_at s a))
        (λ k b y.
        gives_then (Same entered) (Same entered) (operands_at s p k b) _ (same_operands k b)
        (λ r m z. gives-either (Same entered) (ltb m (length s)) _ _ (gives-broken (Same entered) m) (gives-got (Same entered) r m z)))))
        e

-- ---- operations 6 to 9 change nothing

pub reads-range : (k : ℕ) → reads k ≡ true → (5 < k) × (k < 10)
unfolding reads
reads-range k h = (ltb-true 5 k (and_left (ltb 5 k) _ h), ltb-true k 10 (and_right (ltb 5 k) _ h))

module _ (p : Profile) (R : ℕ) (b : Books) where
  abbrev pub Still : Request → Type 0
  Still q = (act p R b q).changes ≡ []

  either : {A : Type 0} (o : Option A) (x : Outcome) (f : A → Outcome) → x.changes ≡ [] → ((a : A) → (f a).changes ≡ []) → (maybe o x f).changes ≡ []
  unfolding maybe
  either none x f h k = h
  either (some a) x f h k = k a

  still-lookup : (n : Name) (i : ℕ) (vs : List Value) → (lookup b.store n i vs).changes ≡ []
  unfolding lookup
  still-lookup n i vs = either _ _ _ refl (λ t. either _ _ _ refl (λ x. refl))

  pub still-operands : (s : List ℕ) (k at : ℕ) → reads k ≡ true → Gives Still (operands_at s p k at)
  unfolding operands_at keys_at lookup_at scan_at act
  still-operands s k at h =
      let l = reads-range k h in
      let low : 5 < k = l.0 in
      let high : k < 10 = l.1 in
      simp (ne_eqb k 1 (omega arith), ne_eqb k 2 (omega arith), ne_eqb k 3 (omega arith), ne_eqb k 4 (omega arith), ne_eqb k 5 (omega arith), ne_eqb k 12 (omega arith), ne_eqb k 13 (omega arith), ne_eqb k 14 (omega arith))
      (gives-either Still (eqb k 6) _ _
      (gives_then Any Still (name_at s at) _ (any (name_at s at))
      (λ n a e. gives_then Any Still (values_at s a) _ (any (values_at s a)) (λ ks b f. gives-got Still (Get n ks) b refl)))
      (gives-either Still (eqb k 7) _ _
      (gives_then Any Still (name_at s at) _ (any (name_at s at))
      (λ n a e.
      gives_then Any Still (byte_at s a) _ (any (byte_at s a))
      (λ i b f. gives_then Any Still (values_at s b) _ (any (values_at s b)) (λ vs c g. gives-got Still (Lookup n i vs) c (still-lookup n i vs)))))
      (gives-either Still (eqb k 8) _ _
      (gives_then Any Still (name_at s at) _ (any (name_at s at)) (λ n a e. gives-got Still (Scan n) a refl))
      (gives-either Still (eqb k 9) _ _ (gives-got Still Names at refl) (gives-broken Still 1)))))

-- ---- a record that was walked to its end, or to where it breaks

pub walked-got : (w : Read Request) (r : Walked) (n : ℕ) → r ≡ walked_as w → r ≡ Ok n → is_got w ≡ true
unfolding walked_as is_got
walked-got (got q m) r n e h = refl
walked-got (broken x) r n e h = absurd (let z : ◌≡◌ {A = ℕ} 0 1 = cc in omega arith)

pub walked-broken : (w : Read Request) (r : Walked) (x : Broken) → r ≡ walked_as w → r ≡ Err x → w ≡ broken x.at
unfolding walked_as
walked-broken (got q m) r x e h = absurd (let z : ◌≡◌ {A = ℕ} 0 1 = cc in omega arith)
walked-broken (broken y) r x e h = cc

pub ended : (r : Walked) → false ≡ is_err r → (n : ℕ) × (r ≡ Ok n)
ended (Ok n) h = (n, refl)
ended (Err x) h = absurd (true≢false (sym h))

-- the request, which its operands say
record Says (rec : List ℕ) (p : Profile) : Type 0 where
  what : Request
  end : ℕ
  all : request_of rec p ≡ got what end
  operands : operands_at rec p (get_or rec 1 0) 2 ≡ got what end

module _ (rec : List ℕ) (p : Profile) where
  abbrev last : Request → ℕ → Read Request
  last q end = cond (ltb end (length rec)) (broken end) (got q end)

  abbrev numbered : ℕ → ℕ → Read Request
  numbered k b = and_then (operands_at rec p k b) last

  abbrev versioned : ℕ → ℕ → Read Request
  versioned v a = and_then (byte_at rec a) numbered

  module _ (h : is_got (request_of rec p) ≡ true) where
    -- behind a version byte and the operation's number
    request-then : request_of rec p ≡ numbered (get_or rec 1 0) 2
    unfolding request_of
    request-then =
        let v = (from-got 1 1 rec 0 (then-first (byte_from 1 1 rec 0) versioned h)).is in
        let k = (byte-got rec 1 (then-first (byte_at rec 1) numbered (then_next (byte_from 1 1 rec 0) versioned h (get_or rec 0 0) 1 v))).1 in
        then_is (byte_from 1 1 rec 0) versioned (get_or rec 0 0) 1 v ∙ then_is (byte_at rec 1) numbered (get_or rec 1 0) 2 k

    says : Says rec p
    says =
        let w = was-got (request_of rec p) h in
        let z = parted (operands_at rec p (get_or rec 1 0) 2) last w.what w.end (sym request-then ∙ w.is) in
        let u = unbroken (ltb z.next (length rec)) z.next (got z.first z.next) w.what w.end z.then in
        record { what = w.what; end = w.end; all = w.is; operands = z.is ∙ u.1 }

module _ (p : Profile) (rec : List ℕ) (r : Walked) (e : r ≡ walked_as (request_of rec p)) where
  module _ (n : ℕ) (h : r ≡ Ok n) (k : ℕ) (ek : k ≡ get_or rec 1 0) where
    its : Says rec p
    its = says rec p (walked-got (request_of rec p) r n e h)

    operands-are : operands_at rec p k 2 ≡ got its.what its.end
    operands-are = ap (λ (j : ℕ). operands_at rec p j 2) ek ∙ its.operands

    pub operands-got : is_got (operands_at rec p k 2) ≡ true
    operands-got = got-is (operands_at rec p k 2) its.what its.end operands-are

    pub outcome-is : (R : ℕ) (b : Books) → outcome_of p R b (request_of rec p) ≡ act p R b (got_or Names (operands_at rec p k 2))
    unfolding outcome_of step
    outcome-is R b =
        ap (outcome_of p R b) its.all
        ∙ ap (act p R b)
        (read-entered rec p its.what its.end its.all
        ∙ sym (got-gives Names (operands_at rec p k 2) its.what its.end operands-are))

    module _ (R : ℕ) (s j : List ℕ) (a : Answer) where
      abbrev books : Books
      books = books_of p R s j

      -- a write
      pub written : (s₁ j₁ : List ℕ) → Acted p R (operands_at rec p k 2) s j s₁ j₁ a → Settled p R (outcome_of p R (books_of p R s j) (request_of rec p)) s j s₁ j₁ a
      written s₁ j₁ h = rw (outcome-is R books) h

      -- a read
      pub read_only : Booked p R s j → reads k ≡ true → Replied p R (operands_at rec p k 2) s a
          → Settled p R (outcome_of p R (books_of p R s j) (request_of rec p)) s j s j a
      read_only b l h =
          let o = outcome-is R books in
          settled-still b (outcome_of p R books (request_of rec p))
          (ap (λ (x : Outcome). x.changes) o
          ∙ ap (λ (q : Request). (act p R books q).changes) (got-gives Names (operands_at rec p k 2) its.what its.end operands-are)
          ∙ given (Still p R books) (operands_at rec p k 2) its.what its.end (still-operands p R books rec k 2 l) operands-are)
          a (h books.journal ∙ sym (ap (λ (x : Outcome). x.reply) o))

  -- a broken record
  pub broken-kept : true ≡ is_err r → (R : ℕ) (s j : List ℕ) → Booked p R s j → (a : Answer) → said a ≡ no RecordBroken 0
      → Settled p R (outcome_of p R (books_of p R s j) (request_of rec p)) s j s j a
  unfolding outcome_of
  broken-kept h R s j b a g =
      let o : outcome_of p R (books_of p R s j) (request_of rec p) ≡ refused (no RecordBroken 0) = ap (outcome_of p R (books_of p R s j)) (breaks r e h).1 in
      settled-still b (outcome_of p R (books_of p R s j) (request_of rec p)) (ap (λ (x : Outcome). x.changes) o) a (g ∙ sym (ap (λ (x : Outcome). x.reply) o))
    where
      breaks : (r : Walked) → r ≡ walked_as (request_of rec p) → true ≡ is_err r → (x : Broken) × (request_of rec p ≡ broken x.at)
      breaks (Ok n) e h = absurd (true≢false h)
      breaks (Err x) e h = (x, walked-broken (request_of rec p) (Err x) x e refl)
