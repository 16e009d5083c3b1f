-- A request that a record's bytes say is readable: its names, values, kinds and column count are within what the rules are asked about. Assumes nothing.
use Prim.Native.Nat.{ℕ, zero, suc, ◌≤◌}
use mathlib.Core.Path.{◌≡◌, refl, sym, ap, ◌∙◌, subst}
use mathlib.Core.Bool.{Bool, true, false, cond, ◌&&◌}
use mathlib.Core.List.{List, [], ◌∷◌, map}
use mathlib.Core.Option
use mathlib.Core.Option.{Option, none, some}
use lib.Dec.{eqb, ltb}
use lib.ListN.{length, length-map}
use borrow.Author.Tests.{le-leb, ltb-false}
use Rattle.values.specs.Bytes.{Bytes}
use Rattle.values.specs.Value.{Value, normalised}
use Rattle.forms.specs.Read.{Read, got, broken, name_at, value_at}
use Rattle.forms.proofs.Reading.{name-read, value_read}
use Rattle.rules.specs.declared.profile.Profile.{Profile}
use Rattle.rules.specs.State.{Column}
use Rattle.rules.specs.Request.{Pair, Request, Delete, Get, Names, Open, Keep, Back, entered_column}
use Rattle.rules.specs.Sound.{all, every, good_name, good_column, good_table, canonical_default, good_reference}
use Rattle.rules.specs.Readable.{writable, readable}
use Rattle.rules.proofs.Tests.{all_nil, all_cons}
use Rattle.rules.proofs.Trip.{name-good, range-canonical}
use Rattle.records.specs.Reading.{and_then, times, flagged, byte_at, byte_from}
use Rattle.records.specs.Record.{values_at, column_at, create_at, drop_at, map_at, insert_at, pair_at, update_at, keys_at, lookup_at, scan_at, operands_at, request_of}

-- ---- P holds of what was read

unfoldable pub Gives : {A : Type 0} → (A → Type 0) → Read A → Type 0
Gives P (got a n) = P a
Gives P (broken x) = Unit {0}

module _ {A : Type 0} (P : A → Type 0) where
  pub gives : (w : Read A) → ((a : A) (n : ℕ) → w ≡ got a n → P a) → Gives P w
  unfolding Gives
  gives (got a n) h = h a n refl
  gives (broken x) h = tt

  pub given : (w : Read A) (a : A) (n : ℕ) → Gives P w → w ≡ got a n → P a
  unfolding Gives
  given w a n h e = subst (Gives P) e h

  pub gives-either : (b : Bool) (v w : Read A) → Gives P v → Gives P w → Gives P (cond b v w)
  gives-either true v w h k = h
  gives-either false v w h k = k

  pub gives-got : (a : A) (n : ℕ) → P a → Gives P (got a n)
  unfolding Gives
  gives-got a n h = h

  pub gives-broken : (x : ℕ) → Gives P (broken x)
  unfolding Gives
  gives-broken x = tt

module _ {A B : Type 0} (P : A → Type 0) (Q : B → Type 0) where
  pub gives_then : (w : Read A) (f : A → ℕ → Read B) → Gives P w → ((a : A) (n : ℕ) → P a → Gives Q (f a n)) → Gives Q (and_then w f)
  unfolding Gives and_then
  gives_then (got a n) f h k = k a n h
  gives_then (broken x) f h k = tt

pub gives-map : {A : Type 0} (P Q : A → Type 0) (w : Read A) → ((a : A) → P a → Q a) → Gives P w → Gives Q w
unfolding Gives
gives-map P Q (got a n) f h = f a h
gives-map P Q (broken x) f h = tt

-- nothing is asked of what was read
abbrev pub Any : {A : Type 0} → A → Type 0
Any a = Unit {0}

pub any : {A : Type 0} (w : Read A) → Gives Any w
any w = gives Any w (λ a n e. tt)

module _ {A : Type 0} (t : A → Bool) where
  -- n that pass the test
  abbrev pub Passed : ℕ → List A → Type 0
  Passed n xs = (every t xs ≡ true) × (length xs ≡ n)

  pub gives-times : (f : ℕ → Read A) (n at : ℕ) → ((b : ℕ) → Gives (λ a. t a ≡ true) (f b)) → Gives (Passed n) (times f n at)
  unfolding times Gives every
  gives-times f zero at h = (refl, refl)
  gives-times f (suc n) at h =
      gives_then (λ a. t a ≡ true) (Passed (suc n)) (f at) _ (h at)
      (λ a b e.
      gives_then (Passed n) (Passed (suc n)) (times f n b) _ (gives-times f n b h)
      (λ rest c k. (rw (e, k.0), ap suc k.1)))

every_map : {A B : Type 0} (t : B → Bool) (g : A → B) (xs : List A) → every (λ x. t (g x)) xs ≡ every t (map g xs)
unfolding every
every_map t g [] = refl
every_map t g (x ∷ xs) = ap (λ (b : Bool). t (g x) && b) (every_map t g xs)

pub gives-flagged : {A : Type 0} (P : A → Type 0) (Q : Option A → Type 0) (b : Bool) (f : ℕ → Read A) (at : ℕ) → Gives P (f at) → Q none
    → ((a : A) → P a → Q (some a)) → Gives Q (flagged b f at)
unfolding flagged
gives-flagged P Q b f at h k l =
    gives-either Q b _ _ (gives_then P Q (f at) _ h (λ a n e. gives-got Q (some a) n (l a e))) (gives-got Q none at k)

-- ---- bytes within limits, names and values

abbrev pub Within : ℕ → ℕ → ℕ → Type 0
Within low high b = (low ≤ b) × (b ≤ high)

within : (low high at b n : ℕ) (t u : Bool) → ltb b low ≡ t → ltb high b ≡ u → Gives (Within low high) (cond t (broken at) (cond u (broken at) (got b n)))
within low high at b n true u e f = gives-broken (Within low high) at
within low high at b n false true e f = gives-broken (Within low high) at
within low high at b n false false e f = gives-got (Within low high) b n (ltb-false b low e, ltb-false high b f)

pub gives-within : (low high : ℕ) (s : List ℕ) (at : ℕ) → Gives (Within low high) (byte_from low high s at)
unfolding byte_from
gives-within low high s at =
    gives_then Any (Within low high) (byte_at s at) _ (any (byte_at s at)) (λ b n e. within low high at b n (ltb b low) (ltb high b) refl refl)

abbrev good_pair : Pair → Bool
good_pair q = all (writable q.old ∷ every writable q.row ∷ [])

module _ (s : List ℕ) (h : Bytes s) where
  gives-name : (at : ℕ) → Gives (λ t. good_name t ≡ true) (name_at s at)
  gives-name at = gives (λ t. good_name t ≡ true) (name_at s at) (λ t n e. let g = name-read s at t n e in name-good t g.short (g.bytes h))

  gives-value : (at : ℕ) → Gives (λ v. writable v ≡ true) (value_at s at)
  unfolding writable
  gives-value at = gives (λ v. writable v ≡ true) (value_at s at) (λ v n e. range-canonical v ((value_read s at v n e).storable h).inside)

  gives-values : (at : ℕ) → Gives (λ vs. every writable vs ≡ true) (values_at s at)
  unfolding values_at
  gives-values at =
      gives_then Any (λ vs. every writable vs ≡ true) (byte_at s at) _ (any (byte_at s at))
      (λ n b e.
      gives-map (Passed writable n) (λ vs. every writable vs ≡ true) (times (value_at s) n b) (λ vs k. k.0) (gives-times writable (value_at s) n b gives-value))

  pub gives-column : (at : ℕ) → Gives (λ c. good_column (entered_column c) ≡ true) (column_at s at)
  unfolding column_at good_column canonical_default good_reference writable
  gives-column at =
      gives_then (λ t. good_name t ≡ true) Q (name_at s at) _ (gives-name at)
      (λ name a e.
      gives_then (Within 1 4) Q (byte_from 1 4 s a) _ (gives-within 1 4 s a)
      (λ kind b k.
      gives_then Any Q (byte_from 0 31 s b) _ (any (byte_from 0 31 s b))
      (λ f c x.
      gives_then D Q _ _ (gives-flagged (λ v. writable v ≡ true) D _ (value_at s) c (gives-value c) refl (λ v y. y))
      (λ d n y.
      gives_then R Q _ _ (gives-flagged (λ t. good_name t ≡ true) R _ (name_at s) n (gives-name n) refl (λ t z. z))
      (λ r m z.
      gives-got Q _ m (all_cons _ _ e (all_cons _ _ (le-leb _ _ k.0) (all_cons _ _ (le-leb _ _ k.1) (all_cons _ _ y (all_cons _ _ z all_nil))))))))))
    where
      Q : Column → Type 0
      Q c = good_column (entered_column c) ≡ true

      D : Option Value → Type 0
      D o = canonical_default (Option.map normalised o) ≡ true

      R : Option (List ℕ) → Type 0
      R o = good_reference o ≡ true

  -- ---- operations

  module _ (p : Profile) where
    abbrev Fine : Request → Type 0
    Fine q = readable p q ≡ true

    pub gives-create : (at : ℕ) → Gives Fine (create_at s p at)
    unfolding create_at readable good_table
    gives-create at =
        gives_then (λ t. good_name t ≡ true) Fine (name_at s at) _ (gives-name at)
        (λ name a e.
        gives_then Any Fine (byte_at s a) _ (any (byte_at s a))
        (λ key b x.
        gives_then (Within 0 p.columns) Fine (byte_from 0 p.columns s b) _ (gives-within 0 p.columns s b)
        (λ n c k.
        gives_then (Passed (λ c. good_column (entered_column c)) n) Fine (times (column_at s) n c) _
        (gives-times (λ c. good_column (entered_column c)) (column_at s) n c gives-column)
        (λ cs d y.
        gives-got Fine _ d
        (all_cons _ _ e
        (all_cons _ _ (le-leb (length (map entered_column cs)) p.columns (rw (length-map cs entered_column, y.1) k.1))
        (all_cons _ _ (sym (every_map good_column entered_column cs) ∙ y.0) all_nil)))))))

    gives-drop : (at : ℕ) → Gives Fine (drop_at s at)
    unfolding drop_at readable
    gives-drop at =
        gives_then (λ t. good_name t ≡ true) Fine (name_at s at) _ (gives-name at)
        (λ name a e. gives_then Any Fine (byte_from 0 1 s a) _ (any (byte_from 0 1 s a)) (λ x b y. gives-got Fine _ b e))

    gives-insert : (at : ℕ) → Gives Fine (insert_at s at)
    unfolding insert_at readable
    gives-insert at =
        gives_then (λ t. good_name t ≡ true) Fine (name_at s at) _ (gives-name at)
        (λ name a e.
        gives_then Any Fine (map_at s a) _ (any (map_at s a))
        (λ m b x.
        gives_then Any Fine (byte_at s b) _ (any (byte_at s b))
        (λ n c y.
        gives_then (Passed (every writable) n) Fine (times (values_at s) n c) _ (gives-times (every writable) (values_at s) n c gives-values)
        (λ rows d k. gives-got Fine _ d (all_cons _ _ e (all_cons _ _ k.0 all_nil))))))

    gives-pair : (at : ℕ) → Gives (λ q. good_pair q ≡ true) (pair_at s at)
    unfolding pair_at
    gives-pair at =
        gives_then (λ v. writable v ≡ true) (λ q. good_pair q ≡ true) (value_at s at) _ (gives-value at)
        (λ old a e.
        gives_then (λ vs. every writable vs ≡ true) (λ q. good_pair q ≡ true) (values_at s a) _ (gives-values a)
        (λ row b k. gives-got (λ q. good_pair q ≡ true) _ b (all_cons _ _ e (all_cons _ _ k all_nil))))

    gives-update : (at : ℕ) → Gives Fine (update_at s at)
    unfolding update_at readable
    gives-update at =
        gives_then (λ t. good_name t ≡ true) Fine (name_at s at) _ (gives-name at)
        (λ name a e.
        gives_then Any Fine (byte_at s a) _ (any (byte_at s a))
        (λ n b x.
        gives_then (Passed good_pair n) Fine (times (pair_at s) n b) _ (gives-times good_pair (pair_at s) n b gives-pair)
        (λ qs c k. gives-got Fine _ c (all_cons _ _ e (all_cons _ _ k.0 all_nil)))))

    gives-keys : (make : List ℕ → List Value → Request) (at : ℕ)
        → ((t : List ℕ) (ks : List Value) → good_name t ≡ true → every writable ks ≡ true → Fine (make t ks)) → Gives Fine (keys_at s make at)
    unfolding keys_at
    gives-keys make at f =
        gives_then (λ t. good_name t ≡ true) Fine (name_at s at) _ (gives-name at)
        (λ name a e.
        gives_then (λ vs. every writable vs ≡ true) Fine (values_at s a) _ (gives-values a) (λ ks b k. gives-got Fine _ b (f name ks e k)))

    gives-lookup : (at : ℕ) → Gives Fine (lookup_at s at)
    unfolding lookup_at readable
    gives-lookup at =
        gives_then (λ t. good_name t ≡ true) Fine (name_at s at) _ (gives-name at)
        (λ name a e.
        gives_then Any Fine (byte_at s a) _ (any (byte_at s a))
        (λ i b x.
        gives_then (λ vs. every writable vs ≡ true) Fine (values_at s b) _ (gives-values b)
        (λ vs c k. gives-got Fine _ c (all_cons _ _ e (all_cons _ _ k all_nil)))))

    gives-scan : (at : ℕ) → Gives Fine (scan_at s at)
    unfolding scan_at readable
    gives-scan at = gives_then (λ t. good_name t ≡ true) Fine (name_at s at) _ (gives-name at) (λ name a e. gives-got Fine _ a e)

    gives-operands : (k at : ℕ) → Gives Fine (operands_at s p k at)
    unfolding operands_at readable
    gives-operands k at =
        gives-either Fine (eqb k 1) _ _ (gives-create at)
        (gives-either Fine (eqb k 2) _ _ (gives-drop at)
        (gives-either Fine (eqb k 3) _ _ (gives-insert at)
        (gives-either Fine (eqb k 4) _ _ (gives-update at)
        (gives-either Fine (eqb k 5) _ _ (gives-keys Delete at (λ t ks e f. all_cons _ _ e (all_cons _ _ f all_nil)))
        (gives-either Fine (eqb k 6) _ _ (gives-keys Get at (λ t ks e f. all_cons _ _ e (all_cons _ _ f all_nil)))
        (gives-either Fine (eqb k 7) _ _ (gives-lookup at)
        (gives-either Fine (eqb k 8) _ _ (gives-scan at)
        (gives-either Fine (eqb k 9) _ _ (gives-got Fine Names at refl)
        (gives-either Fine (eqb k 12) _ _ (gives-got Fine Open at refl)
        (gives-either Fine (eqb k 13) _ _ (gives-got Fine Keep at refl)
        (gives-either Fine (eqb k 14) _ _ (gives-got Fine Back at refl) (gives-broken Fine 1))))))))))))

    -- a request that is read is readable
    pub read-readable : (q : Request) (end : ℕ) → request_of s p ≡ got q end → readable p q ≡ true
    unfolding request_of
    read-readable q end e =
        given Fine (request_of s p) q end
        (gives_then Any Fine (byte_from 1 1 s 0) _ (any (byte_from 1 1 s 0))
        (λ v a x.
        gives_then Any Fine (byte_at s a) _ (any (byte_at s a))
        (λ k b y.
        gives_then Fine Fine (operands_at s p k b) _ (gives-operands k b)
        (λ r m z. gives-either Fine (ltb m (length s)) _ _ (gives-broken Fine m) (gives-got Fine r m z)))))
        e
