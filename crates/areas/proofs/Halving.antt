-- How many elements pass a test where those that pass come first, and that a search by halving finds that number. Assumes nothing.
use mathlib.Core.Path.{◌≡◌, refl, sym, ap, ◌∙◌}
use mathlib.Core.Bool.{Bool, true, false, cond}
use Prim.Native.Nat.{ℕ, zero, suc, ◌+◌, ◌-◌, ◌*◌, ◌/◌, ◌≤◌, ◌<◌, zero-le, Ordering}
use native.Mathlib.Nat.{not-suc-le-zero, le_of_suc-le-suc}
use native.Mathlib.Omega.{arith}
use mathlib.Core.List.{List, [], ◌∷◌, map}
use lib.ListN.{length, take, drop, get_or, length-take, length-drop}
use Rattle.values.specs.Basic.{is_lt}
use Rattle.areas.specs.Records.{records}
use Rattle.areas.specs.Search.{SearchIn}
use Rattle.areas.specs.Sorted.{All, count_of, Falls}
use Rattle.areas.proofs.Records.{length-records, part-record, place-fits}

module _ {A : Type 0} (p : A → Bool) where
  pub count-le : (xs : List A) → count_of p xs ≤ length xs
  unfolding count_of
  count-le [] = zero-le
  count-le (x ∷ xs) = by-test (p x) (count-le xs)
    where
      by-test : (b : Bool) → count_of p xs ≤ length xs → cond b 1 0 + count_of p xs ≤ suc (length xs)
      by-test true h = omega arith
      by-test false h = omega arith

  -- what passes stands below that number, what fails at it or above
  pub passes-below : (xs : List A) (d : A) (i : ℕ) → Falls p xs → i < length xs → p (get_or xs i d) ≡ true → i < count_of p xs
  unfolding count_of Falls
  passes-below [] d i f l h = absurd (not-suc-le-zero l)
  passes-below (x ∷ xs) d zero f l h = rw h (omega arith)
  passes-below (x ∷ xs) d (suc i) f l h = by-test (p x) refl (passes-below xs d i f.1 (le_of_suc-le-suc l) h)
    where
      by-test : (b : Bool) → p x ≡ b → i < count_of p xs → suc i < cond b 1 0 + count_of p xs
      by-test true e g = omega arith
      by-test false e g = absurd (omega (arith, f.0 e))

  pub fails-above : (xs : List A) (d : A) (i : ℕ) → Falls p xs → i < length xs → p (get_or xs i d) ≡ false → count_of p xs ≤ i
  unfolding count_of Falls
  fails-above [] d i f l h = absurd (not-suc-le-zero l)
  fails-above (x ∷ xs) d zero f l h = rw (h, f.0 h) (omega arith)
  fails-above (x ∷ xs) d (suc i) f l h = by-test (p x) (fails-above xs d i f.1 (le_of_suc-le-suc l) h)
    where
      by-test : (b : Bool) → count_of p xs ≤ i → cond b 1 0 + count_of p xs ≤ suc i
      by-test true g = omega arith
      by-test false g = omega arith

-- two tests that agree on the elements
module _ {A : Type 0} (p q : A → Bool) where
  pub count_same : (xs : List A) → All (λ x. p x ≡ q x) xs → count_of p xs ≡ count_of q xs
  unfolding count_of
  count_same [] h = refl
  count_same (x ∷ xs) h = rw (h.0, count_same xs h.1)

  pub falls-same : (xs : List A) → All (λ x. p x ≡ q x) xs → Falls p xs → Falls q xs
  unfolding Falls
  falls-same [] h f = tt
  falls-same (x ∷ xs) h f = (λ e. sym (count_same xs h.1) ∙ f.0 (h.0 ∙ e), falls-same xs h.1 f.1)

-- of what a function makes of the elements
module _ {A B : Type 0} (f : A → B) (p : B → Bool) where
  pub count_map : (xs : List A) → count_of p (map f xs) ≡ count_of (λ x. p (f x)) xs
  unfolding count_of
  count_map [] = refl
  count_map (x ∷ xs) = rw (count_map xs)

  pub falls-map : (xs : List A) → Falls (λ x. p (f x)) xs → Falls p (map f xs)
  unfolding Falls
  falls-map [] h = tt
  falls-map (x ∷ xs) h = (λ e. count_map xs ∙ h.0 e, falls-map xs h.1)

-- ---- a turn of the search brings lo and hi nearer
pub up-less : (lo hi : ℕ) → lo < hi → hi - (lo + (hi - lo) / 2 + 1) < hi - lo
up-less lo hi l = omega arith

pub down-less : (lo hi : ℕ) → lo < hi → lo + (hi - lo) / 2 - lo < hi - lo
down-less lo hi l = omega arith

-- ---- the record in the middle of those from lo to hi
module _ (s : List ℕ) (count w lo hi : ℕ) (l : lo < hi) (h : hi ≤ count) (k : count * w ≤ length s) where
  pub middle-fits : (lo + (hi - lo) / 2) * w + w ≤ length s
  middle-fits = place-fits (lo + (hi - lo) / 2) count w (length s) (omega arith) k

  pub middle-long : length (take ((lo + (hi - lo) / 2) * w + w - (lo + (hi - lo) / 2) * w) (drop ((lo + (hi - lo) / 2) * w) s)) ≡ w
  middle-long = simp (length-take, length-drop) (omega (arith, middle-fits))

-- ---- the search: lo and hi bracket the number of records before the probe, as `cmp` tells

pub record Bracket (cmp : List ℕ → Ordering) (s : List ℕ) (count w lo hi : ℕ) : Type 0 where
  pub low : lo ≤ count_of (λ x. is_lt (cmp x)) (records w count s)
  pub high : count_of (λ x. is_lt (cmp x)) (records w count s) ≤ hi
  pub within : hi ≤ count

module _ (cmp : List ℕ → Ordering) (s : List ℕ) (count w : ℕ) where
  pub bracket-start : Bracket cmp s count w 0 count
  bracket-start = record {
    low = zero-le;
    high = omega (arith, count-le (λ x. is_lt (cmp x)) (records w count s), length-records w count s);
    within = omega arith;
  }

  module _ (lo hi : ℕ) (b : Bracket cmp s count w lo hi) where
    pub bracket-end : hi ≤ lo → lo ≡ count_of (λ x. is_lt (cmp x)) (records w count s)
    bracket-end l = omega arith

    -- the record in the middle, which compares as o
    module _ (l : lo < hi) (ok : SearchIn (λ x. is_lt (cmp x)) s count w) where
      inside : lo + (hi - lo) / 2 < count
      inside = omega arith

      module _ (o : Ordering)
          (e : o ≡ cmp (take ((lo + (hi - lo) / 2) * w + w - (lo + (hi - lo) / 2) * w) (drop ((lo + (hi - lo) / 2) * w) s))) where
        asked : is_lt (cmp (get_or (records w count s) (lo + (hi - lo) / 2) [])) ≡ is_lt o
        asked = ap (λ (r : List ℕ). is_lt (cmp r)) (sym (part-record w count (lo + (hi - lo) / 2) s inside)) ∙ ap is_lt (sym e)

        among : lo + (hi - lo) / 2 < length (records w count s)
        among = omega (arith, length-records w count s, inside)

        pub bracket-up : is_lt o ≡ true → Bracket cmp s count w (lo + (hi - lo) / 2 + 1) hi
        bracket-up t =
            let g = passes-below (λ x. is_lt (cmp x)) (records w count s) [] (lo + (hi - lo) / 2) ok.falls among (asked ∙ t) in
            record { low = omega arith; high = b.high; within = b.within }

        pub bracket-down : is_lt o ≡ false → Bracket cmp s count w lo (lo + (hi - lo) / 2)
        bracket-down t = record {
          low = b.low;
          high = fails-above (λ x. is_lt (cmp x)) (records w count s) [] (lo + (hi - lo) / 2) ok.falls among (asked ∙ t);
          within = omega (arith, inside);
        }
