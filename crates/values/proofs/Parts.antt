-- A record that is written part by part, from the front: what stands before the next part. Assumes nothing.
use mathlib.Core.Path.{◌≡◌, refl, sym, ap, ◌∙◌}
use mathlib.Core.List.{List, [], ◌∷◌, ◌++◌, append_assoc, append-nil}
use Prim.Native.Nat.{ℕ, zero, suc, ◌+◌, ◌-◌, ◌≤◌, ◌/◌, ◌%◌}
use native.Mathlib.Nat.{add-zero}
use native.Mathlib.Omega.{arith}
use lib.ListN.{length, take, drop, set, length-drop, replicate, drop_of_length-le}
use lib.Seq.{take_at, take_all, length-take-le}
use borrow.Rule.Slice.PartMut.{put_mid, same_len_mid, mid_of}
use Rattle.values.specs.Bytes.{be}
use Rattle.values.specs.Area.{cleared}

-- xs, as long as n, starts with p
pub record Starts (n : ℕ) (p xs : List ℕ) : Type 0 where
  pub long : length xs ≡ n
  pub front : take (length p) xs ≡ p

pub mid-long : (a k : ℕ) (xs : List ℕ) → a + k ≤ length xs → length (mid_of a k xs) ≡ k
mid-long a k xs h = length-take-le k (drop a xs) (rw length-drop (omega arith))

-- the next part is written
pub fill : (n a k : ℕ) (p xs ys : List ℕ) → Starts n p xs → length p ≡ a → length ys ≡ k → a + k ≤ n → Starts n (p ++ ys) (put_mid a k xs ys)
fill n a k p xs ys s lp ly h =
    let lx = s.long in
    record {
      long = same_len_mid a k xs ys (ly ∙ sym (mid-long a k xs (omega arith))) ∙ s.long;
      front =
          let t : take a xs ≡ p = (rw (← lp) s.front) in
          ap (λ (l : List ℕ). take (length (p ++ ys)) (l ++ (ys ++ drop k (drop a xs)))) t
          ∙ ap (take (length (p ++ ys))) (sym (append_assoc p ys (drop k (drop a xs))))
          ∙ take_at (p ++ ys) (drop k (drop a xs)) (length (p ++ ys)) refl;
    }

pub whole : (n : ℕ) (p xs : List ℕ) → Starts n p xs → length p ≡ n → xs ≡ p
whole n p xs s l = sym (take_all (length p) xs (omega (arith, s.long, l))) ∙ s.front

pub be-append : (k w : ℕ) (r t : List ℕ) → be k w (r ++ t) ≡ be k w r ++ t
unfolding be
be-append zero w r t = refl
be-append (suc k) w r t = be-append k (w / 256) (w % 256 ∷ r) t

pub be-length : (k w : ℕ) (r : List ℕ) → length (be k w r) ≡ k + length r
unfolding be
be-length zero w r = omega arith
be-length (suc k) w r = be-length k (w / 256) (w % 256 ∷ r) ∙ omega arith

-- the next part is a number of k bytes
pub fill-be : (n a k w : ℕ) (p xs ys : List ℕ) → Starts n p xs → length p ≡ a → a + k ≤ n → ys ≡ be (length (mid_of a k xs)) w [] → Starts n (p ++ be k w []) (put_mid a k xs ys)
fill-be n a k w p xs ys s lp h e =
    let lx = s.long in
    let e' : ys ≡ be k w [] = e ∙ ap (λ (j : ℕ). be j w []) (mid-long a k xs (omega arith)) in
    rw (← e') (fill n a k p xs ys s lp (ap length e' ∙ be-length k w [] ∙ add-zero k) h)

-- the rest is zeros
pub fill-zeros : (n a : ℕ) (p xs : List ℕ) → Starts n p xs → length p ≡ a → cleared a n xs ≡ p ++ replicate (n - a) 0
unfolding cleared
fill-zeros n a p xs s lp =
    let e : take a xs ≡ p = rw (← lp) s.front in
    let d : drop n xs ≡ [] = drop_of_length-le xs {i = n} (omega (arith, s.long)) in
    rw (e, d) (ap (λ (z : List ℕ). p ++ z) (append-nil (replicate (n - a) 0)))

-- one byte is set, or two
pub one : (n k : ℕ) (xs : List ℕ) → length xs ≡ n → 1 ≤ n → Starts n (k ∷ []) (set xs 0 k)
one n k [] e h = absurd (omega arith)
one n k (x ∷ xs) e h = record { long = e; front = refl }

pub two : (n k m : ℕ) (xs : List ℕ) → length xs ≡ n → 2 ≤ n → Starts n (k ∷ m ∷ []) (set (set xs 0 k) 1 m)
two n k m [] e h = absurd (omega arith)
two n k m (x ∷ []) e h = absurd (omega arith)
two n k m (x ∷ y ∷ xs) e h = record { long = e; front = refl }
