-- Laws of decimal digits. Assumes nothing.
use mathlib.Core.Path.{◌≡◌, refl, ◌∙◌}
use mathlib.Core.List.{List, ◌∷◌}
use Prim.Native.Nat.{ℕ, zero, suc, ◌+◌, ◌-◌, ◌/◌, ◌%◌, ◌^◌, ◌≤◌, ◌<◌}
use native.Mathlib.Nat.{pow-suc}
use native.Mathlib.Omega.{arith}
use borrow.Author.Tests.{ne_eqb}
use lib.Dec.{eqb}
use mathlib.Core.Bool.{Bool, true, false, cond}
use lib.ListN.{length, drop, set, length-set}
use lib.Seq.{drop-cons, drop-set-lt, get_or-set_same}
use Rattle.forms.specs.Print.{digits, count}

-- one store of `put_digits`
pub digits_step : (i m : ℕ) (out : List ℕ) → 0 < i → i ≤ length out → digits (i - 1) (m / 10) (drop (i - 1) (set out (i - 1) (48 + m % 10))) ≡ digits i m (drop i out)
unfolding digits
digits_step zero m out h l = absurd (omega arith)
digits_step (suc k) m out h l =
    let e : suc k - 1 ≡ k = omega arith in
    let d : drop k (set out k (48 + m % 10)) ≡ (48 + m % 10) ∷ drop (suc k) out =
    drop-cons (set out k (48 + m % 10)) k 0 (rw length-set (omega arith))
    ∙ (rw (get_or-set_same out k (48 + m % 10) 0 (omega arith), drop-set-lt (suc k) out k (48 + m % 10) (omega arith))) in
    rw (e, d)

pub digits-length : (k m : ℕ) (r : List ℕ) → length (digits k m r) ≡ k + length r
unfolding digits
digits-length zero m r = omega arith
digits-length (suc k) m r = digits-length k (m / 10) ((48 + m % 10) ∷ r) ∙ omega arith

-- one turn of `digit_count`
pub record Turn (n rest : ℕ) : Type 0 where
  pub room : n < 20
  pub less : rest / 10 < 10 ^ (20 - (n + 1))
  pub kept : n + 1 + count (20 - (n + 1)) (rest / 10) ≡ n + count (20 - n) rest

count-suc : (k m : ℕ) → 0 < m → count (suc k) m ≡ suc (count k (m / 10))
unfolding count
count-suc k m h = let z : m ≡ 0 → ⊥ = (λ e. omega arith) in rw (ne_eqb m 0 z)

turn_at : (n rest k : ℕ) → 20 - n ≡ k → 0 < rest → rest < 10 ^ k → Turn n rest
turn_at n rest zero e h l = absurd (omega arith)
turn_at n rest (suc k) e h l =
    let e' : 20 - (n + 1) ≡ k = omega arith in
    let p = pow-suc 10 k in
    record {
      room = omega arith;
      less = rw e' (omega arith);
      kept = rw (e', e, count-suc k rest h) (omega arith);
    }

pub turn : (n rest : ℕ) → 0 < rest → rest < 10 ^ (20 - n) → Turn n rest
turn n rest h l = turn_at n rest (20 - n) refl h l

pub count-zero : (k : ℕ) → count k 0 ≡ 0
unfolding count
count-zero zero = refl
count-zero (suc k) = refl

-- a count is at most its bound
pub count_most : (k m : ℕ) → count k m ≤ k
unfolding count
count_most zero m = omega arith
count_most (suc k) m = least (eqb m 0) (count k (m / 10)) k (count_most k (m / 10))
  where
    least : (t : Bool) (x j : ℕ) → x ≤ j → cond t 0 (suc x) ≤ suc j
    least true x j h = omega arith
    least false x j h = omega arith
