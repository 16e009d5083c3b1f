-- Laws of `be` and `num`, at every width. Assumes nothing.
use mathlib.Core.Path.{◌≡◌, refl, ◌∙◌}
use mathlib.Core.List.{List, [], ◌∷◌, ◌++◌}
use Prim.Native.Nat.{ℕ, zero, suc, ◌+◌, ◌-◌, ◌*◌, ◌/◌, ◌%◌, ◌^◌, ◌≤◌, ◌<◌}
use native.Mathlib.Nat.{pow-suc, div-add-mod', add-zero, mul-one, one-mul, mul_assoc, mul_comm}
use native.Mathlib.Numerals.{add-one}
use native.Mathlib.Omega.{arith}
use lib.Arith.{digits_div, digits_mod, digits_lt}
use lib.Pow.{pow-add, pow_mono}
use lib.ListN.{length, get_or, take, drop, set, length-set}
use lib.Seq.{drop-cons, drop-set-lt, get_or-set_same, take-suc}
use Rattle.values.specs.Bytes.{be, num}

-- one store of `put`
pub put_step : (i w : ℕ) (out : List ℕ) → 0 < i → i ≤ length out → be (i - 1) (w / 256) (drop (i - 1) (set out (i - 1) (w % 256))) ≡ be i w (drop i out)
unfolding be
put_step zero w out h l = absurd (omega arith)
put_step (suc k) w out h l =
    let e : suc k - 1 ≡ k = omega arith in
    let d : drop k (set out k (w % 256)) ≡ w % 256 ∷ drop (suc k) out =
    drop-cons (set out k (w % 256)) k 0 (rw length-set (omega arith))
    ∙ (rw (get_or-set_same out k (w % 256) 0 (omega arith), drop-set-lt (suc k) out k (w % 256) (omega arith))) in
    rw (e, d)

-- a byte more
pub num-snoc : (a : ℕ) (s : List ℕ) (x : ℕ) → num a (s ++ (x ∷ [])) ≡ num a s * 256 + x
unfolding num
num-snoc a [] x = refl
num-snoc a (y ∷ s) x = num-snoc (a * 256 + y) s x

pub get-step : (s : List ℕ) (i : ℕ) → i < length s → num 0 (take (i + 1) s) ≡ num 0 (take i s) * 256 + get_or s i 0
get-step s i h = rw (add-one, take-suc s i 0 h, num-snoc)

-- a number of i bytes leaves room for one byte more, as long as i is below 8
pub byte-room : (i w : ℕ) → i < 8 → w < 2 ^ (8 * i) → w < 2 ^ 56
byte-room i w h l = let p : 2 ^ (8 * i) ≤ 2 ^ 56 = pow_mono {i = 8 * i} {j = 56} (omega arith) in omega arith

pub byte_more : (i w b : ℕ) → w < 2 ^ (8 * i) → b < 256 → w * 256 + b < 2 ^ (8 * (i + 1))
byte_more i w b h l =
    let e : 8 * (i + 1) ≡ 8 * i + 8 = omega arith in
    let p = pow-add 2 (8 * i) 8 in
    rw (e, p) (omega arith)

-- the number of the bytes of a number
pub num-be : (k w : ℕ) (r : List ℕ) → w < 256 ^ k → num 0 (be k w r) ≡ num w r
unfolding be num
num-be zero w r h = rw (the w h)
  where
    the : (w : ℕ) → w < 256 ^ 0 → w ≡ 0
    the w h = omega arith
num-be (suc k) w r h =
    num-be k (w / 256) (w % 256 ∷ r) (less k w h)
    ∙ rw (div-add-mod' w 256)
  where
    less : (k w : ℕ) → w < 256 ^ suc k → w / 256 < 256 ^ k
    less k w h = let p = pow-suc 256 k in omega arith

-- a number of k bytes is below 256 ^ k
num-bound : (s : List ℕ) (a m : ℕ) → a < m → ((i : ℕ) → get_or s i 0 < 256) → num a s < m * 256 ^ length s
unfolding num
num-bound [] a m l h = rw mul-one l
num-bound (x ∷ s) a m l h =
    let b = h 0 in
    let e : m * 256 ^ suc (length s) ≡ (m * 256) * 256 ^ length s = rw (pow-suc, mul_assoc m 256 (256 ^ length s), mul_comm 256 (256 ^ length s)) in
    rw e (num-bound s (a * 256 + x) (m * 256) (digits_lt l b) (λ i. h (suc i)))

pub num-lt : (k : ℕ) (s : List ℕ) → length s ≡ k → ((i : ℕ) → get_or s i 0 < 256) → num 0 s < 256 ^ k
num-lt k s e h = let b = num-bound s 0 1 (omega arith) h in rw (← e) (rw one-mul at b)

-- the bytes of the number of bytes

pub be-num : (s : List ℕ) (k a : ℕ) (r : List ℕ) → ((i : ℕ) → get_or s i 0 < 256) → be (k + length s) (num a s) r ≡ be k a (s ++ r)
unfolding be num
be-num [] k a r h = rw add-zero
be-num (x ∷ s) k a r h =
    let e : k + suc (length s) ≡ suc k + length s = omega arith in
    let b = h 0 in
    rw e (be-num s (suc k) (a * 256 + x) r (λ i. h (suc i)) ∙ rw (digits_div a {m = 256} {r = x} b, digits_mod a {m = 256} {r = x} b))
