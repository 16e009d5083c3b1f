-- Two's complement: what the casts between i64 and u64 need. Assumes nothing.
use mathlib.Core.Path.{◌≡◌, refl, ap}
use mathlib.Core.Bool.{true, false, true≢false}
use Prim.Native.Nat.{ℕ, zero, suc, ◌+◌, ◌-◌, ◌^◌, ◌≤◌, ◌<◌}
use native.Mathlib.Nat.{zero-add}
use native.Mathlib.Numerals.{add-one}
use native.Mathlib.Omega.{arith}
use borrow.Author.Tests.{le-ltb, ltb-true}
use lib.Dec.{ltb}
use lib.IntN.{ℤ, pos, negsuc, ◌-ℤ◌, nat_abs}
use lib.Signed.{mag, lt_z}
use mir.Syntax.{w64}
use mir.Val.{SFits, of_z, to_z}
use mir.ValLaws.{to_z-of_z, to_z_pos}

-- -1 - z
abbrev pub flip : ℤ → ℤ
flip (pos n) = negsuc n
flip (negsuc n) = pos n

pub flip_is : (z : ℤ) → negsuc 0 -ℤ z ≡ flip z
flip_is (pos zero) = refl
flip_is (pos (suc n)) = ap negsuc (ap suc (zero-add n))
flip_is (negsuc n) = rw (le-ltb (suc n) 1 (omega arith)) (ap pos (omega arith))

pub flip-fits : (z : ℤ) → SFits w64 z → SFits w64 (flip z)
flip-fits (pos n) h = record { sfits = h.sfits }
flip-fits (negsuc n) h = record { sfits = h.sfits }

-- below zero
pub record Below (z : ℤ) : Type 0 where
  pub fit : SFits w64 (negsuc 0 -ℤ to_z w64 (of_z w64 z))
  pub turned : to_z w64 (of_z w64 (negsuc 0 -ℤ to_z w64 (of_z w64 z))) ≡ pos (mag z)
  pub small : mag z < 2 ^ 63
  pub bits : of_z w64 z ≡ 2 ^ 64 - suc (mag z)
  pub abs : mag z + 1 ≡ nat_abs z

back : (z : ℤ) → SFits w64 z → to_z w64 (of_z w64 (negsuc 0 -ℤ to_z w64 (of_z w64 z))) ≡ flip z
back z h = rw (to_z-of_z w64 z h, flip_is z) (to_z-of_z w64 (flip z) (flip-fits z h))

fit-back : (z : ℤ) → SFits w64 z → SFits w64 (negsuc 0 -ℤ to_z w64 (of_z w64 z))
fit-back z h = rw (to_z-of_z w64 z h, flip_is z) (flip-fits z h)

pub below-neg : (n : ℕ) → SFits w64 (negsuc n) → Below (negsuc n)
below-neg n h = record { fit = fit-back (negsuc n) h; turned = back (negsuc n) h; small = h.sfits; bits = refl; abs = add-one n }

pub below : (z : ℤ) → SFits w64 z → lt_z (to_z w64 (of_z w64 z)) (pos 0) ≡ true → Below z
below (negsuc n) h t = below-neg n h
below (pos n) h t = absurd (not_neg n (rw (to_z-of_z w64 (pos n) h) at t))
  where
    not_neg : (n : ℕ) → ltb n 0 ≡ true → ⊥
    not_neg n t = omega (arith, ltb-true n 0 t)

-- zero or above
pub record Above (z : ℤ) : Type 0 where
  pub same : to_z w64 (of_z w64 z) ≡ pos (mag z)
  pub small : mag z < 2 ^ 63
  pub bits : of_z w64 z ≡ mag z

pub above : (z : ℤ) → SFits w64 z → lt_z (to_z w64 (of_z w64 z)) (pos 0) ≡ false → Above z
above (pos n) h t = record { same = to_z-of_z w64 (pos n) h; small = h.sfits; bits = refl }
above (negsuc n) h t = absurd (true≢false (rw (to_z-of_z w64 (negsuc n) h) at t))

-- the upper half of the words
pub record Upper (w : ℕ) : Type 0 where
  pub fit : SFits w64 (negsuc 0 -ℤ to_z w64 (18446744073709551615 - w))
  pub is : to_z w64 (of_z w64 (negsuc 0 -ℤ to_z w64 (18446744073709551615 - w))) ≡ to_z w64 w

upper-at : (w v : ℕ) → v ≡ 18446744073709551615 - w → v < 2 ^ 63 → w < 2 ^ 64 → 2 ^ 63 ≤ w → SFits w64 (negsuc 0 -ℤ to_z w64 v) × (to_z w64 (of_z w64 (negsuc 0 -ℤ to_z w64 v)) ≡ to_z w64 w)
upper-at w v e l u h =
    let s : SFits w64 (negsuc v) = record { sfits = l } in
    let t : negsuc 0 -ℤ to_z w64 v ≡ negsuc v = rw (to_z_pos w64 v l) (flip_is (pos v)) in
    let q : v ≡ 2 ^ 64 - suc w = omega arith in
    (rw t s, rw (t, to_z-of_z w64 (negsuc v) s) (rw (le-ltb w (2 ^ 63) h) (ap negsuc q)))

pub upper : (w : ℕ) → w < 2 ^ 64 → 2 ^ 63 ≤ w → Upper w
upper w u h =
    let p = upper-at w (18446744073709551615 - w) refl (omega arith) u h in
    record { fit = p.0; is = p.1 }
