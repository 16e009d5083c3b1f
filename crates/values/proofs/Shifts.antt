-- Laws of `specs/Area.antt`. Assumes nothing.
use mathlib.Core.Path.{◌≡◌, refl, sym, ap, ◌∙◌}
use Prim.Native.Nat.{ℕ, zero, suc, ◌+◌, ◌-◌, ◌≤◌}
use native.Mathlib.Omega.{arith}
use mathlib.Core.List.{List, ◌∷◌, ◌++◌, append_assoc}
use lib.ListN.{length, take, drop, get_or, replicate, length-append, length-take, length-drop}
use lib.Seq.{length-take-le, get_or-append-add, take_at, drop-drop, drop-append-add}
use borrow.Rule.Slice.PartMut.{put_mid, mid_of}
use Rattle.std.specs.List.{copy_within}
use Rattle.values.specs.Area.{raised, lowered, cleared, closed}

pub length-raised : (at used width : ℕ) (xs : List ℕ) → at ≤ used → used + width ≤ length xs → length (raised at used width xs) ≡ length xs
unfolding raised
length-raised at used width xs h k = simp (length-append, length-take, length-drop) (omega arith)

-- the bytes moved within the area
pub raised-copied : (at used width : ℕ) (xs : List ℕ) → at ≤ used → copy_within xs at used (at + width) ≡ raised at used width xs
unfolding raised
raised-copied at used width xs h =
    let e : at + width + (used - at) ≡ used + width = omega arith in
    rw (e, append_assoc)

-- what stands k past the end of p, whose length is n
pub get_d_past : (p q : List ℕ) (n k : ℕ) → length p ≡ n → get_or (p ++ q) (n + k) 0 ≡ get_or q k 0
get_d_past p q n k e = rw (← e) (get_or-append-add p q k 0)

-- past the end of p, whose length is n
pub drop_past : (p q : List ℕ) (n k : ℕ) → length p ≡ n → drop (n + k) (p ++ q) ≡ drop k q
drop_past p q n k e = rw (← e) (drop-append-add p q k)

lowered-head : (at i width : ℕ) (xs : List ℕ) → at ≤ i → i + width ≤ length xs → length (take at xs ++ take (i - at) (drop (at + width) xs)) ≡ i
lowered-head at i width xs h k = simp (length-append, length-take, length-drop) (omega arith)

pub lowered-copied : (at used width : ℕ) (xs : List ℕ) → at + width ≤ used → copy_within xs (at + width) used at ≡ lowered at (used - width) width xs
unfolding lowered
lowered-copied at used width xs h =
    let e : used - (at + width) ≡ used - width - at = omega arith in
    let f : at + (used - width - at) ≡ used - width = omega arith in
    rw (e, f, append_assoc)

pub zeros-snoc : (n : ℕ) (r : List ℕ) → replicate n 0 ++ 0 ∷ r ≡ replicate (suc n) 0 ++ r
zeros-snoc zero r = refl
zeros-snoc (suc n) r = ap (λ (l : List ℕ). 0 ∷ l) (zeros-snoc n r)

pub cleared-mid : (from to : ℕ) (xs ys : List ℕ) → from ≤ to → to ≤ length xs → ys ≡ replicate (length (mid_of from (to - from) xs)) 0 → put_mid from (to - from) xs ys ≡ cleared from to xs
unfolding cleared
cleared-mid from to xs ys h k e =
    let l : length (mid_of from (to - from) xs) ≡ to - from = length-take-le (to - from) (drop from xs) (simp length-drop (omega arith)) in
    let s : from + (to - from) ≡ to = omega arith in
    rw (e, l, drop-drop, s)

-- a place is closed by a move down and zeros
pub closed_parts : (at used width : ℕ) (xs : List ℕ) → at + width ≤ used → used ≤ length xs
    → cleared (used - width) used (lowered at (used - width) width xs) ≡ closed at used width xs
unfolding lowered cleared closed
closed_parts at used width xs h k =
    let s : used - (at + width) ≡ used - width - at = omega arith in
    let t : used - (used - width) ≡ width = omega arith in
    let u : used - width + width ≡ used = omega arith in
    let n : length (take at xs ++ take (used - width - at) (drop (at + width) xs)) ≡ used - width = lowered-head at (used - width) width xs (omega arith) (omega arith) in
    rw (
      ← append_assoc (take at xs) (take (used - width - at) (drop (at + width) xs)) (drop (used - width) xs),
      take_at (take at xs ++ take (used - width - at) (drop (at + width) xs)) (drop (used - width) xs) (used - width) n,
      past (take at xs ++ take (used - width - at) (drop (at + width) xs)) n,
      s,
      t,
      append_assoc,
    )
  where
    past : (p : List ℕ) → length p ≡ used - width → drop used (p ++ drop (used - width) xs) ≡ drop used xs
    past p n =
        let u : used - width + width ≡ used = omega arith in
        ap (λ (m : ℕ). drop m (p ++ drop (used - width) xs)) (sym u) ∙ drop_past p (drop (used - width) xs) (used - width) width n
        ∙ drop-drop width (used - width) xs ∙ ap (λ (m : ℕ). drop m xs) u
