-- Parts of parts: a record written through a part of a buffer, in an area of that buffer. Assumes nothing.
use mathlib.Core.Path.{◌≡◌, sym, ap, ◌∙◌}
use Prim.Native.Nat.{ℕ, zero, suc, ◌+◌, ◌-◌, ◌≤◌, ◌<◌}
use native.Mathlib.Nat.{add-sub_cancel_left, sub-zero, zero-sub, suc-sub-suc}
use native.Mathlib.Numerals.{add-one}
use native.Mathlib.Omega.{arith}
use mathlib.Core.List.{List, [], ◌∷◌, ◌++◌, append_assoc}
use lib.ListN.{length, take, drop, get_or, set, replicate, length-append, length-take, length-drop, length-replicate}
use lib.Seq.{length-take-le, take_at, drop_at, take-take, drop-drop, take-append-add, take-append-le, drop-append-le, take-nil, drop-cons, set_at}
use borrow.Rule.Slice.PartMut.{put_mid, Post-is}
use Rattle.values.specs.Area.{raised, cleared, inserted, part, with_part}
use Rattle.values.proofs.Shifts.{drop_past}

pub take_past : (p q : List ℕ) (n k : ℕ) → length p ≡ n → take (n + k) (p ++ q) ≡ p ++ take k q
take_past p q n k e = rw (← e) (take-append-add p q k)

pub length_part : (from to : ℕ) (s : List ℕ) → to ≤ length s → length (part from to s) ≡ to - from
unfolding part
length_part from to s h = simp (length-take, length-drop) (omega arith)

-- what the borrow checker says of a part that is back
pub mid_back : (from to : ℕ) (s ys : List ℕ) → from ≤ to → put_mid from (to - from) s ys ≡ with_part from to ys s
unfolding with_part
mid_back from to s ys h = rw (Post-is from to s h)

-- a part of a part that is known
pub with-inside : (from at e : ℕ) (r a x z : List ℕ) → length a ≡ from → at ≤ e → e ≤ length x
    → with_part (from + at) (from + e) r (a ++ (x ++ z)) ≡ a ++ (with_part at e r x ++ z)
unfolding with_part
with-inside from at e r a x z ea k l =
    let m : at ≤ length x = omega arith in
    rw (take_past a, drop_past a, take-append-le at x z m, drop-append-le e x z l) (simp append_assoc)

-- a part of a part that was put there
pub nested : (from to at e : ℕ) (s ys r : List ℕ) → from ≤ length s → at ≤ e → e ≤ length ys
    → with_part (from + at) (from + e) r (with_part from to ys s) ≡ with_part from to (with_part at e r ys) s
unfolding with_part
nested from to at e s ys r h k l = with-inside from at e r (take from s) ys (drop to s) (length-take-le from s h) k l

-- raised, and a record written there
pub put-raised : (at used : ℕ) (r xs : List ℕ) → at ≤ used → used + length r ≤ length xs
    → with_part at (at + length r) r (raised at used (length r) xs) ≡ inserted at used r xs
unfolding with_part raised inserted
put-raised at used r xs h k =
    let n : length (take (at + length r) xs) ≡ at + length r = length-take-le (at + length r) xs (omega arith) in
    let m : at ≤ length (take (at + length r) xs) = omega arith in
    let o : at ≤ at + length r = omega arith in
    rw (
      drop_at (take (at + length r) xs) (take (used - at) (drop at xs) ++ drop (used + length r) xs) (at + length r) n,
      take-append-le at (take (at + length r) xs) (take (used - at) (drop at xs) ++ drop (used + length r) xs) m,
      take-take at (at + length r) xs o,
    )

-- a place is opened by a move up and zeros
pub opened-parts : (at used width : ℕ) (xs : List ℕ) → at ≤ used → used + width ≤ length xs
    → cleared at (at + width) (raised at used width xs) ≡ inserted at used (replicate width 0) xs
unfolding cleared with_part
opened-parts at used width xs h k =
    let z : List ℕ = replicate width 0 in
    let n : length z ≡ width = length-replicate width 0 in
    let p = put-raised at used z xs h (rw n k) in
    rw (add-sub_cancel_left at width) (rw n at p)

-- the part that was put there
pub part-with : (from to : ℕ) (y s : List ℕ) → from ≤ length s → length y ≡ to - from → part from to (with_part from to y s) ≡ y
unfolding part with_part
part-with from to y s h e =
    let n : length (take from s) ≡ from = length-take-le from s h in
    rw (drop_at (take from s) (y ++ drop to s) from n, take_at y (drop to s) (to - from) e)

-- a buffer whose parts are known: x stands from `from` to `to`
pub part_of : (from to : ℕ) (a x z : List ℕ) → length a ≡ from → length x ≡ to - from → part from to (a ++ (x ++ z)) ≡ x
unfolding part
part_of from to a x z ea ex = rw (drop_at a (x ++ z) from ea, take_at x z (to - from) ex)

pub with-of : (from to : ℕ) (y a x z : List ℕ) → length a ≡ from → length x ≡ to - from → from ≤ to → with_part from to y (a ++ (x ++ z)) ≡ a ++ (y ++ z)
unfolding with_part
with-of from to y a x z ea ex h =
    let n : length (a ++ x) ≡ to = length-append a x ∙ omega arith in
    rw (take_at a (x ++ z) from ea) (rw (← append_assoc a x z, drop_at (a ++ x) z to n))

-- another part is as it was
pub part-before : (from to f t : ℕ) (y s : List ℕ) → t ≤ from → from ≤ length s → part f t (with_part from to y s) ≡ part f t s
unfolding part with_part
part-before from to f t y s h k =
    -- in the language of `slice`: what is taken of the first t is taken of `take from s`
    swap f t (take from s ++ (y ++ drop to s)) ∙ ap (drop f) (take-append-le t (take from s) (y ++ drop to s) (simp length-take (omega arith)) ∙ take-take t from s h)
    ∙ sym (swap f t s)
  where
    swap : (f t : ℕ) (l : List ℕ) → take (t - f) (drop f l) ≡ drop f (take t l)
    swap zero t l = rw sub-zero
    swap (suc f) zero l = rw zero-sub
    swap (suc f) (suc t) [] = take-nil (suc t - suc f)
    swap (suc f) (suc t) (x ∷ l) = rw suc-sub-suc (swap f t l)

pub part-after : (from to f t : ℕ) (y s : List ℕ) → to ≤ f → from ≤ to → to ≤ length s → length y ≡ to - from → part f t (with_part from to y s) ≡ part f t s
unfolding part with_part
part-after from to f t y s h k l e = ap (take (t - f)) (rw (← append_assoc (take from s) y (drop to s)) (
    ap (λ (n : ℕ). drop n ((take from s ++ y) ++ drop to s)) g ∙ drop_past (take from s ++ y) (drop to s) to (f - to) m ∙ drop-drop (f - to) to s ∙ ap (λ (n : ℕ). drop n s) (sym g)))
  where
    g : f ≡ to + (f - to)
    g = omega arith

    m : length (take from s ++ y) ≡ to
    m = simp (length-append, length-take) (omega arith)

-- a part put twice
pub with-twice : (from to : ℕ) (x y s : List ℕ) → from ≤ to → to ≤ length s → length x ≡ to - from → with_part from to y (with_part from to x s) ≡ with_part from to y s
unfolding with_part
with-twice from to x y s h k e =
    let n : length (take from s) ≡ from = length-take-le from s (omega arith) in
    let m : length (take from s ++ x) ≡ to = length-append (take from s) x ∙ omega arith in
    rw (take_at (take from s) (x ++ drop to s) from n) (rw (← append_assoc (take from s) x (drop to s), drop_at (take from s ++ x) (drop to s) to m))

-- a record written part by part, from its start: p is written, and the rest is as it was
pub put_next : (a k : ℕ) (p d y : List ℕ) → length p ≡ a → put_mid a k (p ++ drop a d) y ≡ (p ++ y) ++ drop (a + k) d
put_next a k p d y e = rw (take_at p (drop a d) a e, drop_at p (drop a d) a e, drop-drop k a d, append_assoc)

pub set_next : (a v : ℕ) (p d : List ℕ) → length p ≡ a → a < length d → set (p ++ drop a d) a v ≡ (p ++ (v ∷ [])) ++ drop (a + 1) d
set_next a v p d e h = rw (drop-cons d a 0 h, set_at p (get_or d a 0) (drop (suc a) d) v a e, add-one, append_assoc)
