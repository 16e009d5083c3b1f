-- The bytes at hand, some of them taken away at the front. Assumes nothing.
use Rattle.std.proofs.Common.{◌≡◌, ℕ, zero, suc, ◌+◌, ◌-◌, ◌≤◌, eqb, List, [], ◌∷◌, ◌++◌, length, take, drop, replicate, sym, refl, ap, ◌∙◌, arith, length-drop, length-take-le, take_at, take-add, drop_at, ne_eqb}
use Rattle.values.specs.Basic.{is_nil}
use Rattle.values.specs.Area.{closed}
use Rattle.std.specs.List.{copy_within}
use Rattle.std.proofs.Math.Seq.{paste}
use Rattle.std.proofs.lemmas.List.Edits.{take-paste}

pub none-taken : {A : Type 0} (n : ℕ) (xs : List A) → n ≤ length xs → is_nil (take n xs) ≡ eqb n 0
none-taken zero xs l = refl
none-taken (suc n) [] l = absurd (omega arith)
none-taken (suc n) (x ∷ xs) l = sym (ne_eqb (suc n) 0 (omega arith))

-- a part from n to m, said both ways
pub part_of : (n m : ℕ) (xs : List ℕ) → n ≤ m → m ≤ length xs → take (m - n) (drop n xs) ≡ drop n (take m xs)
part_of n m xs h l =
    let e : m ≡ n + (m - n) = omega arith in
    sym (ap (λ (k : ℕ). drop n (take k xs)) e ∙ ap (drop n) (take-add n (m - n) xs) ∙ drop_at (take n xs) (take (m - n) (drop n xs)) n (length-take-le n xs (omega arith)))

opened : (have n : ℕ) (xs : List ℕ) → closed 0 have n xs ≡ take (have - n) (drop n xs) ++ (replicate n 0 ++ drop have xs)
unfolding closed
opened have n xs = let e : 0 + n ≡ n = omega arith in rw e

-- a front that is closed up, and one that is moved over
pub away : (have n : ℕ) (xs ys : List ℕ) → n ≤ have → have ≤ length xs → ys ≡ closed 0 have n xs → take (have - n) ys ≡ drop n (take have xs)
away have n xs ys h l e =
    ap (take (have - n)) (e ∙ opened have n xs)
    ∙ take_at (take (have - n) (drop n xs)) (replicate n 0 ++ drop have xs) (have - n) (length-take-le (have - n) (drop n xs) (rw (length-drop n xs) (omega arith)))
    ∙ part_of n have xs h l

pub moved-away : (have n : ℕ) (xs ys : List ℕ) → n ≤ have → have ≤ length xs → ys ≡ copy_within xs n have 0 → take (have - n) ys ≡ drop n (take have xs)
moved-away have n xs ys h l e =
    let z : 0 + (have - n) ≡ have - n = omega arith in
    ap (take (have - n)) e
    ∙ ap (λ (k : ℕ). take k (paste xs 0 (drop n xs) (have - n))) (sym z)
    ∙ take-paste xs 0 (drop n xs) (have - n) (omega arith) (rw (length-drop n xs) (omega arith))
    ∙ part_of n have xs h l
