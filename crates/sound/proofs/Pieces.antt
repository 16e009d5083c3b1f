-- Bytes compared piece by piece: a list in front of another, a name, a value, zeros, cells one after the other. Assumes nothing.
use mathlib.Core.Path.{◌≡◌, refl, sym, ap, ◌∙◌}
use mathlib.Core.Bool.{Bool, true, false, ◌&&◌}
use Prim.Native.Nat.{ℕ, zero, suc, ◌+◌, ◌*◌, ◌≤◌}
use native.Mathlib.Nat.{zero-mul, suc-mul, not-suc-le-zero}
use native.Mathlib.Omega.{arith}
use mathlib.Core.List.{List, [], ◌∷◌, ◌++◌, map}
use lib.Dec.{eqb}
use lib.ListN.{length, get_or, take, drop, replicate, length-append, length-take, length-drop}
use lib.Seq.{take-take, take-add, drop_at, length-take-le}
use borrow.Author.Tests.{eqb-true, eq-eqb}
use Rattle.values.specs.Bytes.{leqb, zeros, Bytes}
use Rattle.values.specs.Value.{Value}
use Rattle.values.specs.Cell.{name_width, name_cell, read_name, is_name_cell, cell_width, value_cell, read_value, is_cell}
use Rattle.areas.specs.Records.{joined, records}
use Rattle.values.proofs.Packing.{take-bytes, drop-bytes}
use Rattle.values.proofs.Cells.{length-name, read-name-short, read-name-bytes, read-normal, read-inside, read-storable-full, length-value}
use Rattle.rules.specs.Sound.{every, good_name, canonical}
use Rattle.rules.proofs.Lists.{bool_same}
use Rattle.laid.proofs.Columns.{name-front, value-front}
use Rattle.rules.proofs.Trip.{name-good, range-canonical}

-- ---- a list in front of another

pub leqb-append : (a b r : List ℕ) (n : ℕ) → length a ≡ n → n ≤ length r → leqb (a ++ b) r ≡ (leqb a (take n r) && leqb b (drop n r))
unfolding leqb
leqb-append [] b r n e h = rw (← e)
leqb-append (x ∷ a) b [] n e h = absurd (omega arith)
leqb-append (x ∷ a) b (y ∷ r) n e h = rw (← e) (on (eqb x y) (leqb-append a b r (length a) refl (omega arith)))
  where
    on : (c : Bool) → leqb (a ++ b) r ≡ (leqb a (take (length a) r) && leqb b (drop (length a) r))
        → (c && leqb (a ++ b) r) ≡ ((c && leqb a (take (length a) r)) && leqb b (drop (length a) r))
    on true k = k
    on false k = refl

pub leqb-cons : (x : ℕ) (b r : List ℕ) → 1 ≤ length r → leqb (x ∷ b) r ≡ (eqb x (get_or r 0 0) && leqb b (drop 1 r))
unfolding leqb
leqb-cons x b [] h = absurd (not-suc-le-zero h)
leqb-cons x b (y ∷ r) h = refl

-- ---- zeros

eqb-turn : (x : ℕ) → eqb 0 x ≡ eqb x 0
eqb-turn x = bool_same (eqb 0 x) (eqb x 0) (λ h. eq-eqb x 0 (sym (eqb-true 0 x h))) (λ h. eq-eqb 0 x (sym (eqb-true x 0 h)))

pub zeros-piece : (n : ℕ) (d : List ℕ) → length d ≡ n → leqb (replicate n 0) d ≡ zeros d
unfolding leqb zeros
zeros-piece n [] h = rw (← h)
zeros-piece n (x ∷ d) h = rw (← h, eqb-turn x, zeros-piece (length d) d refl)

-- ---- what is read from the front

pub name-piece : (s : List ℕ) → leqb (name_cell (read_name s)) (take name_width s) ≡ is_name_cell (take name_width s)
unfolding is_name_cell
name-piece s = ap (λ (n : List ℕ). leqb (name_cell n) (take name_width s)) (sym (name-front name_width s (omega arith)))

pub value-piece : (s : List ℕ) → cell_width ≤ length s → leqb (value_cell cell_width (read_value s)) (take cell_width s) ≡ is_cell (take cell_width s)
unfolding is_cell
value-piece s h =
    ap (λ (v : Value). leqb (value_cell cell_width v) (take cell_width s)) (sym (value-front cell_width s (omega arith)))
    ∙ ap (λ (n : ℕ). leqb (value_cell n (read_value (take cell_width s))) (take cell_width s)) (sym (length-take-le cell_width s h))

pub name-long : (s : List ℕ) → length (name_cell (read_name s)) ≡ name_width
name-long s = length-name (read_name s) (read-name-short s)

pub value-long : (s : List ℕ) → Bytes s → length (value_cell cell_width (read_value s)) ≡ cell_width
value-long s b = length-value cell_width (read_value s) (read-storable-full s b)

pub good-read-name : (s : List ℕ) → Bytes s → good_name (read_name s) ≡ true
good-read-name s b = name-good (read_name s) (read-name-short s) (read-name-bytes s b)

pub canonical-read : (s : List ℕ) → Bytes s → canonical (read_value s) ≡ true
canonical-read s b = ap canonical (sym (read-normal s)) ∙ range-canonical (read_value s) (read-inside s b)

-- ---- records one after the other

drop-take : (n m : ℕ) (l : List ℕ) → n ≤ length l → drop n (take (n + m) l) ≡ take m (drop n l)
drop-take n m l h = ap (drop n) (take-add n m l) ∙ drop_at (take n l) (take m (drop n l)) n (length-take-le n l h)

module _ {A : Type 0} (w : ℕ) (h : List ℕ → A) (g : A → List ℕ) (wide : (c : List ℕ) → Bytes c → length (g (h c)) ≡ w) where
  pub joined-long : (n : ℕ) (l : List ℕ) → Bytes l → length (joined (map g (map h (records w n l)))) ≡ n * w
  unfolding joined records
  joined-long zero l b = sym (zero-mul w)
  joined-long (suc n) l b =
      length-append (g (h (take w l))) (joined (map g (map h (records w n (drop w l)))))
      ∙ rw (wide (take w l) (take-bytes w l b), joined-long n (drop w l) (drop-bytes w l b)) (omega (arith, suc-mul n w))

  pub joined-piece : (n : ℕ) (l : List ℕ) → Bytes l → n * w ≤ length l
      → leqb (joined (map g (map h (records w n l)))) (take (n * w) l) ≡ every (λ c. leqb (g (h c)) c) (records w n l)
  unfolding joined records every leqb
  joined-piece zero l b k = rw zero-mul
  joined-piece (suc n) l b k =
      let e : suc n * w ≡ w + n * w = suc-mul n w ∙ omega arith in
      let f : w ≤ length l = omega arith in
      let q : drop w (take (w + n * w) l) ≡ take (n * w) (drop w l) = drop-take w (n * w) l f in
      rw e
      (leqb-append (g (h (take w l))) (joined (map g (map h (records w n (drop w l))))) (take (w + n * w) l) w (wide (take w l) (take-bytes w l b)) (simp length-take (omega arith))
      ∙ rw (take-take w (w + n * w) l (omega arith), q, joined-piece n (drop w l) (drop-bytes w l b) (simp length-drop (omega arith))))
