-- A front of a buffer told by what stands there, and what is copied behind it. Assumes nothing.
use Prim.Native.Nat.{ℕ, ◌+◌, ◌-◌}
use mathlib.Core.Path.{◌≡◌, sym, ap, ◌∙◌, subst}
use mathlib.Core.List.{List, ◌++◌, append_assoc}
use native.Mathlib.Nat.{sub-zero}
use native.Mathlib.Omega.{arith}
use lib.ListN.{length, take, drop, length-append}
use lib.Seq.{take_at, drop_at, drop-drop}
use borrow.Rule.Slice.PartMut.{put_mid}
use Rattle.forms.specs.Print.{Front}

module _ (p before now : List ℕ) (n : ℕ) (f : Front p before now n) where
  pub front-is : take n now ≡ p
  front-is = ap (take n) f.bytes ∙ take_at p (drop n before) n (sym f.count)

  pub front-told : Front (take n now) before now n
  front-told = subst (λ (q : List ℕ). Front q before now n) (sym front-is) f

pub front-copied : (p before now q : List ℕ) (n k : ℕ) → Front p before now n → length q ≡ k → Front (p ++ q) before (put_mid n (n + k - n) now q) (n + k)
front-copied p before now q n k f e =
    let d : drop n now ≡ drop n before = ap (drop n) f.bytes ∙ drop_at p (drop n before) n (sym f.count) in
    let t : take n now ≡ p = front-is p before now n f in
    let z : n + k - n ≡ k = omega arith in
    record {
      count = omega (arith, length-append p q, f.count);
      bytes = rw (z, t, d, drop-drop k n before) (sym (append_assoc p q (drop (n + k) before)));
    }

-- a front of a whole part, read back: `line[0..n]`
pub front-back : (q before last z : List ℕ) (n : ℕ) → Front q before last n → take (n - 0) (last ++ z) ≡ q
front-back q before last z n f =
    ap (λ (j : ℕ). take j (last ++ z)) (sub-zero n)
    ∙ ap (λ (l : List ℕ). take n (l ++ z)) f.bytes
    ∙ ap (take n) (append_assoc q (drop n before) z)
    ∙ take_at q (drop n before ++ z) n (sym f.count)
