-- What the printing functions leave: bytes at the front of a buffer. Assumes nothing.
use mathlib.Core.Path.{◌≡◌, refl, sym, ap, ◌∙◌, subst}
use mathlib.Core.List.{List, [], ◌∷◌, ◌++◌, append-nil}
use Prim.Native.Nat.{ℕ, suc, ◌+◌, ◌-◌, ◌*◌, ◌/◌, ◌%◌, ◌≤◌, ◌<◌, max}
use native.Mathlib.Nat.{add-zero, max-le}
use native.Mathlib.Numerals.{add-one}
use native.Mathlib.Omega.{arith}
use mathlib.Core.Bool.{true, false}
use borrow.Author.Tests.{leb-false}
use lib.IntN.{ℤ, pos, negsuc, nat_abs}
use lib.Signed.{le_z}
use lib.ListN.{length, get_or, take, drop, set, length-set}
use lib.Seq.{take-length, drop-length, length-take-le, take-suc, take-suc-set}
use borrow.Rule.Slice.PartMut.{put_mid}
use mir.Syntax.{w64}
use mir.Val.{SFits, of_z, to_z}
use mir.ValLaws.{to_z-of_z}
use Rattle.values.specs.Bytes.{be}
use Rattle.values.specs.Value.{Value, integer, float, text, text_most, normal_bits}
use Rattle.values.specs.Meaning.{text_bytes, Packed}
use Rattle.values.specs.Cell.{name_cell}
use Rattle.forms.specs.Print.{digits, count, decimal, signed_decimal, hex_digit, hex, printed, print_most, Front}
use Rattle.values.specs.declared.value.Text.{Text}
use Rattle.values.proofs.Parts.{be-length}
use Rattle.values.proofs.Packing.{take-pad, text-long}
use Rattle.forms.proofs.Digits.{digits-length, count_most}

-- ---- decimal digits

pub decimal-long : (m : ℕ) → length (decimal m) ≡ max 1 (count 20 m)
unfolding decimal
decimal-long m = digits-length (max 1 (count 20 m)) m [] ∙ add-zero (max 1 (count 20 m))

pub decimal-short : (m : ℕ) → length (decimal m) ≤ 20
decimal-short m = rw (decimal-long m) (max-le (omega arith) (count_most 20 m))

pub front-decimal : (out last : List ℕ) (m n : ℕ) → n ≡ max 1 (count 20 m) → last ≡ digits (length (take n out)) m [] → n ≤ length out
    → Front (decimal m) out (last ++ drop n out) n
unfolding decimal
front-decimal out last m n e h l =
    let k : length (take n out) ≡ max 1 (count 20 m) = length-take-le n out l ∙ e in
    record { count = e ∙ sym (decimal-long m); bytes = ap (λ (s : List ℕ). s ++ drop n out) (h ∙ ap (λ (j : ℕ). digits j m []) k) }

-- ---- one byte, and then a front of what is behind it

pub behind-long : (x : ℕ) (out : List ℕ) → 0 < length out → length (take (length (set out 0 x) - 1) (drop 1 (set out 0 x))) ≡ length out - 1
behind-long x [] l = absurd (omega arith)
behind-long x (y ∷ ys) l = length-take-le (suc (length ys) - 1) ys (omega arith)

pub front-behind : (x : ℕ) (out last p : List ℕ) (r : ℕ) → 0 < length out → Front p (take (length (set out 0 x) - 1) (drop 1 (set out 0 x))) last r
    → Front (x ∷ p) out (put_mid 1 (length (set out 0 x) - 1) (set out 0 x) last) (r + 1)
front-behind x [] last p r l f = absurd (omega arith)
front-behind x (y ∷ ys) last p r l f =
    let z : suc (length ys) - 1 ≡ length ys = omega arith in
    let h : last ≡ p ++ drop r ys = f.bytes ∙ ap (λ (j : ℕ). p ++ drop r (take j ys)) z ∙ ap (λ (s : List ℕ). p ++ drop r s) (take-length ys) in
    record {
      count = add-one r ∙ ap suc f.count;
      bytes =
          ap (λ (j : ℕ). x ∷ (last ++ drop j ys)) z
          ∙ ap (λ (s : List ℕ). x ∷ (last ++ s)) (drop-length ys)
          ∙ ap (λ (s : List ℕ). x ∷ s) (append-nil last ∙ h)
          ∙ ap (λ (j : ℕ). x ∷ (p ++ drop j (y ∷ ys))) (sym (add-one r));
    }

pub signed-short : (z : ℤ) → length (signed_decimal z) ≤ 21
unfolding signed_decimal
signed-short (pos n) = omega (arith, decimal-short n)
signed-short (negsuc n) = omega (arith, decimal-short (suc n))

-- by the sign and the magnitude, as the code reads them
module _ (z : ℤ) (m : ℕ) (f : SFits w64 z) (e : m ≡ nat_abs (to_z w64 (of_z w64 z))) where
  pub above-decimal : le_z (pos 0) (to_z w64 (of_z w64 z)) ≡ true → signed_decimal z ≡ decimal m
  unfolding signed_decimal
  above-decimal t = go z (rw (to_z-of_z w64 z f) at t) (rw (to_z-of_z w64 z f) at e)
    where
      go : (z : ℤ) → le_z (pos 0) z ≡ true → m ≡ nat_abs z → signed_decimal z ≡ decimal m
      go (pos n) t e = rw e
      go (negsuc n) t e = cc

  pub below-decimal : le_z (pos 0) (to_z w64 (of_z w64 z)) ≡ false → signed_decimal z ≡ 45 ∷ decimal m
  unfolding signed_decimal
  below-decimal t = go z (rw (to_z-of_z w64 z f) at t) (rw (to_z-of_z w64 z f) at e)
    where
      go : (z : ℤ) → le_z (pos 0) z ≡ false → m ≡ nat_abs z → signed_decimal z ≡ 45 ∷ decimal m
      go (pos n) t e = absurd (omega (arith, leb-false 0 n t))
      go (negsuc n) t e = rw e

-- ---- two hexadecimal digits for each byte

pub hex-long : (s : List ℕ) → length (hex s) ≡ 2 * length s
unfolding hex
hex-long [] = refl
hex-long (b ∷ s) = let h = hex-long s in omega arith

hex-snoc : (s : List ℕ) (b : ℕ) → hex (s ++ (b ∷ [])) ≡ hex s ++ (hex_digit (b / 16) ∷ hex_digit (b % 16) ∷ [])
unfolding hex
hex-snoc [] b = refl
hex-snoc (a ∷ s) b = ap (λ (r : List ℕ). hex_digit (a / 16) ∷ hex_digit (a % 16) ∷ r) (hex-snoc s b)

-- one turn of `put_hex`
pub hex-step : (out s : List ℕ) (i x y : ℕ) → i < length s → length out ≡ 2 * length s
    → x ≡ hex_digit (get_or s i 0 / 16) → y ≡ hex_digit (get_or s i 0 % 16) → take (2 * i) out ≡ hex (take i s)
    → take (2 * (i + 1)) (set (set out (2 * i) x) (2 * i + 1) y) ≡ hex (take (i + 1) s)
hex-step out s i x y h l ex ey e =
    let n : 2 * (i + 1) ≡ suc (2 * i + 1) = omega arith in
    let k : 2 * i + 1 ≡ suc (2 * i) = omega arith in
    let m : 2 * i + 1 < length (set out (2 * i) x) = simp length-set (omega arith) in
    let o : 2 * i < length out = omega arith in
    ap (λ (j : ℕ). take j (set (set out (2 * i) x) (2 * i + 1) y)) n
    ∙ take-suc-set (set out (2 * i) x) (2 * i + 1) y m
    ∙ ap (λ (j : ℕ). take j (set out (2 * i) x) ++ (y ∷ [])) k
    ∙ ap (λ (r : List ℕ). r ++ (y ∷ [])) (take-suc-set out (2 * i) x o)
    ∙ rw (e, ex, ey) (two (hex (take i s)) _ _)
    ∙ sym (hex-snoc (take i s) (get_or s i 0))
    ∙ ap hex (sym (take-suc s i 0 h) ∙ ap (λ (j : ℕ). take j s) (sym (add-one i)))
  where
    two : (r : List ℕ) (a b : ℕ) → (r ++ (a ∷ [])) ++ (b ∷ []) ≡ r ++ (a ∷ b ∷ [])
    two [] a b = refl
    two (c ∷ r) a b = ap (λ (t : List ℕ). c ∷ t) (two r a b)

-- ---- a value that is printed, within the room

pub shown : (v : Value) {p out after : List ℕ} {r : ℕ} → Front p out after r → p ≡ printed v → length p ≤ print_most → Front (printed v) out after r × (r ≤ print_most)
shown v {p} {out} {after} {r} f e l = (subst (λ (q : List ℕ). Front q out after r) e f, omega (arith, f.count))

pub shown-integer : (z : ℤ) {out after : List ℕ} {r : ℕ} → SFits w64 z → Front (signed_decimal (to_z w64 (of_z w64 z))) out after r
    → Front (printed (integer z)) out after r × (r ≤ print_most)
unfolding printed
shown-integer z s f = shown (integer z) f (ap signed_decimal (to_z-of_z w64 z s)) (omega (arith, signed-short (to_z w64 (of_z w64 z))))

pub shown-float : (f w : ℕ) (s : List ℕ) {out after : List ℕ} {r : ℕ} → s ≡ be 8 w [] → w ≡ normal_bits f → Front (102 ∷ 58 ∷ hex s) out after r
    → Front (printed (float f)) out after r × (r ≤ print_most)
unfolding printed
shown-float f w s es ew t =
    let l = hex-long s in
    let k : length s ≡ 8 = ap length es ∙ be-length 8 w [] in
    shown (float f) t (ap (λ (b : List ℕ). 102 ∷ 58 ∷ hex b) (es ∙ ap (λ (n : ℕ). be 8 n []) ew)) (omega arith)

pub shown-text : (t : Text) (own : List ℕ) {out after : List ℕ} {r : ℕ} → Packed t → own ≡ name_cell (text_bytes t)
    → Front (116 ∷ 58 ∷ hex (take (t.len + 1 - 1) (drop 1 own))) out after r → Front (printed (text (text_bytes t))) out after r × (r ≤ print_most)
unfolding printed name_cell
shown-text t own p e f =
    let n : t.len + 1 - 1 ≡ length (text_bytes t) = omega (arith, text-long t p) in
    let s : take (t.len + 1 - 1) (drop 1 own) ≡ text_bytes t = rw (n, e) (take-pad text_most (text_bytes t)) in
    let l = hex-long (take (t.len + 1 - 1) (drop 1 own)) in
    let k = ap length s ∙ text-long t p in
    shown (text (text_bytes t)) f (ap (λ (b : List ℕ). 116 ∷ 58 ∷ hex b) s) (omega (arith, p.short))
