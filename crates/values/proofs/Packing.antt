-- Padded bytes, and a text's three words: they are its bytes padded to 24. Assumes nothing.
use mathlib.Core.Path.{◌≡◌, refl, sym, ap, ◌∙◌}
use mathlib.Core.Bool.{true}
use mathlib.Core.List.{List, [], ◌∷◌, ◌++◌, append-nil}
use Prim.Native.Nat.{ℕ, zero, suc, ◌+◌, ◌-◌, ◌/◌, ◌%◌, ◌^◌, ◌≤◌, ◌<◌}
use native.Mathlib.Omega.{arith}
use borrow.Author.Tests.{eqb-true}
use lib.Dec.{eqb}
use lib.ListN.{length, get_or, take, drop, replicate, length-append, length-replicate, length-drop, take-append-drop}
use lib.Seq.{take_at, drop_at, take_all, drop-drop, get_or-drop, length-take-le}
use Rattle.values.specs.Bytes.{be, num, pad, zeros, Bytes}
use Rattle.values.specs.Value.{text_most}
use Rattle.values.specs.Meaning.{words, text_bytes, Packed}
use Rattle.values.specs.Cell.{name_cell}
use Rattle.values.specs.declared.value.Text.{Text}
use Rattle.values.proofs.Scans.{and-true}
use Rattle.values.proofs.Numbers.{be-num}
use Rattle.values.proofs.Parts.{be-append}

-- ---- zeros

pub zeros-are : (l : List ℕ) → zeros l ≡ true → l ≡ replicate (length l) 0
unfolding zeros
zeros-are [] h = refl
zeros-are (x ∷ l) h =
    let p = and-true (eqb x 0) (zeros l) h in
    let e : x ≡ 0 = eqb-true x 0 p.0 in
    let f = zeros-are l p.1 in
    cc

pub replicate-zeros : (n : ℕ) → zeros (replicate n 0) ≡ true
unfolding zeros
replicate-zeros zero = refl
replicate-zeros (suc n) = replicate-zeros n

-- ---- padding

pub length-pad : (k : ℕ) (l : List ℕ) → length l ≤ k → length (pad k l) ≡ k
unfolding pad
length-pad k l h = simp (length-append, length-replicate) (omega arith)

pub pad-least : (k : ℕ) (l : List ℕ) → k ≤ length (pad k l)
unfolding pad
pad-least k l = simp (length-append, length-replicate) (omega arith)

pub take-pad : (k : ℕ) (l : List ℕ) → take (length l) (pad k l) ≡ l
unfolding pad
take-pad k l = take_at l (replicate (k - length l) 0) (length l) refl

pub drop-pad : (k : ℕ) (l : List ℕ) → drop (length l) (pad k l) ≡ replicate (k - length l) 0
unfolding pad
drop-pad k l = drop_at l (replicate (k - length l) 0) (length l) refl

pub get_or-zeros : (n i : ℕ) → ◌≡◌ {A = ℕ} (get_or (replicate n 0) i 0) 0
get_or-zeros zero i = refl
get_or-zeros (suc n) zero = refl
get_or-zeros (suc n) (suc i) = get_or-zeros n i

pub get_or-pad : (k : ℕ) (l : List ℕ) (i : ℕ) → get_or (pad k l) i 0 ≡ get_or l i 0
unfolding pad
get_or-pad k l i = go (k - length l) l i
  where
    go : (n : ℕ) (l : List ℕ) (i : ℕ) → get_or (l ++ replicate n 0) i 0 ≡ get_or l i 0
    go n [] i = get_or-zeros n i
    go n (x ∷ l) zero = refl
    go n (x ∷ l) (suc i) = go n l i

-- ---- eight bytes as a word

eight : (t : List ℕ) → Bytes t → length t ≡ 8 → be 8 (num 0 t) [] ≡ t
unfolding be
eight t h e =
    let k : 8 ≡ 0 + length t = omega arith in
    ap (λ (k : ℕ). be k (num 0 t) []) k ∙ be-num t 0 0 [] h ∙ append-nil t

-- ---- texts

pub words_long : (t : Text) → length (words t) ≡ text_most
unfolding words be
words_long t = refl

pub text-long : (t : Text) → Packed t → length (text_bytes t) ≡ t.len
unfolding text_bytes
text-long t p = length-take-le t.len (words t) (omega (arith, p.short, words_long t))

pub words-pad : (t : Text) → Packed t → words t ≡ pad text_most (text_bytes t)
unfolding text_bytes pad
words-pad t p =
    let l : length (drop t.len (words t)) ≡ text_most - length (text_bytes t) = length-drop t.len (words t) ∙ omega (arith, words_long t, text-long t p) in
    sym (take-append-drop t.len (words t))
    ∙ ap (λ (z : List ℕ). take t.len (words t) ++ z) (zeros-are (drop t.len (words t)) p.tail ∙ ap (λ (n : ℕ). replicate n 0) l)

pub name-cell : (t : Text) → Packed t → t.len ∷ words t ≡ name_cell (text_bytes t)
unfolding name_cell
name-cell t p = ap (λ (n : ℕ). n ∷ words t) (sym (text-long t p)) ∙ ap (λ (l : List ℕ). length (text_bytes t) ∷ l) (words-pad t p)

-- ---- a text's bytes are bytes

be-bytes : (k w : ℕ) (r : List ℕ) → Bytes r → Bytes (be k w r)
unfolding be
be-bytes zero w r h i = h i
be-bytes (suc k) w r h i = be-bytes k (w / 256) (w % 256 ∷ r) (first w r h) i
  where
    first : (w : ℕ) (r : List ℕ) → Bytes r → Bytes (w % 256 ∷ r)
    first w r h zero = omega arith
    first w r h (suc i) = h i

pub take-bytes : (n : ℕ) (s : List ℕ) → Bytes s → Bytes (take n s)
take-bytes zero s h i = omega arith
take-bytes (suc n) [] h i = omega arith
take-bytes (suc n) (x ∷ s) h zero = h 0
take-bytes (suc n) (x ∷ s) h (suc i) = take-bytes n s (λ j. h (suc j)) i

pub drop-bytes : (n : ℕ) (s : List ℕ) → Bytes s → Bytes (drop n s)
drop-bytes n s h i = rw get_or-drop (h (n + i))

pub text-bytes : (t : Text) → Bytes (text_bytes t)
unfolding text_bytes words
text-bytes t = take-bytes t.len (words t) (be-bytes 8 t.a (be 8 t.b (be 8 t.c [])) (be-bytes 8 t.b (be 8 t.c []) (be-bytes 8 t.c [] (λ i. omega arith))))

-- ---- the text of some bytes

pub pad-bytes : (k : ℕ) (s : List ℕ) → Bytes s → Bytes (pad k s)
pad-bytes k s h i = rw (get_or-pad k s i) (h i)

-- the words of the bytes p
three : (p : List ℕ) → Bytes p → length p ≡ 24 → be 8 (num 0 (take 8 p)) (be 8 (num 0 (take 8 (drop 8 p))) (be 8 (num 0 (take 8 (drop 16 p))) [])) ≡ p
three p h l =
    be-append 8 a [] (be 8 b (be 8 c [])) ∙ ap (λ (x : List ℕ). be 8 a [] ++ x) (be-append 8 b [] (be 8 c []))
    ∙ rw (
      part 0 (omega arith),
      part 8 (omega arith),
      part 16 (omega arith) ∙ take_all 8 (drop 16 p) (rw length-drop (omega arith)) ∙ sym (drop-drop 8 8 p),
      take-append-drop 8 (drop 8 p),
    ) (take-append-drop 8 p)
  where
    a : ℕ
    a = num 0 (take 8 p)

    b : ℕ
    b = num 0 (take 8 (drop 8 p))

    c : ℕ
    c = num 0 (take 8 (drop 16 p))

    part : (k : ℕ) → k + 8 ≤ length p → be 8 (num 0 (take 8 (drop k p))) [] ≡ take 8 (drop k p)
    part k f = eight (take 8 (drop k p)) (take-bytes 8 (drop k p) (drop-bytes k p h)) (length-take-le 8 (drop k p) (rw length-drop (omega arith)))

pub packed-of : (s p : List ℕ) (a b c : ℕ) → Bytes s → length s ≤ text_most → p ≡ pad text_most s
    → a ≡ num 0 (take 8 p) → b ≡ num 0 (take 8 (drop 8 p)) → c ≡ num 0 (take 8 (drop 16 p))
    → a < 2 ^ 64 → b < 2 ^ 64 → c < 2 ^ 64
    → (text_bytes (record { a = a; b = b; c = c; len = length s }) ≡ s) × Packed (record { a = a; b = b; c = c; len = length s })
unfolding text_bytes words
packed-of s p a b c y h q ea eb ec la lb lc =
    let w : be 8 a (be 8 b (be 8 c [])) ≡ pad text_most s =
    rw (ea, eb, ec, q) (three (pad text_most s) (pad-bytes text_most s y) (length-pad text_most s h)) in (
      rw w (take-pad text_most s),
      record {
        short = h;
        tail = rw (w, drop-pad text_most s) (replicate-zeros (text_most - length s));
        a-fits = la;
        b-fits = lb;
        c-fits = lc;
      },
    )
