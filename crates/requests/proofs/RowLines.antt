-- A `row` line written from left to right: what of it stands in the buffer, and what is left. Assumes nothing.
use Prim.Native.Nat.{ℕ, ◌+◌, ◌*◌, ◌-◌, ◌≤◌, ◌<◌}
use mathlib.Core.Path.{◌≡◌, refl, sym, ap, ◌∙◌, subst}
use mathlib.Core.List.{List, [], ◌∷◌, ◌++◌, append-nil, append_assoc}
use native.Mathlib.Omega.{arith}
use native.Mathlib.Numerals.{add-one}
use lib.ListN.{length, take, drop, set, length-drop, drop_of_length-le}
use lib.Seq.{drop-cons}
use borrow.Rule.Slice.PartMut.{put_mid}
use Rattle.values.specs.Value.{Value}
use Rattle.forms.specs.Print.{printed, print_most, Front}
use Rattle.rules.specs.State.{cell_at}
use Rattle.rules.proofs.Cells.{cell-there}
use Rattle.rules.proofs.Lists.{below-nth}
use Rattle.laid.proofs.Finding.{drop_nth}
use Rattle.requests.specs.Lines.{space, newline, spaced, row_line}
use Rattle.requests.proofs.Fronts.{front_word, front_length, front-byte, front-on, front_self, front-spaced}

-- the word `row`
abbrev pub with_row : List ℕ → List ℕ
with_row out = 114 ∷ 111 ∷ 119 ∷ drop 3 out

pub row-long : (out : List ℕ) → 3 ≤ length out → length (with_row out) ≡ length out
row-long out l = omega (arith, length-drop 3 out)

-- behind the first three bytes stand the first j values, up to n
pub record Begun (vs : List Value) (j : ℕ) (out b : List ℕ) (n : ℕ) : Type 0 where
  pub said : List ℕ
  pub front : Front (take 3 out ++ said) out b n
  pub rest : said ++ spaced (drop j vs) ≡ spaced vs
  pub short : n ≤ 3 + j * 51

pub begun : (vs : List Value) (out : List ℕ) → 3 ≤ length out → Begun vs 0 out out 3
begun vs out l =
    record {
      said = [];
      front = rw (append-nil (take 3 out)) (front_self out 3 l);
      rest = refl;
      short = omega arith;
    }

module _ (vs : List Value) (j : ℕ) (out b : List ℕ) (n : ℕ) (g : Begun vs j out b n) (l : n < length out) where
  pub begun-long : length b ≡ length out
  begun-long = front_length (take 3 out ++ g.said) out b n g.front (omega arith)

  -- a space and the next value
  pub begun-next : (v : Value) (last : List ℕ) (r : ℕ) → j < length vs → v ≡ cell_at vs j
      → Front (printed v) (take (length (set b n space) - (n + 1)) (drop (n + 1) (set b n space))) last r → r ≤ print_most
      → Begun vs (j + 1) out (put_mid (n + 1) (length (set b n space) - (n + 1)) (set b n space) last) (n + 1 + r)
  unfolding spaced
  begun-next v last r h e f m =
      let after = put_mid (n + 1) (length (set b n space) - (n + 1)) (set b n space) last in
      let t = below-nth vs j h in
      let u : drop j vs ≡ v ∷ drop (j + 1) vs = rw (add-one j, e, cell-there vs j t.0 t.1) (drop_nth vs j t.0 t.1) in
      let one = front-on (take 3 out ++ g.said) out b n g.front (omega arith) (space ∷ printed v) after (n + 1 + r) (front-spaced space (printed v) b last n r (omega (arith, begun-long)) f) in
      record {
        said = g.said ++ (space ∷ printed v);
        front = subst (λ (q : List ℕ). Front q out after (n + 1 + r)) (append_assoc (take 3 out) g.said (space ∷ printed v)) one;
        rest = append_assoc g.said (space ∷ printed v) (spaced (drop (j + 1) vs)) ∙ ap (λ (q : List Value). g.said ++ spaced q) (sym u) ∙ g.rest;
        short = omega (arith, g.short);
      }

-- a line of one value
pub begun-one : (v : Value) (w out last : List ℕ) (r : ℕ) → w ≡ 114 ∷ 111 ∷ 119 ∷ 32 ∷ [] → 4 ≤ length out
    → Front (printed v) (take (length (w ++ drop 4 out) - 4) (drop 4 (w ++ drop 4 out))) last r → r ≤ print_most
    → Begun (v ∷ []) 1 (with_row out) (put_mid 4 (length (w ++ drop 4 out) - 4) (w ++ drop 4 out) last) (4 + r)
begun-one v w out last r e l f m =
    let h : set (with_row out) 3 space ≡ w ++ drop 4 out = rw (e, drop-cons out 3 0) in
    let k = row-long out (omega arith) in
    subst (λ (x : List ℕ). Front (printed v) (take (length x - 4) (drop 4 x)) last r → Begun (v ∷ []) 1 (with_row out) (put_mid 4 (length x - 4) x last) (4 + r)) h
    (λ g. begun-next (v ∷ []) 0 (with_row out) (with_row out) 3 (begun (v ∷ []) (with_row out) (omega (arith, k))) (omega (arith, k)) v last r (omega arith) refl g m) f

-- the newline
pub line_row : (vs : List Value) (j : ℕ) (w out b : List ℕ) (n : ℕ) → w ≡ 114 ∷ 111 ∷ 119 ∷ [] → Begun vs j (w ++ drop 3 out) b n → length vs ≤ j → 3 ≤ length out → n < length out
    → Front (row_line vs) out (set b n newline) (n + 1)
unfolding row_line spaced
line_row vs j w out b n ew h k m l =
    let g : Begun vs j (with_row out) b n = rw ew at h in
    let on = front-on (114 ∷ 111 ∷ 119 ∷ []) out (with_row out) 3 (front_word (114 ∷ 111 ∷ 119 ∷ []) out 3 refl) m g.said b n g.front in
    let e : g.said ++ (newline ∷ []) ≡ spaced vs = ap (λ (q : List Value). g.said ++ spaced q) (sym (drop_of_length-le vs k)) ∙ g.rest in
    subst (λ (q : List ℕ). Front (114 ∷ 111 ∷ 119 ∷ q) out (set b n newline) (n + 1)) e (front-byte (114 ∷ 111 ∷ 119 ∷ g.said) out b n on (omega arith) newline l)
