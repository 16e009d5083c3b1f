-- No second answer would do: what is promised of lines written, of a run and of many records says one answer, one output, one store and one journal.
-- Assumes nothing.
use Prim.Native.Nat.{ℕ, ◌≤◌}
use native.Mathlib.Omega.{arith}
use mathlib.Core.Path.{◌≡◌, refl, sym, ap, ◌∙◌, subst}
use mathlib.Core.Bool.{Bool, true, false, cond}
use mathlib.Core.List.{List, [], ◌++◌}
use lib.Dec.{leb}
use lib.ListN.{length, take, drop, length-append}
use lib.Seq.{take_at, length-take-le}
use Rattle.rules.specs.declared.profile.Profile.{Profile}
use Rattle.rules.specs.Refusal.{StoreUnsound}
use Rattle.rules.specs.Journal.{Books}
use Rattle.rules.specs.Layout.{places_of}
use Rattle.rules.specs.Request.{no}
use Rattle.rules.specs.Step.{Outcome}
use Rattle.rules.specs.Pages.{books_of, sound_books}
use Rattle.journal.specs.Books.{BytesOf}
use Rattle.requests.specs.declared.entry.Halt.{Halt}
use Rattle.requests.specs.declared.entry.Ran.{Ran}
use Rattle.requests.specs.declared.lines.Put.{Put}
use Rattle.requests.specs.Lines.{answer_line, answer_most}
use Rattle.requests.specs.Places.{text_from, Wrote}
use Rattle.requests.specs.Stream.{Reach, bytes_of, text_of, books_then, records_left, Runs, Refuses, Many}

-- ---- what was written, where the same text is left

written_one : (out done done' rest : List ℕ) (w w' : ℕ) → take w done ++ rest ≡ take w' done' ++ rest → w ≤ length done → w' ≤ length done'
    → done ≡ take w done ++ drop w out → done' ≡ take w' done' ++ drop w' out
    → (w ≡ w') × (done ≡ done')
written_one out done done' rest w w' e l l' f f' =
    let n : length (take w done) ≡ w = length-take-le w done l in
    let n' : length (take w' done') ≡ w' = length-take-le w' done' l' in
    let k : w ≡ w' = omega (arith, length-append (take w done) rest, length-append (take w' done') rest, ap length e) in
    let t : take w done ≡ take w' done' =
    sym (take_at (take w done) rest w n) ∙ ap (take w) e ∙ take_at (take w' done') rest w (n' ∙ sym k)
    in
    (k, f ∙ ap (λ (x : List ℕ). x ++ drop w out) t ∙ ap (λ (j : ℕ). take w' done' ++ drop j out) k ∙ sym f')

-- ---- lines, as many as fit

put_one : (r r' : Put) → r.written ≡ r'.written → r.lines ≡ r'.lines → r.done ≡ r'.done → r ≡ r'
put_one r r' a b c =
    ap (λ (x : ℕ). record { written = x; lines = r.lines; done = r.done }) a
    ∙ ap (λ (x : ℕ). record { written = r'.written; lines = x; done = r.done }) b
    ∙ ap (λ (x : Bool). record { written = r'.written; lines = r'.lines; done = x }) c

pub one-put : (o : Outcome) (i : ℕ) (before after after' : List ℕ) (r r' : Put) → Wrote o i before after r → Wrote o i before after' r'
    → (r ≡ r') × (after ≡ after')
one-put o i before after after' r r' x y =
    let d : r.done ≡ r'.done = x.whole ∙ sym y.whole in
    let l : r.lines ≡ r'.lines = x.count ∙ sym y.count in
    let rest : cond r'.done [] (text_from o r'.lines) ≡ cond r.done [] (text_from o r.lines) =
    ap (λ (b : Bool). cond b [] (text_from o r'.lines)) (sym d) ∙ ap (λ (n : ℕ). cond r.done [] (text_from o n)) (sym l)
    in
    let t = sym x.text ∙ y.text ∙ ap (λ (z : List ℕ). take r'.written after' ++ z) rest in
    let w =
    written_one before after after' (cond r.done [] (text_from o r.lines)) r.written r'.written t
    (omega (arith, x.fits, x.long)) (omega (arith, y.fits, y.long)) x.bytes y.bytes
    in
    (put_one r r' w.0 l d, w.1)

-- ---- a run

pub bytes_one : (p : Profile) (R : ℕ) {b b' : Books} {s₁ j₁ s₂ j₂ : List ℕ} → b ≡ b' → BytesOf p R b s₁ j₁ → BytesOf p R b' s₂ j₂ → (s₁ ≡ s₂) × (j₁ ≡ j₂)
bytes_one p R {b} {b'} {s₁} {j₁} {s₂} {j₂} e x y =
    let z = subst (λ (c : Books). BytesOf p R c s₁ j₁) e x in
    (z.store ∙ sym y.store, z.journal ∙ sym y.journal)

ran-one : (r r' : Ran) → r.halt ≡ r'.halt → r.taken ≡ r'.taken → r.skip ≡ r'.skip → r.count ≡ r'.count → r.written ≡ r'.written
    → r.lines ≡ r'.lines
    → r ≡ r'
ran-one r r' h t s c w l =
    ap (λ (x : Halt). record { halt = x; taken = r.taken; skip = r.skip; count = r.count; written = r.written; lines = r.lines }) h
    ∙ ap (λ (x : ℕ). record { halt = r'.halt; taken = x; skip = r.skip; count = r.count; written = r.written; lines = r.lines }) t
    ∙ ap (λ (x : ℕ). record { halt = r'.halt; taken = r'.taken; skip = x; count = r.count; written = r.written; lines = r.lines }) s
    ∙ ap (λ (x : ℕ). record { halt = r'.halt; taken = r'.taken; skip = r'.skip; count = x; written = r.written; lines = r.lines }) c
    ∙ ap (λ (x : ℕ). record { halt = r'.halt; taken = r'.taken; skip = r'.skip; count = r'.count; written = x; lines = r.lines }) w
    ∙ ap (λ (x : ℕ). record { halt = r'.halt; taken = r'.taken; skip = r'.skip; count = r'.count; written = r'.written; lines = x }) l

module _ (p : Profile) (input : List ℕ) (ended : Bool) (i : ℕ) (s j s₁ j₁ s₂ j₂ out done done' : List ℕ) (r r' : Ran) where
  pub one-run : (R : ℕ) → Runs p R input ended i s j s₁ j₁ out done r → Runs p R input ended i s j s₂ j₂ out done' r'
      → (r ≡ r') × ((s₁ ≡ s₂) × (j₁ ≡ j₂)) × (done ≡ done')
  one-run R x y =
      let e = x.reached ∙ sym y.reached in
      let h : r.halt ≡ r'.halt = ap (λ (z : Reach). z.halt) e in
      let c : r.count ≡ r'.count = ap (λ (z : Reach). z.count) e in
      let l : r.lines ≡ r'.lines = ap (λ (z : Reach). z.lines) e in
      let b : bytes_of r.count input ended ≡ bytes_of r'.count input ended = ap (λ (n : ℕ). bytes_of n input ended) c in
      let rest : ℕ → ℕ → List ℕ = λ n i. text_of p R (books_then p R input ended (books_of p R s j) n) (records_left p input ended n) i in
      let t =
      sym x.text
      ∙ y.text
      ∙ ap (λ (n : ℕ). take r'.written done' ++ rest n r'.lines) (sym c)
      ∙ ap (λ (n : ℕ). take r'.written done' ++ rest r.count n) (sym l)
      in
      let w =
      written_one out done done' (rest r.count r.lines) r.written r'.written t
      (omega (arith, x.fits, x.long)) (omega (arith, y.fits, y.long)) x.front y.front
      in (
        ran-one r r' h (omega (arith, x.passed, y.passed, b)) (omega (arith, x.over, y.over, b)) c w.0 l,
        bytes_one p R (ap (λ (n : ℕ). books_then p R input ended (books_of p R s j) n) c) x.bytes y.bytes,
        w.1,
      )

  -- ---- unsound buffers refused

  refused-one : Refuses i s j s₁ j₁ out done r → Refuses i s j s₂ j₂ out done' r' → (r ≡ r') × ((s₁ ≡ s₂) × (j₁ ≡ j₂)) × (done ≡ done')
  refused-one x y =
      let w : r.written ≡ r'.written = x.line.count ∙ sym y.line.count in
      let line : List ℕ = cond (leb answer_most (length out)) (answer_line (no StoreUnsound 0)) [] in
      let (t, k, c, l) = x.nothing in
      let (t', k', c', l') = y.nothing in (
        ran-one r r' (x.halt ∙ sym y.halt) (t ∙ sym t') (k ∙ sym k') (c ∙ sym c') w (l ∙ sym l'),
        (x.bytes.0 ∙ sym y.bytes.0, x.bytes.1 ∙ sym y.bytes.1),
        x.line.bytes ∙ ap (λ (n : ℕ). line ++ drop n out) w ∙ sym y.line.bytes,
      )

  -- ---- many records

  module _ (x : Many p input ended i s j s₁ j₁ out done r) (y : Many p input ended i s j s₂ j₂ out done' r') where
    both : (b : Bool) → sound_books p s j ≡ b → (r ≡ r') × ((s₁ ≡ s₂) × (j₁ ≡ j₂)) × (done ≡ done')
    both true e = one-run (places_of p s) (x.runs e) (y.runs e)
    both false e = refused-one (x.refuses e) (y.refuses e)

    -- the answer, and every byte of the output
    pub many-answer : (r ≡ r') × (done ≡ done')
    many-answer = let z = both (sound_books p s j) refl in (z.0, z.2)

    -- and of both buffers
    pub many-buffers : (s₁ ≡ s₂) × (j₁ ≡ j₂)
    many-buffers = (both (sound_books p s j) refl).1
