-- Names and values read in a record: what is known of what was read or of where it broke. Assumes nothing.
use Rattle.forms.specs.Read.{ReadCell}
use Rattle.std.specs.declared.result.Result.TheVariants.{Ok}
use mathlib.Core.Path.{◌≡◌, refl, sym, ap, ◌∙◌, subst}
use mathlib.Core.Bool.{Bool, true, false, cond}
use mathlib.Core.Logic.{◌⊎◌, inl, inr, ⊎_elim}
use mathlib.Core.List.{List}
use Prim.Native.Nat.{ℕ, ◌+◌, ◌-◌, ◌^◌, ◌≤◌, ◌<◌}
use native.Mathlib.Omega.{arith}
use borrow.Author.Tests.{leb-false, ltb-false}
use lib.Dec.{eqb, leb, ltb}
use lib.ListN.{length, get_or, take, drop, length-take}
use mir.Syntax.{w64}
use mir.Val.{to_z}
use mir.ValLaws.{to_z-Fits}
use Rattle.values.specs.Bytes.{num, Bytes}
use Rattle.values.specs.Value.{Value, null, boolean, integer, float, text, text_most, normal_bits, normalised}
use Rattle.values.specs.Cell.{cell_width, InRange, Storable}
use Rattle.forms.specs.Read.{Read, got, broken, name_at, boolean_at, eight_at, as_text, content_at, value_at, cell_read, ProperRead, CellRead}
use Rattle.values.specs.Meaning.{held, ProperCell}
use Rattle.values.specs.declared.value.Cell.{Cell}
use Rattle.values.proofs.Floats.{normal-lt, normal-twice}
use Rattle.values.proofs.Packing.{take-bytes, drop-bytes}
use Rattle.values.proofs.Cells.{eight-lt, storable-full}

-- ---- what was read, and where a reading broke

-- P holds of what was read and its end, or Q of where it broke
unfoldable pub Told : {A : Type 0} → (A → ℕ → Type 0) → (ℕ → Type 0) → Read A → Type 0
Told P Q (got a n) = P a n
Told P Q (broken x) = Q x

pub record NameGot (s : List ℕ) (at : ℕ) (t : List ℕ) (n : ℕ) : Type 0 where
  pub after : at < n
  pub inside : n ≤ length s
  pub short : length t ≤ text_most
  pub bytes : Bytes s → Bytes t

pub record ValueGot (s : List ℕ) (at : ℕ) (v : Value) (n : ℕ) : Type 0 where
  pub after : at < n
  pub inside : n ≤ length s
  pub normal : normalised v ≡ v
  pub storable : Bytes s → Storable cell_width v

-- within the bytes, or where the reading began
abbrev pub BrokenBy : List ℕ → ℕ → ℕ → Type 0
BrokenBy s at x = (x ≤ length s) ⊎ (x ≡ at)

pub name-told : (s : List ℕ) (at : ℕ) → Told (NameGot s at) (BrokenBy s at) (name_at s at)
unfolding name_at Told
name-told s at = on (leb (length s) at) (ltb text_most (get_or s at 0)) (ltb (length s - (at + 1)) (get_or s at 0)) refl refl refl
  where
    on : (a b c : Bool) → leb (length s) at ≡ a → ltb text_most (get_or s at 0) ≡ b → ltb (length s - (at + 1)) (get_or s at 0) ≡ c
        → Told (NameGot s at) (BrokenBy s at) (cond a (broken at) (cond b (broken at) (cond c (broken (length s)) (got (take (get_or s at 0) (drop (at + 1) s)) (at + 1 + get_or s at 0)))))
    on true b c p q r = inr refl
    on false true c p q r = inr refl
    on false false true p q r = inl (omega arith)
    on false false false p q r =
        let h = leb-false (length s) at p in
        let l = ltb-false text_most (get_or s at 0) q in
        let k = ltb-false (length s - (at + 1)) (get_or s at 0) r in
        record {
          after = omega arith;
          inside = omega arith;
          short = simp length-take (omega arith);
          bytes = λ d. take-bytes (get_or s at 0) (drop (at + 1) s) (drop-bytes (at + 1) s d);
        }

-- a value within its type, and what it needs besides
value-got : (s : List ℕ) (at : ℕ) (v : Value) (n : ℕ) → at < n → n ≤ length s → normalised v ≡ v → (Bytes s → InRange v) → ValueGot s at v n
value-got s at v n h l e f = record { after = h; inside = l; normal = e; storable = λ d. storable-full v (f d) }

module _ (s : List ℕ) (at : ℕ) (h : at < length s) where
  boolean-told : Told (ValueGot s at) (BrokenBy s at) (boolean_at s (at + 1))
  unfolding boolean_at Told InRange
  boolean-told = on (leb (length s) (at + 1)) (ltb 1 (get_or s (at + 1) 0)) refl
    where
      on : (a b : Bool) → leb (length s) (at + 1) ≡ a
          → Told (ValueGot s at) (BrokenBy s at) (cond a (broken (at + 1)) (cond b (broken (at + 1)) (got (boolean (eqb (get_or s (at + 1) 0) 1)) (at + 1 + 1))))
      on true b p = inl (omega arith)
      on false true p = inl (omega arith)
      on false false p =
          let l = leb-false (length s) (at + 1) p in
          value-got s at (boolean (eqb (get_or s (at + 1) 0) 1)) (at + 1 + 1) (omega arith) (omega arith) refl (λ d. tt)

  eight-told : (v : ℕ → Value) → ((w : ℕ) → normalised (v w) ≡ v w) → ((w : ℕ) → w < 2 ^ 64 → InRange (v w)) → Told (ValueGot s at) (BrokenBy s at) (eight_at s (at + 1) v)
  unfolding eight_at Told
  eight-told v e f = on (ltb (length s - (at + 1)) 8) refl
    where
      on : (a : Bool) → ltb (length s - (at + 1)) 8 ≡ a
          → Told (ValueGot s at) (BrokenBy s at) (cond a (broken (length s)) (got (v (num 0 (take 8 (drop (at + 1) s)))) (at + 1 + 8)))
      on true p = inl (omega arith)
      on false p =
          let l = ltb-false (length s - (at + 1)) 8 p in
          value-got s at (v (num 0 (take 8 (drop (at + 1) s)))) (at + 1 + 8) (omega arith) (omega arith) (e (num 0 (take 8 (drop (at + 1) s))))
          (λ d. f (num 0 (take 8 (drop (at + 1) s))) (eight-lt (drop (at + 1) s) (drop-bytes (at + 1) s d)))

  text-told : (r : Read (List ℕ)) → Told (NameGot s (at + 1)) (BrokenBy s (at + 1)) r → Told (ValueGot s at) (BrokenBy s at) (as_text r)
  unfolding Told InRange
  text-told (got t n) g = value-got s at (text t) n (omega (arith, g.after)) g.inside refl (λ d. (g.short, g.bytes d))
  text-told (broken x) g = inl (⊎_elim (λ l. l) (λ e. omega arith) g)

  content-told : (k : ℕ) → Told (ValueGot s at) (BrokenBy s at) (content_at s k (at + 1))
  unfolding content_at Told InRange
  content-told k = on (eqb k 0) (eqb k 1) (eqb k 2) (eqb k 3) (eqb k 4)
    where
      on : (a b c d e : Bool)
          → Told (ValueGot s at) (BrokenBy s at) (cond a (got null (at + 1)) (cond b (boolean_at s (at + 1)) (cond c (eight_at s (at + 1) (λ w. integer (to_z w64 w)))
          (cond d (eight_at s (at + 1) (λ w. float (normal_bits w))) (cond e (as_text (name_at s (at + 1))) (broken (at + 1 - 1)))))))
      on true b c d e = value-got s at null (at + 1) (omega arith) (omega arith) refl (λ d. tt)
      on false true c d e = boolean-told
      on false false true d e = eight-told (λ w. integer (to_z w64 w)) (λ w. refl) (λ w l. to_z-Fits w64 w (record { fits = l }))
      on false false false true e = eight-told (λ w. float (normal_bits w)) (λ w. ap float (normal-twice w)) normal-lt
      on false false false false true = text-told (name_at s (at + 1)) (name-told s (at + 1))
      on false false false false false = inl (omega arith)

pub value-told : (s : List ℕ) (at : ℕ) → Told (ValueGot s at) (BrokenBy s at) (value_at s at)
unfolding value_at Told
value-told s at = on (leb (length s) at) refl
  where
    on : (a : Bool) → leb (length s) at ≡ a → Told (ValueGot s at) (BrokenBy s at) (cond a (broken at) (content_at s (get_or s at 0) (at + 1)))
    on true p = inr refl
    on false p = content-told s at (leb-false (length s) at p) (get_or s at 0)

-- ---- the same of a reading whose outcome is known

pub name-read : (s : List ℕ) (at : ℕ) (t : List ℕ) (n : ℕ) → name_at s at ≡ got t n → NameGot s at t n
unfolding Told
name-read s at t n e = subst (Told (NameGot s at) (BrokenBy s at)) e (name-told s at)

pub name-broken : (s : List ℕ) (at x : ℕ) → name_at s at ≡ broken x → BrokenBy s at x
unfolding Told
name-broken s at x e = subst (Told (NameGot s at) (BrokenBy s at)) e (name-told s at)

pub value_read : (s : List ℕ) (at : ℕ) (v : Value) (n : ℕ) → value_at s at ≡ got v n → ValueGot s at v n
unfolding Told
value_read s at v n e = subst (Told (ValueGot s at) (BrokenBy s at)) e (value-told s at)

pub value-broken : (s : List ℕ) (at x : ℕ) → value_at s at ≡ broken x → BrokenBy s at x
unfolding Told
value-broken s at x e = subst (Told (ValueGot s at) (BrokenBy s at)) e (value-told s at)

-- ---- what the code's answer tells

pub cell-got : (s : List ℕ) (at : ℕ) (r : ReadCell) (c : Cell) (n : ℕ) → CellRead s at r → r ≡ Ok (c, n) → ProperCell c × ValueGot s at (held c) n
cell-got s at r c n h e = (subst ProperRead e h.proper, value_read s at (held c) n (sym h.is ∙ ap cell_read e))
