-- Faults that are asked one after the other: the first that is found is the answer, and none is `Accepted`. The three parts of a column's faults in turn are all of them.
-- Assumes nothing.
use mathlib.Core.Path.{◌≡◌, refl, sym, ap, ◌∙◌}
use mathlib.Core.Bool.{Bool, true, false, cond}
use mathlib.Core.Option.{Option, none, some, some-injective}
use Prim.Native.Nat.{ℕ, suc}
use mathlib.Core.List.{List, [], ◌∷◌, ◌++◌}
use lib.Dec.{eqb}
use lib.ListN.{length}
use borrow.Author.Tests.{ne_eqb}
use Rattle.values.specs.Basic.{is_nil, ◌or_else◌}
use Rattle.values.specs.Meaning.{text_bytes, Packed}
use Rattle.values.specs.declared.value.Text.{Text}
use Rattle.values.proofs.Packing.{text-long}
use Rattle.areas.specs.Sorted.{All}
use Rattle.rules.specs.Refusal.{Refusal, number_of}
use Rattle.rules.specs.State.{Column, Table}
use Rattle.rules.specs.Schema.{first, column_fault}
use Rattle.checks.specs.Faults.{key_fault, default_fault, reference_fault}

-- ---- one after the other

module _ {A : Type 0} where
  -- the first finds a fault
  pub or-first : (x : A) (a b : Option A) → some x ≡ a → some x ≡ a or_else b
  unfolding ◌or_else◌
  or-first x a b e = rw (← e) refl

  -- it finds none: the others decide
  pub or-second : (o a b : Option A) → none ≡ a → o ≡ b → o ≡ a or_else b
  unfolding ◌or_else◌
  or-second o a b e f = rw (← e) f

-- a fault is none of the accepted
abbrev pub Told : Option Refusal → Type 0
Told o = (k : Refusal) → some k ≡ o → eqb (number_of k) 0 ≡ false

pub told : (xs : List (Refusal × Bool)) → All (λ x. eqb (number_of x.0) 0 ≡ false) xs → Told (first xs)
unfolding first
told [] h = λ k e. absurd (cc)
told (x ∷ xs) h = by-test x.1 (told xs h.1)
  where
    by-test : (b : Bool) → Told (first xs) → Told (cond b (some x.0) (first xs))
    by-test true f = λ k e. ap (λ (y : Refusal). eqb (number_of y) 0) (some-injective k x.0 e) ∙ h.0
    by-test false f = f

pub or-told : (a b : Option Refusal) → Told a → Told b → Told (a or_else b)
unfolding ◌or_else◌
or-told none b f g = g
or-told (some x) b f g = f

pub first-append : (xs ys : List (Refusal × Bool)) → first (xs ++ ys) ≡ first xs or_else first ys
unfolding first ◌or_else◌
first-append [] ys = refl
first-append (x ∷ xs) ys = by-test x.1 (first-append xs ys)
  where
    by-test : (b : Bool) → first (xs ++ ys) ≡ first xs or_else first ys → cond b (some x.0) (first (xs ++ ys)) ≡ cond b (some x.0) (first xs) or_else first ys
    by-test true h = refl
    by-test false h = h

-- ---- a column

pub in-turn : (ts : List Table) (t : Table) (i : ℕ) (c : Column) (key : Bool) → key ≡ eqb i t.key
    → column_fault ts t i c ≡ key_fault key c or_else (default_fault c or_else reference_fault ts t key c)
unfolding column_fault key_fault default_fault reference_fault
in-turn ts t i c key e = rw e (first-append _ _ ∙ ap (λ (o : Option Refusal). key_fault (eqb i t.key) c or_else o) (first-append _ _))

pub key-told : (key : Bool) (c : Column) → Told (key_fault key c)
unfolding key_fault
key-told key c = told _ (refl, (refl, (refl, (refl, tt))))

pub default-told : (c : Column) → Told (default_fault c)
unfolding default_fault
default-told c = told _ (refl, (refl, (refl, tt)))

pub reference-told : (ts : List Table) (t : Table) (key : Bool) (c : Column) → Told (reference_fault ts t key c)
unfolding reference_fault
reference-told ts t key c = told _ (refl, (refl, (refl, (refl, tt))))

pub column-told : (ts : List Table) (t : Table) (i : ℕ) (c : Column) → Told (column_fault ts t i c)
column-told ts t i c =
    rw (in-turn ts t i c (eqb i t.key) refl)
    (or-told _ _ (key-told (eqb i t.key) c) (or-told _ _ (default-told c) (reference-told ts t (eqb i t.key) c)))

-- a name is empty where its length is 0
pub name_is_nil : (t : Text) → Packed t → is_nil (text_bytes t) ≡ eqb t.len 0
name_is_nil t h = by-length (text_bytes t) ∙ ap (λ (n : ℕ). eqb n 0) (text-long t h)
  where
    by-length : (xs : List ℕ) → is_nil xs ≡ eqb (length xs) 0
    by-length [] = refl
    by-length (x ∷ xs) = sym (ne_eqb (suc (length xs)) 0 (λ e. absurd (cc)))
