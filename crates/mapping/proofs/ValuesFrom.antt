-- Readings that did not break, taken apart; and the values from a position on: one more of them, and that they are what n readings in a row give.
-- Assumes nothing.
use Rattle.forms.specs.Read.{ReadCell}
use Rattle.std.specs.declared.result.Result.TheVariants.{Ok}
use Prim.Native.Nat.{ℕ, zero, suc, ◌+◌, ◌-◌, ◌≤◌, ◌<◌}
use mathlib.Core.Path.{◌≡◌, refl, sym, ap, ◌∙◌, subst}
use mathlib.Core.Bool.{Bool, true, false, cond, true≢false}
use mathlib.Core.List.{List, [], ◌∷◌, ◌++◌, map}
use mathlib.Core.Option.{none, some}
use native.Mathlib.Numerals.{sub-one}
use native.Mathlib.Omega.{arith}
use lib.Dec.{leb, ltb}
use lib.ListN.{length, get_or}
use borrow.Author.Tests.{leb-false}
use Rattle.values.specs.Meaning.{ProperCell}
use Rattle.forms.specs.Read.{Read, got, broken, value_at, CellRead, ProperRead}
use Rattle.values.specs.Value.{Value}
use Rattle.values.specs.declared.value.Cell.{Cell}
use Rattle.checks.specs.Keys.{on_read, values_from, values_of, FirstValue}
use Rattle.checks.specs.declared.keys.Values.{Values}
use Rattle.std.specs.Iterator.{Yields}
use Rattle.std.specs.Option.{MatchOption, IfSome}
use Rattle.std.specs.declared.option.Option.{Option as Held}
use Rattle.std.specs.declared.option.Option.TheVariants.{None, Some}
use Rattle.values.specs.Meaning.{held}
use Rattle.values.specs.Basic.{nth}
use Rattle.mapping.specs.Mapped.{given_of}
use Rattle.mapping.specs.Got.{is_got, got_or}
use Rattle.records.specs.Reading.{and_then, times, flagged, byte_at, byte_from}
use Rattle.records.specs.Record.{values_at}
use Rattle.mapping.proofs.Read.{given, Within, gives-within}

-- ---- readings that did not break

-- what was read, and where it ends
pub record Was {A : Type 0} (w : Read A) : Type 0 where
  pub what : A
  pub end : ℕ
  pub is : w ≡ got what end

pub was-got : {A : Type 0} (w : Read A) → is_got w ≡ true → Was w
unfolding is_got
was-got (got a n) h = record { what = a; end = n; is = refl }
was-got (broken x) h = absurd (let z : ◌≡◌ {A = ℕ} 0 1 = cc in omega arith)

module _ {A : Type 0} where
  pub got-is : (w : Read A) (a : A) (n : ℕ) → w ≡ got a n → is_got w ≡ true
  unfolding is_got
  got-is w a n h = rw h

  pub got-gives : (d : A) (w : Read A) (a : A) (n : ℕ) → w ≡ got a n → got_or d w ≡ a
  unfolding got_or
  got-gives d w a n h = rw h

  pub never-broken : (w : Read A) (x : ℕ) → is_got w ≡ true → w ≡ broken x → ⊥
  unfolding is_got
  never-broken w x h e = true≢false (sym h ∙ ap is_got e)

  -- a test that breaks was not met
  pub unbroken : (t : Bool) (y : ℕ) (w : Read A) (a : A) (n : ℕ) → cond t (broken y) w ≡ got a n → (t ≡ false) × (w ≡ got a n)
  unbroken true y w a n h = absurd (let z : ◌≡◌ {A = ℕ} 0 1 = cc in omega arith)
  unbroken false y w a n h = (refl, h)

-- the first of two, and the second from where it ends
pub record Parted {A B : Type 0} (w : Read A) (f : A → ℕ → Read B) (b : B) (e : ℕ) : Type 0 where
  pub first : A
  pub next : ℕ
  pub is : w ≡ got first next
  pub then : f first next ≡ got b e

pub parted : {A B : Type 0} (w : Read A) (f : A → ℕ → Read B) (b : B) (e : ℕ) → and_then w f ≡ got b e → Parted w f b e
unfolding and_then
parted (got a n) f b e h = record { first = a; next = n; is = refl; then = h }
parted (broken x) f b e h = absurd (let z : ◌≡◌ {A = ℕ} 0 1 = cc in omega arith)

module _ {A B : Type 0} (w : Read A) (f : A → ℕ → Read B) where
  pub then_is : (a : A) (n : ℕ) → w ≡ got a n → and_then w f ≡ f a n
  unfolding and_then
  then_is a n e = ap (λ (x : Read A). and_then x f) e

  module _ (h : is_got (and_then w f) ≡ true) where
    pub then-first : is_got w ≡ true
    then-first =
        let x = was-got (and_then w f) h in
        let y = parted w f x.what x.end x.is in
        got-is w y.first y.next y.is

    pub then_next : (a : A) (n : ℕ) → w ≡ got a n → is_got (f a n) ≡ true
    then_next a n e = sym (ap is_got (then_is a n e)) ∙ h

-- what is read only where it is flagged
module _ {A : Type 0} (f : ℕ → Read A) (b : Bool) (at : ℕ) where
  pub flagged-is : (a : A) (n : ℕ) → b ≡ true → f at ≡ got a n → flagged b f at ≡ got (some a) n
  unfolding flagged and_then
  flagged-is a n h e = rw (h, e)

  pub flagged-none : b ≡ false → flagged b f at ≡ got none at
  unfolding flagged
  flagged-none h = rw h

  pub flagged-first : b ≡ true → is_got (flagged b f at) ≡ true → is_got (f at) ≡ true
  unfolding flagged
  flagged-first h e = then-first (f at) (λ a n. got (some a) n) (rw h at e)

-- the first of n in a row, and the others
pub record Headed {A : Type 0} (f : ℕ → Read A) (n at : ℕ) (xs : List A) (e : ℕ) : Type 0 where
  pub head : A
  pub tail : List A
  pub next : ℕ
  pub is : f at ≡ got head next
  pub then : times f n next ≡ got tail e
  pub all : xs ≡ head ∷ tail

pub headed : {A : Type 0} (f : ℕ → Read A) (n at : ℕ) (xs : List A) (e : ℕ) → times f (suc n) at ≡ got xs e → Headed f n at xs e
unfolding times
headed f n at xs e h =
    let p = parted (f at) _ xs e h in
    let q = parted (times f n p.next) _ xs e p.then in
    let l : q.next ≡ e = cc q.then in
    record {
      head = p.first;
      tail = q.first;
      next = p.next;
      is = p.is;
      then = q.is ∙ ap (got q.first) l;
      all = cc q.then;
    }

module _ {A : Type 0} (f : ℕ → Read A) where
  abbrev others : ℕ → A → ℕ → Read (List A)
  others n a b = and_then (times f n b) (λ rest c. got (a ∷ rest) c)

  pub none_left : (n at : ℕ) → n ≤ 0 → times f n at ≡ got [] at
  unfolding times
  none_left zero at h = refl
  none_left (suc n) at h = absurd (omega arith)

  pub next-first : (n at : ℕ) → 0 < n → is_got (times f n at) ≡ true → is_got (f at) ≡ true
  unfolding times
  next-first zero at l h = absurd (omega arith)
  next-first (suc n) at l h = then-first (f at) (others n) h

  pub next-rest : (n at : ℕ) (a : A) (b : ℕ) → 0 < n → f at ≡ got a b → is_got (times f n at) ≡ true → is_got (times f (n - 1) b) ≡ true
  unfolding times
  next-rest zero at a b l e h = absurd (omega arith)
  next-rest (suc n) at a b l e h = rw (sub-one (suc n)) (then-first (times f n b) (λ rest c. got (a ∷ rest) c) (then_next (f at) (others n) h a b e))

  pub next-whole : (n at : ℕ) (a : A) (b : ℕ) (rest : List A) (c : ℕ) → 0 < n → f at ≡ got a b → times f (n - 1) b ≡ got rest c → times f n at ≡ got (a ∷ rest) c
  unfolding times
  next-whole zero at a b rest c l e h = absurd (omega arith)
  next-whole (suc n) at a b rest c l e h =
      then_is (f at) (others n) a b e ∙ then_is (times f n b) (λ rest c. got (a ∷ rest) c) rest c (rw (sub-one (suc n)) at h)

-- ---- bytes

pub record ByteThere (s : List ℕ) (at b n : ℕ) : Type 0 where
  pub inside : at < length s
  pub is : get_or s at 0 ≡ b
  pub next : at + 1 ≡ n

pub byte-there : (s : List ℕ) (at b n : ℕ) → byte_at s at ≡ got b n → ByteThere s at b n
unfolding byte_at
byte-there s at b n h =
    let u = unbroken (leb (length s) at) at (got (get_or s at 0) (at + 1)) b n h in
    record { inside = leb-false (length s) at u.0; is = cc u.1; next = cc u.1 }

pub from-there : (low high : ℕ) (s : List ℕ) (at b n : ℕ) → byte_from low high s at ≡ got b n → ByteThere s at b n
unfolding byte_from
from-there low high s at b n h =
    let p = parted (byte_at s at) _ b n h in
    let u = unbroken (ltb p.first low) at (cond (ltb high p.first) (broken at) (got p.first p.next)) b n p.then in
    let v = unbroken (ltb high p.first) at (got p.first p.next) b n u.1 in
    let t = byte-there s at p.first p.next p.is in
    record { inside = t.inside; is = t.is ∙ cc v.1; next = t.next ∙ cc v.1 }

-- a byte that was read is the one that stands there
pub byte-got : (s : List ℕ) (at : ℕ) → is_got (byte_at s at) ≡ true → (at < length s) × (byte_at s at ≡ got (get_or s at 0) (at + 1))
byte-got s at h =
    let w = was-got (byte_at s at) h in
    let t = byte-there s at w.what w.end w.is in
    (t.inside, rw (t.is, t.next) w.is)

pub record ByteGot (low high : ℕ) (s : List ℕ) (at : ℕ) : Type 0 where
  pub inside : at < length s
  pub most : get_or s at 0 ≤ high
  pub is : byte_from low high s at ≡ got (get_or s at 0) (at + 1)

pub from-got : (low high : ℕ) (s : List ℕ) (at : ℕ) → is_got (byte_from low high s at) ≡ true → ByteGot low high s at
from-got low high s at h =
    let w = was-got (byte_from low high s at) h in
    let t = from-there low high s at w.what w.end w.is in
    let r = given (Within low high) (byte_from low high s at) w.what w.end (gives-within low high s at) w.is in
    record { inside = t.inside; most = rw t.is r.1; is = rw (t.is, t.next) w.is }

-- ---- the values from a position on

-- r is what was read at `next`
module _ (s : List ℕ) (left next : ℕ) (r : ReadCell) (e : CellRead s next r) where
  pub cell-proper : (c : Cell) (n : ℕ) → r ≡ Ok (c, n) → ProperCell c
  cell-proper c n h = subst ProperRead h e.proper

-- n readings in a row that did not break gave them, n of them
pub times-values : (s : List ℕ) (n at : ℕ) (vs : List Value) (e : ℕ) → times (value_at s) n at ≡ got vs e → (values_from s n at ≡ vs) × (length vs ≡ n)
unfolding times values_from on_read
times-values s zero at vs e h = let z : [] ≡ vs = cc in (z, ap length (sym z))
times-values s (suc n) at vs e h =
    let k = headed (value_at s) n at vs e h in
    let i = times-values s n k.next k.tail e k.then in
    (rw (k.is, i.0) (sym k.all), ap length k.all ∙ ap suc i.1)

-- a count byte and as many values
module _ (s : List ℕ) (q : ℕ) (vs : List Value) (e : ℕ) (h : values_at s q ≡ got vs e) where
  counted : (values_from s (get_or s q 0) (q + 1) ≡ vs) × (length vs ≡ get_or s q 0) × (q < length s)
  unfolding values_at
  counted =
      let p = parted (byte_at s q) _ vs e h in
      let t = byte-there s q p.first p.next p.is in
      let i = times-values s p.first p.next vs e p.then in
      (rw (t.is, t.next) i.0, i.1 ∙ sym t.is, t.inside)

  pub values-there : (values_from s (get_or s q 0) (q + 1) ≡ vs) × (length vs ≡ get_or s q 0)
  values-there = (counted.0, counted.1)

  -- the count byte stands there
  pub values-inside : q < length s
  values-inside = counted.2

-- ---- the values of an iterator

-- those that were read, and those that are left
pub values-read : (v w : Values) (xs : List Cell) → Yields FirstValue v xs w → values_of v ≡ map held xs ++ values_of w
values-read v w [] h = ap values_of h
values-read v w (x ∷ xs) h = h.1.0 ∙ ap (λ (vs : List Value). held x ∷ vs) (values-read h.0 w xs h.2)

-- value number i, after as many were passed over
pub nth-read : (v w u : Values) (xs : List Cell) (r : Held Cell) (i : ℕ) → Yields FirstValue v xs w → FirstValue w r u
    → MatchOption r (length xs ≤ i) (λ c. length xs ≡ i) → (given_of r ≡ nth (values_of v) i) × IfSome r ProperCell
nth-read v w u xs None i h e n = (rw (values-read v w xs h, e.0) (past xs i n), tt)
  where
    past : (ys : List Cell) (k : ℕ) → length ys ≤ k → none ≡ nth (map held ys ++ []) k
    past [] k l = refl
    past (y ∷ ys) zero l = absurd (omega arith)
    past (y ∷ ys) (suc k) l = past ys k (omega arith)
nth-read v w u xs (Some c) i h e n = (rw (values-read v w xs h, e.0) (here xs i n), e.1)
  where
    here : (ys : List Cell) (k : ℕ) → length ys ≡ k → some (held c) ≡ nth (map held ys ++ (held c ∷ values_of u)) k
    here [] zero l = refl
    here [] (suc k) l = absurd (omega arith)
    here (y ∷ ys) zero l = absurd (omega arith)
    here (y ∷ ys) (suc k) l = here ys k (omega arith)
