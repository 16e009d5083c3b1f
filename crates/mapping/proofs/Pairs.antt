-- The pairs of an update one after the other, and a row read value by value. Assumes nothing.
use Rattle.forms.specs.Read.{ReadCell}
use Rattle.records.specs.Walked.{Walked}
use Rattle.std.specs.declared.result.Result.TheVariants.{Ok, Err}
use Rattle.forms.specs.declared.read.Broken.{Broken}
use Prim.Native.Nat.{ℕ, zero, suc, ◌+◌, ◌-◌, ◌≤◌, ◌<◌}
use mathlib.Core.Path.{◌≡◌, refl, sym, ap, ◌∙◌}
use mathlib.Core.Bool.{Bool, true, false, cond}
use mathlib.Core.List.{List, [], ◌∷◌, ◌++◌, map-append, append-nil, append_assoc}
use mathlib.Core.Option.{Option, none, some}
use native.Mathlib.Omega.{arith}
use native.Mathlib.Numerals.{add-one, sub-one}
use lib.ListN.{length, length-map, length-append, get_or}
use borrow.Author.Tests.{eq-eqb, ne_eqb}
use Rattle.values.specs.Value.{Value, before, cmp_value}
use Rattle.values.specs.Meaning.{held, ProperCell, ordering}
use Rattle.std.specs.Ordering.{is_lt}
use Rattle.std.specs.declared.cmp.Ordering.{Ordering as Compared}
use Rattle.std.specs.declared.cmp.Ordering.TheVariants.{Less, Equal, Greater}
use Rattle.areas.specs.Sorted.{All}
use Rattle.forms.specs.Read.{Read, got, broken, value_at, cell_read, CellRead}
use Rattle.values.specs.declared.value.Cell.{Cell}
use Rattle.rules.specs.Refusal.{KeysNotRising, RowSize}
use Rattle.rules.specs.State.{Table}
use Rattle.rules.specs.Request.{Pair}
use Rattle.rules.specs.Schema.{Fault}
use Rattle.rules.specs.Rows.{rising_fault, size_fault}
use Rattle.laid.specs.Row.{cells_of, ProperRow}
use Rattle.records.specs.Reading.{times}
use Rattle.mapping.specs.Got.{is_got, got_or}
use Rattle.records.specs.Walked.{walked_as}
use Rattle.records.specs.Record.{values_at, pair_at}
use Rattle.mapping.specs.Mapped.{pairs_at}
use Rattle.mapping.proofs.ValuesFrom.{was-got, got-is, got-gives, parted, Headed, headed, values-there}

-- ---- what a walk and a reading say where the reading did not break

module _ {A : Type 0} (w : Read A) (a : A) (e : ℕ) (h : w ≡ got a e) (r : Walked) (k : r ≡ walked_as w) where
  walked_end : (n : ℕ) → r ≡ Ok n → n ≡ e
  unfolding walked_as
  walked_end n t = let z : r ≡ Ok e = k ∙ rw h in cc

  walked-never : (x : Broken) → r ≡ Err x → ⊥
  unfolding walked_as
  walked-never x t = let u : r ≡ Ok e = k ∙ rw h in let z : ◌≡◌ {A = ℕ} 0 1 = cc in omega arith

-- ---- the first of n pairs, and the others

record PairRead (s : List ℕ) (q : ℕ) (x : Pair) (e : ℕ) : Type 0 where
  pub mid : ℕ
  pub key : value_at s q ≡ got x.old mid
  pub values : values_at s mid ≡ got x.row e

pair_read : (s : List ℕ) (q : ℕ) (x : Pair) (e : ℕ) → pair_at s q ≡ got x e → PairRead s q x e
unfolding pair_at
pair_read s q x e h =
    let p = parted (value_at s q) _ x e h in
    let r = parted (values_at s p.next) _ x e p.then in
    let f : record { old = p.first; row = r.first } ≡ x = cc r.then in
    let n : r.next ≡ e = cc r.then in
    record {
      mid = p.next;
      key = p.is ∙ ap (λ (y : Pair). got y.old p.next) f;
      values = r.is ∙ ap (λ (y : Pair). got y.row r.next) f ∙ ap (got x.row) n;
    }

pub record PairThere (s : List ℕ) (n q : ℕ) : Type 0 where
  pub head : Pair
  pub mid : ℕ
  pub next : ℕ
  pub key : value_at s q ≡ got head.old mid
  pub values : values_at s mid ≡ got head.row next
  pub left : is_got (times (pair_at s) (n - 1) next) ≡ true
  pub all : pairs_at s n q ≡ head ∷ pairs_at s (n - 1) next

of-head : (s : List ℕ) (m q : ℕ) (xs : List Pair) (e : ℕ) → times (pair_at s) (suc m) q ≡ got xs e → (k : Headed (pair_at s) m q xs e)
    → PairRead s q k.head k.next → PairThere s (suc m) q
unfolding pairs_at
of-head s m q xs e h k p =
    record {
      head = k.head;
      mid = p.mid;
      next = k.next;
      key = p.key;
      values = p.values;
      left = rw (sub-one (suc m)) (got-is (times (pair_at s) m k.next) k.tail e k.then);
      all =
          rw (sub-one (suc m))
          (got-gives [] (times (pair_at s) (suc m) q) xs e h
          ∙ k.all
          ∙ ap (λ (l : List Pair). k.head ∷ l) (sym (got-gives [] (times (pair_at s) m k.next) k.tail e k.then)));
    }

pub pair-there : (s : List ℕ) (n q : ℕ) → 0 < n → is_got (times (pair_at s) n q) ≡ true → PairThere s n q
pair-there s zero q l h = absurd (omega arith)
pair-there s (suc m) q l h =
    let w = was-got (times (pair_at s) (suc m) q) h in
    let k = headed (pair_at s) m q w.what w.end w.is in
    of-head s m q w.what w.end w.is k (pair_read s q k.head k.next k.is)

pub pairs-none : (s : List ℕ) (n q : ℕ) → n ≤ 0 → pairs_at s n q ≡ []
unfolding pairs_at times got_or
pairs-none s zero q l = refl
pairs-none s (suc m) q l = absurd (omega arith)

-- ---- 35: from pair i on, where o is the old key before it

unfoldable pub rising_after : Option Value → ℕ → List Pair → Fault
rising_after none i qs = rising_fault i qs
rising_after (some v) i [] = none
rising_after (some v) i (x ∷ qs) = cond (before v x.old) (rising_fault i (x ∷ qs)) (some (KeysNotRising, i))

pub rising_none : (o : Option Value) (i : ℕ) → none ≡ rising_after o i []
unfolding rising_after rising_fault
rising_none none i = refl
rising_none (some v) i = refl

first_told : (i : ℕ) (x : Pair) (qs : List Pair) → rising_fault i (x ∷ qs) ≡ rising_after (some x.old) (i + 1) qs
unfolding rising_after rising_fault
first_told i x [] = refl
first_told i x (u ∷ qs) = rw (add-one i) refl

rising-next : (o : Option Value) (i : ℕ) (x : Pair) (qs : List Pair) → ((v : Value) → o ≡ some v → before v x.old ≡ true)
    → rising_after o i (x ∷ qs) ≡ rising_after (some x.old) (i + 1) qs
unfolding rising_after
rising-next none i x qs h = first_told i x qs
rising-next (some v) i x qs h = rw (h v refl) (first_told i x qs)

rising-stop : (v : Value) (i : ℕ) (x : Pair) (qs : List Pair) → before v x.old ≡ false → rising_after (some v) i (x ∷ qs) ≡ some (KeysNotRising, i)
unfolding rising_after
rising-stop v i x qs h = rw h

-- what the code's comparing says
pub before-told : (r : Compared) (v w : Value) (b : Bool) → ordering r ≡ cmp_value v w → b ≡ is_lt r → before v w ≡ b
before-told Less v w b e h = rw (← e) (sym h)
before-told Equal v w b e h = rw (← e) (sym h)
before-told Greater v w b e h = rw (← e) (sym h)

-- ---- 25

pub size_none : (t : Table) (i : ℕ) → size_fault t i [] ≡ none
unfolding size_fault
size_none t i = refl

module _ (t : Table) (i : ℕ) (x : Pair) (qs : List Pair) where
  size-next : length x.row ≡ length t.columns → size_fault t i (x ∷ qs) ≡ size_fault t (i + 1) qs
  unfolding size_fault
  size-next e = rw (add-one i, eq-eqb _ _ e)

  size-stop : (length x.row ≡ length t.columns → ⊥) → size_fault t i (x ∷ qs) ≡ some (RowSize, i)
  unfolding size_fault
  size-stop n = rw (ne_eqb _ _ n)

-- ---- a pair that stands at q, of those that are left

module _ (s : List ℕ) (left q : ℕ) (g : PairThere s left q) where
  pub key-end : (r : Walked) (a : ℕ) → r ≡ walked_as (value_at s q) → r ≡ Ok a → a ≡ g.mid
  key-end r a k t = walked_end (value_at s q) g.head.old g.mid g.key r k a t

  pub key-never : (r : Walked) (x : Broken) → r ≡ walked_as (value_at s q) → r ≡ Err x → ⊥
  key-never r x k t = walked-never (value_at s q) g.head.old g.mid g.key r k x t

  -- the row stands at a
  module _ (a : ℕ) (ea : a ≡ g.mid) where
    at_row : values_at s a ≡ got g.head.row g.next
    at_row = ap (values_at s) ea ∙ g.values

    pub row-end : (r : Walked) (e : ℕ) → r ≡ walked_as (values_at s a) → r ≡ Ok e → e ≡ g.next
    row-end r e k t = walked_end (values_at s a) g.head.row g.next at_row r k e t

    pub row-never : (r : Walked) (x : Broken) → r ≡ walked_as (values_at s a) → r ≡ Err x → ⊥
    row-never r x k t = walked-never (values_at s a) g.head.row g.next at_row r k x t

    module _ (t : Table) (i : ℕ) (z : Fault) (inv : size_fault t i (pairs_at s left q) ≡ z) where
      pub size-over : (get_or s a 0 ≡ length t.columns → ⊥) → some (RowSize, i) ≡ z
      size-over n =
          sym (size-stop t i g.head (pairs_at s (left - 1) g.next) (λ e. n (sym (values-there s a g.head.row g.next at_row).1 ∙ e)))
          ∙ ap (size_fault t i) (sym g.all) ∙ inv

      pub size-again : (e : ℕ) → e ≡ g.next → get_or s a 0 ≡ length t.columns → size_fault t (i + 1) (pairs_at s (left - 1) e) ≡ z
      size-again e ee h =
          ap (λ (n : ℕ). size_fault t (i + 1) (pairs_at s (left - 1) n)) ee
          ∙ sym (size-next t i g.head (pairs_at s (left - 1) g.next) ((values-there s a g.head.row g.next at_row).1 ∙ h))
          ∙ ap (size_fault t i) (sym g.all) ∙ inv

  pub others-left : (e : ℕ) → e ≡ g.next → is_got (times (pair_at s) (left - 1) e) ≡ true
  others-left e ee = ap (λ (n : ℕ). is_got (times (pair_at s) (left - 1) n)) ee ∙ g.left

  -- r is what was read at q
  module _ (r : ReadCell) (er : CellRead s q r) where
    pub old-never : (x : Broken) → r ≡ Err x → ⊥
    old-never x t =
        let u : broken x.at ≡ got g.head.old g.mid = sym (ap cell_read t) ∙ er.is ∙ g.key in
        let z : ◌≡◌ {A = ℕ} 0 1 = cc in
        omega arith

    module _ (c : Cell) (n : ℕ) (t : r ≡ Ok (c, n)) where
      old-read : got (held c) n ≡ got g.head.old g.mid
      old-read = sym (ap cell_read t) ∙ er.is ∙ g.key

      pub old-is : held c ≡ g.head.old
      old-is = let u = old-read in cc

      pub old-end : n ≡ g.mid
      old-end = let u = old-read in cc

      module _ (i : ℕ) (o : Option Value) (z : Fault) (inv : rising_after o i (pairs_at s left q) ≡ z) where
        pub rising-over : (v : Value) → o ≡ some v → before v (held c) ≡ false → some (KeysNotRising, i) ≡ z
        rising-over v e h =
            let a : rising_after (some v) i (g.head ∷ pairs_at s (left - 1) g.next) ≡ some (KeysNotRising, i) =
            rising-stop v i g.head (pairs_at s (left - 1) g.next) (ap (before v) (sym old-is) ∙ h) in
            sym a ∙ ap (λ (p : Option Value). rising_after p i (g.head ∷ pairs_at s (left - 1) g.next)) (sym e) ∙ ap (rising_after o i) (sym g.all) ∙ inv

        pub rising-again : (e : ℕ) → e ≡ g.next → ((v : Value) → o ≡ some v → before v (held c) ≡ true)
            → rising_after (some (held c)) (i + 1) (pairs_at s (left - 1) e) ≡ z
        rising-again e ee h =
            ap (λ (m : ℕ). rising_after (some (held c)) (i + 1) (pairs_at s (left - 1) m)) ee
            ∙ ap (λ (w : Value). rising_after (some w) (i + 1) (pairs_at s (left - 1) g.next)) old-is
            ∙ sym (rising-next o i g.head (pairs_at s (left - 1) g.next) (λ v l. ap (before v) (sym old-is) ∙ h v l))
            ∙ ap (rising_after o i) (sym g.all) ∙ inv

-- ---- a row of the values vs: `row` is read, and `rest` is left

pub record SoFar (vs : List Value) (row : List Cell) (rest : List Value) : Type 0 where
  pub is : cells_of row ++ rest ≡ vs
  pub proper : All ProperCell row

pub so-far-none : (vs : List Value) → SoFar vs [] vs
unfolding cells_of
so-far-none vs = record { is = refl; proper = tt }

pub all_more : {A : Type 0} (P : A → Type 0) (xs : List A) (x : A) → All P xs → P x → All P (xs ++ (x ∷ []))
all_more P [] x h p = (p, tt)
all_more P (y ∷ ys) x h p = (h.0, all_more P ys x h.1 p)

module _ {vs : List Value} {row : List Cell} {rest : List Value} (f : SoFar vs row rest) where
  so-far-count : length row + length rest ≡ length vs
  unfolding cells_of
  so-far-count = sym (length-append (cells_of row) rest ∙ ap (λ (n : ℕ). n + length rest) (length-map row held)) ∙ ap length f.is

  module _ (c : Cell) (others : List Value) (e : rest ≡ held c ∷ others) where
    -- there is room for one more
    pub so-far-room : length vs ≤ 8 → length row < 8
    so-far-room h = omega (arith, so-far-count, ap length e)

    pub so-far-next : ProperCell c → SoFar vs (row ++ (c ∷ [])) others
    unfolding cells_of
    so-far-next p =
        record {
          is =
              rw (map-append held row (c ∷ []), append_assoc (cells_of row) (held c ∷ []) others)
              (ap (λ (xs : List Value). cells_of row ++ xs) (sym e) ∙ f.is);
          proper = all_more ProperCell row c f.proper p;
        }

  -- all of them
  pub so-far-all : rest ≡ [] → length vs ≤ 8 → (cells_of row ≡ vs) × ProperRow row × (length row ≡ length vs)
  so-far-all e h =
      let n : length row ≡ length vs = omega (arith, so-far-count, ap length e) in
      (sym (append-nil (cells_of row)) ∙ ap (λ (xs : List Value). cells_of row ++ xs) (sym e) ∙ f.is, record { most = omega arith; proper = f.proper }, n)
