-- The mapping of given values to columns: a part of the record's bytes in turn, the map, the value of a column, the full row, and what is
-- refused of rows. Assumes nothing.
use Rattle.records.specs.Walked.{Walked}
use Rattle.std.specs.declared.result.Result.TheVariants.{Ok, Err}
use Rattle.forms.specs.declared.read.Broken.{Broken}
use Prim.Native.Nat.{ℕ, zero, suc, ◌+◌, ◌-◌, ◌≤◌, ◌<◌}
use mathlib.Core.Path.{◌≡◌, refl, sym, ap, ◌∙◌, subst}
use mathlib.Core.Bool.{Bool, true, false, not}
use mathlib.Core.List.{List, [], ◌∷◌, ◌++◌, map-append, append-nil, append_assoc}
use mathlib.Core.Option.{Option, none, some}
use native.Mathlib.Numerals.{add-one, sub-one}
use native.Mathlib.Omega.{arith}
use lib.Dec.{eqb}
use lib.ListN.{length, length-append, take, drop, get_or, length-drop, drop_of_length-le}
use Rattle.std.proofs.lemmas.Bool.Decides.{nat_tests}
use lib.Seq.{drop-cons, take-length, length-take-le}
use borrow.Author.Tests.{le-leb, eq-eqb, ne_eqb, lt-ltb, le-ltb}
use Rattle.values.specs.Basic.{any, ◌or_else◌}
use Rattle.std.specs.List.{list_any}
use Rattle.std.specs.Option.{MatchOption}
use Rattle.std.specs.declared.option.Option.{Option as Held}
use Rattle.std.specs.declared.option.Option.TheVariants.{None, Some}
use Rattle.values.specs.Meaning.{held, ProperCell}
use Rattle.forms.specs.Read.{Read, got}
use Rattle.areas.specs.Sorted.{All}
use Rattle.values.specs.Value.{Value}
use Rattle.values.specs.declared.value.Cell.{Cell}
use Rattle.rules.specs.Rows.{map_fault, bad_map, mapped, given, cons_to, fill, other_count, fill_fault, fills_fault}
use Rattle.rules.specs.Schema.{Fault, first, at}
use Rattle.rules.specs.State.{Column, Table}
use Rattle.rules.specs.Refusal.{TooManyValues, MapCount, NoDefault}
use Rattle.checks.specs.Faults.{broken_rule, fault_of}
use Rattle.checks.specs.declared.schema_fault.Fault as D
use Rattle.std.specs.Result.{IsErrAnd, MatchResult}
use Rattle.std.proofs.lemmas.Result.{err_from_is_err_and}
use Rattle.std.specs.declared.result.Result.{Result}
use Rattle.rules.specs.declared.answer.Refusal as R
use Rattle.checks.specs.Keys.{values_from}
use Rattle.laid.specs.Row.{cells_of, ProperRow}
use Rattle.mapping.specs.Got.{is_got, got_or}
use Rattle.mapping.specs.Mapped.{map_of, MapIn, given_of, rows_at}
use Rattle.records.specs.Reading.{times, flagged, byte_at, byte_from}
use Rattle.records.specs.Record.{values_at, columns_at, map_at}
use Rattle.records.specs.Walked.{walked_as}
use Rattle.mapping.specs.declared.executor.Map.{Map}
use Rattle.mapping.proofs.Pairs.{all_more}
use Rattle.mapping.proofs.ValuesFrom.{was-got, got-is, got-gives, parted, then_is, then-first, flagged-is, flagged-none, flagged-first, headed, byte-there, from-got, values-there, values-inside}
use Rattle.records.proofs.Walking.{ends}

-- n bytes that were read are those that stand there
times-bytes : (s : List ℕ) (n at : ℕ) (xs : List ℕ) (e : ℕ) → times (byte_at s) n at ≡ got xs e → at ≤ length s
    → (xs ≡ take n (drop at s)) × (at + n ≤ length s)
unfolding times
times-bytes s zero at xs e h l = (cc, omega arith)
times-bytes s (suc n) at xs e h l =
    let k = headed (byte_at s) n at xs e h in
    let t = byte-there s at k.head k.next k.is in
    let i = times-bytes s n k.next k.tail e k.then (omega (arith, t.inside, t.next)) in (
      k.all
          ∙ ap (λ (x : ℕ). x ∷ k.tail) (sym t.is)
          ∙ ap (λ (l : List ℕ). get_or s at 0 ∷ l) (i.0 ∙ ap (λ (j : ℕ). take n (drop j s)) (sym t.next ∙ add-one at))
          ∙ sym (ap (take (suc n)) (drop-cons s at 0 t.inside)),
      omega (arith, i.1, t.next),
    )

-- a count, and as many column numbers
columns-there : (s : List ℕ) (at : ℕ) (xs : List ℕ) (e : ℕ) → columns_at s at ≡ got xs e
    → (xs ≡ take (get_or s at 0) (drop (at + 1) s)) × (at + 1 + get_or s at 0 ≤ length s)
unfolding columns_at
columns-there s at xs e h =
    let c = parted (byte_at s at) _ xs e h in
    let d = byte-there s at c.first c.next c.is in
    let t = times-bytes s c.first c.next xs e c.then (omega (arith, d.inside, d.next)) in
    (rw (d.is, d.next) t.0, rw (d.is, d.next) t.1)

module _ (s : List ℕ) (at : ℕ) (g : is_got (map_at s at) ≡ true) where
  abbrev listed : ℕ → ℕ → Read (Option (List ℕ))
  listed x a = flagged (eqb x 1) (columns_at s) a

  flag-there : byte_from 0 1 s at ≡ got (get_or s at 0) (at + 1)
  unfolding map_at
  flag-there = (from-got 0 1 s at (then-first (byte_from 0 1 s at) listed g)).is

  map-then : map_at s at ≡ listed (get_or s at 0) (at + 1)
  unfolding map_at
  map-then = then_is (byte_from 0 1 s at) listed (get_or s at 0) (at + 1) flag-there

  -- a map
  pub map-given : get_or s at 0 ≡ 1
      → (got_or none (map_at s at) ≡ some (take (get_or s (at + 1) 0) (drop (at + 2) s))) × (at + 2 + get_or s (at + 1) 0 ≤ length s)
  map-given one =
      let b = eq-eqb (get_or s at 0) 1 one in
      let w = was-got (columns_at s (at + 1)) (flagged-first (columns_at s) (eqb (get_or s at 0) 1) (at + 1) b (sym (ap is_got map-then) ∙ g)) in
      let c = columns-there s (at + 1) w.what w.end w.is in
      let two : at + 1 + 1 ≡ at + 2 = omega arith in (
        got-gives none (map_at s at) (some w.what) w.end (map-then ∙ flagged-is (columns_at s) (eqb (get_or s at 0) 1) (at + 1) w.what w.end b w.is)
            ∙ ap some (c.0 ∙ rw two),
        omega (arith, c.1),
      )

  -- none
  pub map-none : (get_or s at 0 ≡ 1 → ⊥) → got_or none (map_at s at) ≡ none
  map-none other = got-gives none (map_at s at) none (at + 1) (map-then ∙ flagged-none (columns_at s) (eqb (get_or s at 0) 1) (at + 1) (ne_eqb (get_or s at 0) 1 other))

-- ---- a map's column numbers from number i on

module _ (n i : ℕ) (ns : List ℕ) (h : i < length ns) where
  -- number i is out of range
  pub map_range : n ≤ get_or ns i 0 → true ≡ map_fault n (drop i ns)
  map_range e = rw (drop-cons ns i 0 h, le-leb _ _ e) refl

  -- it stands behind it again
  pub map-twice : list_any (λ y. eqb y (get_or ns i 0)) (take (length ns - (i + 1)) (drop (i + 1) ns)) ≡ true → true ≡ map_fault n (drop i ns)
  map-twice e =
      let l : length ns - (i + 1) ≡ length (drop (i + 1) ns) = omega (arith, length-drop {A = ℕ}) in
      let t : any (eqb (get_or ns i 0)) (drop (suc i) ns) ≡ true =
      ap (λ (k : ℕ). any (eqb (get_or ns i 0)) (drop k ns)) (sym (add-one i))
      ∙ either_way (get_or ns i 0) (drop (i + 1) ns)
      ∙ ap (list_any (λ y. eqb y (get_or ns i 0))) (sym (take-length (drop (i + 1) ns)) ∙ ap (λ (k : ℕ). take k (drop (i + 1) ns)) (sym l))
      ∙ e in
      rw (drop-cons ns i 0 h, t) (grind arith)
    where
      turned : (x y : ℕ) → eqb x y ≡ eqb y x
      turned x y = grind (arith, nat_tests)

      either_way : (x : ℕ) (xs : List ℕ) → any (eqb x) xs ≡ list_any (λ y. eqb y x) xs
      either_way x [] = refl
      either_way x (y ∷ ys) = rw (turned x y, either_way x ys) refl

-- they are those of the map
pub whole-map : (s : List ℕ) (h : Held Map) (m : Map) (n : ℕ) → h ≡ Some m → map_fault n (take (m.at + m.count - m.at) (drop m.at s)) ≡ bad_map n (map_of s h)
unfolding map_of
whole-map s h m n e = let k : m.at + m.count - m.at ≡ m.count = omega arith in rw (e, k) refl

-- ---- the value that a map gives, where none is left beside another

pub mapped_end : (ms : List ℕ) (vs : List Value) (j : ℕ) → length ms ≡ 0 → none ≡ mapped ms vs j
mapped_end [] vs j h = refl
mapped_end (m ∷ ms) vs j h = absurd (omega arith)

pub mapped_none : (ms : List ℕ) (vs : List Value) (j : ℕ) → vs ≡ [] → none ≡ mapped ms vs j
mapped_none [] vs j h = refl
mapped_none (m ∷ ms) [] j h = refl
mapped_none (m ∷ ms) (v ∷ vs) j h = absurd (cc)

-- ---- the full row

-- values, and then a row's others
unfoldable pub prefixed : List Value → Option (List Value) → Option (List Value)
prefixed vs none = none
prefixed vs (some ws) = some (vs ++ ws)

prefixed-nil : (o : Option (List Value)) → prefixed [] o ≡ o
unfolding prefixed
prefixed-nil none = refl
prefixed-nil (some ws) = refl

prefixed-more : (vs : List Value) (v : Value) (o : Option (List Value)) → prefixed (vs ++ (v ∷ [])) o ≡ prefixed vs (cons_to (some v) o)
unfolding prefixed
prefixed-more vs v none = refl
prefixed-more vs v (some ws) = ap some (append_assoc vs (v ∷ []) ws)

-- the row holds the values of the first j columns
pub record Filling (g : ℕ → Option Value) (cols : List Column) (row : List Cell) (j : ℕ) : Type 0 where
  pub long : length row ≡ j
  pub within : j ≤ length cols
  pub proper : All ProperCell row
  pub rest : prefixed (cells_of row) (fill g j (drop j cols)) ≡ fill g 0 cols

pub filling-start : (g : ℕ → Option Value) (cols : List Column) → Filling g cols [] 0
unfolding cells_of
filling-start g cols = record { long = refl; within = omega arith; proper = tt; rest = prefixed-nil (fill g 0 cols) }

module _ {g : ℕ → Option Value} {cols : List Column} {row : List Cell} {j : ℕ} (f : Filling g cols row j) where
  pub filling-row : length cols ≤ 8 → ProperRow row
  filling-row small = record { most = omega (arith, f.long, f.within); proper = f.proper }

  pub filling-room : length cols ≤ 8 → j < length cols → length row < 8
  filling-room small h = omega (arith, f.long)

  -- every column has its value
  pub filling-ends : length cols ≤ j → some (cells_of row) ≡ fill g 0 cols
  unfolding fill prefixed
  filling-ends l =
      let r : some (cells_of row ++ []) ≡ fill g 0 cols = rw (drop_of_length-le cols {i = j} l) at f.rest in
      ap some (sym (append-nil (cells_of row))) ∙ r

  module _ (h : j < length cols) (col : Column) (d : drop j cols ≡ col ∷ drop (suc j) cols) where
    -- column j has none
    pub filling-stops : (g j or_else col.default) ≡ none → none ≡ fill g 0 cols
    unfolding fill prefixed
    filling-stops e =
        let r : none ≡ fill g 0 cols = rw (d, e) at f.rest in
        r

    -- column j has x
    pub filling-on : (x : Cell) → (g j or_else col.default) ≡ some (held x) → ProperCell x → Filling g cols (row ++ (x ∷ [])) (j + 1)
    unfolding fill cells_of
    filling-on x e p =
        let r : prefixed (cells_of row) (cons_to (some (held x)) (fill g (suc j) (drop (suc j) cols))) ≡ fill g 0 cols = rw (d, e) at f.rest in
        record {
          long = length-append row (x ∷ []) ∙ ap (λ (n : ℕ). n + 1) f.long;
          within = omega arith;
          proper = all_more ProperCell row x f.proper p;
          rest =
              ap (λ (vs : List Value). prefixed vs (fill g (j + 1) (drop (j + 1) cols))) (map-append held row (x ∷ []))
              ∙ ap (λ (k : ℕ). prefixed (cells_of row ++ (held x ∷ [])) (fill g k (drop k cols))) (add-one j)
              ∙ prefixed-more (cells_of row) (held x) (fill g (suc j) (drop (suc j) cols))
              ∙ r;
        }

-- what is given, and else the default
module _ (a b : Option Value) (x : Held Cell) (given-is : given_of x ≡ a) where
  pub or-given : (c : Cell) → x ≡ Some c → (a or_else b) ≡ some (held c)
  unfolding ◌or_else◌
  or-given c e = let h : a ≡ some (held c) = sym given-is ∙ ap given_of e in rw h refl

  module _ (y : Held Cell) (default-is : given_of y ≡ b) (none-given : x ≡ None) where
    pub or-default : (c : Cell) → y ≡ Some c → (a or_else b) ≡ some (held c)
    unfolding ◌or_else◌
    or-default c e =
        let h : a ≡ none = sym given-is ∙ ap given_of none-given in
        let k : b ≡ some (held c) = sym default-is ∙ ap given_of e in
        rw (h, k) refl

    pub or-none : y ≡ None → (a or_else b) ≡ none
    unfolding ◌or_else◌
    or-none e =
        let h : a ≡ none = sym given-is ∙ ap given_of none-given in
        let k : b ≡ none = sym default-is ∙ ap given_of e in
        rw (h, k) refl

-- ---- what is refused of a row

module _ (t : Table) (m : Option (List ℕ)) (vs : List Value) where
  pub too_many_lem : length t.columns < length vs → some TooManyValues ≡ fill_fault t m vs
  unfolding fill_fault first
  too_many_lem h = simp (lt-ltb _ _ h)

  module _ (l : length vs ≤ length t.columns) where
    pub other-count : other_count m (length vs) ≡ true → some MapCount ≡ fill_fault t m vs
    unfolding fill_fault first
    other-count o = simp (le-ltb _ _ l, o)

    module _ (o : other_count m (length vs) ≡ false) where
      pub no_default : none ≡ fill (given m vs) 0 t.columns → some NoDefault ≡ fill_fault t m vs
      unfolding fill_fault first
      no_default n = simp (le-ltb _ _ l, o, ← n)

      pub all-filled : (ws : List Value) → some ws ≡ fill (given m vs) 0 t.columns → none ≡ fill_fault t m vs
      unfolding fill_fault first
      all-filled ws n = simp (le-ltb _ _ l, o, ← n)

-- 22, as the code counts
pub other-counted : (s : List ℕ) (h : Held Map) (n : ℕ) (b : Bool) → MapIn s h → MatchOption h (b ≡ false) (λ m. b ≡ not (eqb m.count n))
    → other_count (map_of s h) n ≡ b
unfolding map_of
other-counted s None n b i e = sym e
other-counted s (Some m) n b i e =
    let l : length (take m.count (drop m.at s)) ≡ m.count = length-take-le m.count (drop m.at s) (omega (arith, length-drop {A = ℕ})) in
    rw (l, e) refl

-- ---- what is refused of rows, in turn

-- the first of n rows, and the others
pub record RowFirst (s : List ℕ) (n q : ℕ) : Type 0 where
  pub values : List Value
  pub next : ℕ
  pub is : values_at s q ≡ got values next
  pub then : is_got (times (values_at s) (n - 1) next) ≡ true
  pub all : rows_at s n q ≡ values ∷ rows_at s (n - 1) next

pub row_first : (s : List ℕ) (n q : ℕ) → 0 < n → is_got (times (values_at s) n q) ≡ true → RowFirst s n q
unfolding rows_at
row_first s zero q l g = absurd (omega arith)
row_first s (suc n) q l g =
    let w = was-got (times (values_at s) (suc n) q) g in
    let k = headed (values_at s) n q w.what w.end w.is in
    record {
      values = k.head;
      next = k.next;
      is = k.is;
      then = rw (sub-one (suc n)) (got-is (times (values_at s) n k.next) k.tail w.end k.then);
      all =
          rw (sub-one (suc n))
          (got-gives [] (times (values_at s) (suc n) q) w.what w.end w.is
          ∙ k.all
          ∙ ap (λ (vss : List (List Value)). k.head ∷ vss) (sym (got-gives [] (times (values_at s) n k.next) k.tail w.end k.then)));
    }

pub rows_none : (s : List ℕ) (n q : ℕ) → n ≤ 0 → rows_at s n q ≡ []
unfolding rows_at times got_or
rows_none s zero q h = refl
rows_none s (suc n) q h = absurd (omega arith)

-- the rows that remain, where z is what is to be said of all of them
module _ (s : List ℕ) (t : Table) (m : Option (List ℕ)) (left q i : ℕ) (z : Fault) (inv : fills_fault t m i (rows_at s left q) ≡ z) where
  pub no_row : left ≤ 0 → none ≡ z
  unfolding fills_fault
  no_row h = sym (ap (fills_fault t m i) (rows_none s left q h)) ∙ inv

  module _ (l : 0 < left) (g : is_got (times (values_at s) left q) ≡ true) where
    here : RowFirst s left q
    here = row_first s left q l g

    pub row_inside : q < length s
    row_inside = values-inside s q here.values here.next here.is

    -- where the code finds its end
    ends_there : Ok here.next ≡ walked_as (values_at s q)
    ends_there = ends here.values here.next ∙ ap walked_as (sym here.is)

    pub row-whole : (w : Walked) (x : Broken) → w ≡ walked_as (values_at s q) → w ≡ Err x → ⊥
    row-whole w x e f = let d : Ok here.next ≡ Err x = ends_there ∙ sym e ∙ f in let y : ◌≡◌ {A = ℕ} 0 1 = cc in omega arith

    module _ (c : ℕ) (ec : c ≡ get_or s q 0) where
      row-values : values_from s c (q + 1) ≡ here.values
      row-values = ap (λ (n : ℕ). values_from s n (q + 1)) ec ∙ (values-there s q here.values here.next here.is).0

      pub row_counts : length (values_from s c (q + 1)) ≡ c
      row_counts = ap length row-values ∙ (values-there s q here.values here.next here.is).1 ∙ sym ec

      -- r is what was said of the row
      module _ (r : Result Unit D.Fault) (e : fault_of r ≡ at i (fill_fault t m (values_from s c (q + 1)))) where
        as_read : fault_of r ≡ at i (fill_fault t m here.values)
        as_read = e ∙ ap (λ (vs : List Value). at i (fill_fault t m vs)) row-values

        pub row-refused : (f : D.Fault) → r ≡ Err f → fault_of (Err f) ≡ z
        unfolding fills_fault ◌or_else◌
        row-refused f h =
            let o : at i (fill_fault t m here.values) ≡ fault_of (Err f) = sym as_read ∙ ap fault_of h in
            let v : fills_fault t m i (here.values ∷ rows_at s (left - 1) here.next) ≡ fault_of (Err f) = rw o refl in
            sym v ∙ sym (ap (fills_fault t m i) here.all) ∙ inv

        pub row-passed : (u : Unit) → r ≡ Ok u → (x : ℕ) → Ok x ≡ walked_as (values_at s q)
            → (is_got (times (values_at s) (left - 1) x) ≡ true) × (fills_fault t m (i + 1) (rows_at s (left - 1) x) ≡ z)
        unfolding fills_fault ◌or_else◌
        row-passed u h x f =
            let o : at i (fill_fault t m here.values) ≡ none = sym as_read ∙ ap fault_of h in
            let y : here.next ≡ x = let a : Ok here.next ≡ Ok x = ends_there ∙ sym f in cc in
            let v : fills_fault t m i (here.values ∷ rows_at s (left - 1) here.next) ≡ fills_fault t m (suc i) (rows_at s (left - 1) here.next) = rw o refl in (
              subst (λ (j : ℕ). is_got (times (values_at s) (left - 1) j) ≡ true) y here.then,
              ap (λ (j : ℕ). fills_fault t m (i + 1) (rows_at s (left - 1) j)) (sym y)
                  ∙ ap (λ (j : ℕ). fills_fault t m j (rows_at s (left - 1) here.next)) (add-one i)
                  ∙ sym v ∙ sym (ap (fills_fault t m i) here.all) ∙ inv,
            )

-- what is said of a row, with the row's number
pub numbered : (r : Result Unit R.Refusal) (s : Result Unit D.Fault) (i : ℕ)
    → MatchResult r (λ x. s ≡ Ok x) (λ k. IsErrAnd s (λ f. f ≡ record { kind = k; at = i })) → fault_of s ≡ at i (broken_rule r)
unfolding at
numbered (Ok u) s i h = ap fault_of h
numbered (Err k) s i h = let p = err_from_is_err_and s h in ap fault_of p.1 ∙ ap (λ (f : D.Fault). fault_of (Err f)) p.2
