-- A row that is filled from given values and defaults: where it is not refused it is full, and each of its values is as reading gives it.
-- Assumes nothing.
use Prim.Native.Nat.{ℕ, zero, suc}
use mathlib.Core.Path.{◌≡◌, refl, sym, ap, ◌∙◌, subst}
use mathlib.Core.Bool.{Bool, true, false, cond, true≢false}
use mathlib.Core.List.{List, [], ◌∷◌, map}
use mathlib.Core.Logic.{inl, inr}
use mathlib.Core.Option.{Option, none, some, some-injective, none-ne-some}
use lib.Dec.{eqb}
use lib.ListN.{length, length-map}
use Rattle.values.specs.Basic.{is_none, or_default, ◌or_else◌}
use Rattle.values.specs.Meaning.{held}
use Rattle.forms.specs.Read.{got, value_at}
use Rattle.areas.specs.Sorted.{In, All}
use Rattle.values.specs.Value.{Value, normalised}
use Rattle.values.specs.declared.value.Cell.{Cell}
use Rattle.forms.proofs.Reading.{value_read}
use Rattle.rules.specs.Rows.{mapped, given, cons_to, fill, fill_fault, full_row}
use Rattle.rules.specs.Sound.{canonical_default, good_column, good_table}
use Rattle.rules.specs.State.{Column, Table}
use Rattle.rules.specs.declared.profile.Profile.{Profile}
use Rattle.rules.proofs.Lists.{all-at, nth_in}
use Rattle.rules.proofs.Tests.{all_head, all_tail, every-at, first-none}
use Rattle.rules.proofs.Trip.{canonical-normal}
use Rattle.laid.specs.Row.{cells_of, NormalCell}
use Rattle.records.specs.Reading.{times, byte_at}
use Rattle.records.specs.Record.{values_at}
use Rattle.mapping.proofs.ValuesFrom.{headed, parted}

-- ---- what is true of the given values and of the defaults is true of the row's

module _ (P : Value → Type 0) where
  mapped-all : (m : List ℕ) (vs : List Value) (i : ℕ) (v : Value) → All P vs → mapped m vs i ≡ some v → P v
  mapped-all [] vs i v h e = absurd (none-ne-some v e)
  mapped-all (k ∷ ks) [] i v h e = absurd (none-ne-some v e)
  mapped-all (k ∷ ks) (x ∷ xs) i v h e = go (eqb k i) e (mapped-all ks xs i v h.1)
    where
      go : (b : Bool) → cond b (some x) (mapped ks xs i) ≡ some v → (mapped ks xs i ≡ some v → P v) → P v
      go true f r = subst P (some-injective x v f) h.0
      go false f r = r f

  given-all : (m : Option (List ℕ)) (vs : List Value) (i : ℕ) (v : Value) → All P vs → given m vs i ≡ some v → P v
  given-all none vs i v h e = all-at P vs h v (nth_in vs i v e)
  given-all (some m) vs i v h e = mapped-all m vs i v h e

  fill-all : (g : ℕ → Option Value) → ((i : ℕ) (v : Value) → g i ≡ some v → P v) → (cs : List Column)
      → ((c : Column) → In c cs → (v : Value) → c.default ≡ some v → P v) → (i : ℕ) (l : List Value) → fill g i cs ≡ some l → All P l
  unfolding fill ◌or_else◌
  fill-all g ok [] d i l e = subst (All P) (some-injective [] l e) tt
  fill-all g ok (c ∷ cs) d i l e = go (g i) c.default refl refl (fill g (suc i) cs) e (fill-all g ok cs (λ x m. d x (inr m)) (suc i))
    where
      cons : (v : Value) → P v → (b : Option (List Value)) → cons_to (some v) b ≡ some l → ((m : List Value) → b ≡ some m → All P m) → All P l
      cons v f none k r = absurd (none-ne-some l k)
      cons v f (some vs) k r = subst (All P) (some-injective (v ∷ vs) l k) (f, r vs refl)

      go : (a o : Option Value) → g i ≡ a → c.default ≡ o → (b : Option (List Value)) → cons_to (a or_else o) b ≡ some l
          → ((m : List Value) → b ≡ some m → All P m) → All P l
      go (some v) o p q b k r = cons v (ok i v p) b k r
      go none (some v) p q b k r = cons v (d c (inl refl) v q) b k r
      go none none p q b k r = absurd (none-ne-some l k)

-- as many values as columns
fill-long : (g : ℕ → Option Value) (cs : List Column) (i : ℕ) (l : List Value) → fill g i cs ≡ some l → length l ≡ length cs
unfolding fill
fill-long g [] i l e = ap length (sym (some-injective [] l e))
fill-long g (c ∷ cs) i l e = go (g i or_else c.default) (fill g (suc i) cs) e (fill-long g cs (suc i))
  where
    go : (a : Option Value) (b : Option (List Value)) → cons_to a b ≡ some l → ((m : List Value) → b ≡ some m → length m ≡ length cs) → length l ≡ suc (length cs)
    go none b k r = absurd (none-ne-some l k)
    go (some v) none k r = absurd (none-ne-some l k)
    go (some v) (some vs) k r = ap length (sym (some-injective (v ∷ vs) l k)) ∙ ap suc (r vs refl)

-- ---- values as reading gives them

abbrev pub Normal : Value → Type 0
Normal v = normalised v ≡ v

times-normal : (s : List ℕ) (n at : ℕ) (vs : List Value) (e : ℕ) → times (value_at s) n at ≡ got vs e → All Normal vs
unfolding times
times-normal s zero at vs e h = let z : [] ≡ vs = cc in subst (All Normal) z tt
times-normal s (suc n) at vs e h =
    let k = headed (value_at s) n at vs e h in
    subst (All Normal) (sym k.all) ((value_read s at k.head k.next k.is).normal, times-normal s n k.next k.tail e k.then)

-- a count byte and as many values
pub values-normal : (s : List ℕ) (q : ℕ) (vs : List Value) (e : ℕ) → values_at s q ≡ got vs e → All Normal vs
unfolding values_at
values-normal s q vs e h = let p = parted (byte_at s q) _ vs e h in times-normal s p.first p.next vs e p.then

-- a stored schema's defaults
default-good : (c : Column) → good_column c ≡ true → canonical_default c.default ≡ true
unfolding good_column
default-good c h = all_head _ _ (all_tail _ _ (all_tail _ _ (all_tail _ _ h)))

default-normal : (p : Profile) (t : Table) → good_table p t ≡ true → (c : Column) → In c t.columns → (v : Value) → c.default ≡ some v → Normal v
unfolding good_table canonical_default
default-normal p t g c m v e =
    canonical-normal v (rw e at (default-good c (every-at good_column t.columns (all_head _ _ (all_tail _ _ (all_tail _ _ g))) c m)))

-- cells that hold such values
pub cells-normal : (cs : List Cell) → All Normal (map held cs) → All NormalCell cs
cells-normal [] h = tt
cells-normal (c ∷ cs) h = (h.0, cells-normal cs h.1)

-- ---- a row as the code fills it, where it is not refused

module _ (t : Table) (m : Option (List ℕ)) (vs : List Value) (f : fill_fault t m vs ≡ none) where
  -- every column has its value
  pub never-unfilled : none ≡ fill (given m vs) 0 t.columns → ⊥
  unfolding fill_fault
  never-unfilled e = true≢false (ap is_none e ∙ (first-none _ _ _ (first-none _ _ _ (first-none _ _ _ f).1).1).0)

  module _ (r : List Cell) (e : some (cells_of r) ≡ fill (given m vs) 0 t.columns) where
    pub full-count : length r ≡ length t.columns
    unfolding cells_of
    full-count =
        sym (length-map r held)
        ∙ fill-long (given m vs) t.columns 0 (cells_of r) (sym e)

    pub full-cells : cells_of r ≡ full_row t m vs
    unfolding full_row
    full-cells = ap (λ (o : Option (List Value)). or_default o []) e

    pub full-normal : (p : Profile) → good_table p t ≡ true → All Normal vs → All NormalCell r
    unfolding cells_of
    full-normal p g h =
        cells-normal r
        (fill-all Normal (given m vs) (λ i v k. given-all Normal m vs i v h k) t.columns (default-normal p t g) 0 (cells_of r) (sym e))
