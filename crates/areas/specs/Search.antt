-- The three orders that areas are searched by, on the bytes of a record: a name; a name and a value; a name, a number and two values.
-- Assumes nothing.
use Prim.Native.Nat.{ℕ, ◌+◌, ◌*◌, ◌≤◌, compare, Ordering}
use denote.Ref.{Bor}
use denote.Param.Members.{Shared}
use Rattle.std.specs.declared.cmp.Ordering.{Ordering as Compared}
use Rattle.values.specs.Meaning.{ordering}
use Rattle.std.specs.Prelude.{◌≡◌, Bool, List, length, get_or, drop}
use Rattle.values.specs.Basic.{and_then, cmp_bytes}
use Rattle.values.specs.Value.{Value, cmp_value}
use Rattle.values.specs.Cell.{name_width, read_name, read_value}
use Rattle.areas.specs.Records.{records}
use Rattle.areas.specs.Sorted.{Falls}

-- a record that starts with a name
unfoldable pub cmp_named : List ℕ → List ℕ → Ordering
cmp_named r n = cmp_bytes (read_name r) n

-- and has a value cell at `at`
unfoldable pub cmp_keyed : ℕ → List ℕ → List ℕ → Value → Ordering
cmp_keyed at r n v = and_then (cmp_named r n) (cmp_value (read_value (drop at r)) v)

-- what follows the name of an index entry: a number and two value cells of w bytes
unfoldable pub cmp_content : ℕ → List ℕ → ℕ → Value → Value → Ordering
cmp_content w r c v k =
    and_then (compare (get_or r name_width 0) c)
    (and_then (cmp_value (read_value (drop (name_width + 1) r)) v) (cmp_value (read_value (drop (name_width + 1 + w) r)) k))

unfoldable pub cmp_entered : ℕ → List ℕ → List ℕ → ℕ → Value → Value → Ordering
cmp_entered w r n c v k = and_then (cmp_named r n) (cmp_content w r c v k)

-- `count` records of w bytes in which those that pass come first
pub record SearchIn (p : List ℕ → Bool) (s : List ℕ) (count w : ℕ) : Type 0 where
  pub inside : count * w ≤ length s
  pub falls : Falls p (records w count s)

-- f can be called at each record of w bytes, and answers how cmp compares it
module _ {F : Type 0} (g : Shared F (Bor (List ℕ) × Unit {0}) Compared) (w : ℕ) (f : F) where
  abbrev pub ComparesEach : Type 0
  ComparesEach = (r : Bor (List ℕ)) → length r.now ≡ w → g.pre f (r, tt)

  abbrev pub ComparesBy : (List ℕ → Ordering) → Type 0
  ComparesBy cmp = (r : Bor (List ℕ)) (o : Compared) → length r.now ≡ w → g.post f (r, tt) o → ordering o ≡ cmp r.now
