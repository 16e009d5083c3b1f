-- Which bytes are a row's record, piece by piece; the row's name, cells and key as they are read; and its place among rows. Assumes nothing.
use mathlib.Core.Path.{◌≡◌, refl, sym, ap, ◌∙◌, subst}
use mathlib.Core.Bool.{Bool, true, false, not, ◌&&◌}
use Prim.Native.Nat.Ordering.{eq}
use Prim.Native.Nat.Ordering.{gt}
use Prim.Native.Nat.Ordering.{lt}
use Prim.Native.Nat.{ℕ, zero, suc, ◌+◌, ◌-◌, ◌*◌, ◌≤◌, ◌<◌, Ordering}
use native.Mathlib.Nat.{mul-le-mul, le_refl}
use native.Mathlib.Omega.{arith}
use mathlib.Core.Logic.{inl, inr}
use mathlib.Core.List.{List, [], ◌∷◌, ◌++◌, map}
use mathlib.Core.Option
use mathlib.Core.Option.{Option, none, some}
use lib.ListN.{length, take, drop, replicate, length-drop, length-map}
use lib.Seq.{drop-drop}
use borrow.Author.Tests.{eq-eqb}
use Rattle.values.specs.Basic.{and_then, cmp_bytes, nth, maybe, or_default}
use Rattle.values.specs.Bytes.{leqb, zeros, pad, Bytes}
use Rattle.values.specs.Value.{Value, null, normalised, is_undefined, cmp_value}
use Rattle.values.specs.Cell.{name_cell, read_name, is_name_cell, value_cell, read_value, is_cell}
use Rattle.areas.specs.Records.{joined, records}
use Rattle.areas.specs.Search.{cmp_named, cmp_keyed}
use Rattle.areas.specs.Sorted.{In}
use Rattle.values.proofs.Packing.{take-bytes, drop-bytes}
use Rattle.values.proofs.Cells.{normalised-twice}
use Rattle.values.proofs.Orders.{exact_bytes, cmp-normalised, exact_same}
use Rattle.areas.proofs.Records.{length-records, get_or-records}
use Rattle.rules.specs.declared.profile.Profile.{Profile}
use Rattle.rules.specs.Profile.{row_width}
use Rattle.rules.specs.State.{Name, Table, cmp_row, table_named, key_of, cell_at}
use Rattle.rules.specs.Layout.{row_record, read_row, read_cells, unknown}
use Rattle.rules.specs.Sound.{all, every, every_cell, of_its_table, good_name, canonical, has_table, good_cells, right_kinds, key_defined}
use Rattle.rules.proofs.Tests.{name-is, every_of}
use Rattle.rules.proofs.Trip.{canonical-normal, canonical-cell}
use Rattle.rules.proofs.Lists.{in_map}
use Rattle.laid.specs.Store.{Coded}
use Rattle.laid.specs.Row.{keyed}
use Rattle.sound.specs.Tested.{fitting, cells_in, is_row}
use Rattle.laid.proofs.Finding.{nth-map, nth-get_or}
use Rattle.sound.proofs.Pieces.{leqb-append, zeros-piece, name-piece, value-piece, name-long, value-long, good-read-name, canonical-read, joined-long, joined-piece}
use Rattle.laid.proofs.Columns.{value-front}
use Rattle.sound.proofs.RecordPieces.{and_same, second-false}
use Rattle.sound.proofs.Indexed.{found-named, of-its, undefined-normal}

record-bytes : (w n : ℕ) (l : List ℕ) → Bytes l → (c : List ℕ) → In c (records w n l) → Bytes c
unfolding records
record-bytes w zero l b c m = absurd m
record-bytes w (suc n) l b c (inl e) = subst Bytes (sym e) (take-bytes w l b)
record-bytes w (suc n) l b c (inr m) = record-bytes w n (drop w l) (drop-bytes w l b) c m

-- ---- cells as they are read

module _ (n : ℕ) (r : List ℕ) where
  pub cells-long : length (cells_in n r) ≡ n
  unfolding read_cells
  cells-long = length-map (records 26 n (drop 25 r)) read_value ∙ length-records 26 n (drop 25 r)

  pub cell-read : (j : ℕ) → j < n → nth (cells_in n r) j ≡ some (read_value (drop (25 + j * 26) r))
  unfolding read_cells
  cell-read j h =
      nth-map read_value (records 26 n (drop 25 r)) j
      ∙ ap (Option.map read_value) (nth-get_or (records 26 n (drop 25 r)) j [] (omega (arith, length-records 26 n (drop 25 r))))
      ∙ ap (λ (l : List ℕ). some (read_value l)) (get_or-records 26 n j (drop 25 r) h)
      ∙ ap some (value-front 26 (drop (j * 26) (drop 25 r)) (omega arith) ∙ ap read_value (drop-drop (j * 26) 25 r))

  pub cells-canonical : Bytes r → every canonical (cells_in n r) ≡ true
  unfolding read_cells
  cells-canonical b = every_of canonical (cells_in n r) (λ v m. let q = in_map read_value v (records 26 n (drop 25 r)) m in ap canonical q.2 ∙ bytes_of q.0 q.1)
    where
      bytes_of : (c : List ℕ) → In c (records 26 n (drop 25 r)) → canonical (read_value c) ≡ true
      bytes_of c m = canonical-read c (record-bytes 26 n (drop 25 r) (drop-bytes 25 r b) c m)

-- ---- the row that bytes are read as

module _ (p : Profile) (ts : List Table) (r : List ℕ) where
  -- its table's name is the one in front
  pub row-name : (read_row p ts r).table ≡ read_name r
  unfolding read_row
  row-name = on (table_named ts (read_name r)) refl
    where
      on : (o : Option Table) → table_named ts (read_name r) ≡ o → (or_default o (unknown (read_name r))).name ≡ read_name r
      on none e = refl
      on (some t) e = name-is _ _ (found-named ts (read_name r) t e)

  module _ (k : Coded p) (t : Table) (e : table_named ts (read_name r) ≡ some t) where
    pub row-cells : (read_row p ts r).cells ≡ cells_in (length t.columns) r
    unfolding read_row
    row-cells = rw (e, k.cells)

    row-key : (read_row p ts r).key ≡ normalised (key_of t (cells_in (length t.columns) r))
    unfolding read_row
    row-key = rw (e, k.cells)

    row-table : table_named ts (read_row p ts r).table ≡ some t
    row-table = ap (table_named ts) row-name ∙ e

    pub key-read : t.key < length t.columns → (read_row p ts r).key ≡ normalised (read_value (drop (25 + t.key * 26) r))
    key-read h = row-key ∙ ap (λ (o : Option Value). normalised (or_default o null)) (cell-read (length t.columns) r t.key h)

    -- a test of its table
    pub row-of-its : (f : Table → Bool) → of_its_table ts (read_row p ts r) f ≡ f t
    row-of-its f = of-its ts (read_row p ts r) t f row-table

  pub row-of-none : (f : Table → Bool) → table_named ts (read_name r) ≡ none → of_its_table ts (read_row p ts r) f ≡ false
  unfolding maybe
  row-of-none f e = ap (λ (n : Name). maybe (table_named ts n) false f) row-name ∙ rw e

-- ---- pieces

row-tests : (n e z k d : Bool) → all ((n && (e && z)) ∷ true ∷ true ∷ k ∷ d ∷ []) ≡ all (n ∷ e ∷ z ∷ k ∷ d ∷ [])
unfolding all
row-tests true true true k d = refl
row-tests true true false k d = refl
row-tests true false z k d = refl
row-tests false e z k d = refl

least-row : (p : Profile) (r : List ℕ) → length r ≡ row_width p → 25 ≤ length r
unfolding row_width
least-row p r l = omega (arith, l)

cells_are : (n : ℕ) (l : List ℕ) → n * 26 ≤ length l → every (λ c. leqb (value_cell 26 (read_value c)) c) (records 26 n l) ≡ every is_cell (records 26 n l)
unfolding every records
cells_are zero l h = refl
cells_are (suc n) l h =
    and_same
    (ap (λ (v : Value). leqb (value_cell 26 v) (take 26 l)) (value-front 26 l (omega arith)) ∙ value-piece l (omega arith))
    (cells_are n (drop 26 l) (simp length-drop (omega arith)))

two-true : {a b : Bool} → a ≡ true → b ≡ true → all (a ∷ b ∷ []) ≡ true
unfolding all
two-true e f = rw (e, f)

three-true : {a b c : Bool} → a ≡ true → b ≡ true → c ≡ true → all (a ∷ b ∷ c ∷ []) ≡ true
unfolding all
three-true e f g = rw (e, f, g)

five : {a b c d e a' d' e' : Bool} → a ≡ a' → b ≡ true → c ≡ true → d ≡ d' → e ≡ e' → all (a ∷ b ∷ c ∷ d ∷ e ∷ []) ≡ all (a' ∷ true ∷ true ∷ d' ∷ e' ∷ [])
five p q r s t = rw (p, q, r, s, t)

key-canonical : (vs : List Value) (i : ℕ) → every canonical vs ≡ true → canonical (normalised (cell_at vs i)) ≡ true
key-canonical vs i h = let e = canonical-cell vs i h in ap canonical (canonical-normal (cell_at vs i) e) ∙ e

module _ (p : Profile) (ts : List Table) (k : Coded p) (r : List ℕ) (b : Bytes r) (l : length r ≡ row_width p) where
  pub row-none : table_named ts (read_name r) ≡ none → is_row p ts r ≡ false
  unfolding is_row has_table
  row-none e = second-false (leqb (row_record p (read_row p ts r)) r) _ _ (row-of-none p ts r _ e)

  module _ (t : Table) (e : table_named ts (read_name r) ≡ some t) (few : length t.columns ≤ p.columns) where
    abbrev n : ℕ
    n = length t.columns

    abbrev vs : List Value
    vs = cells_in (length t.columns) r

    rest-long : length (drop 25 r) ≡ p.columns * 26
    unfolding row_width
    rest-long = simp length-drop (omega (arith, l, ap (λ (c : ℕ). p.columns * c) k.cells))

    abbrev parts : List (List ℕ)
    parts = records 26 (length t.columns) (drop 25 r)

    abbrev bytes : List ℕ
    bytes = joined (map (value_cell 26) (map read_value (records 26 (length t.columns) (drop 25 r))))

    used : n * 26 ≤ p.columns * 26
    used = mul-le-mul few (le_refl 26)

    bytes-long : length bytes ≡ n * 26
    bytes-long = joined-long 26 read_value (value_cell 26) (λ c h. value-long c h) n (drop 25 r) (drop-bytes 25 r b)

    pad-piece : leqb (pad (p.columns * 26) bytes) (drop 25 r) ≡ (every is_cell parts && zeros (drop (25 + n * 26) r))
    unfolding pad
    pad-piece =
        leqb-append bytes (replicate (p.columns * 26 - length bytes) 0) (drop 25 r) (n * 26) bytes-long (omega (arith, rest-long, used))
        ∙ and_same
        (joined-piece 26 read_value (value_cell 26) (λ c h. value-long c h) n (drop 25 r) (drop-bytes 25 r b) (omega (arith, rest-long, used))
        ∙ cells_are n (drop 25 r) (omega (arith, rest-long, used)))
        (zeros-piece (p.columns * 26 - length bytes) (drop (n * 26) (drop 25 r))
        (length-drop (n * 26) (drop 25 r) ∙ ap (λ (m : ℕ). m - n * 26) rest-long ∙ ap (λ (m : ℕ). p.columns * 26 - m) (sym bytes-long))
        ∙ ap zeros (drop-drop (n * 26) 25 r))

    record-piece : leqb (row_record p (read_row p ts r)) r ≡ (is_name_cell (take 25 r) && (every is_cell parts && zeros (drop (25 + n * 26) r)))
    unfolding row_record read_cells
    record-piece =
        ap (λ (m : Name). leqb (name_cell m ++ pad (p.columns * p.cell) (joined (map (value_cell p.cell) (read_row p ts r).cells))) r) (row-name p ts r)
        ∙ ap (λ (us : List Value). leqb (name_cell (read_name r) ++ pad (p.columns * p.cell) (joined (map (value_cell p.cell) us))) r) (row-cells p ts r k t e)
        ∙ ap (λ (w : ℕ). leqb (name_cell (read_name r) ++ pad (p.columns * w) (joined (map (value_cell w) vs))) r) k.cells
        ∙ leqb-append (name_cell (read_name r)) (pad (p.columns * 26) bytes) r 25 (name-long r) (least-row p r l)
        ∙ and_same (name-piece r) pad-piece

    has-table : has_table ts (read_row p ts r) ≡ true
    unfolding has_table
    has-table =
        row-of-its p ts r k t e _
        ∙ two-true (eq-eqb _ _ (ap length (row-cells p ts r k t e) ∙ cells-long n r))
        (exact_same _ _ (ap normalised (row-key p ts r k t e) ∙ normalised-twice (key_of t vs) ∙ ap (λ (us : List Value). normalised (key_of t us)) (sym (row-cells p ts r k t e))))

    good-cells : good_cells (read_row p ts r) ≡ true
    unfolding good_cells
    good-cells =
        three-true (ap good_name (row-name p ts r) ∙ good-read-name r b)
        (ap canonical (row-key p ts r k t e) ∙ key-canonical vs t.key (cells-canonical n r b))
        (ap (every canonical) (row-cells p ts r k t e) ∙ cells-canonical n r b)

    kinds-is : right_kinds ts (read_row p ts r) ≡ every_cell fitting 0 t.columns vs
    unfolding right_kinds
    kinds-is = row-of-its p ts r k t e _ ∙ ap (every_cell fitting 0 t.columns) (row-cells p ts r k t e)

    defined-is : key_defined (read_row p ts r) ≡ not (is_undefined (key_of t vs))
    unfolding key_defined
    defined-is = ap (λ (v : Value). not (is_undefined v)) (row-key p ts r k t e) ∙ ap not (undefined-normal (key_of t vs))

    pub row-pieces : is_row p ts r
        ≡ all (is_name_cell (take 25 r) ∷ every is_cell parts ∷ zeros (drop (25 + n * 26) r) ∷ every_cell fitting 0 t.columns vs ∷ not (is_undefined (key_of t vs)) ∷ [])
    unfolding is_row
    row-pieces =
        five record-piece has-table good-cells kinds-is defined-is
        ∙ row-tests (is_name_cell (take 25 r)) (every is_cell parts) (zeros (drop (25 + n * 26) r)) (every_cell fitting 0 t.columns vs) (not (is_undefined (key_of t vs)))

-- ---- the place of a row among rows

-- compared by its name and the cell at the key's place, it is compared as the row
pub keyed-order : (p : Profile) (ts : List Table) → Coded p → (t : Table) (m : Name) → table_named ts m ≡ some t → t.key < length t.columns
    → (a : List ℕ) (v : Value) → cmp_keyed (25 + t.key * 26) a m v ≡ cmp_row (read_row p ts a) (keyed m v)
unfolding cmp_keyed cmp_named cmp_row
keyed-order p ts k t m e h a v =
    on (cmp_bytes (read_name a) m) refl ∙ ap (λ (x : Name). and_then (cmp_bytes x m) (cmp_value (read_row p ts a).key v)) (sym (row-name p ts a))
  where
    on : (o : Ordering) → cmp_bytes (read_name a) m ≡ o
        → and_then o (cmp_value (read_value (drop (25 + t.key * 26) a)) v) ≡ and_then (cmp_bytes (read_name a) m) (cmp_value (read_row p ts a).key v)
    on lt q = rw q
    on eq q = rw q (sym (ap (λ (u : Value). cmp_value u v) (key-read p ts a k t (ap (table_named ts) (exact_bytes (read_name a) m q) ∙ e) h) ∙ cmp-normalised (read_value (drop (25 + t.key * 26) a)) v))
    on gt q = rw q
