-- A table's record and its columns: the bytes that count them and tell the key, and each column at its place. Assumes nothing.
use mathlib.Core.Path.{◌≡◌, refl, sym, ap, ◌∙◌}
use Prim.Native.Nat.{ℕ, zero, suc, ◌+◌, ◌-◌, ◌*◌, ◌≤◌, ◌<◌}
use native.Mathlib.Nat.{not-suc-le-zero, le_of_suc-le-suc, zero-mul, suc-mul, add_comm, suc-add, zero-add}
use native.Mathlib.Omega.{arith}
use mathlib.Core.Bool.{Bool, true, false}
use mathlib.Core.List.{List, [], ◌∷◌}
use mathlib.Core.Option.{Option, some, map}
use lib.ListN.{length, take, drop, get_or, length-take, length-drop, length-map}
use lib.Seq.{take_all, take-take, get_or-take, drop-drop, take-nil}
use Rattle.std.specs.Bool.{then_some}
use Rattle.std.specs.Option.{IfSome}
use Rattle.values.specs.Basic.{nth, only_if, or_default}
use Rattle.values.specs.Value.{Value, text_most}
use Rattle.values.specs.Cell.{name_width, cell_width, read_name, by_kind, read_value}
use Rattle.values.specs.Meaning.{option_of}
use Rattle.values.specs.Area.{record_at}
use Rattle.areas.specs.Records.{records}
use Rattle.areas.proofs.Records.{length-records}
use Rattle.rules.specs.declared.profile.Profile.{Profile}
use Rattle.rules.specs.Profile.{column_width, schema_width}
use Rattle.rules.specs.State as S
use Rattle.rules.specs.Schema.{key_kind}
use Rattle.rules.specs.Layout.{bit, read_column, read_table}
use Rattle.rules.proofs.Widths.{column-within}
use Rattle.rules.proofs.Trip.{table-good}
use Rattle.laid.specs.Column.{column_at}
use Rattle.laid.specs.Catalog.{TableBytes}
use Rattle.laid.proofs.Finding.{drop_nth, nth_past, nth-map}

-- ---- the rest of a slice, as `&s[k..]` lends it

module _ (k : ℕ) (s : List ℕ) where
  pub rest : take (length s - k) (drop k s) ≡ drop k s
  rest = take_all (length s - k) (drop k s) (rw length-drop (omega arith))

  pub rest-length : length (take (length s - k) (drop k s)) ≡ length s - k
  rest-length = ap length rest ∙ length-drop k s

-- ---- what stands at the front of a part stands at the front of the whole

drop-take : (k w : ℕ) (s : List ℕ) → drop k (take (k + w) s) ≡ take w (drop k s)
drop-take zero w s = rw zero-add
drop-take (suc k) w [] = rw suc-add (sym (take-nil w))
drop-take (suc k) w (x ∷ s) = rw suc-add (drop-take k w s)

drop-front : (k w : ℕ) (s : List ℕ) → k ≤ w → drop k (take w s) ≡ take (w - k) (drop k s)
drop-front k w s h = let e : w ≡ k + (w - k) = omega arith in ap (λ (n : ℕ). drop k (take n s)) e ∙ drop-take k (w - k) s

module _ (w : ℕ) (s : List ℕ) where
  pub name-front : name_width ≤ w → read_name (take w s) ≡ read_name s
  unfolding read_name
  name-front h = rw (get_or-take w s 0 0 (omega arith), drop-front 1 w s (omega arith), take-take text_most (w - 1) (drop 1 s) (omega arith))

  kind-front : (k n : ℕ) → text_most ≤ w → by_kind k n (take w s) ≡ by_kind k n s
  unfolding by_kind
  kind-front zero n h = refl
  kind-front (suc zero) n h = rw (get_or-take w s 0 0 (omega arith))
  kind-front (suc (suc zero)) n h = rw (take-take 8 w s (omega arith))
  kind-front (suc (suc (suc zero))) n h = rw (take-take 8 w s (omega arith))
  kind-front (suc (suc (suc (suc k)))) n h = rw (take-take text_most w s (omega arith))

pub value-front : (w : ℕ) (s : List ℕ) → cell_width ≤ w → read_value (take w s) ≡ read_value s
unfolding read_value
value-front w s h =
    rw (get_or-take w s 0 0 (omega arith), get_or-take w s 1 0 (omega arith), drop-front 2 w s (omega arith))
    (kind-front (w - 2) (drop 2 s) (get_or s 0 0) (get_or s 1 0) (omega arith))

column-width : (p : Profile) → column_width p ≡ name_width + 2 + p.cell + name_width
unfolding column_width
column-width p = refl

pub column-front : (p : Profile) (s : List ℕ) → cell_width ≤ p.cell → read_column p (take (column_width p) s) ≡ read_column p s
unfolding read_column
column-front p s h =
    let w = column_width p in
    let e = column-width p in
    rw (
      name-front w s (omega arith),
      get_or-take w s name_width 0 (omega arith),
      get_or-take w s (name_width + 1) 0 (omega arith),
      drop-front (name_width + 2) w s (omega arith),
      drop-front (name_width + 2 + p.cell) w s (omega arith),
      value-front (w - (name_width + 2)) (drop (name_width + 2) s) (omega arith),
      name-front (w - (name_width + 2 + p.cell)) (drop (name_width + 2 + p.cell) s) (omega arith),
    )

nth-records : (w n i : ℕ) (xs : List ℕ) → i < n → nth (records w n xs) i ≡ some (take w (drop (i * w) xs))
unfolding records
nth-records w zero i xs h = absurd (not-suc-le-zero h)
nth-records w (suc n) zero xs h = rw zero-mul
nth-records w (suc n) (suc i) xs h =
    nth-records w n i (drop w xs) (le_of_suc-le-suc h)
    ∙ ap (λ (l : List ℕ). some (take w l)) (drop-drop (i * w) w xs ∙ ap (λ (m : ℕ). drop m xs) (sym (suc-mul i w ∙ add_comm (i * w) w)))

schema-least : (p : Profile) → 27 ≤ schema_width p
unfolding schema_width
schema-least p = omega arith

-- ---- a table's record

module _ (p : Profile) (rec : List ℕ) where
  abbrev pub columns_of : List S.Column
  columns_of = (read_table p rec).columns

  -- the byte that counts its columns, and the key's
  pub count-byte : get_or rec 26 0 ≡ length columns_of
  unfolding read_table
  count-byte =
      sym (length-map (records (column_width p) (get_or rec 26 0) (drop 27 rec)) (read_column p) ∙ length-records (column_width p) (get_or rec 26 0) (drop 27 rec))

  pub name-read : read_name rec ≡ (read_table p rec).name
  unfolding read_table
  name-read = refl

  pub key-byte : get_or rec 25 0 ≡ (read_table p rec).key
  unfolding read_table
  key-byte = refl

  module _ (b : TableBytes p rec) where
    pub columns-few : length columns_of ≤ p.columns
    columns-few = (table-good p (read_table p rec) b.good).few

    -- a column's bytes: they lie inside, and are read as the column
    module _ (i w : ℕ) (h : i < p.columns) (ew : w ≡ column_width p) where
      pub column-room : 27 + i * w + w ≤ length rec
      column-room = rw (ew, b.long) (omega (arith, column-within p i h))

      pub column-long : length (record_at 27 w i rec) ≡ 78
      unfolding record_at
      column-long = let r = column-room in simp (length-take, length-drop) (omega (arith, column-width p, b.coded.cells))

      pub column-alike : read_column p (record_at 27 w i rec) ≡ column_at p rec i
      unfolding record_at column_at
      column-alike = rw ew (column-front p (drop (27 + i * column_width p) rec) b.coded.known.cell)

    module _ (i : ℕ) (h : i < length columns_of) where
      pub column-nth : nth columns_of i ≡ some (column_at p rec i)
      unfolding read_table column_at
      column-nth =
          let n = get_or rec 26 0 in
          let cw = column_width p in
          nth-map (read_column p) (records cw n (drop 27 rec)) i
          ∙ ap (map (read_column p)) (nth-records cw n i (drop 27 rec) (omega (arith, count-byte)))
          ∙ ap some (column-front p (drop (i * cw) (drop 27 rec)) b.coded.known.cell ∙ ap (read_column p) (drop-drop (i * cw) 27 rec))

      pub column-drop : drop i columns_of ≡ column_at p rec i ∷ drop (suc i) columns_of
      column-drop = drop_nth columns_of i (column_at p rec i) column-nth

    -- the kind of the key column
    pub key-past : length columns_of ≤ get_or rec 25 0 → 0 ≡ key_kind (read_table p rec)
    key-past h = sym (ap (λ (o : Option S.Column). or_default (map (λ (c : S.Column). c.kind) o) 0) (ap (nth columns_of) (sym key-byte) ∙ nth_past columns_of (get_or rec 25 0) h))

    pub key-within : (x : List ℕ) → read_column p x ≡ column_at p rec (get_or rec 25 0) → get_or rec 25 0 < length columns_of → get_or x 25 0 ≡ key_kind (read_table p rec)
    unfolding read_column
    key-within x e h =
        ap (λ (c : S.Column). c.kind) e
        ∙ sym (ap (λ (o : Option S.Column). or_default (map (λ (c : S.Column). c.kind) o) 0) (ap (nth columns_of) (sym key-byte) ∙ column-nth (get_or rec 25 0) h))

    pub record-least : 27 ≤ length rec
    record-least = omega (arith, b.long, schema-least p)

-- ---- a column put together from what is read of its bytes

-- a part that is there where a flag says so
pub part-read : {A B : Type 0} (f : A → B) (b : Bool) (x : A) → map f (option_of (then_some b x)) ≡ only_if b (f x)
part-read f true x = refl
part-read f false x = refl

pub part-proper : {A : Type 0} (P : A → Type 0) (b : Bool) (x : A) → P x → IfSome (then_some b x) P
part-proper P true x h = h
part-proper P false x h = tt

pub parts-read : (p : Profile) (x : List ℕ) → p.cell ≡ cell_width → {n r : List ℕ} {d : Value}
    → n ≡ read_name x
    → d ≡ read_value (take (length x - 27) (drop 27 x))
    → r ≡ read_name (take (length x - 53) (drop 53 x))
    → ◌≡◌ {A = S.Column} (record { name = n; kind = get_or x 25 0; nullable = bit 1 (get_or x 26 0); default = only_if (bit 2 (get_or x 26 0)) d; unique = bit 4 (get_or x 26 0); index = bit 8 (get_or x 26 0); reference = only_if (bit 16 (get_or x 26 0)) r }) (read_column p x)
unfolding read_column
parts-read p x ec en ed er = rw (ec, en, ed, er, rest 27 x, rest 53 x)
