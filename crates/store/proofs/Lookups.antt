-- Reads by key and by value: a key of an unknown table has no place, whether a column is indexed, and lookup's answer in each case.
-- Assumes nothing.
use mathlib.Core.Path.{◌≡◌, refl, sym, ap, ◌∙◌}
use mathlib.Core.Bool.{Bool, true, false, ◌&&◌, true≢false}
use mathlib.Core.Option.{Option, none, some, map}
use Prim.Native.Nat.{ℕ, ◌+◌, ◌≤◌, ◌<◌}
use native.Mathlib.Omega.{arith}
use mathlib.Core.List.{List, [], ◌∷◌}
use lib.ListN.{length, get_or, length-map}
use Rattle.values.specs.Basic.{find, is_some, keep, nth, maybe, or_default}
use Rattle.values.specs.Value.{Value, among}
use Rattle.values.specs.Cell.{name_width}
use Rattle.rules.specs.declared.profile.Profile.{Profile}
use Rattle.rules.specs.Refusal.{UnknownTable, NotIndexed}
use Rattle.rules.specs.State as S
use Rattle.rules.specs.State.{Name, Table, Row, is_named, table_named, of_table, is_row, cell_at}
use Rattle.rules.specs.Layout.{lists, parse}
use Rattle.rules.specs.Request.{ok, no}
use Rattle.rules.specs.Schema.{first, at}
use Rattle.rules.specs.Step.{is_indexed, lookup}
use Rattle.laid.specs.declared.catalog.Column.{Column}
use Rattle.laid.specs.Store.{LaidStore}
use Rattle.laid.specs.Column.{column_of, column_at}
use Rattle.laid.specs.Catalog.{place_of}
use Rattle.laid.specs.Row.{table_in}
use Rattle.checks.specs.Asked.{indexed_at}
use Rattle.walks.specs.Looked.{keys_with}
use Rattle.laid.proofs.Finding.{nth_past, place_found, place-missing}
use Rattle.laid.proofs.Columns.{count-byte, columns-few, column-nth, columns_of}
use Rattle.checks.proofs.Checking.{place-some, no_rows}
use Rattle.checks.proofs.Fitting.{rec-bytes, table_is}
use Rattle.laid.proofs.RowFacts.{table-there}

-- what is not found has no place
nowhere : {A : Type 0} (q : A → Bool) (xs : List A) → is_some (find q xs) ≡ false → none ≡ place_of q xs
nowhere q xs h = go (place_of q xs) refl
  where
    go : (o : Option ℕ) → place_of q xs ≡ o → none ≡ o
    go none e = refl
    go (some i) e = absurd (true≢false (place-some q xs i (sym e) ∙ h))

pub key-nowhere : (p : Profile) (R : ℕ) (s : List ℕ) → LaidStore p R s → (n : Name) (v : Value) → none ≡ place_of (is_named n) (parse p R s).tables
    → none ≡ place_of (is_row n v) (parse p R s).rows
key-nowhere p R s b n v e = nowhere (is_row n v) (parse p R s).rows (no_rows p R s b n v e)

-- ---- whether a column is indexed

-- a column that is there, or none, tells
abbrev told : Option S.Column → Bool
told o = or_default (map (λ (c : S.Column). c.index) o) false

module _ (p : Profile) (R : ℕ) (s : List ℕ) (b : LaidStore p R s) (t : ℕ) (h : t < length (parse p R s).tables) (rec : List ℕ) (er : rec ≡ get_or (lists p R s).schemas t [])
    (m : ℕ) (em : m ≡ get_or rec (name_width + 1) 0) (column : ℕ) where
  pub past-columns : m ≤ column → false ≡ is_indexed (table_in p R s t) column
  past-columns l = sym (ap (λ (x : Table). is_indexed x column) (table_is p R s t b h rec er) ∙ ap told (nth_past (columns_of p rec) column (omega (arith, count-byte p rec))))

  module _ (l : column < m) where
    pub among-columns : column < p.columns
    among-columns = omega (arith, count-byte p rec, columns-few p rec (rec-bytes p R s t b h rec er))

    pub index_read : (c : Column) → column_of c ≡ column_at p rec column → c.index ≡ is_indexed (table_in p R s t) column
    index_read c e =
        ap (λ (x : S.Column). x.index) e
        ∙ sym (ap (λ (x : Table). is_indexed x column) (table_is p R s t b h rec er) ∙ ap told (column-nth p rec (rec-bytes p R s t b h rec er) column (omega (arith, count-byte p rec))))

-- ---- lookup's answer

module _ (p : Profile) (R : ℕ) (s : List ℕ) (n : Name) where
  abbrev tables : List Table
  tables = (parse p R s).tables

  module _ (i : ℕ) (vs : List Value) where
    pub lookup-unknown : none ≡ place_of (is_named n) tables → no UnknownTable 0 ≡ (lookup (parse p R s) n i vs).reply
    unfolding lookup maybe
    lookup-unknown e = rw (place-missing (is_named n) tables (sym e))

  -- a table that is known, by its place
  module _ (t : ℕ) (e : some t ≡ place_of (is_named n) tables) where
    pub table-known : t < length tables
    table-known = (place_found (is_named n) tables t (sym e)).0

    pub stored : table_named tables n ≡ some (table_in p R s t)
    stored = sym (place_found (is_named n) tables t (sym e)).1 ∙ table-there p R s t table-known

    module _ (i : ℕ) (x : Bool) (ex : x ≡ is_indexed (table_in p R s t) i) where
      pub column-indexed : x ≡ true → indexed_at tables n i ≡ true
      unfolding maybe
      column-indexed g = ap (λ (o : Option Table). told (nth (maybe o [] (λ u. u.columns)) i)) stored ∙ sym ex ∙ g

      module _ (vs : List Value) where
        pub lookup-refused : x ≡ false → no NotIndexed 0 ≡ (lookup (parse p R s) n i vs).reply
        unfolding lookup maybe first at
        lookup-refused g = rw (stored, sym ex ∙ g)

        pub lookup-counted : x ≡ true → (k : ℕ) → k ≡ length (keys_with (parse p R s).rows n i vs) → ok k ≡ (lookup (parse p R s) n i vs).reply
        unfolding lookup maybe first at keys_with
        lookup-counted g k ek =
            let kept = keep (λ (r : Row). of_table n r && among (cell_at r.cells i) vs) (parse p R s).rows in
            rw (stored, sym ex ∙ g) (ap ok (ek ∙ length-map kept (λ (r : Row). r.key) ∙ sym (length-map kept (λ (r : Row). r.key ∷ []))))
