-- What the searches for a value in a column of a stored table answer. Assumes nothing.
use mathlib.Core.Path.{◌≡◌, refl, sym, ap, subst, ◌∙◌}
use mathlib.Core.Bool.{Bool, true, false, not, ◌&&◌, ◌||◌, cond, and-true}
use mathlib.Core.Option.{Option, some, map}
use Prim.Native.Nat.{ℕ, ◌<◌}
use native.Mathlib.Omega.{arith}
use mathlib.Core.List.{List, [], ◌∷◌}
use lib.Dec.{eqb}
use lib.ListN.{length, get_or}
use borrow.Author.Tests.{eq-eqb, ne_eqb}
use Rattle.values.specs.Basic.{any, find, is_some, nth, or_default, maybe}
use Rattle.values.specs.Value.{Value, same}
use Rattle.values.specs.Cell.{name_width, read_name}
use Rattle.areas.specs.Sorted.{In}
use Rattle.rules.specs.declared.profile.Profile.{Profile}
use Rattle.rules.specs.State.{Name, Column, Table, Row, table_named, of_table, is_row, has_row, cell_at}
use Rattle.rules.specs.Layout.{lists, parse}
use Rattle.rules.specs.Rows.{taken, refers_to}
use Rattle.rules.proofs.Catalog.{stored-named}
use Rattle.rules.proofs.Lists.{any-ext}
use Rattle.rules.proofs.Tests.{name-is}
use Rattle.laid.specs.Store.{LaidStore}
use Rattle.laid.specs.Column.{column_at}
use Rattle.laid.specs.Row.{no_column, table_in, column_in}
use Rattle.checks.specs.Asked.{table_with, indexed_at}
use Rattle.walks.specs.Referring.{holds, shown}
use Rattle.laid.proofs.Stores.{held-state}
use Rattle.laid.proofs.Columns.{columns_of, columns-few, column-nth}
use Rattle.checks.proofs.Fitting.{rec-bytes, table_is}
use Rattle.laid.proofs.RowFacts.{own_key, table-held, start-name, start-key}

-- a reference to n is asked first: x says whether column c, which is d, has it; y what a search answers
module _ (n : Name) (c d : Column) (e : c ≡ d) (x : Bool) (ex : x ≡ refers_to n c) (y : Bool) where
  pub searched-not : x ≡ false → x ≡ (refers_to n d && y)
  searched-not h = rw (← e, ← ex, h)

  pub searched-by : x ≡ true → y ≡ (refers_to n d && y)
  searched-by h = rw (← e, ← ex, h)

-- ---- a column of a stored table

-- one is found where one passes
found-any : {A : Type 0} (q : A → Bool) (xs : List A) → is_some (find q xs) ≡ any q xs
found-any q [] = refl
found-any q (x ∷ xs) = by-test (q x) (found-any q xs)
  where
    by-test : (b : Bool) → is_some (find q xs) ≡ any q xs → is_some (cond b (some x) (find q xs)) ≡ (b || any q xs)
    by-test true e = refl
    by-test false e = e

module _ (p : Profile) (R : ℕ) (s : List ℕ) (b : LaidStore p R s) (t : ℕ) (h : t < length (parse p R s).tables) (j : ℕ) (l : j < length (table_in p R s t).columns)
    (rec : List ℕ) (er : rec ≡ get_or (lists p R s).schemas t []) where
  abbrev T : Table
  T = table_in p R s t

  abbrev rows : List Row
  rows = (parse p R s).rows

  column-among : j < length (columns_of p rec)
  column-among = subst (λ (x : Table). j < length x.columns) (table_is p R s t b h rec er) l

  pub column-below : j < p.columns
  column-below = omega (arith, column-among, columns-few p rec (rec-bytes p R s t b h rec er))

  pub column-small : j < 256
  column-small = omega (arith, column-below, b.coded.known.columns)

  column-there : nth T.columns j ≡ some (column_at p rec j)
  column-there = ap (λ (x : Table). nth x.columns j) (table_is p R s t b h rec er) ∙ column-nth p rec (rec-bytes p R s t b h rec er) j column-among

  module _ (c : Column) (ec : c ≡ column_at p rec j) where
    pub column-is : c ≡ column_in p R s t j
    unfolding column_in
    column-is = ec ∙ sym (ap (λ (o : Option Column). or_default o no_column) column-there)

    module _ (n : Name) (en : n ≡ read_name rec) where
      named : n ≡ T.name
      named = en ∙ start-name p R s b t h rec er

      pub column-indexed : c.index ≡ true → indexed_at (parse p R s).tables n j ≡ true
      unfolding maybe
      column-indexed i =
          let f : table_named (parse p R s).tables n ≡ some T = ap (table_named (parse p R s).tables) named ∙ stored-named (parse p R s).tables (held-state p R s b).tables-sorted T (table-held p R s b t h) in
          ap (λ (o : Option Table). or_default (map (λ (x : Column). x.index) (nth (maybe o [] (λ y. y.columns)) j)) false) f
          ∙ ap (λ (o : Option Column). or_default (map (λ (x : Column). x.index) o) false) column-there
          ∙ ap (λ (x : Column). x.index) (sym ec) ∙ i

      module _ (v : Value) where
        by_index : (x : Bool) → c.index ≡ x → (y : Bool) → eqb j T.key ≡ y → shown rows T j (column_in p R s t j) v ≡ cond (x || y) (holds rows T.name j v) true
        unfolding shown
        by_index x e y f =
            ap (λ (i : Bool). cond (i || eqb j T.key) (holds rows T.name j v) true) (ap (λ (k : Column). k.index) (sym column-is) ∙ e)
            ∙ ap (λ (i : Bool). cond (x || i) (holds rows T.name j v) true) f

        pub shown-indexed : c.index ≡ true → (key : Value) (r : Bool) → r ≡ taken rows (table_with n 0) false key j v → r ≡ shown rows T j (column_in p R s t j) v
        shown-indexed i key r e =
            e
            ∙ any-ext (λ x. of_table n x && same (cell_at x.cells j) v && not (false && same x.key key)) (λ x. of_table n x && same (cell_at x.cells j) v) rows (λ x m. and-true (of_table n x && same (cell_at x.cells j) v))
            ∙ ap (λ (m : Name). holds rows m j v) named
            ∙ sym (by_index true i (eqb j T.key) refl)

        module _ (i : c.index ≡ false) where
          pub shown-key : j ≡ get_or rec name_width 0 → (r : Bool) → r ≡ has_row rows n v → r ≡ shown rows T j (column_in p R s t j) v
          shown-key k r e =
              e
              ∙ ap (λ (m : Name). has_row rows m v) named
              ∙ found-any (is_row T.name v) rows
              ∙ any-ext (is_row T.name v) (λ x. of_table T.name x && same (cell_at x.cells j) v) rows (λ x m. by-test x m (of_table T.name x) refl)
              ∙ sym (by_index false i true (eq-eqb j T.key (k ∙ start-key p R s b t h rec er)))
            where
              by-test : (x : Row) → In x rows → (o : Bool) → of_table T.name x ≡ o → (o && same x.key v) ≡ (o && same (cell_at x.cells j) v)
              by-test x m false f = refl
              by-test x m true f =
                  ap (λ (w : Value). same w v)
                  (sym (ap (cell_at x.cells) (k ∙ start-key p R s b t h rec er) ∙ own_key p R (parse p R s) (held-state p R s b) T (table-held p R s b t h) x m (name-is x.table T.name f) b.coded.known))

          pub shown-other : (j ≡ get_or rec name_width 0 → ⊥) → true ≡ shown rows T j (column_in p R s t j) v
          shown-other d = sym (by_index false i false (ne_eqb j T.key (λ e. d (e ∙ sym (start-key p R s b t h rec er)))))
