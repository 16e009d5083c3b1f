-- References to a table as the code looks for them: columns in turn, and tables by name. Assumes nothing.
use Rattle.std.specs.declared.option.Option.{Option as Found}
use mathlib.Core.Path.{◌≡◌, sym, ap, ◌∙◌}
use mathlib.Core.Bool.{true, false}
use mathlib.Core.Option.{Option, none, some}
use Prim.Native.Nat.{ℕ, suc, ◌+◌, ◌≤◌, ◌<◌}
use native.Mathlib.Numerals.{add-one}
use mathlib.Core.List.{List, [], ◌∷◌}
use lib.Dec.{compare_is_eq}
use lib.ListN.{length, drop, get_or, drop_of_length-le}
use Rattle.values.specs.Basic.{cmp_bytes, ◌or_else◌}
use Rattle.values.specs.Cell.{read_name}
use Rattle.areas.specs.Search.{cmp_named}
use Rattle.values.specs.Value.{null}
use Rattle.rules.specs.declared.profile.Profile.{Profile}
use Rattle.rules.specs.State.{Name, Column, Table}
use Rattle.rules.specs.Layout.{lists, read_table, parse}
use Rattle.rules.specs.Rows.{refers_to, first_reference, table_referenced}
use Rattle.laid.specs.declared.catalog.Column as D
use Rattle.laid.specs.Column.{column_of, ColumnRead}
use Rattle.laid.specs.Catalog.{TableBytes, found_at}
use Rattle.laid.proofs.Columns.{columns_of, column-drop}
use Rattle.laid.proofs.Finding.{drop_nth}
use Rattle.store.proofs.TableAt.{table-nth}

-- what is found, where an answer is known
pub answer-is : {r f : Found ℕ} {o : Option ℕ} → r ≡ f → found_at r ≡ o → found_at f ≡ o
answer-is e h = rw e at h

-- ---- the columns of a table

module _ (n : Name) (cs : List Column) (j : ℕ) (h : first_reference n 0 cs ≡ first_reference n j (drop j cs)) where
  pub no-reference : length cs ≤ j → none ≡ first_reference n 0 cs
  unfolding first_reference
  no-reference l = sym (h ∙ rw (drop_of_length-le cs l))

  module _ (c : Column) (e : drop j cs ≡ c ∷ drop (suc j) cs) where
    reference-here : refers_to n c ≡ true → some j ≡ first_reference n 0 cs
    unfolding first_reference
    reference-here t = sym (h ∙ rw (e, t))

    reference-past : refers_to n c ≡ false → first_reference n 0 cs ≡ first_reference n (j + 1) (drop (j + 1) cs)
    unfolding first_reference
    reference-past t = rw add-one (h ∙ rw (e, t))

-- the column that was read at place j
module _ (p : Profile) (rec : List ℕ) (b : TableBytes p rec) (n : Name) (j : ℕ) (h : first_reference n 0 (columns_of p rec) ≡ first_reference n j (drop j (columns_of p rec)))
    (l : j < length (columns_of p rec)) (c : D.Column) (r : ColumnRead p rec j c) where
  at_place : drop j (columns_of p rec) ≡ column_of c ∷ drop (suc j) (columns_of p rec)
  at_place = column-drop p rec b j l ∙ ap (λ (x : Column). x ∷ drop (suc j) (columns_of p rec)) (sym r.is)

  pub column-past : refers_to n (column_of c) ≡ false → first_reference n 0 (columns_of p rec) ≡ first_reference n (j + 1) (drop (j + 1) (columns_of p rec))
  column-past f = reference-past n (columns_of p rec) j h (column_of c) at_place f

  pub column-refers : refers_to n (column_of c) ≡ true → some j ≡ first_reference n 0 (columns_of p rec)
  column-refers t = reference-here n (columns_of p rec) j h (column_of c) at_place t

-- ---- the tables

module _ (n : Name) (ts : List Table) (i : ℕ) (h : table_referenced n ts ≡ table_referenced n (drop i ts)) where
  pub not-referenced : length ts ≤ i → none ≡ table_referenced n ts
  unfolding table_referenced
  not-referenced l = sym (h ∙ rw (drop_of_length-le ts l))

  module _ (t : Table) (e : drop i ts ≡ t ∷ drop (suc i) ts) where
    own-past : compare_is_eq (cmp_bytes t.name n) ≡ true → table_referenced n ts ≡ table_referenced n (drop (i + 1) ts)
    unfolding table_referenced ◌or_else◌
    own-past s = rw add-one (h ∙ rw (e, s))

    other-past : compare_is_eq (cmp_bytes t.name n) ≡ false → none ≡ first_reference n 0 t.columns → table_referenced n ts ≡ table_referenced n (drop (i + 1) ts)
    unfolding table_referenced ◌or_else◌
    other-past s f = rw add-one (h ∙ rw (e, s, ← f))

    other-here : (j : ℕ) → compare_is_eq (cmp_bytes t.name n) ≡ false → some j ≡ first_reference n 0 t.columns
        → some (record { table = t.name; column = j; key = null }) ≡ table_referenced n ts
    unfolding table_referenced ◌or_else◌
    other-here j s f = sym (h ∙ rw (e, s, ← f))

-- the table that is read from the record at place i
module _ (p : Profile) (R : ℕ) (s : List ℕ) (n : Name) (i : ℕ) (h : table_referenced n (parse p R s).tables ≡ table_referenced n (drop i (parse p R s).tables))
    (l : i < length (lists p R s).schemas) (rec : List ℕ) (er : rec ≡ get_or (lists p R s).schemas i []) where
  abbrev tables : List Table
  tables = (parse p R s).tables

  table_at : drop i tables ≡ read_table p rec ∷ drop (suc i) tables
  table_at = drop_nth tables i (read_table p rec) (table-nth p R s i l rec er)

  pub table-itself : compare_is_eq (cmp_named rec n) ≡ true → table_referenced n tables ≡ table_referenced n (drop (i + 1) tables)
  unfolding read_table cmp_named
  table-itself e = own-past n tables i h (read_table p rec) table_at e

  pub table-without : compare_is_eq (cmp_named rec n) ≡ false → none ≡ first_reference n 0 (columns_of p rec) → table_referenced n tables ≡ table_referenced n (drop (i + 1) tables)
  unfolding read_table cmp_named
  table-without e f = other-past n tables i h (read_table p rec) table_at e f

  pub table-refers : (j : ℕ) (m : Name) → compare_is_eq (cmp_named rec n) ≡ false → some j ≡ first_reference n 0 (columns_of p rec) → m ≡ read_name rec
      → some (record { table = m; column = j; key = null }) ≡ table_referenced n tables
  unfolding read_table cmp_named
  table-refers j m e f g = rw g (other-here n tables i h (read_table p rec) table_at j e f)
