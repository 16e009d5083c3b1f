-- A schema's faults as the code finds them: each column in turn from a place on, names that repeat, and the whole. Assumes nothing.
use mathlib.Core.Path.{◌≡◌, refl, sym, ap, ◌∙◌}
use mathlib.Core.Bool.{Bool, true, false, cond, ◌||◌}
use mathlib.Core.Option.{none, some}
use Prim.Native.Nat.{ℕ, zero, suc, ◌+◌, ◌≤◌, ◌<◌, Ordering}
use native.Mathlib.Numerals.{add-one}
use native.Mathlib.Omega.{arith}
use mathlib.Core.List.{List, [], ◌∷◌}
use lib.Dec.{compare_is_eq}
use lib.ListN.{length, take, drop, get_or, drop_of_length-le, length-take, length-drop}
use borrow.Author.Tests.{le-leb, lt-leb}
use Rattle.values.specs.Basic.{any, ◌or_else◌, cmp_bytes}
use Rattle.values.specs.Cell.{read_name}
use Rattle.rules.specs.declared.profile.Profile.{Profile}
use Rattle.rules.specs.Refusal.{Refusal}
use Rattle.rules.specs.Refusal.{EmptyTableName, NoColumns, KeyColumnOutOfRange, ColumnTwice}
use Rattle.rules.specs.State.{Name, same_name, Column, Table}
use Rattle.rules.specs.Layout.{read_table}
use Rattle.rules.specs.Schema.{Fault, at, first, column_fault, columns_fault, repeat_fault, schema_fault}
use Rattle.laid.specs.Column.{column_at, name_before}
use Rattle.laid.specs.Catalog.{TableBytes}
use Rattle.laid.proofs.Finding.{drop_nth, nth-take, take_nth, any_append, nil-of, not-nil}
use Rattle.laid.proofs.Columns.{columns_of, count-byte, key-byte, record-least, column-nth, column-drop}
use Rattle.checks.proofs.Faulting.{or-first, or-second}

-- two columns' names, compared as they were read
pub names-compared : (x y a b : Column) {o : Ordering} → o ≡ cmp_bytes x.name y.name → x ≡ a → y ≡ b → o ≡ cmp_bytes a.name b.name
names-compared x y a b e f g = e ∙ ap (λ (z : Column). cmp_bytes z.name y.name) f ∙ ap (λ (z : Column). cmp_bytes a.name z.name) g

module _ (p : Profile) (rec : List ℕ) where
  -- whether a column from j on and before i has the name of column i
  unfoldable pub names_from : ℕ → ℕ → Bool
  names_from i j = any (λ (c : Column). same_name (column_at p rec i).name c.name) (drop j (take i (columns_of p rec)))

  -- the names before column i, the last first
  unfoldable pub seen : ℕ → List Name
  seen zero = []
  seen (suc i) = (column_at p rec i).name ∷ seen i

  -- what repeats from column i on
  unfoldable pub repeats_from : ℕ → Fault
  repeats_from i = repeat_fault (seen i) i (drop i (columns_of p rec))

  -- the faults from column i on
  unfoldable pub faults_from : List Table → ℕ → Fault
  faults_from ts i = columns_fault ts (read_table p rec) i (drop i (columns_of p rec))

  -- ---- 18

  pub names-start : (i : ℕ) → names_from i 0 ≡ name_before p rec i
  unfolding names_from name_before
  names-start i = refl

  pub names-end : (i j : ℕ) → i ≤ j → names_from i j ≡ name_before p rec i → false ≡ name_before p rec i
  unfolding names_from
  names-end i j h e =
      let n : drop j (take i (columns_of p rec)) ≡ [] = drop_of_length-le (take i (columns_of p rec)) {i = j} (simp length-take (omega arith)) in
      rw n at e

  pub repeats-start : repeats_from 0 ≡ repeat_fault [] 0 (columns_of p rec)
  unfolding repeats_from seen
  repeats-start = refl

  pub repeats-end : (i : ℕ) → length (columns_of p rec) ≤ i → repeats_from i ≡ repeat_fault [] 0 (columns_of p rec)
      → none ≡ repeat_fault [] 0 (columns_of p rec)
  unfolding repeats_from repeat_fault
  repeats-end i h e = let n : drop i (columns_of p rec) ≡ [] = drop_of_length-le (columns_of p rec) h in rw n at e

  pub faults-start : (ts : List Table) → faults_from ts 0 ≡ columns_fault ts (read_table p rec) 0 (columns_of p rec)
  unfolding faults_from
  faults-start ts = refl

  pub faults-end : (ts : List Table) (i : ℕ) → length (columns_of p rec) ≤ i → faults_from ts i ≡ columns_fault ts (read_table p rec) 0 (columns_of p rec)
      → none ≡ columns_fault ts (read_table p rec) 0 (columns_of p rec)
  unfolding faults_from columns_fault
  faults-end ts i h e = let n : drop i (columns_of p rec) ≡ [] = drop_of_length-le (columns_of p rec) h in rw n at e

  -- the byte that counts the name's
  unnamed : get_or rec 0 0 ≡ 0 → length (read_table p rec).name ≡ 0
  unfolding read_table read_name
  unnamed z = rw z

  module _ (b : TableBytes p rec) where
    named : length (read_table p rec).name ≡ 0 → get_or rec 0 0 ≡ 0
    unfolding read_table read_name
    named e = omega (arith, simp (length-take, length-drop) at e, record-least p rec b)

    module _ (i j : ℕ) (l : j < i) (h : i < length (columns_of p rec)) (o : Ordering) (eo : o ≡ cmp_bytes (column_at p rec i).name (column_at p rec j).name) where
      names-step : names_from i j ≡ compare_is_eq o || names_from i (j + 1)
      unfolding names_from
      names-step =
          let e = nth-take (columns_of p rec) i j l ∙ column-nth p rec b j (omega arith) in
          rw (add-one, eo, drop_nth (take i (columns_of p rec)) j (column_at p rec j) e)

      pub name-repeats : compare_is_eq o ≡ true → names_from i j ≡ name_before p rec i → true ≡ name_before p rec i
      name-repeats t e = rw (names-step, t) at e

      pub name-differs : compare_is_eq o ≡ false → names_from i j ≡ name_before p rec i → names_from i (j + 1) ≡ name_before p rec i
      name-differs t e = rw (names-step, t) at e

    seen-before : (n : Name) (i : ℕ) → i ≤ length (columns_of p rec) → any (same_name n) (seen i) ≡ any (λ (c : Column). same_name n c.name) (take i (columns_of p rec))
    unfolding seen
    seen-before n zero h = refl
    seen-before n (suc i) h =
        rw (take_nth (columns_of p rec) i (column_at p rec i) (column-nth p rec b i h), any_append (λ (c : Column). same_name n c.name) (take i (columns_of p rec)) (column_at p rec i), seen-before n i (omega arith))

    module _ (i : ℕ) (h : i < length (columns_of p rec)) where
      repeats-step : repeats_from i ≡ cond (name_before p rec i) (some (ColumnTwice, i)) (repeats_from (i + 1))
      unfolding repeats_from repeat_fault seen name_before
      repeats-step =
          rw (add-one, column-drop p rec b i h, seen-before (column_at p rec i).name i (omega arith))

      pub column-repeats : (r : Bool) → r ≡ name_before p rec i → r ≡ true → repeats_from i ≡ repeat_fault [] 0 (columns_of p rec)
          → some (ColumnTwice, i) ≡ repeat_fault [] 0 (columns_of p rec)
      column-repeats r e t g = rw (repeats-step, ← e, t) at g

      pub column-new : (r : Bool) → r ≡ name_before p rec i → r ≡ false → repeats_from i ≡ repeat_fault [] 0 (columns_of p rec)
          → repeats_from (i + 1) ≡ repeat_fault [] 0 (columns_of p rec)
      column-new r e t g = rw (repeats-step, ← e, t) at g

    -- ---- 7 to 17

    module _ (ts : List Table) where
      module _ (i : ℕ) (h : i < length (columns_of p rec)) where
        faults-step : faults_from ts i ≡ at i (column_fault ts (read_table p rec) i (column_at p rec i)) or_else faults_from ts (i + 1)
        unfolding faults_from columns_fault
        faults-step = rw (add-one, column-drop p rec b i h)

        pub column-refused : (k : Refusal) → some k ≡ column_fault ts (read_table p rec) i (column_at p rec i) → faults_from ts i ≡ columns_fault ts (read_table p rec) 0 (columns_of p rec)
            → some (k, i) ≡ columns_fault ts (read_table p rec) 0 (columns_of p rec)
        unfolding at ◌or_else◌
        column-refused k e g = rw (← e) at (sym faults-step ∙ g)

        pub column-passed : none ≡ column_fault ts (read_table p rec) i (column_at p rec i) → faults_from ts i ≡ columns_fault ts (read_table p rec) 0 (columns_of p rec)
            → faults_from ts (i + 1) ≡ columns_fault ts (read_table p rec) 0 (columns_of p rec)
        unfolding at ◌or_else◌
        column-passed e g = rw (← e) at (sym faults-step ∙ g)

    -- ---- the whole

    module _ (ts : List Table) where
      pub table-unnamed : get_or rec 0 0 ≡ 0 → some (EmptyTableName, 0) ≡ schema_fault ts (read_table p rec)
      unfolding schema_fault first at ◌or_else◌
      table-unnamed z = rw (nil-of (read_table p rec).name (unnamed z))

      module _ (z : get_or rec 0 0 ≡ 0 → ⊥) where
        pub columns-none : get_or rec 26 0 ≡ 0 → some (NoColumns, 0) ≡ schema_fault ts (read_table p rec)
        unfolding schema_fault first at ◌or_else◌
        columns-none n = rw (not-nil (read_table p rec).name (λ e. z (named e)), nil-of (columns_of p rec) (sym (count-byte p rec) ∙ n))

        module _ (n : get_or rec 26 0 ≡ 0 → ⊥) where
          pub key-beyond : get_or rec 26 0 ≤ get_or rec 25 0 → some (KeyColumnOutOfRange, 0) ≡ schema_fault ts (read_table p rec)
          unfolding schema_fault first at ◌or_else◌
          key-beyond l =
              rw (
                not-nil (read_table p rec).name (λ e. z (named e)),
                not-nil (columns_of p rec) (λ e. n (count-byte p rec ∙ e)),
                le-leb (length (columns_of p rec)) (read_table p rec).key (omega (arith, count-byte p rec, key-byte p rec)),
              )

          module _ (l : get_or rec 25 0 < get_or rec 26 0) where
            past-table : schema_fault ts (read_table p rec) ≡ columns_fault ts (read_table p rec) 0 (columns_of p rec) or_else repeat_fault [] 0 (columns_of p rec)
            unfolding schema_fault first at ◌or_else◌
            past-table =
                rw (
                  not-nil (read_table p rec).name (λ e. z (named e)),
                  not-nil (columns_of p rec) (λ e. n (count-byte p rec ∙ e)),
                  lt-leb (length (columns_of p rec)) (read_table p rec).key (omega (arith, count-byte p rec, key-byte p rec)),
                )

            pub columns-refuse : (x : Refusal × ℕ) → some x ≡ columns_fault ts (read_table p rec) 0 (columns_of p rec) → some x ≡ schema_fault ts (read_table p rec)
            columns-refuse x e = rw past-table (or-first x _ _ e)

            pub repeats-decide : none ≡ columns_fault ts (read_table p rec) 0 (columns_of p rec) → (o : Fault) → o ≡ repeat_fault [] 0 (columns_of p rec) → o ≡ schema_fault ts (read_table p rec)
            repeats-decide e o f = rw past-table (or-second o _ _ e f)
