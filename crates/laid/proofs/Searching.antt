-- Tables of the catalog by name and by place: a search by halving over the schemas' records ends at the place of the table named, and what a
-- reference to a name is to. Assumes nothing.
use mathlib.Core.Path.{◌≡◌, refl, sym, ap, ◌∙◌}
use mathlib.Core.Bool.{true, false}
use mathlib.Core.Option
use mathlib.Core.Option.{none, some}
use Prim.Native.Nat.{ℕ, ◌-◌, ◌≤◌, ◌<◌, Ordering}
use native.Mathlib.Omega.{arith}
use mathlib.Core.List.{List, [], map}
use lib.Dec.{compare_is_eq}
use lib.ListN.{length, take, drop, get_or, length-map, get_or-map}
use Rattle.std.specs.Bool.{then_some}
use Rattle.values.specs.Basic.{is_lt, cmp_bytes, nth}
use Rattle.areas.specs.Records.{records}
use Rattle.areas.specs.Search.{cmp_named, SearchIn}
use Rattle.areas.specs.Sorted.{count_of, Falls}
use Rattle.areas.specs.Counted.{count_at}
use Rattle.values.proofs.Orders.{Ord, pull, ord_bytes}
use Rattle.areas.proofs.Halving.{count_map}
use Rattle.areas.proofs.Placing.{rank, holds, falls-sorted, holds_at, holds-past}
use Rattle.rules.specs.declared.profile.Profile.{Profile}
use Rattle.rules.specs.Profile.{header_width, schema_width}
use Rattle.rules.specs.State.{Table, cmp_table, is_named, table_named}
use Rattle.rules.specs.Layout.{lists, Schemas, tables_count, read_table, parse, unknown}
use Rattle.rules.specs.Schema.{key_kind, target_kind}
use Rattle.laid.specs.Catalog.{TableBytes, Catalog, place_of, found_at}
use Rattle.laid.proofs.Inside.{area-lists, area-count, records-within}
use Rattle.laid.proofs.Finding.{nth-map, nth-get_or, all-nth, falls-unmap, no_place, place_found, place-missing, place-rank, told_place}
use Rattle.laid.proofs.Columns.{rest}

-- ---- the catalog

ord_table : Ord cmp_table
ord_table = pull (λ (t : Table). t.name) ord_bytes

module _ (p : Profile) (R : ℕ) (s : List ℕ) where
  abbrev tables : List Table
  tables = (parse p R s).tables

  pub tables-read : tables ≡ map (read_table p) (lists p R s).schemas
  unfolding parse
  tables-read = refl

  pub tables-count : length tables ≡ count_at tables_count 1 s
  tables-count = ap length tables-read ∙ length-map (lists p R s).schemas (read_table p) ∙ area-count p R s Schemas

  module _ (c : Catalog p R s) (n : List ℕ) (count width : ℕ) (ec : count ≡ count_at tables_count 1 s) (ew : width ≡ schema_width p) where
    schemas-read : records width count (take (length s - header_width) (drop header_width s)) ≡ (lists p R s).schemas
    schemas-read = rw (rest header_width s, ec, ew) (sym (area-lists p R s Schemas))

    falls : Falls (λ r. is_lt (cmp_named r n)) (lists p R s).schemas
    unfolding cmp_named read_table
    falls = falls-unmap (read_table p) (λ t. is_lt (cmp_table t (unknown n))) (lists p R s).schemas (rw tables-read at (falls-sorted ord_table (unknown n) tables c.sorted))

    pub tables-searched : SearchIn (λ r. is_lt (cmp_named r n)) (take (length s - header_width) (drop header_width s)) count width
    tables-searched = record { inside = rw (rest header_width s, ec, ew) (records-within p R s c.inside Schemas); falls = rw schemas-read falls }

    module _ (i : ℕ) (ei : i ≡ count_of (λ r. is_lt (cmp_named r n)) (records width count (take (length s - header_width) (drop header_width s)))) where
      ranked : i ≡ rank cmp_table (unknown n) tables
      unfolding cmp_named read_table
      ranked =
          ei ∙ ap (count_of (λ r. is_lt (cmp_named r n))) schemas-read
          ∙ sym (ap (rank cmp_table (unknown n)) tables-read ∙ count_map (read_table p) (λ t. is_lt (cmp_table t (unknown n))) (lists p R s).schemas)

      -- none is named so, and none was found
      pub table-past : count ≤ i → none ≡ place_of (is_named n) tables
      table-past h = sym (no_place (is_named n) tables (holds-past ord_table (unknown n) tables c.sorted (omega (arith, ranked, tables-count))))

      pub table-within : i < count → i < length (lists p R s).schemas
      table-within h = omega (arith, area-count p R s Schemas)

      -- the record at the place, which compares as o
      module _ (h : i < count) (r : List ℕ) (er : r ≡ get_or (lists p R s).schemas i []) (o : Ordering) (eo : o ≡ cmp_named r n) where
        at_place : holds cmp_table (unknown n) tables ≡ compare_is_eq o
        unfolding cmp_named read_table
        at_place =
            let l : rank cmp_table (unknown n) tables < length tables = omega (arith, ranked, tables-count) in
            holds_at ord_table (unknown n) (read_table p []) tables c.sorted l
            ∙ ap (λ (j : ℕ). compare_is_eq (cmp_table (get_or tables j (read_table p [])) (unknown n))) (sym ranked)
            ∙ ap (λ (t : Table). compare_is_eq (cmp_table t (unknown n))) (ap (λ (ts : List Table). get_or ts i (read_table p [])) tables-read ∙ get_or-map (read_table p) (lists p R s).schemas i [] ∙ ap (read_table p) (sym er))
            ∙ ap compare_is_eq (sym eo)

        -- it is found where it compares as the same
        pub table-told : found_at (then_some (compare_is_eq o) i) ≡ place_of (is_named n) tables
        table-told =
            told_place (is_named n) tables i (compare_is_eq o)
            (λ e. ap some ranked ∙ sym (place-rank ord_table (unknown n) tables c.sorted (at_place ∙ e)))
            (λ e. sym (no_place (is_named n) tables (at_place ∙ e)))

  -- a table by its place
  module _ (i : ℕ) (h : i < length (lists p R s).schemas) where
    pub table_at : nth tables i ≡ some (read_table p (get_or (lists p R s).schemas i []))
    table_at =
        ap (λ (ts : List Table). nth ts i) tables-read
        ∙ nth-map (read_table p) (lists p R s).schemas i
        ∙ ap (Option.map (read_table p)) (nth-get_or (lists p R s).schemas i [] h)

    pub table-bytes-at : Catalog p R s → TableBytes p (get_or (lists p R s).schemas i [])
    table-bytes-at c = all-nth (TableBytes p) (lists p R s).schemas i [] c.records h

  pub found_within : (n : List ℕ) (i : ℕ) → some i ≡ place_of (is_named n) tables → i < length (lists p R s).schemas
  found_within n i e =
      let l = (place_found (is_named n) tables i (sym e)).0 in
      omega (arith, tables-count, area-count p R s Schemas)

  -- the one found by its name
  pub found-table : (n : List ℕ) (i : ℕ) → some i ≡ place_of (is_named n) tables → table_named tables n ≡ some (read_table p (get_or (lists p R s).schemas i []))
  found-table n i e = sym (place_found (is_named n) tables i (sym e)).1 ∙ table_at i (found_within n i e)

  -- ---- the kind of a target's key

  module _ (t : Table) (n : List ℕ) (o : Ordering) (eo : o ≡ cmp_bytes n t.name) where
    pub target-itself : (k : ℕ) → compare_is_eq o ≡ true → k ≡ key_kind t → some k ≡ target_kind tables t n
    unfolding target_kind
    target-itself k h e = rw (← eo, h, e)

    module _ (h : compare_is_eq o ≡ false) where
      pub target-stored : (i k : ℕ) → some i ≡ place_of (is_named n) tables → k ≡ key_kind (read_table p (get_or (lists p R s).schemas i [])) → some k ≡ target_kind tables t n
      unfolding target_kind
      target-stored i k e f = rw (← eo, h, found-table n i e, f)

      pub target-missing : none ≡ place_of (is_named n) tables → none ≡ target_kind tables t n
      unfolding target_kind
      target-missing e = rw (← eo, h, place-missing (is_named n) tables (sym e))
