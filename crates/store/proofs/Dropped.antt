-- A table dropped from a store: its index entries, its rows and its schema taken out in turn leave the state without it. Assumes nothing.
use mathlib.Core.Path.{◌≡◌, refl, sym, ap, ◌∙◌}
use mathlib.Core.Bool.{Bool, true, false, not}
use mathlib.Core.Option.{none, some, none-ne-some, some-injective}
use Prim.Native.Nat.{ℕ, ◌+◌, ◌≤◌}
use native.Mathlib.Omega.{arith}
use mathlib.Core.List.{List}
use lib.ListN.{length, length-map}
use Rattle.values.specs.Basic.{keep}
use Rattle.areas.specs.Counted.{Shrinks, shrunk}
use Rattle.areas.specs.Sorted.{remove_run}
use Rattle.areas.proofs.Changes.{remove-one}
use Rattle.areas.proofs.Placing.{rank, holds, keep-others}
use Rattle.rules.specs.declared.profile.Profile.{Profile}
use Rattle.rules.specs.Request.{Answer}
use Rattle.rules.specs.Profile.{header_width, schema_width}
use Rattle.rules.specs.State.{Name, Table, Row, State, cmp_table, is_named}
use Rattle.rules.specs.Index.{Entry}
use Rattle.rules.specs.Layout.{Laid, Schemas, Rows, Entries, in_area, tables_count, records_of, layout, image, parse, unknown}
use Rattle.rules.specs.Refusal.{UnknownTable, TableReferenced}
use Rattle.rules.specs.Request.{said, ok, no, Carried, no_carrying}
use Rattle.rules.specs.Rows.{table_referenced}
use Rattle.rules.specs.Step.{drop}
use Rattle.rules.proofs.Contents.{remove-tables}
use Rattle.rules.proofs.Groups.{index-without}
use Rattle.rules.proofs.Index.{ord_table}
use Rattle.rules.proofs.Keeps.{named-is}
use Rattle.rules.proofs.Laid.{laid-shrinks, laid-shrunk}
use Rattle.rules.proofs.Removed.{with_rows, without, drop-comes}
use Rattle.rules.proofs.Room.{indexed}
use Rattle.laid.specs.Store.{Store, Stored}
use Rattle.laid.specs.Catalog.{place_of, RunIn, RunOut}
use Rattle.walks.proofs.ByName.{entries_outside, rows_outside, run_in, run-left, entries-fall, entries-gone, rows-fall, rows-gone}
use Rattle.laid.proofs.Finding.{place_found, place-missing, no_place, place-rank}
use Rattle.store.proofs.Outcomes.{drop-unknown, drop-nothing, drop-referenced, drop-known, unchanged}
use Rattle.laid.proofs.Searching.{found-table}
use Rattle.laid.proofs.Stores.{store-valid, store_laid}

module _ {p : Profile} {R : ℕ} {s : List ℕ} (b : Store p R s) (n : Name) where
  abbrev before : State
  before = parse p R s

  abbrev few : List Entry
  few = entries_outside p b.coded.known R before (store-valid p R s b) n

  abbrev rest : List Row
  rest = rows_outside p b.coded.known R before (store-valid p R s b) n

  -- ---- refusals

  pub unknown-kept : {l : Bool} → l ≡ false → none ≡ place_of (is_named n) before.tables → (a : Answer) → said a ≡ no UnknownTable 0 → Stored p R (drop before n l) s s a
  unknown-kept {l} e f a h =
      unchanged p R s b (drop before n l) (no UnknownTable 0) (rw e (drop-unknown before n (place-missing (is_named n) before.tables (sym f)))) a h

  pub unknown-passed : {l : Bool} → l ≡ true → none ≡ place_of (is_named n) before.tables → (a : Answer) → said a ≡ ok 0 → Stored p R (drop before n l) s s a
  unknown-passed {l} e f a h =
      unchanged p R s b (drop before n l) (ok 0) (rw e (drop-nothing before n (place-missing (is_named n) before.tables (sym f)))) a h

  pub referenced-kept : (l : Bool) {i : ℕ} → some i ≡ place_of (is_named n) before.tables → (x : Carried) → some x ≡ table_referenced n before.tables
      → (a : Answer) → said a ≡ no_carrying TableReferenced 0 x → Stored p R (drop before n l) s s a
  referenced-kept l {i} f x e a h =
      unchanged p R s b (drop before n l) (no_carrying TableReferenced 0 x) (drop-referenced before n l _ (found-table p R s n i f) x (sym e)) a h

  -- ---- the three steps

  pub entries-in : RunIn p R Entries n s
  entries-in =
      run_in p R Entries n s (records_of p before (indexed before)) (store_laid p R s b) b.coded
      (entries-fall p b.coded.known R before (store-valid p R s b) n)

  module _ {s₁ : List ℕ} (o₁ : RunOut p R Entries n s s₁) where
    entries-left : Laid p R s₁ (records_of p before few)
    entries-left =
        rw (entries-gone p b.coded.known R before (store-valid p R s b) n)
        at (run-left p R Entries n s (records_of p before (indexed before)) (store_laid p R s b) s₁ o₁)

    pub rows_in : RunIn p R Rows n s₁
    rows_in = run_in p R Rows n s₁ (records_of p before few) entries-left b.coded (rows-fall p b.coded.known R before (store-valid p R s b) n few)

    module _ {s₂ : List ℕ} (o₂ : RunOut p R Rows n s₁ s₂) where
      rows_left : Laid p R s₂ (records_of p (with_rows before rest) few)
      rows_left =
          rw (rows-gone p b.coded.known R before (store-valid p R s b) n few)
          at (run-left p R Rows n s₁ (records_of p before few) entries-left s₂ o₂)

      module _ {i : ℕ} (f : some i ≡ place_of (is_named n) before.tables) {w : ℕ} (ew : w ≡ schema_width p) where
        within : i + 1 ≤ length (in_area Schemas (records_of p (with_rows before rest) few))
        unfolding records_of
        within = rw length-map (omega (arith, (place_found (is_named n) before.tables i (sym f)).0))

        pub table-shrinks : Shrinks s₂ tables_count 1 header_width p.tables w i 1
        table-shrinks = laid-shrinks p R s₂ (records_of p (with_rows before rest) few) rows_left Schemas header_width w p.tables refl ew refl i 1 within

        -- the table is held, at its rank
        is_held : (h : Bool) → holds cmp_table (unknown n) before.tables ≡ h → holds cmp_table (unknown n) before.tables ≡ true
        is_held true e = e
        is_held false e = absurd (none-ne-some i (sym (no_place (is_named n) before.tables e) ∙ sym f))

        table-gone : remove_run i 1 before.tables ≡ keep (λ t. not (is_named n t)) before.tables
        table-gone =
            let h = is_held (holds cmp_table (unknown n) before.tables) refl in
            let v = (store-valid p R s b).tables-sorted in
            let e : i ≡ rank cmp_table (unknown n) before.tables = some-injective _ _ (f ∙ place-rank ord_table (unknown n) before.tables v h) in
            ap (λ (j : ℕ). remove_run j 1 before.tables) e
            ∙ sym (keep-others ord_table (unknown n) before.tables v h ∙ remove-one (rank cmp_table (unknown n) before.tables) before.tables)

        table-left : Laid p R (shrunk tables_count 1 header_width p.tables w i 1 s₂) (records_of p (without before n) few)
        table-left =
            rw (remove-tables p (with_rows before rest) few i 1 ∙ ap (λ (ts : List Table). records_of p (record { tables = ts; rows = rest }) few) table-gone)
            at (laid-shrunk p R s₂ (records_of p (with_rows before rest) few) rows_left Schemas header_width w p.tables refl ew refl i 1 within)

        pub table-dropped : (l : Bool) → none ≡ table_referenced n before.tables
            → {s₃ : List ℕ} → s₃ ≡ shrunk tables_count 1 header_width p.tables w i 1 s₂
            → (a : Answer) → said a ≡ ok 1 → Stored p R (drop before n l) s s₃ a
        unfolding image
        table-dropped l g e a h =
            let t = found-table p R s n i f in
            let o = drop-known before n l _ t (sym g) in
            let d = drop-comes before n _ (named-is before.tables n _ t) in
            rw o
            (record {
              answer = h;
              bytes =
                  e ∙ table-left.whole
                  ∙ ap (λ (es : List Entry). layout p R (records_of p (without before n) es)) (sym (index-without n before.tables before.rows))
                  ∙ ap (image p R) (sym d);
            })
