-- A table's rows in a store that is laid out: they stand in one run, from the place that a search by name finds on. Assumes nothing.
use mathlib.Core.Path.{◌≡◌, refl, sym, ap, ◌∙◌}
use Prim.Native.Nat.{ℕ, ◌+◌, ◌-◌, ◌≤◌}
use native.Mathlib.Omega.{arith}
use mathlib.Core.List.{List, map}
use lib.ListN.{length, take, drop}
use Rattle.values.specs.Basic.{cmp_bytes}
use Rattle.values.specs.Cell.{read_name}
use Rattle.areas.specs.Counted.{count_at}
use Rattle.areas.specs.Records.{records}
use Rattle.areas.specs.Sorted.{All, Sorted, count_of}
use Rattle.values.proofs.Orders.{ord_bytes}
use Rattle.areas.proofs.Runs.{run_at, run_length, run-within, keep_run}
use Rattle.rules.specs.declared.profile.Profile.{Profile}
use Rattle.rules.specs.Profile.{rows_at, row_width}
use Rattle.rules.specs.State.{Name, Row, cmp_row}
use Rattle.rules.specs.Layout.{Rows, rows_count, row_record, records_of, parse}
use Rattle.rules.proofs.Room.{indexed}
use Rattle.rules.proofs.Trip.{row-name}
use Rattle.rules.proofs.Whole.{good-row}
use Rattle.laid.specs.Store.{LaidStore}
use Rattle.laid.specs.Catalog.{run_from, before, RunIn}
use Rattle.walks.specs.Spans.{Spans}
use Rattle.walks.proofs.ByName.{all_of, row-leads, run_in}
use Rattle.laid.proofs.Keyed.{rows-laid}
use Rattle.laid.proofs.Runs.{run-falls, run-at, leading, read, run-ranked}
use Rattle.laid.proofs.Stores.{held-state, held-laid}

module _ (p : Profile) (R : ℕ) (s : List ℕ) (b : LaidStore p R s) (n : Name) where
  abbrev rows : List Row
  rows = (parse p R s).rows

  in_order : Sorted cmp_row rows
  in_order = (held-state p R s b).rows-sorted

  rows_named : All (λ (r : Row). read_name (row_record p r) ≡ r.table) rows
  rows_named = all_of _ rows (λ r m. row-name p b.coded.known.cell r (good-row p R (parse p R s) (held-state p R s b) r m))

  -- rows of tables with earlier names come first
  pub rows_run : RunIn p R Rows n s
  unfolding records_of
  rows_run =
      run_in p R Rows n s (records_of p (parse p R s) (indexed (parse p R s))) (held-laid p R s b) b.coded
      (run-falls (row_record p) (λ r. r.table) row-leads n rows in_order rows_named)

  -- the place and the length of the run, with the code's own numbers
  module _ (from w : ℕ) (ef : from ≡ rows_at p) (ew : w ≡ row_width p) (count : ℕ) (ec : count ≡ count_at rows_count 2 s)
      (i : ℕ) (ei : i ≡ count_of (before n) (records w count (take (length s - from) (drop from s))))
      (k : ℕ) (ek : k ≡ run_from n (drop i (records w count (take (length s - from) (drop from s))))) where
    pub placed : i ≡ run_at cmp_bytes (λ (r : Row). r.table) n rows
    placed =
        run-ranked p R Rows n s rows_run from w R ef ew refl count ec i ei
        ∙ ap (count_of (before n)) (rows-laid p R s b)
        ∙ run-at (row_record p) (λ r. r.table) row-leads n rows in_order rows_named

    counted : k ≡ run_length cmp_bytes (λ (r : Row). r.table) n rows
    counted =
        ek
        ∙ ap (λ (x : List (List ℕ)). run_from n (drop i x)) (read p R Rows n s rows_run from w R ef ew refl count ec ∙ rows-laid p R s b)
        ∙ ap (λ (j : ℕ). run_from n (drop j (map (row_record p) rows))) placed
        ∙ leading (row_record p) (λ r. r.table) row-leads n rows in_order rows_named

    run_inside : i + k ≤ length rows
    run_inside = rw (placed, counted) (run-within cmp_bytes (λ (r : Row). r.table) n rows)

    pub span_small : i + k ≤ 65536
    span_small = omega (arith, run_inside, (held-state p R s b).few-rows, b.places)

    pub span-is : Spans rows n (record { from = i; to = i + k })
    span-is =
        let e : k ≡ i + k - i = omega arith in
        record {
          start = omega arith;
          inside = run_inside;
          are =
              keep_run ord_bytes (λ (r : Row). r.table) row-leads n rows in_order
              ∙ ap (λ (j : ℕ). take j (drop (run_at cmp_bytes (λ (r : Row). r.table) n rows) rows)) (sym counted)
              ∙ ap (λ (j : ℕ). take k (drop j rows)) (sym placed)
              ∙ ap (λ (j : ℕ). take j (drop i rows)) e;
        }
