-- Whether the store has room for what stood at a place's key. Assumes nothing.
use Prim.Native.Nat.{ℕ, suc, ◌≤◌, ◌<◌}
use native.Mathlib.Omega.{arith}
use mathlib.Core.Path.{◌≡◌, refl, sym, ◌∙◌, ap}
use mathlib.Core.Bool.{true, false, false≢true}
use mathlib.Core.List.{List}
use mathlib.Core.Option.{Option, none, some}
use lib.Dec.{eqb, leb}
use lib.ListN.{length, get_or, drop}
use borrow.Author.Tests.{le-leb, lt-leb}
use Rattle.values.specs.Basic.{insert_by, maybe}
use Rattle.areas.specs.Sorted.{Sorted}
use Rattle.areas.proofs.Sorting.{insert-length, keep-length, replace-length, find-in}
use Rattle.rules.specs.declared.profile.Profile.{Profile}
use Rattle.rules.specs.State.{Row, cmp_row, is_row, row_with}
use Rattle.rules.specs.Journal.{Event, absent, stood, finding, put, stand}
use Rattle.rules.specs.Layout.{parse, read_row}
use Rattle.rules.proofs.Tests.{is_eq}
use Rattle.rules.proofs.Lists.{length-new, eq-turn}
use Rattle.rules.proofs.Index.{ord_row}
use Rattle.rules.proofs.Valid.{LaidState}
use Rattle.rules.proofs.Removed.{at_row}
use Rattle.rules.proofs.Unwinding.{none-new}
use Rattle.laid.proofs.Stores.{held-state}
use Rattle.journal.specs.Turn.{page_at, event_at, PlaceIn}
use Rattle.journal.specs.Back.{is_stood, taken, fits}
use Rattle.journal.proofs.Turning.{event-absent, event-stood}

put-absent : (e : Event) (rs : List Row) → is_stood e ≡ false → length (put e rs) ≤ length rs
unfolding put
put-absent (absent n k) rs h = keep-length _ rs
put-absent (stood r) rs h = absurd (false≢true (sym h))

put-more : (e : Event) (rs : List Row) → length (put e rs) ≤ suc (length rs)
unfolding put
put-more (absent n k) rs = omega (arith, put-absent (absent n k) rs refl)
put-more (stood r) rs = insert-length cmp_row r rs

-- a row needs room just where none has its key
put-stood : (R : ℕ) (r : Row) (rs : List Row) → Sorted cmp_row rs → length rs ≡ R → is_stood (stand (stood r) rs) ≡ leb (length (put (stood r) rs)) R
unfolding put stand maybe
put-stood R r rs s l = go (row_with rs r.table r.key) refl
  where
    go : (o : Option Row) → row_with rs r.table r.key ≡ o → is_stood (finding r.table r.key o) ≡ leb (length (insert_by cmp_row r rs)) R
    go none e = sym (lt-leb (length (insert_by cmp_row r rs)) R (omega (arith, length-new cmp_row r rs (none-new r rs e))))
    go (some x) e =
        let q = find-in (is_row r.table r.key) rs x e in
        sym (le-leb (length (insert_by cmp_row r rs)) R (omega (arith, replace-length ord_row r x rs s q.0 (eq-turn ord_row x r (is_eq _ (at_row x r ∙ q.1))))))

module _ {p : Profile} {R : ℕ} {s j : List ℕ} {i : ℕ} (h : PlaceIn p R s j i) where
  abbrev rs : List Row
  rs = (parse p R s).rows

  abbrev e : Event
  e = event_at p (parse p R s).tables j i

  v : LaidState p R (parse p R s)
  v = held-state p R s h.batch.store

  pub fits-absent : eqb (get_or (page_at p j i) 0 0) 2 ≡ false → true ≡ fits p R s j i
  fits-absent k = sym (le-leb (length (put e rs)) R (omega (arith, put-absent e rs (ap is_stood (event-absent h k)), v.few-rows)))

  pub fits-free : length (parse p R s).rows < R → true ≡ fits p R s j i
  fits-free l = sym (le-leb (length (put e rs)) R (omega (arith, put-more e rs)))

  pub fits-taken : eqb (get_or (page_at p j i) 0 0) 2 ≡ true → R ≤ length (parse p R s).rows → taken p R s j i ≡ fits p R s j i
  fits-taken k l =
      let r : Row = read_row p (parse p R s).tables (drop 1 (page_at p j i)) in
      let g = event-stood h k in
      ap (λ (x : Event). is_stood (stand x rs)) g ∙ put-stood R r rs v.rows-sorted (omega (arith, v.few-rows)) ∙ sym (ap (λ (x : Event). leb (length (put x rs)) R) g)
