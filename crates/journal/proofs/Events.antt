-- Places that are good beside a laid-out store: each is read back from its bytes, and a store in which what stood there stands again is laid out.
-- Assumes nothing.
use Prim.Native.Nat.{ℕ, ◌≤◌}
use mathlib.Core.Path.{◌≡◌, refl, sym, ◌∙◌, ap, subst}
use mathlib.Core.Bool.{Bool, true, false, not}
use mathlib.Core.Logic.{◌⊎◌, inl, inr}
use mathlib.Core.List.{[], ◌∷◌}
use mathlib.Core.Option.{Option, none, some, none-ne-some}
use Prim.Native.Nat.Ordering.{eq}
use lib.ListN.{length}
use Rattle.values.specs.Basic.{is_some, maybe}
use Rattle.areas.specs.Sorted.{In}
use Rattle.areas.proofs.Sorting.{insert-sorted, keep-sorted, in-keep, in_insert, find-in}
use Rattle.rules.specs.declared.profile.Profile.{Profile}
use Rattle.rules.specs.Profile.{Known}
use Rattle.rules.specs.State.{Table, Row, State, cmp_row, is_named, is_row, table_named, row_with}
use Rattle.rules.specs.Journal.{Event, absent, stood, finding, put, stand}
use Rattle.rules.specs.Sound.{every, sorted, laid, good_cells, good_event, good_name}
use Rattle.rules.proofs.Tests.{and_both, all_head, all_tail, all_nil, all_cons, name-is}
use Rattle.rules.proofs.Trip.{table-good}
use Rattle.rules.proofs.Index.{ord_row}
use Rattle.rules.proofs.Valid.{LaidState, LaidRow, laid-is, laid_of}
use Rattle.rules.proofs.Room.{table-named}
use Rattle.rules.proofs.Removed.{with_rows}
use Rattle.rules.proofs.Whole.{good-row, key-is}
use Rattle.rules.proofs.Backed.{row-event}
use Rattle.rules.proofs.Paged.{Placed, nothing, a-row}

module _ (p : Profile) (R : ℕ) (st : State) (v : LaidState p R st) where
  -- a row that is good beside the schemas, as the only row of a store
  pub alone : (r : Row) → good_event st.tables (stood r) ≡ true → LaidState p 1 (with_rows st (r ∷ []))
  unfolding laid good_event every sorted
  alone r g =
      let h0 = laid_of p R st v in
      let h2 = all_tail _ _ (all_tail _ _ h0) in
      let h3 = all_tail _ _ h2 in
      let h4 = all_tail _ _ h3 in
      let g1 = all_tail _ _ g in
      let g2 = all_tail _ _ g1 in
      laid-is p 1 (with_rows st (r ∷ []))
      (all_cons _ _ (all_head _ _ h0)
      (all_cons _ _ refl
      (all_cons _ _ (all_head _ _ h2)
      (all_cons _ _ (all_head _ _ h3)
      (all_cons _ _ (all_head _ _ h4)
      (all_cons _ _ refl
      (all_cons _ _ (and_both (all_head _ _ g) refl)
      (all_cons _ _ (and_both (all_head _ _ g1) refl)
      (all_cons _ _ (and_both (all_head _ _ g2) refl)
      (all_cons _ _ (and_both (all_head _ _ (all_tail _ _ g2)) refl) all_nil))))))))))

  pub its-row : (r : Row) → good_event st.tables (stood r) ≡ true → LaidRow st.tables r
  its-row r g = (alone r g).rows r (inl refl)

  -- what is noted of a table that is stored
  some-table : (o : Option Table) → is_some o ≡ true → (t : Table) × (o ≡ some t)
  some-table none h = absurd (none-ne-some {A = ℕ} 0 (let z : ◌≡◌ {A = Bool} false true = h in cc))
  some-table (some t) h = (t, refl)

  pub placed : Known p → (e : Event) → good_event st.tables e ≡ true → Placed p st.tables e
  unfolding good_event
  placed k (absent n x) g =
      let q = some-table (table_named st.tables n) (all_head _ _ g) in
      let f = find-in (is_named n) st.tables q.0 q.1 in
      nothing n x (ap good_name (sym (name-is _ _ f.1)) ∙ (table-good p q.0 (v.good-tables q.0 f.0)).name) (all_head _ _ (all_tail _ _ g))
  placed k (stood r) g =
      let a = alone r g in
      let w = a.rows r (inl refl) in
      a-row r w.table (good-row p 1 (with_rows st (r ∷ [])) a r (inl refl)) w.named (table-named p 1 (with_rows st (r ∷ [])) a r (inl refl)) w.full
      (key-is p 1 (with_rows st (r ∷ [])) a r (inl refl))

  -- what stood there stands again
  pub put-laid : (e : Event) → good_event st.tables e ≡ true → length (put e st.rows) ≤ R → LaidState p R (with_rows st (put e st.rows))
  unfolding put
  put-laid (absent n k) g l =
      record {
        few-tables = v.few-tables;
        few-rows = l;
        good-tables = v.good-tables;
        tables-sorted = v.tables-sorted;
        faults = v.faults;
        rows-sorted = keep-sorted ord_row _ st.rows v.rows-sorted;
        rows = λ r m. v.rows r (in-keep (λ x. not (is_row n k x)) r st.rows m).0;
      }
  put-laid (stood x) g l =
      record {
        few-tables = v.few-tables;
        few-rows = l;
        good-tables = v.good-tables;
        tables-sorted = v.tables-sorted;
        faults = v.faults;
        rows-sorted = insert-sorted ord_row x st.rows v.rows-sorted;
        rows = λ r m. go (its-row x g) r (in_insert ord_row x r st.rows v.rows-sorted m);
      }
    where
      go : LaidRow st.tables x → (r : Row) → (r ≡ x) ⊎ (In r st.rows × (cmp_row x r ≡ eq → ⊥)) → LaidRow st.tables r
      go w r (inl e) = subst (LaidRow st.tables) (sym e) w
      go w r (inr m) = v.rows r m.0

  -- and what stood in between is good too
  pub stand-good : (e : Event) → good_event st.tables e ≡ true → good_event st.tables (stand e st.rows) ≡ true
  unfolding stand maybe good_event good_cells
  stand-good (absent n k) g = go (row_with st.rows n k) refl
    where
      go : (o : Option Row) → row_with st.rows n k ≡ o → good_event st.tables (finding n k o) ≡ true
      go none e = g
      go (some r) e = row-event p R st v r (find-in (is_row n k) st.rows r e).0
  stand-good (stood x) g = go (its-row x g) (row_with st.rows x.table x.key) refl
    where
      go : LaidRow st.tables x → (o : Option Row) → row_with st.rows x.table x.key ≡ o → good_event st.tables (finding x.table x.key o) ≡ true
      go w none e = all_cons _ _ (ap is_some w.named) (all_cons _ _ (all_head _ _ (all_tail _ _ w.good)) all_nil)
      go w (some r) e = row-event p R st v r (find-in (is_row x.table x.key) st.rows r e).0
