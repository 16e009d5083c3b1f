-- The parts of the soundness test are all of it: a sound store passes each, and a store of the right length that passes each is sound.
-- Assumes nothing.
use mathlib.Core.Path.{◌≡◌, sym, ap, ◌∙◌, subst}
use mathlib.Core.Bool.{Bool, true}
use mathlib.Core.List.{List, map}
use Prim.Native.Nat.{ℕ, ◌≤◌}
use native.Mathlib.Omega.{arith}
use lib.ListN.{length, length-map}
use borrow.Author.Tests.{eqb-true, eq-eqb, le-leb}
use Rattle.values.specs.Basic.{is_none}
use Rattle.values.specs.Bytes.{leqb, Bytes}
use Rattle.areas.specs.Sorted.{In, Sorted}
use Rattle.values.proofs.Scans.{leqb-refl, leqb-eq}
use Rattle.values.proofs.Cells.{read-normal}
use Rattle.areas.proofs.Sorting.{find-in}
use Rattle.rules.specs.declared.profile.Profile.{Profile}
use Rattle.rules.specs.Profile.{Known, Indexed}
use Rattle.rules.specs.State.{Table, Row, State, cmp_table, cmp_row, is_named}
use Rattle.rules.specs.Schema.{schema_fault}
use Rattle.rules.specs.Index.{cmp_entry, index_of}
use Rattle.rules.specs.Layout.{Lists, Schemas, Rows, lists, layout, records_of, table_record, read_table, row_record, read_row, entry_record, read_entry, parse, image, places_of}
use Rattle.rules.specs.Sound.{every, sorted, good_table, faultless, has_table, good_cells, right_kinds, key_defined, unique_row, references_held, laid, valid, right_length, sound}
use Rattle.rules.proofs.Tests.{and_left, and_right, and_both, all_head, all_tail, all_nil, all_cons, every-at, every_of, sorted-is, sorted_of, none_is}
use Rattle.rules.proofs.Lists.{in_map, map_back}
use Rattle.rules.proofs.Index.{AllPlain, Plain, index-sorted}
use Rattle.rules.proofs.Valid.{Valid, valid-is, valid-laid}
use Rattle.rules.proofs.Room.{table-in, table-named}
use Rattle.rules.proofs.Trip.{table-good, table-back, row_back, entry-back}
use Rattle.rules.proofs.Laid.{laid-lists}
use Rattle.rules.proofs.Whole.{sound-of, sound-valid, sound-laid, sound-index, good-row, key-is, good-entries}
use Rattle.laid.specs.Store.{Coded, Inside}
use Rattle.laid.specs.Entered.{entries_in}
use Rattle.sound.specs.Tested.{laid_out, is_table, cataloged, is_row, rowed, is_entry, entered_row, index_tested}
use Rattle.laid.proofs.Inside.{area-count}
use Rattle.sound.proofs.Lengths.{RightLength, right_is}
use Rattle.sound.proofs.LaidOut.{laid_of, inside_of, laid-tested}
use Rattle.sound.proofs.Indexed.{Rowed, its-table, of-its, index-length, index_is, entered_of, unique-of}

pub record Parts (p : Profile) (R : ℕ) (s : List ℕ) : Type 0 where
  pub laid : laid_out p R s ≡ true
  pub tables : cataloged p R s ≡ true
  pub faults : faultless (parse p R s).tables ≡ true
  pub rows : rowed p R s ≡ true
  pub links : every (references_held (parse p R s).tables (parse p R s).rows) (parse p R s).rows ≡ true
  pub index : index_tested p R s ≡ true

-- ---- tests of lists

module _ {A B : Type 0} (g : A → B) where
  every_map : (f : B → Bool) (xs : List A) → ((a : A) → In a xs → f (g a) ≡ true) → every f (map g xs) ≡ true
  every_map f xs h = every_of f (map g xs) (λ b m. let q = in_map g b xs m in ap f q.2 ∙ h q.0 q.1)

-- ---- the conjuncts of `valid`

record Conjuncts (p : Profile) (x : State) : Type 0 where
  pub good : every (good_table p) x.tables ≡ true
  pub tables : sorted cmp_table x.tables ≡ true
  pub faults : faultless x.tables ≡ true
  pub rows : sorted cmp_row x.rows ≡ true
  pub table : every (has_table x.tables) x.rows ≡ true
  pub cells : every good_cells x.rows ≡ true
  pub kinds : every (right_kinds x.tables) x.rows ≡ true
  pub defined : every key_defined x.rows ≡ true
  pub unique : every (unique_row x.tables x.rows) x.rows ≡ true
  pub links : every (references_held x.tables x.rows) x.rows ≡ true

conjuncts-is : (p : Profile) (R : ℕ) (x : State) → valid p R x ≡ true → Conjuncts p x
unfolding valid laid
conjuncts-is p R x h =
    let u = all_tail _ _ h in
    let h2 = all_tail _ _ (all_tail _ _ (all_head _ _ h)) in
    let h3 = all_tail _ _ h2 in
    let h4 = all_tail _ _ h3 in
    let h5 = all_tail _ _ h4 in
    let h6 = all_tail _ _ h5 in
    let h7 = all_tail _ _ h6 in
    let h8 = all_tail _ _ h7 in
    let h9 = all_tail _ _ h8 in
    record {
      good = all_head _ _ h2;
      tables = all_head _ _ h3;
      faults = all_head _ _ h4;
      rows = all_head _ _ h5;
      table = all_head _ _ h6;
      cells = all_head _ _ h7;
      kinds = all_head _ _ h8;
      defined = all_head _ _ h9;
      unique = all_head _ _ u;
      links = all_head _ _ (all_tail _ _ u);
    }

conjuncts-of : (p : Profile) (R : ℕ) (x : State) → length x.tables ≤ p.tables → length x.rows ≤ R → Conjuncts p x → valid p R x ≡ true
unfolding valid laid
conjuncts-of p R x l m c =
    all_cons _ _
    (all_cons _ _ (le-leb _ _ l) (all_cons _ _ (le-leb _ _ m)
    (all_cons _ _ c.good (all_cons _ _ c.tables (all_cons _ _ c.faults (all_cons _ _ c.rows (all_cons _ _ c.table
    (all_cons _ _ c.cells (all_cons _ _ c.kinds (all_cons _ _ c.defined all_nil))))))))))
    (all_cons _ _ c.unique (all_cons _ _ c.links all_nil))

-- ---- rows with their tables

rowed-of : (ts : List Table) (r : Row) → faultless ts ≡ true → has_table ts r ≡ true → Rowed ts r
unfolding has_table faultless
rowed-of ts r h k =
    let q = its-table ts r _ k in
    record {
      table = q.0;
      named = q.1;
      full = eqb-true _ _ (all_head _ _ q.2);
      faults = none_is _ (every-at (λ t. is_none (schema_fault ts t)) ts h q.0 (find-in (is_named r.table) ts q.0 q.1).0);
    }

-- ---- what is read is written back

is-table : (p : Profile) (r : List ℕ) → is_table p r ≡ true → leqb (table_record p (read_table p r)) r ≡ true
unfolding is_table
is-table p r h = and_left (leqb (table_record p (read_table p r)) r) _ h

is-row : (p : Profile) (ts : List Table) (r : List ℕ) → is_row p ts r ≡ true → leqb (row_record p (read_row p ts r)) r ≡ true
unfolding is_row
is-row p ts r h = all_head _ _ h

is-entry : (p : Profile) (r : List ℕ) → is_entry p r ≡ true → leqb (entry_record p (read_entry p r)) r ≡ true
unfolding is_entry
is-entry p r h = h

module _ (p : Profile) (R : ℕ) (s : List ℕ) where
  back-tables : ((r : List ℕ) → In r (lists p R s).schemas → table_record p (read_table p r) ≡ r) → map (table_record p) (parse p R s).tables ≡ (lists p R s).schemas
  unfolding parse
  back-tables h = map_back (read_table p) (table_record p) (lists p R s).schemas h

  back-rows : ((r : List ℕ) → In r (lists p R s).rows → row_record p (read_row p (parse p R s).tables r) ≡ r) → map (row_record p) (parse p R s).rows ≡ (lists p R s).rows
  unfolding parse
  back-rows h = map_back (read_row p (parse p R s).tables) (row_record p) (lists p R s).rows h

  back-entries : ((r : List ℕ) → In r (lists p R s).entries → entry_record p (read_entry p r) ≡ r) → map (entry_record p) (entries_in p R s) ≡ (lists p R s).entries
  unfolding entries_in
  back-entries h = map_back (read_entry p) (entry_record p) (lists p R s).entries h

  -- entries as they are read are normalised
  read_plain : AllPlain (entries_in p R s)
  unfolding entries_in read_entry
  read_plain e m =
      let q = in_map (read_entry p) e (lists p R s).entries m in
      subst Plain (sym q.2) (record { value = read-normal _; key = read-normal _ })

same_lists : {x : Lists} {a b c : List (List ℕ)} → a ≡ x.schemas → b ≡ x.rows → c ≡ x.entries → ◌≡◌ {A = Lists} (record { schemas = a; rows = b; entries = c }) x
same_lists e g h = rw (e, g, h)

module _ (p : Profile) (k : Known p) (s : List ℕ) where
  -- ---- a sound store passes each part

  module _ (i : Indexed p) (h : sound p s ≡ true) where
    abbrev R : ℕ
    R = places_of p s

    abbrev x : State
    x = parse p (places_of p s) s

    v : Valid p R x
    v = sound-valid p s h

    c : Conjuncts p x
    unfolding sound
    c = conjuncts-is p R x (all_head _ _ (all_tail _ _ (all_tail _ _ h)))

    parts-lists : lists p R s ≡ records_of p x (index_of x.tables x.rows)
    parts-lists = laid-lists p R s _ (sound-laid p s k i h)

    tables-passed : every (is_table p) (lists p R s).schemas ≡ true
    unfolding records_of is_table
    tables-passed =
        rw parts-lists
        (every_map (table_record p) (is_table p) x.tables
        (λ t m.
        let e = table-back p k.cell t (table-good p t (v.good-tables t m)) in
        rw e (and_both (leqb-refl (table_record p t)) (v.good-tables t m))))

    rows-passed : every (is_row p x.tables) (lists p R s).rows ≡ true
    unfolding records_of is_row
    rows-passed =
        rw parts-lists
        (every_map (row_record p) (is_row p x.tables) x.rows
        (λ r m.
        let w = (valid-laid v).rows r m in
        let e = row_back p k.cell r (good-row p R x (valid-laid v) r m) x.tables w.table w.named (table-named p R x (valid-laid v) r m) w.full (key-is p R x (valid-laid v) r m) in
        rw e
        (all_cons _ _ (leqb-refl (row_record p r))
        (all_cons _ _ (every-at (has_table x.tables) x.rows c.table r m)
        (all_cons _ _ (every-at good_cells x.rows c.cells r m)
        (all_cons _ _ (every-at (right_kinds x.tables) x.rows c.kinds r m)
        (all_cons _ _ (every-at key_defined x.rows c.defined r m) all_nil)))))))

    entries-passed : every (is_entry p) (lists p R s).entries ≡ true
    unfolding records_of is_entry
    entries-passed =
        rw parts-lists
        (every_map (entry_record p) (is_entry p) (index_of x.tables x.rows)
        (λ e m. rw (entry-back p k.cell e (good-entries p k R x (valid-laid v) e m)) (leqb-refl (entry_record p e))))

    ok : (r : Row) → In r x.rows → Rowed x.tables r
    ok r m =
        let w = (valid-laid v).rows r m in
        record { table = w.table; named = w.named; full = w.full; faults = v.faults w.table (table-in p R x (valid-laid v) r m) }

    index-passed : index_tested p R s ≡ true
    unfolding index_tested entries_in ok
    index-passed =
        all_cons _ _ entries-passed
        (rw (sound-index p s k i h)
        (all_cons _ _ (sorted_of cmp_entry _ (index-sorted x.tables x.rows))
        (all_cons _ _ (eq-eqb _ _ (index-length x.tables x.rows v.rows-sorted))
        (all_cons _ _
        (every_of _ x.rows (entered_of x.tables x.rows v.rows-sorted ok (λ r m. (v.rows r m).unique)))
        all_nil))))

    pub sound-parts : Parts p R s
    unfolding cataloged rowed
    sound-parts =
        record {
          laid = laid-tested p R s _ (sound-laid p s k i h);
          tables = all_cons _ _ tables-passed (all_cons _ _ c.tables all_nil);
          faults = c.faults;
          rows = all_cons _ _ rows-passed (all_cons _ _ c.rows all_nil);
          links = c.links;
          index = index-passed;
        }

  -- ---- a store that passes each is sound

  module _ (b : Bytes s) (l : right_length p s ≡ true) (t : Parts p (places_of p s) s) where
    abbrev Q : ℕ
    Q = places_of p s

    abbrev y : State
    y = parse p (places_of p s) s

    long : RightLength p s
    long = right_is p s l

    is_t : every (is_table p) (lists p Q s).schemas ≡ true
    unfolding cataloged
    is_t = all_head _ _ t.tables

    is_r : every (is_row p y.tables) (lists p Q s).rows ≡ true
    unfolding rowed
    is_r = all_head _ _ t.rows

    sorted-rows : Sorted cmp_row y.rows
    unfolding rowed
    sorted-rows = sorted-is cmp_row y.rows (all_head _ _ (all_tail _ _ t.rows))

    is_e : every (is_entry p) (lists p Q s).entries ≡ true
    unfolding index_tested
    is_e = all_head _ _ t.index

    -- a test of rows that their records pass
    row-test : (f : Row → Bool) → ((r : List ℕ) → is_row p y.tables r ≡ true → f (read_row p y.tables r) ≡ true) → every f y.rows ≡ true
    unfolding parse
    row-test f g = every_map (read_row p y.tables) f (lists p Q s).rows (λ r m. g r (every-at (is_row p y.tables) (lists p Q s).rows is_r r m))

    tabled : every (has_table y.tables) y.rows ≡ true
    unfolding is_row
    tabled = row-test (has_table y.tables) (λ r h. all_head _ _ (all_tail _ _ h))

    rows_ok : (r : Row) → In r y.rows → Rowed y.tables r
    rows_ok r m = rowed-of y.tables r t.faults (every-at (has_table y.tables) y.rows tabled r m)

    index_back : index_of y.tables y.rows ≡ entries_in p Q s
    unfolding index_tested
    index_back =
        let h1 = all_tail _ _ t.index in
        let h2 = all_tail _ _ h1 in
        index_is y.tables y.rows sorted-rows rows_ok (entries_in p Q s) (sorted-is cmp_entry (entries_in p Q s) (all_head _ _ h1)) plain
        (eqb-true _ _ (all_head _ _ h2)) (every-at (entered_row y.tables (entries_in p Q s)) y.rows (all_head _ _ (all_tail _ _ h2)))
      where
        plain : AllPlain (entries_in p Q s)
        plain = read_plain p Q s

    unique-rows : every (unique_row y.tables y.rows) y.rows ≡ true
    unfolding index_tested unique_row
    unique-rows =
        let h3 = all_head _ _ (all_tail _ _ (all_tail _ _ (all_tail _ _ t.index))) in
        let e : (r : Row) → In r y.rows → entered_row y.tables (index_of y.tables y.rows) r ≡ true =
        λ r m. rw index_back (every-at (entered_row y.tables (entries_in p Q s)) y.rows h3 r m)
        in
        every_of (unique_row y.tables y.rows) y.rows
        (λ r m. of-its y.tables r (rows_ok r m).table _ (rows_ok r m).named ∙ unique-of y.tables y.rows sorted-rows rows_ok e r m)

    conjuncts : Conjuncts p y
    unfolding is_row is_table cataloged rowed parse
    conjuncts =
        record {
          good = every_map (read_table p) (good_table p) (lists p Q s).schemas (λ r m. and_right (leqb _ r) _ (every-at (is_table p) (lists p Q s).schemas is_t r m));
          tables = all_head _ _ (all_tail _ _ t.tables);
          faults = t.faults;
          rows = all_head _ _ (all_tail _ _ t.rows);
          table = tabled;
          cells = row-test good_cells (λ r h. all_head _ _ (all_tail _ _ (all_tail _ _ h)));
          kinds = row-test (right_kinds y.tables) (λ r h. all_head _ _ (all_tail _ _ (all_tail _ _ (all_tail _ _ h))));
          defined = row-test key_defined (λ r h. all_head _ _ (all_tail _ _ (all_tail _ _ (all_tail _ _ (all_tail _ _ h)))));
          unique = unique-rows;
          links = t.links;
        }

    written : records_of p y (index_of y.tables y.rows) ≡ lists p Q s
    unfolding records_of
    written =
        let x = lists p Q s in
        rw index_back
        (same_lists
        (back-tables p Q s (λ r m. leqb-eq _ r (table-whole r m)))
        (back-rows p Q s (λ r m. leqb-eq _ r (row-whole r m)))
        (back-entries p Q s (λ r m. leqb-eq _ r (entry_whole r m))))
      where
        table-whole : (r : List ℕ) → In r (lists p Q s).schemas → leqb (table_record p (read_table p r)) r ≡ true
        table-whole r m = is-table p r (every-at (is_table p) (lists p Q s).schemas is_t r m)

        row-whole : (r : List ℕ) → In r (lists p Q s).rows → leqb (row_record p (read_row p y.tables r)) r ≡ true
        row-whole r m = is-row p y.tables r (every-at (is_row p y.tables) (lists p Q s).rows is_r r m)

        entry_whole : (r : List ℕ) → In r (lists p Q s).entries → leqb (entry_record p (read_entry p r)) r ≡ true
        entry_whole r m = is-entry p r (every-at (is_entry p) (lists p Q s).entries is_e r m)

    few-of : Inside p Q s → (length y.tables ≤ p.tables) × (length y.rows ≤ Q)
    unfolding parse
    few-of i = (
      rw (length-map (lists p Q s).schemas (read_table p)) (omega (arith, area-count p Q s Schemas, i.tables-le)),
      rw (length-map (lists p Q s).rows (read_row p y.tables)) (omega (arith, area-count p Q s Rows, i.rows-le)),
    )

    pub parts-sound : Coded p → sound p s ≡ true
    unfolding image
    parts-sound co =
        let f = few-of (inside_of p Q s long.long b co long.most t.laid) in
        sound-of p s
        (record {
          least = long.least;
          most = long.most;
          long = long.long;
          laid = ap (layout p Q) written ∙ sym (laid_of p Q s long.long b t.laid);
          valid = valid-is p Q y (conjuncts-of p Q y f.0 f.1 conjuncts);
        })
