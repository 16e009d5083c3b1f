-- The test of the index: passed, the entries are those of the index rebuilt, and no value of a unique column stands twice; and the index rebuilt of
-- rows without such values passes it. Assumes nothing.
use mathlib.Core.Path.{◌≡◌, refl, sym, ap, ◌∙◌, subst}
use mathlib.Core.Bool.{Bool, true, false, not, ◌&&◌, cond, true≢false, false≢true}
use mathlib.Core.Logic.{◌⊎◌, inl, inr}
use mathlib.Core.List.{List, [], ◌∷◌}
use mathlib.Core.Option.{Option, none, some, map, some-injective}
use Prim.Native.Nat.Ordering.{eq}
use Prim.Native.Nat.Ordering.{gt}
use Prim.Native.Nat.Ordering.{lt}
use Prim.Native.Nat.{ℕ, suc, ◌+◌, compare, Ordering}
use native.Mathlib.Nat.{zero-add}
use native.Mathlib.Omega.{arith}
use lib.Dec.{eqb, compare_is_eq}
use lib.ListN.{length}
use borrow.Author.Tests.{eqb-true, eq-eqb, not-true, not-false}
use Rattle.values.specs.Basic.{cmp_bytes, nth, maybe, or_default, keep, any}
use Rattle.values.specs.Value.{Value, normalised, same, is_undefined, cmp_value}
use Rattle.areas.specs.Sorted.{In, Sorted}
use Rattle.values.proofs.Cells.{normalised-twice}
use Rattle.values.proofs.Orders.{self, pull, ordℕ, ord_bytes, ord_value, of_eq, same_value, exact_bytes, exactℕ, exact_value, cmp-normalised-right, eq≢lt, opp, same-exact, exact_same}
use Rattle.areas.proofs.Sorting.{in-keep, keep-in, any_false, find-in}
use Rattle.rules.specs.State.{Name, Column, Table, Row, cmp_row, is_named, table_named, cell_at, same_name}
use Rattle.rules.specs.Schema.{schema_fault, column_fault}
use Rattle.rules.specs.Rows.{exists, taken}
use Rattle.rules.specs.Index.{Entry, cmp_entry, entry_at, columns_of, entries_of, index_of}
use Rattle.rules.specs.Sound.{every_cell, of_its_table}
use Rattle.rules.proofs.Tests.{and_left, and_right, and_both, is_eq, name-is, name_of, same-normalised, or_else-none, first-none}
use Rattle.areas.proofs.Sorting.{any-in}
use Rattle.rules.proofs.Lists.{any-is, nth_in, nth-below, below-nth}
use Rattle.rules.proofs.Cells.{cell-at, cells_of, cell-there}
use Rattle.rules.proofs.Room.{column-passes}
use Rattle.rules.proofs.Index.{ord_entry, AllPlain, exact_entry, EntryOf, indexed_in, index-sorted, index_in, index-plain, in-index, entry-plain}
use Rattle.rules.proofs.Groups.{in_group, taken_is}
use Rattle.rules.proofs.IndexChanges as C
use Rattle.rules.proofs.Kept.{same-defined}
use Rattle.sound.specs.Tested.{entries_wanted, alike, place_in, stands, followed, entered_as, entered_cell, entered_row}
use Rattle.sound.proofs.Ranked.{within-is, place_of, next-behind, next-before, between}

-- ---- a test of a row's table

pub its-table : (ts : List Table) (r : Row) (f : Table → Bool) → of_its_table ts r f ≡ true → (t : Table) × (table_named ts r.table ≡ some t) × (f t ≡ true)
unfolding maybe
its-table ts r f h = go (table_named ts r.table) refl h
  where
    go : (o : Option Table) → table_named ts r.table ≡ o → maybe o false f ≡ true → (t : Table) × (table_named ts r.table ≡ some t) × (f t ≡ true)
    go none e k = absurd (false≢true k)
    go (some t) e k = (t, e, k)

pub of-its : (ts : List Table) (r : Row) (t : Table) (f : Table → Bool) → table_named ts r.table ≡ some t → of_its_table ts r f ≡ f t
unfolding maybe
of-its ts r t f e = rw e

pub found-named : (ts : List Table) (n : Name) (t : Table) → table_named ts n ≡ some t → same_name t.name n ≡ true
found-named ts n t e = (find-in (is_named n) ts t e).1

-- ---- the number of entries

wanted-is : (ts : List Table) (rs : List Row) → C.entry_count ts rs ≡ entries_wanted ts rs
unfolding entries_wanted
wanted-is ts [] = refl
wanted-is ts (r ∷ rs) = ap (λ (n : ℕ). length (entries_of ts r) + n) (wanted-is ts rs)

pub index-length : (ts : List Table) (rs : List Row) → Sorted cmp_row rs → length (index_of ts rs) ≡ entries_wanted ts rs
index-length ts rs s = C.index-length ts rs s ∙ wanted-is ts rs

-- ---- entries that agree

pub undefined-normal : (v : Value) → is_undefined (normalised v) ≡ is_undefined v
undefined-normal v = same-defined (normalised v) v (same-normalised v v ∙ ap compare_is_eq (self ord_value v))

record Alike (e x : Entry) : Type 0 where
  pub table : cmp_bytes e.table x.table ≡ eq
  pub column : compare e.column x.column ≡ eq
  pub value : cmp_value e.value x.value ≡ eq

alike_of : (e x : Entry) → Alike e x → alike e x ≡ true
alike_of e x a =
    and_both (name_of _ _ (sym (exact_bytes _ _ a.table)))
    (and_both (eq-eqb _ _ (sym (exactℕ _ _ a.column))) (exact_same _ _ (sym (exact_value _ _ a.value))))

alike_is : (e x : Entry) → alike e x ≡ true → Alike e x
alike_is e x h =
    let k = and_right (same_name x.table e.table) _ h in
    let n : e.table ≡ x.table = sym (name-is _ _ (and_left (same_name x.table e.table) _ h)) in
    record {
      table = ap (cmp_bytes e.table) (sym n) ∙ self ord_bytes e.table;
      column = of_eq _ _ (sym (eqb-true _ _ (and_left (eqb x.column e.column) _ k)));
      value = same_value _ _ (sym (same-exact _ _ (and_right (eqb x.column e.column) _ k)));
    }

-- what lies between two that agree agrees with them
alike-between : (e g f : Entry) → Alike e f → cmp_entry e g ≡ lt → cmp_entry g f ≡ lt → Alike e g
unfolding cmp_entry
alike-between e g f a h k =
    let q = between (pull (λ (x : Entry). x.table) ord_bytes) e g f _ _ a.table h k in
    let u = between (pull (λ (x : Entry). x.column) ordℕ) e g f _ _ a.column q.1 q.2 in
    let w = between (pull (λ (x : Entry). x.value) ord_value) e g f _ _ a.value u.1 u.2 in
    record { table = q.0; column = u.0; value = w.0 }

-- alike, and with the same key
same-entry : (e x : Entry) → Alike e x → same x.key e.key ≡ true → cmp_entry e x ≡ eq
unfolding cmp_entry
same-entry e x a h = rw (a.table, a.column, a.value) (same_value _ _ (sym (same-exact _ _ h)))

-- ---- the entry that follows

module _ (es : List Entry) (s : Sorted cmp_entry es) (e : Entry) (m : In e es) where
  follower : followed es e ≡ true → (g : Entry) × In g es × (cmp_entry e g ≡ lt) × Alike e g
  unfolding followed maybe
  follower h = on (nth es (suc (place_in es e))) refl h
    where
      on : (o : Option Entry) → nth es (suc (place_in es e)) ≡ o → maybe o false (alike e) ≡ true → (g : Entry) × In g es × (cmp_entry e g ≡ lt) × Alike e g
      on none q k = absurd (false≢true k)
      on (some g) q k = (g, nth_in es _ g q, next-behind ord_entry es (place_in es e) e g s (place_of ord_entry e e es s m) q, alike_is e g k)

  follows : (f : Entry) → In f es → cmp_entry e f ≡ lt → Alike e f → followed es e ≡ true
  unfolding followed maybe
  follows f n l a =
      let q = next-before ord_entry es (place_in es e) e f s (place_of ord_entry e e es s m) n l in
      let b : Alike e q.0 = on q.0 (next-behind ord_entry es (place_in es e) e q.0 s (place_of ord_entry e e es s m) q.1) q.2 in
      rw q.1 (alike_of e q.0 b)
    where
      on : (g : Entry) → cmp_entry e g ≡ lt → (g ≡ f) ⊎ (cmp_entry g f ≡ lt) → Alike e g
      on g h (inl i) = subst (Alike e) (sym i) a
      on g h (inr k) = alike-between e g f a h k

-- ---- what a schema without faults says of a column

column-rules : (ts : List Table) (t : Table) (j : ℕ) (c : Column) → schema_fault ts t ≡ none → nth t.columns j ≡ some c
    → ((eqb j t.key && c.index) ≡ false) × ((c.unique && (not c.index && not (eqb j t.key))) ≡ false)
unfolding schema_fault column_fault
column-rules ts t j c h e =
    let f : column_fault ts t j c ≡ none =
    rw zero-add at (column-passes ts t t.columns 0 j c (or_else-none _ _ (or_else-none _ _ h).1).0 e)
    in
    let f4 = (first-none _ _ _ (first-none _ _ _ (first-none _ _ _ f).1).1).1 in
    let f7 = (first-none _ _ _ (first-none _ _ _ (first-none _ _ _ (first-none _ _ _ f4).1).1).1).1 in
    ((first-none _ _ _ f4).0, (first-none _ _ _ f7).0)

indexed-not-key : (k i : Bool) → (k && i) ≡ false → i ≡ true → not k ≡ true
indexed-not-key true i h e = absurd (true≢false (sym e ∙ h))
indexed-not-key false i h e = refl

unique-indexed : (u i k : Bool) → (u && (not i && not k)) ≡ false → u ≡ true → not k ≡ true → i ≡ true
unique-indexed u true k h e f = refl
unique-indexed true false true h e f = absurd (false≢true f)
unique-indexed true false false h e f = absurd (true≢false h)
unique-indexed false false k h e f = absurd (false≢true e)

four-false : (u n d x : Bool) → (u ≡ true → n ≡ true → d ≡ true → x ≡ true → ⊥) → (u && n && d && x) ≡ false
four-false true true true true h = absurd (h refl refl refl refl)
four-false true true true false h = refl
four-false true true false x h = refl
four-false true false d x h = refl
four-false false n d x h = refl

three-false : (u d x : Bool) → (u ≡ true → d ≡ true → x ≡ true → ⊥) → (u && d && x) ≡ false
three-false true true true h = absurd (h refl refl refl)
three-false true true false h = refl
three-false true false x h = refl
three-false false d x h = refl

four-last : (u n d x : Bool) → (u && n && d && x) ≡ false → u ≡ true → n ≡ true → d ≡ true → x ≡ false
four-last true true true x h a b c = h
four-last false n d x h a b c = absurd (false≢true a)
four-last true false d x h a b c = absurd (false≢true b)
four-last true true false x h a b c = absurd (false≢true c)

three-last : (u d x : Bool) → (u && d && x) ≡ false → u ≡ true → d ≡ true → x ≡ false
three-last true true x h a b = h
three-last false d x h a b = absurd (false≢true a)
three-last true false x h a b = absurd (false≢true b)

entered-is : (es : List Entry) (r : Row) (i : ℕ) (c : Column) (v : Value) → c.index ≡ true → entered_cell es r i c v ≡ true
    → (stands es (entry_at r i) ≡ true) × ((c.unique && not (is_undefined v) && followed es (entry_at r i)) ≡ false)
unfolding entered_cell entered_as
entered-is es r i c v e h =
    let k : (stands es (entry_at r i) && not (c.unique && not (is_undefined v) && followed es (entry_at r i))) ≡ true = rw e at h in
    (and_left (stands es (entry_at r i)) _ k, not-true _ (and_right (stands es (entry_at r i)) _ k))

entered-cell : (es : List Entry) (r : Row) (i : ℕ) (c : Column) (v : Value)
    → (c.index ≡ true → (stands es (entry_at r i) ≡ true) × ((c.unique && not (is_undefined v) && followed es (entry_at r i)) ≡ false)) → entered_cell es r i c v ≡ true
unfolding entered_cell entered_as
entered-cell es r i c v h = on c.index h
  where
    on : (b : Bool) → (b ≡ true → (stands es (entry_at r i) ≡ true) × ((c.unique && not (is_undefined v) && followed es (entry_at r i)) ≡ false))
        → cond b (stands es (entry_at r i) && not (c.unique && not (is_undefined v) && followed es (entry_at r i))) true ≡ true
    on true k = and_both (k refl).0 (ap not (k refl).1)
    on false k = refl

-- ---- rows with their tables

-- a row's table is stored and has no faults, and the row has a cell for each column
pub record Rowed (ts : List Table) (r : Row) : Type 0 where
  pub table : Table
  pub named : table_named ts r.table ≡ some table
  pub full : length r.cells ≡ length table.columns
  pub faults : schema_fault ts table ≡ none

index-there : (cs : List Column) (j : ℕ) → indexed_in cs j ≡ true → (c : Column) × (nth cs j ≡ some c) × (c.index ≡ true)
index-there cs j h = on (nth cs j) refl h
  where
    on : (o : Option Column) → nth cs j ≡ o → or_default (map (λ (c : Column). c.index) o) false ≡ true → (c : Column) × (nth cs j ≡ some c) × (c.index ≡ true)
    on none e k = absurd (false≢true k)
    on (some c) e k = (c, e, k)

there-index : (cs : List Column) (j : ℕ) (c : Column) → nth cs j ≡ some c → c.index ≡ true → indexed_in cs j ≡ true
there-index cs j c e h = rw e h

columns-are : (ts : List Table) (r : Row) (w : Rowed ts r) → columns_of ts r.table ≡ w.table.columns
unfolding maybe
columns-are ts r w = rw w.named

module _ (ts : List Table) (rs : List Row) (s : Sorted cmp_row rs) (ok : (r : Row) → In r rs → Rowed ts r) where
  -- a row's cell in a column
  cell_in : (r : Row) (m : In r rs) (j : ℕ) (c : Column) → nth (ok r m).table.columns j ≡ some c → (v : Value) × (nth r.cells j ≡ some v)
  cell_in r m j c e = below-nth r.cells j (omega (arith, nth-below (ok r m).table.columns j c e, (ok r m).full))

  cells-entered : (es : List Entry) (r : Row) (m : In r rs) → entered_row ts es r ≡ true → every_cell (entered_cell es r) 0 (ok r m).table.columns r.cells ≡ true
  unfolding entered_row
  cells-entered es r m h = sym (of-its ts r (ok r m).table (λ t. every_cell (entered_cell es r) 0 t.columns r.cells) (ok r m).named) ∙ h

  -- ---- passed: the entries are the index

  pub index_is : (es : List Entry) → Sorted cmp_entry es → AllPlain es → length es ≡ entries_wanted ts rs → ((r : Row) → In r rs → entered_row ts es r ≡ true) → index_of ts rs ≡ es
  unfolding stands
  index_is es t plain l h =
      within-is ord_entry (index_of ts rs) es (index-sorted ts rs) t found (omega (arith, l, index-length ts rs s))
    where
      found : (a : Entry) → In a (index_of ts rs) → In a es
      found a m =
          let q = index_in ts rs a m in
          let r = q.0 in
          let j = q.2.column in
          let i = index-there (ok r q.1).table.columns j (subst (λ (cs : List Column). indexed_in cs j ≡ true) (columns-are ts r (ok r q.1)) q.2.indexed) in
          let v = cell_in r q.1 j i.0 i.1 in
          let w = entered-is es r j i.0 v.0 i.2 (cell-at (entered_cell es r) _ _ j i.0 v.0 (cells-entered es r q.1 (h r q.1)) i.1 v.1) in
          on a r j q.2.is (any-is (λ y. compare_is_eq (cmp_entry y (entry_at r j))) es w.0)
        where
          -- the entry that stands there is the one asked
          on : (a : Entry) (r : Row) (j : ℕ) → a ≡ entry_at r j → (x : Entry) × In x es × (compare_is_eq (cmp_entry x (entry_at r j)) ≡ true) → In a es
          on a r j e x = subst (λ (y : Entry). In y es) (exact_entry x.0 (entry_at r j) (plain x.0 x.1) (entry-plain r j) (is_eq (cmp_entry x.0 (entry_at r j)) x.2) ∙ sym e) x.1

  -- ---- the index rebuilt

  -- a row's entry in an indexed column
  indexed-at : (r : Row) (m : In r rs) (j : ℕ) (c : Column) → nth (ok r m).table.columns j ≡ some c → c.index ≡ true → indexed_in (columns_of ts r.table) j ≡ true
  indexed-at r m j c e h = subst (λ (cs : List Column). indexed_in cs j ≡ true) (sym (columns-are ts r (ok r m))) (there-index (ok r m).table.columns j c e h)

  entry_in_lem : (r : Row) (m : In r rs) (j : ℕ) (c : Column) → nth (ok r m).table.columns j ≡ some c → c.index ≡ true → In (entry_at r j) (index_of ts rs)
  entry_in_lem r m j c e h = in-index ts rs (entry_at r j) r m (record { column = j; indexed = indexed-at r m j c e h; is = refl })

  table-name : (r : Row) (m : In r rs) → (ok r m).table.name ≡ r.table
  table-name r m = name-is _ _ (found-named ts r.table (ok r m).table (ok r m).named)

  -- the entries of a row's group, as `taken` sees them
  group_at : (r : Row) (j : ℕ) (v : Value) (x : Entry) → nth r.cells j ≡ some v → in_group r.table j v x ≡ alike (entry_at r j) x
  group_at r j v x e =
      ap (λ (o : Ordering). same_name x.table r.table && (eqb x.column j && compare_is_eq o))
      (sym (cmp-normalised-right x.value v) ∙ ap (λ (u : Value). cmp_value x.value (normalised u)) (sym (cell-there r.cells j v e)))

  pub entered_of : ((r : Row) (m : In r rs) → every_cell (λ i c v. not (exists rs (ok r m).table true r.key i c v)) 0 (ok r m).table.columns r.cells ≡ true)
      → (r : Row) → In r rs → entered_row ts (index_of ts rs) r ≡ true
  unfolding entered_row stands
  entered_of u r m =
      of-its ts r (ok r m).table (λ t. every_cell (entered_cell es r) 0 t.columns r.cells) (ok r m).named
      ∙ cells_of (entered_cell es r) (ok r m).table.columns r.cells (λ j c v e f. entered-cell es r j c v (λ i. (standing j c e i, alone j c v e f i)))
    where
      es : List Entry
      es = index_of ts rs

      standing : (j : ℕ) (c : Column) → nth (ok r m).table.columns j ≡ some c → c.index ≡ true → any (λ x. compare_is_eq (cmp_entry x (entry_at r j))) es ≡ true
      standing j c e i = any-in (λ x. compare_is_eq (cmp_entry x (entry_at r j))) (entry_at r j) es (entry_in_lem r m j c e i) (ap compare_is_eq (self ord_entry (entry_at r j)))

      alone : (j : ℕ) (c : Column) (v : Value) → nth (ok r m).table.columns j ≡ some c → nth r.cells j ≡ some v → c.index ≡ true
          → (c.unique && not (is_undefined v) && followed es (entry_at r j)) ≡ false
      alone j c v e f i = three-false c.unique (not (is_undefined v)) (followed es (entry_at r j)) (λ a b h.
          let k = column-rules ts (ok r m).table j c (ok r m).faults e in
          let n = not-true (exists rs (ok r m).table true r.key j c v) (cell-at (λ i c v. not (exists rs (ok r m).table true r.key i c v)) (ok r m).table.columns r.cells j c v (u r m) e f) in
          let t : taken rs (ok r m).table true r.key j v ≡ false = four-last c.unique (not (eqb j (ok r m).table.key)) (not (is_undefined v)) (taken rs (ok r m).table true r.key j v) n a (indexed-not-key (eqb j (ok r m).table.key) c.index k.0 i) b in
          let g = follower es (index-sorted ts rs) (entry_at r j) (entry_in_lem r m j c e i) h in
          let q = sym (taken_is ts rs s r.table j v (indexed-at r m j c e i) (ok r m).table true r.key (table-name r m)) ∙ t in
          let x : not (same g.0.key r.key) ≡ false =
          any_false (λ (y : Entry). not (true && same y.key r.key)) g.0 (keep (in_group r.table j v) es) q
          (keep-in (in_group r.table j v) g.0 es g.1 (group_at r j v g.0 f ∙ alike_of _ _ g.3))
          in
          eq≢lt (sym (same-entry (entry_at r j) g.0 g.3 (key-same g.0.key (not-false _ x))) ∙ g.2))
        where
          key-same : (k : Value) → same k r.key ≡ true → same k (normalised r.key) ≡ true
          key-same k h = ap compare_is_eq (cmp-normalised-right k r.key) ∙ h

  pub unique-of : ((r : Row) → In r rs → entered_row ts (index_of ts rs) r ≡ true)
      → (r : Row) (m : In r rs) → every_cell (λ i c v. not (exists rs (ok r m).table true r.key i c v)) 0 (ok r m).table.columns r.cells ≡ true
  unique-of h r m =
      cells_of (λ i c v. not (exists rs (ok r m).table true r.key i c v)) (ok r m).table.columns r.cells
      (λ j c v e f. ap not (four-false c.unique (not (eqb j (ok r m).table.key)) (not (is_undefined v)) (taken rs (ok r m).table true r.key j v) (λ a b d t. twice j c v e f a b d t)))
    where
      es : List Entry
      es = index_of ts rs

      -- no entry of a row in a unique column with a defined value is followed by one that is alike
      last : (x : Row) (n : In x rs) (j : ℕ) (c : Column) (v : Value) → nth (ok x n).table.columns j ≡ some c → nth x.cells j ≡ some v → c.unique ≡ true → c.index ≡ true
          → not (is_undefined v) ≡ true → followed es (entry_at x j) ≡ true → ⊥
      last x n j c v e f a i d k =
          true≢false (sym k ∙ three-last c.unique (not (is_undefined v)) (followed es (entry_at x j))
          (entered-is es x j c v i (cell-at (entered_cell es x) (ok x n).table.columns x.cells j c v (cells-entered es x n (h x n)) e f)).1 a d)

      twice : (j : ℕ) (c : Column) (v : Value) → nth (ok r m).table.columns j ≡ some c → nth r.cells j ≡ some v → c.unique ≡ true → not (eqb j (ok r m).table.key) ≡ true
          → not (is_undefined v) ≡ true → taken rs (ok r m).table true r.key j v ≡ true → ⊥
      twice j c v e f a b d t =
          let k = column-rules ts (ok r m).table j c (ok r m).faults e in
          let i : c.index ≡ true = unique-indexed c.unique c.index (eqb j (ok r m).table.key) k.1 a b in
          let q = sym (taken_is ts rs s r.table j v (indexed-at r m j c e i) (ok r m).table true r.key (table-name r m)) ∙ t in
          let w = any-is (λ (y : Entry). not (true && same y.key r.key)) (keep (in_group r.table j v) es) q in
          let y = w.0 in
          let z = in-keep (in_group r.table j v) y es w.1 in
          let al : Alike (entry_at r j) y = alike_is _ _ (sym (group_at r j v y f) ∙ z.1) in
          on y z.0 al w.2 i (cmp_entry (entry_at r j) y) refl
        where
          on : (y : Entry) → In y es → Alike (entry_at r j) y → not (same y.key r.key) ≡ true → c.index ≡ true → (o : Ordering) → cmp_entry (entry_at r j) y ≡ o → ⊥
          on y n al ne i lt o = last r m j c v e f a i d (follows es (index-sorted ts rs) (entry_at r j) (entry_in_lem r m j c e i) y n o al)
          on y n al ne i eq o =
              true≢false (sym ne ∙ ap not (ap compare_is_eq (sym (cmp-normalised-right y.key r.key))
              ∙ ap (λ (x : Entry). compare_is_eq (cmp_value x.key (normalised r.key))) (sym (exact_entry (entry_at r j) y (entry-plain r j) (index-plain ts rs y n) o))
              ∙ ap compare_is_eq (self ord_value (normalised r.key))))
          on y n al ne i gt o = other (index_in ts rs y n)
            where
              back : Alike y (entry_at r j)
              back = record {
                table = ord_bytes.flip r.table y.table ∙ ap opp al.table;
                column = ordℕ.flip j y.column ∙ ap opp al.column;
                value = ord_value.flip (normalised (cell_at r.cells j)) y.value ∙ ap opp al.value;
              }

              below : cmp_entry y (entry_at r j) ≡ lt
              below = ord_entry.flip (entry_at r j) y ∙ ap opp o

              -- the other row has the same table, column and value
              other : (x : Row) × In x rs × EntryOf ts x y → ⊥
              other q =
                  let x = q.0 in
                  let tab : x.table ≡ r.table = ap (λ (u : Entry). u.table) (sym q.2.is) ∙ sym (exact_bytes _ _ al.table) in
                  let col : q.2.column ≡ j = ap (λ (u : Entry). u.column) (sym q.2.is) ∙ sym (exactℕ _ _ al.column) in
                  let is : y ≡ entry_at x j = q.2.is ∙ ap (entry_at x) col in
                  let tt' : (ok x q.1).table ≡ (ok r m).table =
                  some-injective _ _ (sym (ok x q.1).named ∙ ap (table_named ts) tab ∙ (ok r m).named)
                  in
                  let ex : nth (ok x q.1).table.columns j ≡ some c = ap (λ (u : Table). nth u.columns j) tt' ∙ e in
                  let v' = cell_in x q.1 j c ex in
                  let nv : normalised (cell_at x.cells j) ≡ normalised (cell_at r.cells j) =
                  sym (normalised-twice (cell_at x.cells j)) ∙ ap (λ (u : Entry). normalised u.value) (sym is) ∙ sym (exact_value _ _ al.value) ∙ normalised-twice (cell_at r.cells j)
                  in
                  let dv : is_undefined v'.0 ≡ is_undefined v =
                  ap is_undefined (sym (cell-there x.cells j v'.0 v'.1)) ∙ sym (undefined-normal (cell_at x.cells j)) ∙ ap is_undefined nv
                  ∙ undefined-normal (cell_at r.cells j) ∙ ap is_undefined (cell-there r.cells j v f)
                  in
                  last x q.1 j c v'.0 ex v'.1 a i (ap not dv ∙ d)
                  (subst (λ (u : Entry). followed es u ≡ true) is (follows es (index-sorted ts rs) y n (entry_at r j) (entry_in_lem r m j c e i) below back))
