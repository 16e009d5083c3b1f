-- A table created in a store: its record put in at its rank makes the image of the state with it. Assumes nothing.
use mathlib.Core.Path.{◌≡◌, refl, sym, ap, ◌∙◌}
use mathlib.Core.Bool.{Bool, true, false, true≢false}
use Rattle.std.specs.Option as O
use Rattle.std.specs.declared.option.Option.{Option as Held}
use Rattle.std.specs.declared.option.Option.TheVariants.{None, Some}
use mathlib.Core.Option.{Option, none, some, none-ne-some}
use Prim.Native.Nat.{ℕ, ◌+◌, ◌-◌, ◌*◌, ◌≤◌, ◌<◌}
use native.Mathlib.Omega.{arith}
use mathlib.Core.List.{List}
use lib.ListN.{length, take, drop, replicate, length-replicate}
use Rattle.values.specs.Basic.{is_lt, cmp_bytes, insert_by}
use Rattle.values.specs.Area.{with_record}
use Rattle.values.specs.Cell.{read_name}
use Rattle.areas.specs.Counted.{count_at, Grows, grown}
use Rattle.areas.specs.Records.{records}
use Rattle.areas.specs.Sorted.{In, count_of, insert_at, replace_at}
use Rattle.areas.proofs.Changes.{length-insert-at, replace-insert}
use Rattle.areas.proofs.Placing.{rank, holds, insert-new}
use Rattle.areas.proofs.Sorting.{find_none}
use Rattle.rules.specs.declared.profile.Profile.{Profile}
use Rattle.rules.specs.Request.{Answer}
use Rattle.rules.specs.Refusal.{Refusal, TableExists, TablesFull}
use Rattle.rules.specs.Profile.{header_width, schema_width}
use Rattle.rules.specs.State.{Name, same_name, Table, Row, State, cmp_table, is_named, table_named}
use Rattle.rules.specs.Index.{Entry}
use Rattle.rules.specs.Layout.{Lists, Laid, Schemas, in_area, with_area, tables_count, read_table, records_of, layout, image, parse}
use Rattle.rules.specs.Request.{said, ok, no}
use Rattle.rules.specs.Schema.{schema_fault}
use Rattle.rules.specs.Step.{apply_all, apply, create}
use Rattle.rules.proofs.Contents.{insert-table}
use Rattle.rules.proofs.Groups.{index-created}
use Rattle.rules.proofs.Index.{ord_table}
use Rattle.rules.proofs.Laid.{laid-count, laid-within, laid-grows, laid-grown, laid-replaced}
use Rattle.rules.proofs.Lists.{any_none}
use Rattle.rules.proofs.Room.{indexed}
use Rattle.rules.proofs.Tests.{name-is}
use Rattle.laid.specs.Store.{Store, Stored}
use Rattle.laid.specs.Catalog.{TableBytes, before, place_of, found_at, RunIn}
use Rattle.walks.proofs.ByName.{run_in, tables-fall, tables-ranked}
use Rattle.laid.proofs.Finding.{place-missing}
use Rattle.store.proofs.Outcomes.{create-known, create-faulty, create-full, create-new, unchanged}
use Rattle.laid.proofs.Runs.{run-ranked, run-place}
use Rattle.laid.proofs.Searching.{tables-count, found-table}
use Rattle.laid.proofs.Stores.{store-valid, store_laid, store-lists}

-- a place, or none, as the code has it
pub place-given : (r : Held ℕ) {o : Option ℕ} → found_at r ≡ o → O.is_some r ≡ true → (i : ℕ) × (some i ≡ o)
place-given None e h = absurd (true≢false (sym h))
place-given (Some i) e h = (i, e)

pub none-given : (r : Held ℕ) {o : Option ℕ} → found_at r ≡ o → O.is_some r ≡ false → none ≡ o
none-given None e h = e
none-given (Some i) e h = absurd (true≢false h)

module _ {p : Profile} {R : ℕ} {s : List ℕ} (b : Store p R s) {rec : List ℕ} (k : TableBytes p rec) {n : Name} (en : n ≡ read_name rec) where
  abbrev now : State
  now = parse p R s

  abbrev new : Table
  new = read_table p rec

  its-name : n ≡ new.name
  unfolding read_table
  its-name = en

  -- ---- refusals

  pub known_kept : {i : ℕ} → some i ≡ place_of (is_named n) now.tables → (a : Answer) → said a ≡ no TableExists 0 → Stored p R (create p now new) s s a
  known_kept {i} f a h =
      unchanged p R s b (create p now new) (no TableExists 0) (create-known p now new _ (ap (table_named now.tables) (sym its-name) ∙ found-table p R s n i f)) a h

  module _ (f : none ≡ place_of (is_named n) now.tables) where
    unnamed : table_named now.tables new.name ≡ none
    unnamed = ap (table_named now.tables) (sym its-name) ∙ place-missing (is_named n) now.tables (sym f)

    pub faulty-kept : (k : Refusal) (i : ℕ) → some (k, i) ≡ schema_fault now.tables new → (a : Answer) → said a ≡ no k i → Stored p R (create p now new) s s a
    faulty-kept k i e a h = unchanged p R s b (create p now new) (no k i) (create-faulty p now new unnamed k i (sym e)) a h

    pub full-kept : none ≡ schema_fault now.tables new → {count : ℕ} → count ≡ count_at tables_count 1 s → p.tables ≤ count
        → (a : Answer) → said a ≡ no TablesFull 0 → Stored p R (create p now new) s s a
    full-kept g ec l a h = unchanged p R s b (create p now new) (no TablesFull 0) (create-full p now new unnamed (sym g) (omega (arith, ec, tables-count p R s))) a h

-- ---- a table that is taken: its place among the others

pub schemas-in : (p : Profile) (R : ℕ) (s : List ℕ) → Store p R s → (n : Name) → RunIn p R Schemas n s
schemas-in p R s b n =
    let st = parse p R s in
    run_in p R Schemas n s (records_of p st (indexed st)) (store_laid p R s b) b.coded (tables-fall p b.coded.known R st (store-valid p R s b) n (indexed st))

-- what the code has at hand there: the name n, the count of tables, a record's width w and the place i
pub record Taken (p : Profile) (R : ℕ) (s rec : List ℕ) (n : Name) (count w i : ℕ) : Type 0 where
  pub store : Store p R s
  pub table : TableBytes p rec
  pub named : n ≡ read_name rec
  pub missing : none ≡ place_of (is_named n) (parse p R s).tables
  pub faultless : none ≡ schema_fault (parse p R s).tables (read_table p rec)
  pub counted : count ≡ count_at tables_count 1 s
  pub room : count < p.tables
  pub width : w ≡ schema_width p
  pub place : i ≡ count_of (before n) (records w count (take (length s - header_width) (drop header_width s)))

pub taken : {p : Profile} {R : ℕ} {s rec : List ℕ} {n : Name} {count w i : ℕ} → Store p R s → TableBytes p rec → n ≡ read_name rec → none ≡ place_of (is_named n) (parse p R s).tables
    → none ≡ schema_fault (parse p R s).tables (read_table p rec) → count ≡ count_at tables_count 1 s → count < p.tables → w ≡ schema_width p
    → i ≡ count_of (before n) (records w count (take (length s - header_width) (drop header_width s))) → Taken p R s rec n count w i
taken b k en f g ec l ew ei =
    record { store = b; table = k; named = en; missing = f; faultless = g; counted = ec; room = l; width = ew; place = ei }

module _ {p : Profile} {R : ℕ} {s rec : List ℕ} {n : Name} {count w i : ℕ} (q : Taken p R s rec n count w i) where
  abbrev b : Store p R s
  b = q.store

  abbrev old : State
  old = parse p R s

  abbrev its : Table
  its = read_table p rec

  abbrev all : Lists
  all = records_of p old (indexed old)

  free : table_named old.tables its.name ≡ none
  free = unnamed b q.table q.named q.missing

  ranked : i ≡ rank cmp_table its old.tables
  ranked =
      run-ranked p R Schemas n s (schemas-in p R s b n) header_width w p.tables refl q.width refl count q.counted i q.place
      ∙ ap (λ (y : Lists). count_of (before n) (in_area Schemas y)) (store-lists p R s b)
      ∙ tables-ranked p b.coded.known R old (store-valid p R s b) n (indexed old)
      ∙ ap (λ (m : Name). count_of (λ (t : Table). is_lt (cmp_bytes t.name m)) old.tables) (its-name b q.table q.named)

  counted : count ≡ length (in_area Schemas all)
  counted = q.counted ∙ laid-count p R s all (store_laid p R s b) Schemas

  placed : i ≤ length (in_area Schemas all)
  placed =
      omega (arith, counted, run-place p R Schemas n s (schemas-in p R s b n) header_width w p.tables refl q.width refl count q.counted i q.place)

  pub table-grows : Grows s tables_count 1 header_width p.tables i w
  table-grows = laid-grows p R s all (store_laid p R s b) Schemas header_width w p.tables refl q.width refl i placed (omega (arith, counted, q.room))

  module _ {s₁ : List ℕ} (e₁ : s₁ ≡ grown tables_count 1 header_width p.tables i (replicate w 0) s) where
    abbrev opened : Lists
    opened = with_area Schemas (insert_at i (replicate w 0) (in_area Schemas all)) all

    open-laid : Laid p R s₁ opened
    open-laid =
        rw e₁
        (laid-grown p R s all (store_laid p R s b) Schemas header_width w p.tables refl q.width refl i (replicate w 0)
        (record { width = length-replicate w 0; at-le = placed; room = omega (arith, counted, q.room) }))

    long : length rec ≡ w
    long = q.table.long ∙ sym q.width

    pub record-fits : header_width + i * length rec + length rec ≤ length s₁
    record-fits = rw long (laid-within p R s₁ opened open-laid Schemas header_width w p.tables refl q.width refl i (omega (arith, placed, counted, q.room)))

    -- the record over the zeros
    written : insert_at i rec (in_area Schemas all) ≡ replace_at i rec (in_area Schemas opened)
    written = sym (replace-insert i rec (replicate w 0) (in_area Schemas all) placed)

    table-in : {s₂ : List ℕ} → s₂ ≡ with_record header_width i rec s₁ → Laid p R s₂ (with_area Schemas (insert_at i rec (in_area Schemas all)) all)
    unfolding with_record
    table-in e₂ =
        rw (e₂, written, long)
        (laid-replaced p R s₁ opened open-laid Schemas header_width w p.tables refl q.width refl i rec long
        (omega (arith, placed, length-insert-at i (replicate w 0) (in_area Schemas all) placed)))

    -- no table has the name, so no row is of it
    none_named : holds cmp_table its old.tables ≡ false
    none_named = any_none (is_named its.name) old.tables (λ t m. find_none (is_named its.name) t old.tables free m)

    other-table : (r : Row) → In r old.rows → same_name its.name r.table ≡ false
    other-table r m = go (same_name its.name r.table) refl
      where
        go : (c : Bool) → same_name its.name r.table ≡ c → c ≡ false
        go false e = refl
        go true e =
            absurd
            (none-ne-some _
            (sym free ∙ ap (table_named old.tables) (name-is its.name r.table e) ∙ ((store-valid p R s b).rows r m).named))

    pub table-created : {s₂ : List ℕ} → s₂ ≡ with_record header_width i rec s₁ → (a : Answer) → said a ≡ ok 0 → Stored p R (create p old its) s s₂ a
    unfolding image apply_all apply
    table-created e₂ a h =
        rw (create-new p old its free (sym q.faultless) (omega (arith, q.counted, q.room, tables-count p R s)))
        (record {
          answer = h;
          bytes =
              (table-in e₂).whole
              ∙ ap (λ (r : List ℕ). layout p R (with_area Schemas (insert_at i r (in_area Schemas all)) all)) (sym q.table.whole)
              ∙ ap (layout p R) (insert-table p old (indexed old) i its)
              ∙ ap (λ (j : ℕ). layout p R (records_of p (record { tables = insert_at j its old.tables; rows = old.rows }) (indexed old))) ranked
              ∙ ap (λ (ts : List Table). layout p R (records_of p (record { tables = ts; rows = old.rows }) (indexed old)))
              (sym (insert-new ord_table its old.tables (store-valid p R s b).tables-sorted none_named))
              ∙ ap (λ (es : List Entry). layout p R (records_of p (record { tables = insert_by cmp_table its old.tables; rows = old.rows }) es))
              (sym (index-created its old.tables old.rows other-table));
        })
