-- A place turned: what the code reads of it and of its table, and what each of the four ways comes to. Assumes nothing.
use Rattle.std.specs.declared.option.Option.{Option as Found}
use Rattle.std.specs.declared.option.Option.TheVariants.{None, Some}
use Rattle.std.specs.Option.{is_some as held-some}
use Prim.Native.Nat.{ℕ, zero, suc, ◌+◌, ◌*◌, ◌≤◌, ◌<◌}
use native.Mathlib.Nat.{zero-mul}
use native.Mathlib.Omega.{arith}
use mathlib.Core.Path.{◌≡◌, refl, sym, ◌∙◌, ap}
use mathlib.Core.Bool.{Bool, true, false, not, false≢true}
use mathlib.Core.List.{List, [], ◌∷◌, ◌++◌, map}
use mathlib.Core.Option
use mathlib.Core.Option.{Option, none, some, none-ne-some, some-injective}
use lib.Dec.{eqb}
use lib.ListN.{length, get_or, take, drop, length-map, length-take, length-drop}
use lib.Seq.{drop-drop}
use Rattle.values.specs.Basic.{nth, is_some, or_default, maybe}
use Rattle.values.specs.Value.{Value, null, normalised, same}
use Rattle.values.specs.Cell.{name_width, cell_width, read_name, read_value}
use Rattle.values.specs.Area.{record_at, with_record}
use Rattle.values.specs.declared.value.Cell.{Cell}
use Rattle.values.specs.declared.value.Value.TheVariants.{Null}
use Rattle.values.specs.Meaning.{text_bytes, held, Proper, ProperCell}
use Rattle.areas.specs.Records.{Wide, records}
use Rattle.areas.specs.Sorted.{In, replace_at}
use Rattle.areas.specs.Counted.{count_at}
use Rattle.areas.proofs.Records.{length-records, get_or-records}
use Rattle.areas.proofs.Sorting.{find-in}
use Rattle.rules.specs.declared.profile.Profile.{Profile}
use Rattle.rules.specs.Profile.{row_width, Known}
use Rattle.rules.specs.State.{Name, Table, Row, State, is_named, of_table, is_row, table_named, row_with, cell_at, key_of, row_of}
use Rattle.rules.specs.Journal.{Event, absent, stood, finding, put, stand}
use Rattle.rules.specs.Layout.{image, parse, lists, read_row, read_cells, unknown}
use Rattle.rules.specs.Sound.{good_cells, good_event}
use Rattle.rules.specs.Step.{Change, added, removed, replaced, apply}
use Rattle.rules.specs.Pages.{used_at, journal_header, event_width, journal_length, event_record, read_event, open_image, journal_places}
use Rattle.rules.proofs.Tests.{all_head, all_tail, every-at, name-is, and_left, and_right}
use Rattle.rules.proofs.Lists.{map-wide, keep-ext, nth_in, nth-below}
use Rattle.rules.proofs.Trip.{canonical-cell, canonical-normal}
use Rattle.rules.proofs.Room.{key-column, few-columns}
use Rattle.rules.proofs.Valid.{LaidState, laid_of}
use Rattle.rules.proofs.Removed.{with_rows, at-found}
use Rattle.rules.proofs.Unwinding.{none-gone}
use Rattle.rules.proofs.Paged.{event-long}
use Rattle.laid.specs.Catalog.{place_of, found_at}
use Rattle.laid.specs.Row.{cells_of, ProperRow, row_in, table_in, KeyColumn, Addable, RowOf, Replaceable}
use Rattle.laid.proofs.Finding.{nth-map, nth-get_or, all-nth, place_found, place-missing}
use Rattle.laid.proofs.Keyed.{row_at}
use Rattle.laid.proofs.RowFacts.{table-there, start-key, start-count}
use Rattle.laid.proofs.Stores.{held-state}
use Rattle.journal.specs.declared.turn.Named.{Named}
use Rattle.journal.specs.Turn.{page_at, event_at, events_in, Batch, PlaceIn, NamedAt, Turned, Swapped, RowFrom}
use Rattle.journal.specs.Back.{is_stood, taken}
use Rattle.journal.proofs.Noting.{open-length, open-within, open-put}
use Rattle.journal.proofs.Flying.{cells_at}
use Rattle.journal.proofs.Events.{its-row, placed, put-laid, stand-good}

-- what stands past the end of a row
abbrev pub blank : Cell
blank = record { value = Null }

-- ---- the bytes of a place

module _ (p : Profile) (j : List ℕ) (i : ℕ) (h : journal_header + i * event_width p + event_width p ≤ length j) where
  pub page-long : length (page_at p j i) ≡ event_width p
  unfolding page_at record_at
  page-long = simp (length-take, length-drop) (omega arith)

  pub content-long : length (drop 1 (page_at p j i)) ≡ row_width p
  unfolding event_width
  content-long = rw length-drop (omega (arith, page-long))

pub page-is : (p : Profile) (j : List ℕ) (i : ℕ) {rec : List ℕ} {w : ℕ} → w ≡ event_width p → rec ≡ record_at 3 w i j → rec ≡ page_at p j i
unfolding page_at
page-is p j i ew e = e ∙ ap (λ (n : ℕ). record_at 3 n i j) ew

-- the key's cell, as the first cell behind the name
pub key-is : (page : List ℕ) (w : ℕ) {content : List ℕ} {v : Value} → content ≡ drop 1 page → v ≡ read_value (drop (name_width + 0 * w) content) → v ≡ read_value (drop (1 + name_width) page)
key-is page w {content} e f = f ∙ ap (λ (n : ℕ). read_value (drop (name_width + n) content)) (zero-mul w) ∙ rw e (ap read_value (drop-drop name_width 1 page))

-- the key's cell of a row
pub row-key : (w n k : ℕ) (page : List ℕ) {content : List ℕ} {i : ℕ} {v : Value} → cell_width ≤ w → content ≡ drop 1 page → i ≡ k → k < n → v ≡ read_value (drop (name_width + i * w) content)
    → v ≡ cell_at (read_cells w n (drop name_width (drop 1 page))) k
row-key w n k page h e g l f =
    f ∙ rw (e, g) (ap read_value (sym (drop-drop (k * w) name_width (drop 1 page)))) ∙ sym (cells_at w n k (drop name_width (drop 1 page)) h l)

pub answer-is : {r g : Found ℕ} {o : Option ℕ} → r ≡ g → found_at r ≡ o → found_at g ≡ o
answer-is e h = rw e at h

-- the cell of a row in flight
cell-held : (r : List Cell) (k : ℕ) → k < length r → held (get_or r k blank) ≡ cell_at (cells_of r) k
unfolding cells_of
cell-held r k l = sym (ap (λ (o : Option Value). or_default o null) (nth-map held r k ∙ ap (Option.map held) (nth-get_or r k blank l)))

replace-same : {A : Type 0} (xs : List A) (i : ℕ) (x : A) → nth xs i ≡ some x → replace_at i x xs ≡ xs
unfolding replace_at
replace-same {A = A} xs i x h = go xs i h
  where
    go : (l : List A) (k : ℕ) → nth l k ≡ some x → take k l ++ (x ∷ drop (suc k) l) ≡ l
    go [] k e = absurd (none-ne-some x e)
    go (y ∷ l) zero e = ap (λ (z : A). z ∷ l) (sym (some-injective y x e))
    go (y ∷ l) (suc k) e = ap (λ (z : List A). y ∷ z) (go l k e)

-- the name of a row is the one that was read, whether its table is stored or not
row-name : (p : Profile) (ts : List Table) (c : List ℕ) → (read_row p ts c).table ≡ read_name c
unfolding read_row
row-name p ts c = go (table_named ts (read_name c)) refl
  where
    go : (o : Option Table) → table_named ts (read_name c) ≡ o → (or_default o (unknown (read_name c))).name ≡ read_name c
    go none e = refl
    go (some t) e = name-is _ _ (find-in (is_named (read_name c)) ts t e).1

-- ---- an open journal beside a laid-out store

module _ {p : Profile} {R : ℕ} {s j : List ℕ} (b : Batch p R s j) where
  pub long-event : (x : Event) → good_event (parse p R s).tables x ≡ true → length (event_record p x) ≡ event_width p
  long-event x g =
      let k : Known p = b.store.coded.known in
      event-long p k.cell b.paging.coded.known.some-column (parse p R s).tables x (placed p R (parse p R s) (held-state p R s b.store) k x g)

  batch-wide : Wide (event_width p) (map (event_record p) (events_in p (parse p R s).tables j))
  batch-wide =
      let ts : List Table = (parse p R s).tables in
      map-wide (event_width p) (event_record p) (events_in p ts j) (λ x m. long-event x (every-at (good_event ts) (events_in p ts j) b.good x m))

  pub batch-long : length j ≡ journal_length p (journal_places p j)
  batch-long = ap length b.bytes ∙ open-length p (journal_places p j) b.most (events_in p (parse p R s).tables j) b.few batch-wide

  pub batch-header : journal_header ≤ length j
  unfolding journal_length
  batch-header = omega (arith, batch-long)

pub used-is : (p : Profile) (ts : List Table) (j : List ℕ) → count_at used_at 2 j ≡ length (events_in p ts j)
unfolding events_in
used-is p ts j =
    let rs : List (List ℕ) = records (event_width p) (count_at used_at 2 j) (drop journal_header j) in
    sym (length-map rs (read_event p ts) ∙ length-records (event_width p) (count_at used_at 2 j) (drop journal_header j))

-- the row that stood at place i, in flight, and as its key is read from it
pub record Flown (p : Profile) (R : ℕ) (s j : List ℕ) (i : ℕ) (r : Named) (x y : List Cell) : Type 0 where
  pub proper : ProperRow x
  pub cells : cells_of x ≡ read_cells p.cell (length (table_in p R s r.table).columns) (drop name_width (drop 1 (page_at p j i)))
  pub inside : r.column < length y
  pub key_proper : Proper (get_or y r.column blank).value
  pub key : held (get_or y r.column blank) ≡ key_of (table_in p R s r.table) (cells_of x)

-- ---- place i

module _ {p : Profile} {R : ℕ} {s j : List ℕ} {i : ℕ} (h : PlaceIn p R s j i) where
  abbrev st : State
  st = parse p R s

  abbrev ts : List Table
  ts = (parse p R s).tables

  abbrev rs : List Row
  rs = (parse p R s).rows

  abbrev es : List Event
  es = events_in p (parse p R s).tables j

  abbrev e : Event
  e = event_at p (parse p R s).tables j i

  abbrev n : Name
  n = read_name (drop 1 (page_at p j i))

  v : LaidState p R (parse p R s)
  v = held-state p R s h.batch.store

  pub turn-known : Known p
  turn-known = h.batch.store.coded.known

  pub turn-place : journal_header + i * event_width p + event_width p ≤ length j
  turn-place =
      omega (arith, ap length h.batch.bytes, open-within p (journal_places p j) h.batch.most es h.batch.few (batch-wide h.batch) i (omega (arith, h.within, h.batch.few)))

  pub at_i : nth (events_in p (parse p R s).tables j) i ≡ some (event_at p (parse p R s).tables j i)
  unfolding events_in page_at record_at
  at_i =
      let w : ℕ = event_width p in
      let c : ℕ = count_at used_at 2 j in
      let x : List ℕ = drop journal_header j in
      let l : i < c = omega (arith, h.within, length-map (records w c x) (read_event p ts), length-records w c x) in
      nth-map (read_event p ts) (records w c x) i
      ∙ ap (Option.map (read_event p ts)) (nth-get_or (records w c x) i [] (omega (arith, length-records w c x)))
      ∙ ap (λ (y : List ℕ). some (read_event p ts y)) (get_or-records w c i x l ∙ ap (take w) (drop-drop (i * w) journal_header j))

  pub turn-good : good_event (parse p R s).tables (event_at p (parse p R s).tables j i) ≡ true
  turn-good = every-at (good_event ts) es h.batch.good e (nth_in es i e at_i)

  -- ---- what a turn comes to

  turned_by : {c : Change} {x : Event} {s₁ j₁ : List ℕ} → Swapped p R s j i c x s₁ j₁ → x ≡ stand (event_at p (parse p R s).tables j i) (parse p R s).rows
      → apply c (parse p R s) ≡ with_rows (parse p R s) (put (event_at p (parse p R s).tables j i) (parse p R s).rows) → Turned p R s j i s₁ j₁
  turned_by {c} {x} y q a =
      record {
        store = y.store ∙ ap (image p R) a;
        journal =
            y.journal
            ∙ ap (with_record journal_header i (event_record p x)) h.batch.bytes
            ∙ open-put p (journal_places p j) h.batch.most es h.batch.few (batch-wide h.batch) i x (long-event h.batch x (ap (good_event ts) q ∙ stand-good p R st v e turn-good)) h.within
            ∙ ap (λ (z : Event). open_image p (journal_places p j) (replace_at i z es)) q;
      }

  turned_none : stand (event_at p (parse p R s).tables j i) (parse p R s).rows ≡ event_at p (parse p R s).tables j i
      → put (event_at p (parse p R s).tables j i) (parse p R s).rows ≡ (parse p R s).rows → Turned p R s j i s j
  turned_none q a =
      record {
        store = h.batch.store.bytes ∙ ap (λ (l : List Row). image p R (with_rows st l)) (sym a);
        journal = h.batch.bytes ∙ ap (open_image p (journal_places p j)) (sym (ap (λ (z : Event). replace_at i z es) q ∙ replace-same es i e at_i));
      }

  -- ---- the two kinds

  pub event-absent : eqb (get_or (page_at p j i) 0 0) 2 ≡ false → event_at p (parse p R s).tables j i ≡ absent (read_name (drop 1 (page_at p j i))) (read_value (drop (1 + name_width) (page_at p j i)))
  unfolding read_event
  event-absent k = rw k

  pub event-stood : eqb (get_or (page_at p j i) 0 0) 2 ≡ true → event_at p (parse p R s).tables j i ≡ stood (read_row p (parse p R s).tables (drop 1 (page_at p j i)))
  unfolding read_event
  event-stood k = rw k

  table-some : is_some (table_named (parse p R s).tables (read_name (drop 1 (page_at p j i)))) ≡ true
  unfolding good_event
  table-some = go (eqb (get_or (page_at p j i) 0 0) 2) refl
    where
      go : (b : Bool) → eqb (get_or (page_at p j i) 0 0) 2 ≡ b → is_some (table_named (parse p R s).tables (read_name (drop 1 (page_at p j i)))) ≡ true
      go false k = all_head _ _ (sym (ap (good_event ts) (event-absent k)) ∙ turn-good)
      go true k =
          let r : Row = read_row p ts (drop 1 (page_at p j i)) in
          let w = its-row p R st v r (sym (ap (good_event ts) (event-stood k)) ∙ turn-good) in
          ap (λ (m : Name). is_some (table_named ts m)) (sym (row-name p ts (drop 1 (page_at p j i)))) ∙ ap is_some w.named

  -- its table is stored
  pub table-never : {name : Name} → name ≡ read_name (drop 1 (page_at p j i)) → none ≡ place_of (is_named name) (parse p R s).tables → ⊥
  table-never {name} en f =
      absurd (false≢true (sym (ap is_some (ap (table_named ts) (sym en) ∙ place-missing (is_named name) ts (sym f))) ∙ table-some))

  pub table-known : (name : Name) (t : ℕ) → some t ≡ place_of (is_named name) (parse p R s).tables → t < length (parse p R s).tables
  table-known name t et = (place_found (is_named name) ts t (sym et)).0

  pub key-at : (name : Name) (t : ℕ) → some t ≡ place_of (is_named name) (parse p R s).tables
      → {rec : List ℕ} → rec ≡ get_or (lists p R s).schemas t [] → {column : ℕ} → column ≡ get_or rec 25 0 → column ≡ (table_in p R s t).key
  key-at name t et {rec} er ec = ec ∙ start-key p R s h.batch.store t (table-known name t et) rec er

  module _ {r : Named} (m : NamedAt p R s j i r) where
    abbrev name : Name
    name = text_bytes r.name

    abbrev t : Table
    t = table_in p R s r.table

    pub named-known : r.table < length (parse p R s).tables
    named-known = table-known name r.table m.found

    table_is : table_named (parse p R s).tables (text_bytes r.name) ≡ some (table_in p R s r.table)
    table_is = sym (place_found (is_named name) ts r.table (sym m.found)).1 ∙ table-there p R s r.table named-known

    its-name : (table_in p R s r.table).name ≡ text_bytes r.name
    its-name = name-is _ _ (find-in (is_named name) ts t table_is).1

    table-in : In (table_in p R s r.table) (parse p R s).tables
    table-in = (find-in (is_named name) ts t table_is).0

    pub columns-few : length (table_in p R s r.table).columns ≤ p.columns
    columns-few = few-columns p R st v t table-in

    pub key-less : r.column < length (table_in p R s r.table).columns
    key-less =
        let k = key-column ts t (v.faults t table-in) in
        rw m.key (nth-below t.columns t.key k.column k.is)

    pub key-found : KeyColumn p R s (text_bytes r.name) r.column
    key-found =
        record {
          inside = omega (arith, key-less, columns-few);
          is = λ u f. m.key ∙ ap (λ (x : Table). x.key) (some-injective t u (sym table_is ∙ f));
        }

    -- the row at place k has a key
    module _ (key : Value) {k : ℕ} (ek : some k ≡ place_of (is_row (text_bytes r.name) key) (parse p R s).rows) where
      stored : k < length (parse p R s).rows
      stored = (place_found (is_row name key) rs k (sym ek)).0

      row-found : row_with (parse p R s).rows (text_bytes r.name) key ≡ some (row_in p R s k)
      row-found = sym (place_found (is_row name key) rs k (sym ek)).1 ∙ row_at p R s h.batch.store k stored

      is-it : is_row (text_bytes r.name) key (row_in p R s k) ≡ true
      is-it = (find-in (is_row name key) rs (row_in p R s k) row-found).1

      pub row-its : RowOf p R s r.table k
      row-its = record { known = named-known; stored = stored; of = name-is _ _ (and_left _ _ is-it) ∙ sym its-name }

    -- ---- nothing stood there

    module _ (kind : eqb (get_or (page_at p j i) 0 0) 2 ≡ false) {key : Value} (ey : key ≡ read_value (drop (1 + name_width) (page_at p j i))) where
      e-is : event_at p (parse p R s).tables j i ≡ absent (text_bytes r.name) key
      e-is = event-absent kind ∙ rw (m.name, ey)

      -- nor does now
      pub absent_none : none ≡ place_of (is_row (text_bytes r.name) key) (parse p R s).rows → Turned p R s j i s j
      unfolding put stand maybe
      absent_none f =
          let g = place-missing (is_row name key) rs (sym f) in
          turned_none (ap (λ (x : Event). stand x rs) e-is ∙ ap (finding name key) g ∙ sym e-is) (ap (λ (x : Event). put x rs) e-is ∙ none-gone name key rs g)

      -- a row does now
      pub absent-row : {k : ℕ} → some k ≡ place_of (is_row (text_bytes r.name) key) (parse p R s).rows
          → {s₁ j₁ : List ℕ} → Swapped p R s j i (removed (row_in p R s k)) (stood (row_in p R s k)) s₁ j₁ → Turned p R s j i s₁ j₁
      unfolding put stand maybe apply
      absent-row {k} ek y =
          turned_by y (sym (ap (λ (x : Event). stand x rs) e-is ∙ ap (finding name key) (row-found key ek)))
          (ap (with_rows st) (sym (ap (λ (x : Event). put x rs) e-is ∙ keep-ext _ _ rs (λ x m. ap not (sym (at-found name key x (row_in p R s k) (is-it key ek)))))))

    -- ---- a row stood there

    -- as it was read from the place
    pub flown : {rec : List ℕ} → rec ≡ get_or (lists p R s).schemas r.table [] → {count : ℕ} → count ≡ get_or rec 26 0
        → {c : List ℕ} → c ≡ drop 1 (page_at p j i) → {o : List Cell} → RowFrom p c count o → {x y : List Cell} → x ≡ o → y ≡ o → Flown p R s j i r x y
    flown {rec} er {count} en ec {o} f ex ey =
        let n : count ≡ length t.columns = en ∙ start-count p R s h.batch.store r.table named-known rec er in
        let l : r.column < length o = omega (arith, f.counted, n, key-less) in
        record {
          proper = rw ex f.proper;
          cells = rw ex (rw (ec, n) at f.cells);
          inside = rw ey l;
          key_proper = rw ey (all-nth ProperCell o r.column blank f.proper.proper l);
          key = rw (ex, ey) (cell-held o r.column l ∙ ap (cell_at (cells_of o)) m.key);
        }

    pub count-few : {rec : List ℕ} → rec ≡ get_or (lists p R s).schemas r.table [] → {count : ℕ} → count ≡ get_or rec 26 0 → count ≤ p.columns
    count-few {rec} er {count} en = omega (arith, en, start-count p R s h.batch.store r.table named-known rec er, columns-few)

    module _ (kind : eqb (get_or (page_at p j i) 0 0) 2 ≡ true) {vs : List Value}
        (f : vs ≡ read_cells p.cell (length (table_in p R s r.table).columns) (drop name_width (drop 1 (page_at p j i)))) where
      abbrev new : Row
      new = row_of (table_in p R s r.table) vs

      abbrev kv : Value
      kv = key_of (table_in p R s r.table) vs

      row-e : event_at p (parse p R s).tables j i ≡ stood (row_of (table_in p R s r.table) vs)
      unfolding read_row
      row-e =
          let q : table_named ts n ≡ some (table_in p R s r.table) = ap (table_named ts) (sym m.name) ∙ table_is in
          event-stood kind ∙ ap stood (rw (q, f))

      new-good : good_event (parse p R s).tables (stood (row_of (table_in p R s r.table) vs)) ≡ true
      new-good = sym (ap (good_event ts) row-e) ∙ turn-good

      key-normal : normalised (key_of (table_in p R s r.table) vs) ≡ key_of (table_in p R s r.table) vs
      unfolding good_cells
      key-normal =
          canonical-normal _ (canonical-cell vs (table_in p R s r.table).key (all_head _ _ (all_tail _ _ (all_tail _ _ (its-row p R st v new new-good).good))))

      new-laid : length (put (event_at p (parse p R s).tables j i) (parse p R s).rows) ≤ R → LaidState p R (with_rows (parse p R s) (put (stood (row_of (table_in p R s r.table) vs)) (parse p R s).rows))
      new-laid l = put-laid p R st v (stood new) new-good (rw row-e at l)

      put_is : with_rows (parse p R s) (put (stood (row_of (table_in p R s r.table) vs)) (parse p R s).rows) ≡ with_rows (parse p R s) (put (event_at p (parse p R s).tables j i) (parse p R s).rows)
      put_is = ap (λ (x : Event). with_rows st (put x rs)) (sym row-e)

      -- what a search for its key finds is what stands there
      stand-is : {key : Value} → key ≡ key_of (table_in p R s r.table) vs → {o : Option Row} → row_with (parse p R s).rows (text_bytes r.name) key ≡ o
          → finding (text_bytes r.name) key o ≡ stand (event_at p (parse p R s).tables j i) (parse p R s).rows
      unfolding stand
      stand-is {key} ek {o} g =
          let a : normalised kv ≡ key = key-normal ∙ sym ek in
          sym (ap (λ (x : Event). stand x rs) row-e ∙ rw (a, its-name, g))

      -- whether a row does
      pub stands : {key : Value} → key ≡ key_of (table_in p R s r.table) vs → (g : Found ℕ) → found_at g ≡ place_of (is_row (text_bytes r.name) key) (parse p R s).rows → held-some g ≡ taken p R s j i
      unfolding maybe
      stands {key} ek None g = ap is_stood (stand-is ek (place-missing (is_row name key) rs (sym g)))
      stands {key} ek (Some k) g = ap is_stood (stand-is ek (row-found key g))

      module _ {key : Value} (ek : key ≡ key_of (table_in p R s r.table) vs) where
        -- none stands there now
        module _ (g : none ≡ place_of (is_row (text_bytes r.name) key) (parse p R s).rows) where
          none-there : row_with (parse p R s).rows (table_in p R s r.table).name (key_of (table_in p R s r.table) vs) ≡ none
          none-there = rw (its-name, ← ek) (place-missing (is_row name key) rs (sym g))

          pub row-addable : length (put (event_at p (parse p R s).tables j i) (parse p R s).rows) ≤ R → Addable p R s r.table vs
          unfolding apply put
          row-addable l =
              record {
                known = named-known;
                new = ap is_some none-there;
                laid = laid_of p R _ (new-laid l);
              }

          pub row-came : {s₁ j₁ : List ℕ} → Swapped p R s j i (added (row_of (table_in p R s r.table) vs)) (absent (text_bytes r.name) key) s₁ j₁ → Turned p R s j i s₁ j₁
          unfolding apply put maybe
          row-came y = turned_by y (stand-is ek (place-missing (is_row name key) rs (sym g))) put_is

        -- another does
        module _ {k : ℕ} (g : some k ≡ place_of (is_row (text_bytes r.name) key) (parse p R s).rows) where
          pub row-replaceable : length (put (event_at p (parse p R s).tables j i) (parse p R s).rows) ≤ R → Replaceable p R s r.table k vs
          unfolding apply put
          row-replaceable l =
              record {
                row = row-its key g;
                same = rw ek at (and_right (of_table name (row_in p R s k)) (same (row_in p R s k).key key) (is-it key g));
                laid = laid_of p R _ (new-laid l);
              }

          pub row-changed : {s₁ j₁ : List ℕ}
              → Swapped p R s j i (replaced (row_in p R s k) (row_of (table_in p R s r.table) vs)) (stood (row_in p R s k)) s₁ j₁ → Turned p R s j i s₁ j₁
          unfolding apply put maybe
          row-changed y = turned_by y (stand-is ek (row-found key g)) put_is
