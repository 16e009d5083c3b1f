-- Operation 3: what its operands say, where each stands, and what it comes to, case by case. Assumes nothing.
use Rattle.std.specs.declared.result.Result.TheVariants.{Ok, Err}
use Rattle.forms.specs.declared.read.Broken.{Broken}
use Prim.Native.Nat.{ℕ, ◌+◌, ◌<◌}
use mathlib.Core.Path.{◌≡◌, sym, ap, ◌∙◌, subst}
use mathlib.Core.Bool.{true, false}
use mathlib.Core.List.{List, [], map}
use mathlib.Core.Option.{Option, none, some}
use native.Mathlib.Omega.{arith}
use lib.ListN.{length, get_or}
use Rattle.values.specs.Basic.{◌or_else◌, maybe}
use Rattle.values.specs.Meaning.{text_bytes}
use Rattle.forms.specs.Read.{Read, got, name_at, NameRead}
use Rattle.values.specs.Value.{Value}
use Rattle.values.specs.declared.value.Text.{Text}
use Rattle.rules.specs.Request.{Answer}
use Rattle.rules.specs.Refusal.{UnknownTable, MapColumn}
use Rattle.rules.specs.Refusal.{Refusal}
use Rattle.rules.specs.declared.profile.Profile.{Profile}
use Rattle.rules.specs.Request.{Request, Insert, Names, said, no}
use Rattle.rules.specs.Rows.{bad_map, fills_fault, full_row}
use Rattle.rules.specs.Schema.{first, at}
use Rattle.rules.specs.State.{Name, Table, is_named, table_named}
use Rattle.rules.specs.Step.{Outcome, refused, in_turn, insert_row, insert, act}
use Rattle.laid.specs.Catalog.{place_of}
use Rattle.laid.specs.Row.{table_in}
use Rattle.rules.specs.Journal.{Books}
use Rattle.rules.specs.Layout.{lists, parse, read_table}
use Rattle.rules.specs.Pages.{books_of}
use Rattle.journal.specs.Books.{Booked, Settled}
use Rattle.laid.proofs.Finding.{place-missing}
use Rattle.store.proofs.Settling.{left_alone}
use Rattle.mapping.specs.Got.{is_got, got_or}
use Rattle.mapping.specs.Mapped.{rows_at}
use Rattle.records.specs.Reading.{times, byte_at}
use Rattle.records.specs.Record.{values_at, map_at, insert_at}
use Rattle.operations.specs.Told.{Acted}
use Rattle.records.specs.Walked.{walked_as}
use Rattle.operations.proofs.Naming.{named-its, named-is, named_count}
use Rattle.mapping.proofs.ValuesFrom.{was-got, got-is, got-gives, parted, byte-there}
use Rattle.records.proofs.Walking.{ends}

-- ---- the operands

-- the operands, and where each ends
record InsertRead (rec : List ℕ) (at : ℕ) : Type 0 where
  name : List ℕ
  map_from : ℕ
  named : name_at rec at ≡ got name map_from
  chosen : Option (List ℕ)
  count_from : ℕ
  mapped : map_at rec map_from ≡ got chosen count_from
  inside : count_from < length rec
  rows : List (List Value)
  end : ℕ
  listed : times (values_at rec) (get_or rec count_from 0) (count_from + 1) ≡ got rows end
  all : got_or Names (insert_at rec at) ≡ Insert name chosen rows

insert-read : (rec : List ℕ) (at : ℕ) → is_got (insert_at rec at) ≡ true → InsertRead rec at
unfolding insert_at
insert-read rec at g =
    let w = was-got (insert_at rec at) g in
    let a = parted (name_at rec at) _ w.what w.end w.is in
    let b = parted (map_at rec a.next) _ w.what w.end a.then in
    let c = parted (byte_at rec b.next) _ w.what w.end b.then in
    let d = parted (times (values_at rec) c.first c.next) _ w.what w.end c.then in
    let t = byte-there rec b.next c.first c.next c.is in
    let e : w.what ≡ Insert a.first b.first d.first = cc d.then in
    record {
      name = a.first;
      map_from = a.next;
      named = a.is;
      chosen = b.first;
      count_from = b.next;
      mapped = b.is;
      inside = t.inside;
      rows = d.first;
      end = d.next;
      listed = rw (t.is, t.next) d.is;
      all = got-gives Names (insert_at rec at) w.what w.end w.is ∙ e;
    }

-- the operands at the code's own numbers: the name ends at `next`, the map at q
pub record InsertSaid (rec : List ℕ) (at : ℕ) (name : Text) (next q : ℕ) : Type 0 where
  pub inside : q < length rec
  pub rows : (n : ℕ) → n ≡ get_or rec q 0 → is_got (times (values_at rec) n (q + 1)) ≡ true
  pub asks : (n : ℕ) → n ≡ get_or rec q 0 → (m : Option (List ℕ)) → m ≡ got_or none (map_at rec next)
      → got_or Names (insert_at rec at) ≡ Insert (text_bytes name) m (rows_at rec n (q + 1))

module _ {rec : List ℕ} {at : ℕ} (g : is_got (insert_at rec at) ≡ true) {name : Text} {next : ℕ} (e : NameRead rec at (Ok (name, next))) where
  abbrev r : InsertRead rec at
  r = insert-read rec at g

  same_name : got r.name r.map_from ≡ got (text_bytes name) next
  same_name = sym r.named ∙ sym e.is

  map-there : map_at rec next ≡ got r.chosen r.count_from
  map-there = let k : r.map_from ≡ next = cc same_name in ap (map_at rec) (sym k) ∙ r.mapped

  pub map-got : is_got (map_at rec next) ≡ true
  map-got = got-is (map_at rec next) r.chosen r.count_from map-there

  map-ends : walked_as (map_at rec next) ≡ Ok r.count_from
  map-ends = ap walked_as map-there ∙ sym (ends r.chosen r.count_from)

  pub map-whole : {k : Broken} → Err k ≡ walked_as (map_at rec next) → ⊥
  map-whole {k} f = let d : Ok r.count_from ≡ Err k = sym (f ∙ map-ends) in let z : ◌≡◌ {A = ℕ} 0 1 = cc in omega arith

  module _ {q : ℕ} (f : Ok q ≡ walked_as (map_at rec next)) where
    count-is : r.count_from ≡ q
    count-is = let d : Ok r.count_from ≡ Ok q = sym (f ∙ map-ends) in cc d

    rows-there : (n : ℕ) → n ≡ get_or rec q 0 → times (values_at rec) n (q + 1) ≡ got r.rows r.end
    rows-there n en = rw (en, ← count-is) r.listed

    request-is : (n : ℕ) → n ≡ get_or rec q 0 → (m : Option (List ℕ)) → m ≡ got_or none (map_at rec next)
        → got_or Names (insert_at rec at) ≡ Insert (text_bytes name) m (rows_at rec n (q + 1))
    unfolding rows_at
    request-is n en m em =
        let e : r.name ≡ text_bytes name = cc same_name in
        r.all
        ∙ ap (λ (k : List ℕ). Insert k r.chosen r.rows) e
        ∙ ap (λ (k : Option (List ℕ)). Insert (text_bytes name) k r.rows) (sym (em ∙ got-gives none (map_at rec next) r.chosen r.count_from map-there))
        ∙ ap (Insert (text_bytes name) m) (sym (got-gives [] (times (values_at rec) n (q + 1)) r.rows r.end (rows-there n en)))

    pub insert-said : InsertSaid rec at name next q
    insert-said =
        record {
          inside = subst (λ (j : ℕ). j < length rec) count-is r.inside;
          rows = λ n en. got-is (times (values_at rec) n (q + 1)) r.rows r.end (rows-there n en);
          asks = request-is;
        }

-- ---- what it comes to

module _ (p : Profile) (R : ℕ) (b : Books) (n : Name) (m : Option (List ℕ)) (rows : List (List Value)) where
  insert-unknown : table_named b.store.tables n ≡ none → act p R b (Insert n m rows) ≡ refused (no UnknownTable 0)
  unfolding act insert maybe
  insert-unknown e = rw e

  module _ (t : Table) (e : table_named b.store.tables n ≡ some t) where
    insert-bad : bad_map (length t.columns) m ≡ true → act p R b (Insert n m rows) ≡ refused (no MapColumn 0)
    unfolding act insert maybe first at ◌or_else◌
    insert-bad k = rw (e, k)

    module _ (k : bad_map (length t.columns) m ≡ false) where
      insert-faulty : (x : Refusal × ℕ) → fills_fault t m 0 rows ≡ some x → act p R b (Insert n m rows) ≡ refused (no x.0 x.1)
      unfolding act insert maybe first at ◌or_else◌
      insert-faulty x f = rw (e, k, f)

      insert-goes : fills_fault t m 0 rows ≡ none → act p R b (Insert n m rows) ≡ in_turn (insert_row p R t) b 0 (map (full_row t m) rows)
      unfolding act insert maybe first at ◌or_else◌
      insert-goes f = rw (e, k, f)

module _ {p : Profile} {R : ℕ} {s j : List ℕ} (b : Booked p R s j) (q : Read Request) {n : Name} {m : Option (List ℕ)} {rows : List (List Value)}
    (eq : got_or Names q ≡ Insert n m rows) where
  abbrev bk : Books
  bk = books_of p R s j

  -- it is refused, and nothing is changed
  kept : (x : Refusal) (i : ℕ) → act p R bk (Insert n m rows) ≡ refused (no x i) → (a : Answer) → said a ≡ no x i → Acted p R q s j s j a
  kept x i e a h = left_alone b (act p R bk (got_or Names q)) (no x i) (ap (act p R bk) eq ∙ e) a h

  -- no table has the name
  pub acted-unknown : none ≡ place_of (is_named n) (parse p R s).tables → {a : Answer} → said a ≡ no UnknownTable 0 → Acted p R q s j s j a
  acted-unknown f {a} = kept UnknownTable 0 (insert-unknown p R bk n m rows (place-missing (is_named n) (parse p R s).tables (sym f))) a

  -- the table at place t has it
  module _ {t : ℕ} (f : some t ≡ place_of (is_named n) (parse p R s).tables) where
    abbrev T : Table
    T = table_in p R s t

    -- its record
    module _ {tab : List ℕ} (et : tab ≡ get_or (lists p R s).schemas t []) where
      as_read : read_table p tab ≡ T
      as_read = sym (named-is b.store n f et)

      counts : {c : ℕ} → c ≡ get_or tab 26 0 → bad_map c m ≡ bad_map (length T.columns) m
      counts ec = ap (λ (c : ℕ). bad_map c m) (ec ∙ named_count b.store n f et)

      pub acted-bad : {c : ℕ} → c ≡ get_or tab 26 0 → true ≡ bad_map c m → {a : Answer} → said a ≡ no MapColumn 0 → Acted p R q s j s j a
      acted-bad ec k {a} = kept MapColumn 0 (insert-bad p R bk n m rows T (named-its b.store n f) (sym (k ∙ counts ec))) a

      pub acted-fills : none ≡ fills_fault (read_table p tab) m 0 rows → fills_fault (table_in p R s t) m 0 rows ≡ none
      acted-fills e = sym (e ∙ ap (λ (x : Table). fills_fault x m 0 rows) as_read)

      module _ {c : ℕ} (ec : c ≡ get_or tab 26 0) (k : false ≡ bad_map c m) where
        mapped : bad_map (length T.columns) m ≡ false
        mapped = sym (k ∙ counts ec)

        pub acted-faulty : {x : Refusal} {i : ℕ} → some (x, i) ≡ fills_fault (read_table p tab) m 0 rows → {a : Answer} → said a ≡ no x i → Acted p R q s j s j a
        acted-faulty {x} {i} e {a} =
            kept x i
            (insert-faulty p R bk n m rows T (named-its b.store n f) mapped (x, i) (sym (e ∙ ap (λ (x : Table). fills_fault x m 0 rows) as_read))) a

        pub acted-rows : none ≡ fills_fault (read_table p tab) m 0 rows → {s₁ j₁ : List ℕ} {a : Answer}
            → Settled p R (in_turn (insert_row p R (table_in p R s t)) (books_of p R s j) 0 (map (full_row (table_in p R s t) m) rows)) s j s₁ j₁ a → Acted p R q s j s₁ j₁ a
        acted-rows e {s₁} {j₁} {a} h =
            subst (λ (o : Outcome). Settled p R o s j s₁ j₁ a) (sym (ap (act p R bk) eq ∙ insert-goes p R bk n m rows T (named-its b.store n f) mapped (acted-fills e))) h
