-- The rows of an insert, put in one after the other: store and journal are sound after each, and what remains of them comes to what all come to.
-- Assumes nothing.
use Rattle.values.specs.declared.value.Cell.{Cell}
use Rattle.std.specs.declared.result.Result.TheVariants.{Ok, Err}
use Rattle.forms.specs.declared.read.Broken.{Broken}
use Prim.Native.Nat.{ℕ, suc, ◌+◌, ◌-◌, ◌<◌}
use mathlib.Core.Path.{◌≡◌, refl, sym, ap, ◌∙◌, subst}
use mathlib.Core.Bool.{true}
use mathlib.Core.List.{List, [], ◌∷◌, map}
use mathlib.Core.Option.{Option, none, some}
use Rattle.std.specs.declared.option.Option.{Option as Held}
use native.Mathlib.Numerals.{add-one}
use native.Mathlib.Nat.{sub-zero}
use native.Mathlib.Omega.{arith}
use lib.ListN.{length, get_or}
use Rattle.values.specs.Basic.{nth, or_default}
use Rattle.values.specs.Value.{Value}
use Rattle.rules.specs.declared.profile.Profile.{Profile}
use Rattle.rules.specs.Request.{Answer}
use Rattle.rules.specs.State.{Table}
use Rattle.rules.specs.Journal.{Books}
use Rattle.rules.specs.Pages.{books_of}
use Rattle.rules.specs.Layout.{lists, parse, read_table, unknown}
use Rattle.rules.specs.Request.{ok}
use Rattle.rules.specs.declared.answer.Refused.{Refused}
use Rattle.rules.specs.Rows.{given, fill, fill_fault, fills_fault, full_row}
use Rattle.rules.specs.Sound.{good_table}
use Rattle.rules.specs.Step.{Change, apply, apply_all, changed, Outcome, numbered, in_turn, insert_row}
use Rattle.rules.proofs.Asked.{Ready, Good}
use Rattle.rules.proofs.Keeps.{insert-keeps}
use Rattle.rules.proofs.Backed.{Right, right-keeps}
use Rattle.rules.proofs.Tests.{or_else-none, at_none, by-option}
use Rattle.laid.specs.Catalog.{TableBytes}
use Rattle.checks.specs.Keys.{values_of}
use Rattle.checks.specs.declared.keys.Values.{Values}
use Rattle.laid.specs.Row.{cells_of, ProperRow, table_in, FullRow}
use Rattle.laid.specs.Store.{Store}
use Rattle.journal.specs.Books.{Booked, Settled}
use Rattle.journal.proofs.Booking.{right_of, booked-bytes, next-are, next-booked}
use Rattle.checks.proofs.Fitting.{schema-within, rec-bytes, table_is}
use Rattle.laid.proofs.RowFacts.{table-held}
use Rattle.laid.proofs.Stores.{store-valid, laid-store}
use Rattle.store.proofs.Written.{row-ready, own-named}
use Rattle.mapping.specs.Got.{is_got}
use Rattle.mapping.specs.Mapped.{map_of, rows_at}
use Rattle.records.specs.Reading.{times}
use Rattle.records.specs.Record.{values_at}
use Rattle.records.specs.Walked.{walked_as}
use Rattle.mapping.specs.declared.executor.Map.{Map}
use Rattle.operations.specs.Counted.{Counted}
use Rattle.operations.proofs.FullRows.{values-normal, never-unfilled, full-count, full-cells, full-normal}
use Rattle.operations.proofs.InTurn.{Remains, remains-start, stored-end, stored-stops, stored_next}
use Rattle.mapping.proofs.Mapping.{RowFirst, row_first, rows_none}
use Rattle.mapping.proofs.ValuesFrom.{values-there, values-inside}
use Rattle.records.proofs.Walking.{ends}

-- ---- store and journal after a row's turn

-- the schemas stay
insert-tables : (p : Profile) (R : ℕ) (t : Table) (b : Books) (v : List Value) → (apply_all (insert_row p R t b v).changes b.store).tables ≡ b.store.tables
unfolding insert_row apply_all apply
insert-tables p R t b v = by-option (λ (o : Outcome). (apply_all o.changes b.store).tables ≡ b.store.tables) _ _ _ (λ e. refl) (λ k e. refl)

table-good : (p : Profile) (R : ℕ) (s : List ℕ) (b : Store p R s) (t : ℕ) → t < length (parse p R s).tables → good_table p (table_in p R s t) ≡ true
table-good p R s b t known = (store-valid p R s b).good-tables (table_in p R s t) (table-held p R s (laid-store p R s b) t known)

module _ (p : Profile) (R : ℕ) (s j : List ℕ) (b : Booked p R s j) (t : ℕ) (known : t < length (parse p R s).tables) (row : List Cell) (f : FullRow p R s t row) where
  abbrev bk : Books
  bk = books_of p R s j

  abbrev T : Table
  T = table_in p R s t

  abbrev cs : List Change
  cs = (insert_row p R (table_in p R s t) (books_of p R s j) (cells_of row)).changes

  next-right : Right p R (changed cs (books_of p R s j))
  next-right = (insert-keeps p R (λ n. Unit {0}) Ready (Good p) (λ e. Unit {0}) (Right p R) (right-keeps p R) T tt (cells_of row) (row-ready b f) bk (right_of b, own-named b f)).0

  module _ (i : ℕ) (s₁ j₁ : List ℕ) (a : Answer) (h : Settled p R (numbered i (insert_row p R (table_in p R s t) (books_of p R s j) (cells_of row))) s j s₁ j₁ a) where
    row-books : Booked p R s₁ j₁
    row-books = next-booked b cs next-right h.bytes

    row-are : books_of p R s₁ j₁ ≡ changed (insert_row p R (table_in p R s t) (books_of p R s j) (cells_of row)).changes (books_of p R s j)
    row-are = next-are b cs next-right h.bytes

    row-tables : (parse p R s₁).tables ≡ (parse p R s).tables
    row-tables = ap (λ (x : Books). x.store.tables) row-are ∙ insert-tables p R T bk (cells_of row)

    row-table : table_in p R s₁ t ≡ table_in p R s t
    unfolding table_in
    row-table = ap (λ (ts : List Table). or_default (nth ts t) (unknown [])) row-tables

    row-known : t < length (parse p R s₁).tables
    row-known = subst (λ (ts : List Table). t < length ts) (sym row-tables) known

-- ---- the loop: i of n rows are done, and the others are to come, from q on

-- what all rows come to
abbrev whole : Profile → ℕ → List ℕ → ℕ → List ℕ → Held Map → ℕ → ℕ → List (List Value)
whole p R s₀ t rec m at n = map (full_row (table_in p R s₀ t) (map_of rec m)) (rows_at rec n at)

abbrev OfAll : Profile → ℕ → List ℕ → List ℕ → ℕ → List ℕ → Held Map → ℕ → ℕ → List ℕ → List ℕ → Answer → Type 0
OfAll p R s₀ j₀ t rec m at n s₁ j₁ a = Settled p R (in_turn (insert_row p R (table_in p R s₀ t)) (books_of p R s₀ j₀) 0 (whole p R s₀ t rec m at n)) s₀ j₀ s₁ j₁ a

pub record Inserting (p : Profile) (R : ℕ) (s₀ j₀ : List ℕ) (t : ℕ) (rec : List ℕ) (m : Held Map) (at n : ℕ) (s j : List ℕ) (q i : ℕ) : Type 0 where
  pub books : Booked p R s j
  pub known : t < length (parse p R s).tables
  pub table : table_in p R s t ≡ table_in p R s₀ t
  pub got : is_got (times (values_at rec) (n - i) q) ≡ true
  pub fills : fills_fault (table_in p R s₀ t) (map_of rec m) i (rows_at rec (n - i) q) ≡ none
  pub remains : Remains (insert_row p R (table_in p R s₀ t)) (books_of p R s₀ j₀) (whole p R s₀ t rec m at n) (books_of p R s j) i
      (map (full_row (table_in p R s₀ t) (map_of rec m)) (rows_at rec (n - i) q))

module _ {p : Profile} {R : ℕ} {s₀ j₀ : List ℕ} {t : ℕ} {rec : List ℕ} {m : Held Map} {at n : ℕ} where
  pub inserting-start : Booked p R s₀ j₀ → t < length (parse p R s₀).tables → is_got (times (values_at rec) n at) ≡ true → fills_fault (table_in p R s₀ t) (map_of rec m) 0 (rows_at rec n at) ≡ none
      → Inserting p R s₀ j₀ t rec m at n s₀ j₀ at 0
  inserting-start b h g f =
      record {
        books = b;
        known = h;
        table = refl;
        got = rw (sub-zero n) g;
        fills = rw (sub-zero n) f;
        remains = rw (sub-zero n) (remains-start (insert_row p R (table_in p R s₀ t)) (books_of p R s₀ j₀) (whole p R s₀ t rec m at n));
      }

  module _ {s j : List ℕ} {q i : ℕ} (x : Inserting p R s₀ j₀ t rec m at n s j q i) where
    abbrev T₀ : Table
    T₀ = table_in p R s₀ t

    abbrev M : Option (List ℕ)
    M = map_of rec m

    abbrev full : List Value → List Value
    full vs = full_row T₀ M vs

    abbrev all : List (List Value)
    all = whole p R s₀ t rec m at n

    pub inserting-end : i ≡ n → OfAll p R s₀ j₀ t rec m at n s j (Ok n)
    inserting-end e =
        stored-end p R (insert_row p R T₀) s₀ j₀ all s j (booked-bytes x.books) i
        (subst (λ (vss : List (List Value)). Remains (insert_row p R T₀) (books_of p R s₀ j₀) all (books_of p R s j) i (map full vss)) (rows_none rec (n - i) q (omega arith)) x.remains)
        (Ok n) (ap ok (sym e))

    pub inserting-place : t < length (lists p R s).schemas
    inserting-place = schema-within p R s t (laid-store p R s x.books.store) x.known

    module _ (l : i < n) where
      here : RowFirst rec (n - i) q
      here = row_first rec (n - i) q (omega arith) x.got

      pub inserting-inside : q < length rec
      inserting-inside = values-inside rec q here.values here.next here.is

      ends_there : Ok here.next ≡ walked_as (values_at rec q)
      ends_there = ends here.values here.next ∙ ap walked_as (sym here.is)

      pub inserting-walks : {y : Broken} → Err y ≡ walked_as (values_at rec q) → ⊥
      inserting-walks {y} e = let d : Ok here.next ≡ Err y = ends_there ∙ sym e in let z : ◌≡◌ {A = ℕ} 0 1 = cc in omega arith

      filling : (fill_fault T₀ M here.values ≡ none) × (fills_fault T₀ M (suc i) (rows_at rec (n - i - 1) here.next) ≡ none)
      unfolding fills_fault
      filling =
          let o = or_else-none _ _ (sym (ap (fills_fault T₀ M i) here.all) ∙ x.fills) in
          (at_none i _ o.0, o.1)

      -- the table's record, and the values at q
      module _ {tab : List ℕ} (et : tab ≡ get_or (lists p R s).schemas t []) where
        pub inserting-record : TableBytes p tab
        inserting-record = rec-bytes p R s t (laid-store p R s x.books.store) x.known tab et

        module _ {v : Values} (k : Counted rec q v) where
          its-table : read_table p tab ≡ T₀
          its-table = sym (table_is p R s t (laid-store p R s x.books.store) x.known tab et) ∙ x.table

          its-values : values_of v ≡ here.values
          unfolding values_of
          its-values = rw (k.bytes, k.from, k.count) (values-there rec q here.values here.next here.is).0

          filled-as : fill (given M (values_of v)) 0 (read_table p tab).columns ≡ fill (given M here.values) 0 T₀.columns
          filled-as =
              ap (λ (z : Table). fill (given M (values_of v)) 0 z.columns) its-table
              ∙ ap (λ (vs : List Value). fill (given M vs) 0 T₀.columns) its-values

          -- each column has its value
          pub inserting-fills : none ≡ fill (given M (values_of v)) 0 (read_table p tab).columns → ⊥
          inserting-fills e = never-unfilled T₀ M here.values filling.0 (e ∙ filled-as)

          -- the row that is filled
          module _ {row : List Cell} (er : some (cells_of row) ≡ fill (given M (values_of v)) 0 (read_table p tab).columns) (pr : ProperRow row) where
            pub inserting-full : FullRow p R s t row
            inserting-full =
                record {
                  known = x.known;
                  proper = pr;
                  full = full-count T₀ M here.values filling.0 row (er ∙ filled-as) ∙ ap (λ (z : Table). length z.columns) (sym x.table);
                  normal =
                      full-normal T₀ M here.values filling.0 row (er ∙ filled-as) p
                      (subst (λ (z : Table). good_table p z ≡ true) x.table (table-good p R s x.books.store t x.known))
                      (values-normal rec q here.values here.next here.is);
                }

            -- its turn
            module _ {s₁ j₁ : List ℕ} {a : Answer} (h : Settled p R (numbered i (insert_row p R (table_in p R s t) (books_of p R s j) (cells_of row))) s j s₁ j₁ a) where
              same_outcome : insert_row p R (table_in p R s t) (books_of p R s j) (cells_of row) ≡ insert_row p R T₀ (books_of p R s j) (full here.values)
              same_outcome =
                  ap (λ (z : Table). insert_row p R z (books_of p R s j) (cells_of row)) x.table
                  ∙ ap (insert_row p R T₀ (books_of p R s j)) (full-cells T₀ M here.values filling.0 row (er ∙ filled-as))

              its-turn : Settled p R (numbered i (insert_row p R T₀ (books_of p R s j) (full here.values))) s j s₁ j₁ a
              its-turn = subst (λ (o : Outcome). Settled p R (numbered i o) s j s₁ j₁ a) same_outcome h

              to-come : Remains (insert_row p R T₀) (books_of p R s₀ j₀) all (books_of p R s j) i (full here.values ∷ map full (rows_at rec (n - i - 1) here.next))
              to-come = subst (λ (vss : List (List Value)). Remains (insert_row p R T₀) (books_of p R s₀ j₀) all (books_of p R s j) i (map full vss)) here.all x.remains

              pub inserting-stops : {y : Refused} → a ≡ Err y → OfAll p R s₀ j₀ t rec m at n s₁ j₁ (Err y)
              inserting-stops {y} g =
                  stored-stops p R (insert_row p R T₀) s₀ j₀ all s j i (full here.values) (map full (rows_at rec (n - i - 1) here.next)) to-come s₁ j₁ a its-turn y g

              pub inserting-next : {z y : ℕ} → a ≡ Ok z → Ok y ≡ walked_as (values_at rec q) → Inserting p R s₀ j₀ t rec m at n s₁ j₁ y (i + 1)
              inserting-next {z} {y} g ey =
                  let d : Ok here.next ≡ Ok y = ends_there ∙ sym ey in
                  let less : n - i - 1 ≡ n - (i + 1) = omega arith in
                  let o = insert_row p R (table_in p R s t) (books_of p R s j) (cells_of row) in
                  subst (λ (y : ℕ). Inserting p R s₀ j₀ t rec m at n s₁ j₁ y (i + 1)) (cc d)
                  (record {
                    books = row-books p R s j x.books t x.known row inserting-full i s₁ j₁ a h;
                    known = row-known p R s j x.books t x.known row inserting-full i s₁ j₁ a h;
                    table = row-table p R s j x.books t x.known row inserting-full i s₁ j₁ a h ∙ x.table;
                    got = rw less at here.then;
                    fills =
                        ap (λ (w : ℕ). fills_fault T₀ M (i + 1) (rows_at rec w here.next)) (sym less)
                        ∙ ap (λ (y : ℕ). fills_fault T₀ M y (rows_at rec (n - i - 1) here.next)) (add-one i) ∙ filling.1;
                    remains =
                        subst (λ (w : ℕ). Remains (insert_row p R T₀) (books_of p R s₀ j₀) all (books_of p R s₁ j₁) (i + 1) (map full (rows_at rec w here.next))) less
                        (stored_next p R (insert_row p R T₀) s₀ j₀ all s j i (full here.values) (map full (rows_at rec (n - i - 1) here.next)) to-come s₁ j₁ a its-turn z g
                        (row-are p R s j x.books t x.known row inserting-full i s₁ j₁ a h ∙ ap (λ (o : Outcome). changed o.changes (books_of p R s j)) same_outcome));
                  })
