-- The pairs of an update, carried out one after the other: store and journal are sound after each, and what remains of them comes to what all come to.
-- Assumes nothing.
use Rattle.std.specs.declared.result.Result.TheVariants.{Ok, Err}
use Rattle.forms.specs.declared.read.Broken.{Broken}
use Prim.Native.Nat.{ℕ, suc, ◌+◌, ◌-◌, ◌≤◌, ◌<◌}
use mathlib.Core.Path.{◌≡◌, refl, sym, ap, ◌∙◌, subst}
use mathlib.Core.Bool.{Bool, true, false, cond}
use lib.Dec.{eqb}
use mathlib.Core.List.{List, [], ◌∷◌}
use mathlib.Core.Option.{Option, none, some, some-ne-none}
use native.Mathlib.Numerals.{add-one}
use native.Mathlib.Nat.{sub-zero}
use native.Mathlib.Omega.{arith}
use lib.ListN.{length}
use borrow.Author.Tests.{eqb-true}
use Rattle.values.specs.Basic.{nth, or_default}
use Rattle.values.specs.Meaning.{held}
use Rattle.forms.specs.Read.{got, broken, CellRead}
use Rattle.areas.specs.Sorted.{All}
use Rattle.values.specs.Value.{Value, same}
use Rattle.values.specs.declared.value.Cell.{Cell}
use Rattle.rules.specs.declared.profile.Profile.{Profile}
use Rattle.rules.specs.Request.{Answer}
use Rattle.rules.specs.declared.answer.Refused.{Refused}
use Rattle.rules.specs.State.{Table, State, key_of, row_of}
use Rattle.rules.specs.Journal.{Books}
use Rattle.rules.specs.Pages.{books_of}
use Rattle.rules.specs.Layout.{parse, unknown}
use Rattle.rules.specs.Request.{Pair, ok}
use Rattle.rules.specs.Rows.{size_fault}
use Rattle.rules.specs.Step.{Change, added, apply, apply_all, changed, Outcome, numbered, in_turn, removals, same_key, reinsert, other_key, pair}
use Rattle.rules.proofs.Asked.{Ready, Good}
use Rattle.rules.proofs.Keeps.{pair_keeps}
use Rattle.rules.proofs.Backed.{Right, right-keeps}
use Rattle.rules.proofs.Removed.{apply_all-append, removals-come}
use Rattle.rules.proofs.Tests.{by-option, by_cond}
use Rattle.rules.proofs.Trip.{table-good}
use Rattle.checks.specs.Keys.{on_read, values_from, values_of}
use Rattle.checks.specs.declared.keys.Values.{Values}
use Rattle.store.specs.Removed.{pair_of}
use Rattle.laid.specs.Row.{cells_of, NormalCell, ProperRow, table_in, FullRow}
use Rattle.journal.specs.Books.{Booked, Settled}
use Rattle.journal.proofs.Booking.{right_of, booked-bytes, next-are, next-booked}
use Rattle.laid.proofs.RowFacts.{table-held}
use Rattle.laid.proofs.Stores.{store-valid, laid-store}
use Rattle.store.proofs.Written.{row-ready, own-named}
use Rattle.mapping.specs.Got.{is_got}
use Rattle.mapping.specs.Mapped.{pairs_at}
use Rattle.records.specs.Reading.{times}
use Rattle.records.specs.Record.{values_at, pair_at}
use Rattle.records.specs.Walked.{walked_as}
use Rattle.operations.specs.Counted.{Counted}
use Rattle.operations.proofs.FullRows.{Normal, values-normal, cells-normal}
use Rattle.operations.proofs.InTurn.{Remains, remains-start, stored-end, stored-stops, stored_next}
use Rattle.mapping.proofs.Pairs.{PairThere, pair-there, pairs-none}
use Rattle.mapping.proofs.ValuesFrom.{values-there, values-inside}
use Rattle.records.proofs.Walking.{ends}

-- ---- store and journal after a pair's turn

-- the schemas stay
abbrev Stays : State → Outcome → Type 0
Stays st o = (apply_all o.changes st).tables ≡ st.tables

again-tables : (p : Profile) (R : ℕ) (t : Table) (b : Books) (cs : List Change) (v : List Value) → (apply_all cs b.store).tables ≡ b.store.tables
    → Stays b.store (reinsert p R t (changed cs b) cs v)
unfolding reinsert apply_all apply
again-tables p R t b cs v gone =
    by-option (Stays b.store) _ _ _
    (λ e. ap (λ (x : State). x.tables) (apply_all-append cs (added (row_of t v) ∷ []) b.store) ∙ gone)
    (λ k e. gone)

pair-tables : (p : Profile) (R : ℕ) (t : Table) (b : Books) (q : Pair) → Stays b.store (pair p R t b q)
unfolding pair same_key other_key apply_all apply
pair-tables p R t b q =
    by_cond (Stays b.store) (same q.old (key_of t q.row)) _ _
    (λ e. by-option (Stays b.store) _ _ _ (λ f. by-option (Stays b.store) _ _ _ (λ g. refl) (λ old g. refl)) (λ k f. refl))
    (λ e. by-option (Stays b.store) _ _ _
    (λ f. by-option (Stays b.store) _ _ _
    (λ g.
    again-tables p R t b (removals b.store.rows t.name (q.old ∷ [])) q.row
    (ap (λ (x : State). x.tables) (removals-come (q.old ∷ []) t.name b.store)))
    (λ k g. refl))
    (λ k f. refl))

module _ (p : Profile) (R : ℕ) (s j : List ℕ) (b : Booked p R s j) (t : ℕ) (old : Value) (row : List Cell) (f : FullRow p R s t row) where
  abbrev its : Pair
  its = record { old = old; row = cells_of row }

  abbrev cs : List Change
  cs = (pair p R (table_in p R s t) (books_of p R s j) its).changes

  next-right : Right p R (changed cs (books_of p R s j))
  next-right =
      (pair_keeps p R (λ n. Unit {0}) Ready (Good p) (λ e. Unit {0}) (Right p R) (right-keeps p R) (table_in p R s t) tt its (row-ready b f) (books_of p R s j) (right_of b, own-named b f)).0

  module _ (i : ℕ) (s₁ j₁ : List ℕ) (a : Answer) (h : Settled p R (numbered i (pair p R (table_in p R s t) (books_of p R s j) its)) s j s₁ j₁ a) where
    pair-books : Booked p R s₁ j₁
    pair-books = next-booked b cs next-right h.bytes

    pair-are : books_of p R s₁ j₁ ≡ changed (pair p R (table_in p R s t) (books_of p R s j) its).changes (books_of p R s j)
    pair-are = next-are b cs next-right h.bytes

    tables-are : (parse p R s₁).tables ≡ (parse p R s).tables
    tables-are = ap (λ (x : Books). x.store.tables) pair-are ∙ pair-tables p R (table_in p R s t) (books_of p R s j) its

    pair-table : table_in p R s₁ t ≡ table_in p R s t
    unfolding table_in
    pair-table = ap (λ (ts : List Table). or_default (nth ts t) (unknown [])) tables-are

    pair-known : t < length (parse p R s₁).tables
    pair-known = subst (λ (ts : List Table). t < length ts) (sym tables-are) f.known

-- a test that refuses was met
cond-none : {A : Type 0} (b : Bool) (f : Option A) (k : A) → cond b f (some k) ≡ none → (b ≡ true) × (f ≡ none)
cond-none true f k h = (refl, h)
cond-none false f k h = absurd (some-ne-none k h)

-- ---- the loop: i of n pairs are done, and the others are to come, from q on

abbrev OfAll : Profile → ℕ → List ℕ → List ℕ → ℕ → List ℕ → ℕ → ℕ → List ℕ → List ℕ → Answer → Type 0
OfAll p R s₀ j₀ t rec at n s₁ j₁ a = Settled p R (in_turn (pair p R (table_in p R s₀ t)) (books_of p R s₀ j₀) 0 (pairs_at rec n at)) s₀ j₀ s₁ j₁ a

pub record Updating (p : Profile) (R : ℕ) (s₀ j₀ : List ℕ) (t : ℕ) (rec : List ℕ) (at n : ℕ) (s j : List ℕ) (q i : ℕ) : Type 0 where
  pub books : Booked p R s j
  pub known : t < length (parse p R s).tables
  pub table : table_in p R s t ≡ table_in p R s₀ t
  pub got : is_got (times (pair_at rec) (n - i) q) ≡ true
  pub sizes : size_fault (table_in p R s₀ t) i (pairs_at rec (n - i) q) ≡ none
  pub remains : Remains (pair p R (table_in p R s₀ t)) (books_of p R s₀ j₀) (pairs_at rec n at) (books_of p R s j) i (pairs_at rec (n - i) q)

module _ {p : Profile} {R : ℕ} {s₀ j₀ : List ℕ} {t : ℕ} {rec : List ℕ} {at n : ℕ} where
  pub updating-start : Booked p R s₀ j₀ → t < length (parse p R s₀).tables → is_got (times (pair_at rec) n at) ≡ true → size_fault (table_in p R s₀ t) 0 (pairs_at rec n at) ≡ none
      → Updating p R s₀ j₀ t rec at n s₀ j₀ at 0
  updating-start b h g f =
      record {
        books = b;
        known = h;
        table = refl;
        got = rw (sub-zero n) g;
        sizes = rw (sub-zero n) f;
        remains = rw (sub-zero n) (remains-start (pair p R (table_in p R s₀ t)) (books_of p R s₀ j₀) (pairs_at rec n at));
      }

  module _ {s j : List ℕ} {q i : ℕ} (x : Updating p R s₀ j₀ t rec at n s j q i) where
    abbrev T₀ : Table
    T₀ = table_in p R s₀ t

    abbrev all : List Pair
    all = pairs_at rec n at

    pub updating-end : i ≡ n → OfAll p R s₀ j₀ t rec at n s j (Ok n)
    updating-end e =
        stored-end p R (pair p R T₀) s₀ j₀ all s j (booked-bytes x.books) i
        (subst (λ (qs : List Pair). Remains (pair p R T₀) (books_of p R s₀ j₀) all (books_of p R s j) i qs) (pairs-none rec (n - i) q (omega arith)) x.remains)
        (Ok n) (ap ok (sym e))

    module _ (l : i < n) where
      here : PairThere rec (n - i) q
      here = pair-there rec (n - i) q (omega arith) x.got

      -- the old key can be read
      pub old-reads : {y : Broken} → CellRead rec q (Err y) → ⊥
      old-reads {y} e = let u : broken y.at ≡ got here.head.old here.mid = e.is ∙ here.key in let z : ◌≡◌ {A = ℕ} 0 1 = cc in omega arith

      -- it was read as c, which ends at k
      module _ {c : Cell} {k : ℕ} (e : CellRead rec q (Ok (c, k))) where
        old-read : got (held c) k ≡ got here.head.old here.mid
        old-read = e.is ∙ here.key

        old-is : held c ≡ here.head.old
        old-is = let u = old-read in cc

        at_row : values_at rec k ≡ got here.head.row here.next
        at_row = let u = old-read in let z : k ≡ here.mid = cc in ap (values_at rec) z ∙ here.values

        pub row-inside : k < length rec
        row-inside = values-inside rec k here.head.row here.next at_row

        pub old-alone : (v : Values) → v.bytes.now ≡ rec → v.at ≡ q → v.count ≡ 1 → values_of v ≡ held c ∷ []
        unfolding values_of values_from on_read
        old-alone v eb ea ec = ap (λ (s : List ℕ). values_from s v.count v.at) eb ∙ rw (ea, ec, ← e.is) refl

        ends_there : Ok here.next ≡ walked_as (values_at rec k)
        ends_there = ends here.head.row here.next ∙ ap walked_as (sym at_row)

        pub row-walks : {y : Broken} → Err y ≡ walked_as (values_at rec k) → ⊥
        row-walks {y} f = let d : Ok here.next ≡ Err y = ends_there ∙ sym f in let z : ◌≡◌ {A = ℕ} 0 1 = cc in omega arith

        -- as many values as the table has columns
        sizing : (length here.head.row ≡ length T₀.columns) × (size_fault T₀ (suc i) (pairs_at rec (n - i - 1) here.next) ≡ none)
        unfolding size_fault
        sizing =
            let o = cond-none (eqb (length here.head.row) (length T₀.columns)) _ _ (sym (ap (size_fault T₀ i) here.all) ∙ x.sizes) in
            (eqb-true _ _ o.0, o.1)

        module _ {v : Values} (u : Counted rec k v) where
          its-values : values_of v ≡ here.head.row
          unfolding values_of
          its-values = rw (u.bytes, u.from, u.count) (values-there rec k here.head.row here.next at_row).0

          row-counts : length (values_of v) ≡ v.count
          row-counts = ap length its-values ∙ (values-there rec k here.head.row here.next at_row).1 ∙ sym u.count

          -- there is room for them
          pub row-sized : p.columns ≤ 8 → (v.count ≤ 8) × (length (values_of v) ≡ v.count)
          row-sized h =
              let g = (table-good p (table_in p R s t) ((store-valid p R s x.books.store).good-tables (table_in p R s t) (table-held p R s (laid-store p R s x.books.store) t x.known))).few in
              (omega (arith, g, row-counts, ap length its-values, sizing.0, ap (λ (y : Table). length y.columns) x.table), row-counts)

          module _ {row : List Cell} (er : cells_of row ≡ values_of v) (pr : ProperRow row) (en : length row ≡ v.count) where
            its-normal : All NormalCell row
            unfolding cells_of
            its-normal =
                cells-normal row
                (subst (All Normal) (sym (er ∙ its-values)) (values-normal rec k here.head.row here.next at_row))

            pub row-full : FullRow p R s t row
            row-full =
                record {
                  known = x.known;
                  proper = pr;
                  full = en ∙ sym row-counts ∙ ap length its-values ∙ sizing.0 ∙ ap (λ (z : Table). length z.columns) (sym x.table);
                  normal = its-normal;
                }

            -- its turn
            module _ {s₁ j₁ : List ℕ} {a : Answer} (h : Settled p R (numbered i (pair p R (table_in p R s t) (books_of p R s j) (pair_of c.value row))) s j s₁ j₁ a) where
              same-pair : pair_of c.value row ≡ here.head
              same-pair =
                  ap {B = Pair} (λ (v : Value). record { old = v; row = cells_of row }) old-is
                  ∙ ap {B = Pair} (λ (vs : List Value). record { old = here.head.old; row = vs }) (er ∙ its-values)

              same_outcome : pair p R (table_in p R s t) (books_of p R s j) (pair_of c.value row) ≡ pair p R T₀ (books_of p R s j) here.head
              same_outcome =
                  ap (λ (z : Table). pair p R z (books_of p R s j) (pair_of c.value row)) x.table ∙ ap (pair p R T₀ (books_of p R s j)) same-pair

              its-turn : Settled p R (numbered i (pair p R T₀ (books_of p R s j) here.head)) s j s₁ j₁ a
              its-turn = subst (λ (o : Outcome). Settled p R (numbered i o) s j s₁ j₁ a) same_outcome h

              to-come : Remains (pair p R T₀) (books_of p R s₀ j₀) all (books_of p R s j) i (here.head ∷ pairs_at rec (n - i - 1) here.next)
              to-come = subst (λ (qs : List Pair). Remains (pair p R T₀) (books_of p R s₀ j₀) all (books_of p R s j) i qs) here.all x.remains

              pub updating-stops : {y : Refused} → a ≡ Err y → OfAll p R s₀ j₀ t rec at n s₁ j₁ (Err y)
              updating-stops {y} g =
                  stored-stops p R (pair p R T₀) s₀ j₀ all s j i here.head (pairs_at rec (n - i - 1) here.next) to-come s₁ j₁ a its-turn y g

              pub updating-next : {k' y : ℕ} → a ≡ Ok k' → Ok y ≡ walked_as (values_at rec k) → Updating p R s₀ j₀ t rec at n s₁ j₁ y (i + 1)
              updating-next {k'} {y} g ey =
                  let d : Ok here.next ≡ Ok y = ends_there ∙ sym ey in
                  let less : n - i - 1 ≡ n - (i + 1) = omega arith in
                  subst (λ (y : ℕ). Updating p R s₀ j₀ t rec at n s₁ j₁ y (i + 1)) (cc d)
                  (record {
                    books = pair-books p R s j x.books t (held c) row row-full i s₁ j₁ a h;
                    known = pair-known p R s j x.books t (held c) row row-full i s₁ j₁ a h;
                    table = pair-table p R s j x.books t (held c) row row-full i s₁ j₁ a h ∙ x.table;
                    got = rw less at here.left;
                    sizes =
                        ap (λ (w : ℕ). size_fault T₀ (i + 1) (pairs_at rec w here.next)) (sym less)
                        ∙ ap (λ (y : ℕ). size_fault T₀ y (pairs_at rec (n - i - 1) here.next)) (add-one i) ∙ sizing.1;
                    remains =
                        subst (λ (w : ℕ). Remains (pair p R T₀) (books_of p R s₀ j₀) all (books_of p R s₁ j₁) (i + 1) (pairs_at rec w here.next)) less
                        (stored_next p R (pair p R T₀) s₀ j₀ all s j i here.head (pairs_at rec (n - i - 1) here.next) to-come s₁ j₁ a its-turn k' g
                        (pair-are p R s j x.books t (held c) row row-full i s₁ j₁ a h ∙ ap (λ (o : Outcome). changed o.changes (books_of p R s j)) same_outcome));
                  })
