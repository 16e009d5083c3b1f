-- Rows taken out of a table by their keys, each noted: what goes with one key and with the rest, books that stay laid out, and what a delete comes to.
-- Assumes nothing.
use mathlib.Core.Path.{◌≡◌, refl, sym, ap, ◌∙◌, subst}
use mathlib.Core.Bool.{Bool, true, false, not}
use mathlib.Core.Option.{Option, none, some}
use Prim.Native.Nat.{ℕ, suc, ◌+◌, ◌<◌}
use native.Mathlib.Omega.{arith}
use mathlib.Core.List.{List, [], ◌∷◌}
use lib.ListN.{length}
use Rattle.values.specs.Basic.{is_nil, keep, nth, or_default, maybe}
use Rattle.values.specs.Value.{Value}
use Rattle.areas.proofs.Sorting.{keep-sorted, keep-length, in-keep, find-in}
use Rattle.rules.specs.declared.profile.Profile.{Profile}
use Rattle.rules.specs.Request.{Answer}
use Rattle.rules.specs.Refusal.{UnknownTable, RowReferenced, JournalFull}
use Rattle.rules.specs.State.{Name, Table, Row, State, is_named, table_named, of_table, is_row, row_with}
use Rattle.rules.specs.Journal.{stood, lacks, Books}
use Rattle.rules.specs.Layout.{image, parse, unknown}
use Rattle.rules.specs.Pages.{journal_image, books_of}
use Rattle.rules.specs.Request.{said, ok, no, Carried, no_carrying}
use Rattle.rules.specs.Rows.{row_referenced}
use Rattle.rules.specs.Schema.{first}
use Rattle.rules.specs.Step.{Change, removed, apply, apply_all, note, note_all, changed, without_row, did, refused, removals, journal_fault, delete}
use Rattle.rules.proofs.Backed.{removals-more}
use Rattle.rules.proofs.Index.{ord_row}
use Rattle.rules.proofs.Keeps.{named-is}
use Rattle.rules.proofs.Outside.{lacks-noted, removals-rows}
use Rattle.rules.proofs.Removed.{with_rows, stays, removals-come}
use Rattle.rules.proofs.Tests.{and_left, name-is}
use Rattle.rules.proofs.Valid.{LaidState}
use Rattle.laid.specs.Catalog.{place_of}
use Rattle.store.specs.Removed.{removals_in, Removes, RoomFor}
use Rattle.laid.specs.Row.{row_in, table_in, RowOf}
use Rattle.laid.proofs.Finding.{place_found, place-missing}
use Rattle.laid.proofs.Keyed.{row_at}
use Rattle.laid.proofs.Stores.{held-state, held-inside}
use Rattle.journal.specs.Page.{Noted}
use Rattle.journal.specs.Books.{LaidBooks, Booked, Settled}
use Rattle.journal.proofs.Booking.{LaidPages, laid-are, laid-books-of, laid-fitting, laid-pages, journaled}
use Rattle.store.proofs.Lookups.{stored}
use Rattle.store.proofs.Settling.{same-places, left_alone, more-pages}
use Rattle.rules.proofs.Outside.{lacks_less}
use Rattle.journal.proofs.Noting.{noted-is}

-- ---- fewer rows

pub fewer-laid : (p : Profile) (R : ℕ) (st : State) → LaidState p R st → (f : Row → Bool) → LaidState p R (with_rows st (keep f st.rows))
fewer-laid p R st v f =
    record {
      few-tables = v.few-tables;
      few-rows = omega (arith, v.few-rows, keep-length f st.rows);
      good-tables = v.good-tables;
      tables-sorted = v.tables-sorted;
      faults = v.faults;
      rows-sorted = keep-sorted ord_row f st.rows v.rows-sorted;
      rows = λ r m. v.rows r (in-keep f r st.rows m).0;
    }

-- the first key's row, and then those of the other keys
abbrev first_gone : Books → Name → Value → Books
first_gone b n k = changed (removals b.store.rows n (k ∷ [])) b

module _ (b : Books) (n : Name) (k : Value) (ks : List Value) where
  first_then : changed (removals (first_gone b n k).store.rows n ks) (first_gone b n k) ≡ changed (removals b.store.rows n (k ∷ ks)) b
  unfolding removals apply_all apply note_all note maybe
  first_then = go (row_with b.store.rows n k)
    where
      after : Option Row → Books
      after o = changed (maybe o [] (λ r. removed r ∷ [])) b

      go : (o : Option Row)
          → changed (removals (after o).store.rows n ks) (after o) ≡ changed (maybe o (removals b.store.rows n ks) (λ r. removed r ∷ removals (without_row r b.store.rows) n ks)) b
      go none = refl
      go (some r) = refl

  first-length : length (removals b.store.rows n (k ∷ [])) + length (removals (first_gone b n k).store.rows n ks) ≡ length (removals b.store.rows n (k ∷ ks))
  unfolding removals apply_all apply maybe
  first-length = go (row_with b.store.rows n k)
    where
      cs : Option Row → List Change
      cs o = maybe o [] (λ r. removed r ∷ [])

      none_first : (m : ℕ) → 0 + m ≡ m
      none_first m = omega arith

      one-first : (m : ℕ) → 1 + m ≡ suc m
      one-first m = omega arith

      go : (o : Option Row) → length (cs o) + length (removals (apply_all (cs o) b.store).rows n ks)
          ≡ length (maybe o (removals b.store.rows n ks) (λ r. removed r ∷ removals (without_row r b.store.rows) n ks))
      go none = none_first (length (removals b.store.rows n ks))
      go (some r) = one-first (length (removals (without_row r b.store.rows) n ks))

  -- room for all is room for the first, and then for the others
  module _ (l : lacks b.journal (length (removals b.store.rows n (k ∷ ks))) ≡ false) where
    first-room : lacks b.journal (length (removals b.store.rows n (k ∷ []))) ≡ false
    first-room = lacks_less b.journal (length (removals b.store.rows n (k ∷ ks))) _ (omega (arith, first-length)) l

    then-room : lacks (first_gone b n k).journal (length (removals (first_gone b n k).store.rows n ks)) ≡ false
    then-room =
        lacks-noted (removals b.store.rows n (k ∷ [])) b.journal _ (removals-rows (k ∷ []) n b.store.rows) ∙ ap (lacks b.journal) first-length ∙ l

-- ---- books from which rows went

module _ {p : Profile} {R : ℕ} {s j : List ℕ} (b : LaidBooks p R s j) (t : ℕ) (ks : List Value) (room : RoomFor p R s j t ks) {s₁ j₁ : List ℕ} (e : Removes p R s j t ks s₁ j₁) where
  abbrev n : Name
  n = (table_in p R s t).name

  left-pages : LaidPages p R (changed (removals_in p R s t ks) (books_of p R s j))
  unfolding removals_in
  left-pages =
      more-pages (laid-pages b) (removals-more p R ks n (books_of p R s j) (held-state p R s b.store) room)
      (subst (LaidState p R) (sym (removals-come ks n (parse p R s))) (fewer-laid p R (parse p R s) (held-state p R s b.store) (stays n ks)))

  left-are : books_of p R s₁ j₁ ≡ changed (removals_in p R s t ks) (books_of p R s j)
  left-are = laid-are (laid-fitting b) left-pages e

  pub left_books : LaidBooks p R s₁ j₁
  left_books = laid-books-of (laid-fitting b) left-pages e

  pub left-tables : (parse p R s₁).tables ≡ (parse p R s).tables
  unfolding removals_in
  left-tables = ap (λ (x : Books). x.store.tables) left-are ∙ ap (λ (x : State). x.tables) (removals-come ks n (parse p R s))

  left-table : table_in p R s₁ t ≡ table_in p R s t
  unfolding table_in
  left-table = ap (λ (ts : List Table). or_default (nth ts t) (unknown [])) left-tables

  pub left-length : length s₁ ≡ length s
  left-length = (held-inside p R s₁ left_books.store).long ∙ sym (held-inside p R s b.store).long

  pub left-places : length j₁ ≡ length j
  left-places = same-places b left_books (removals_in p R s t ks) left-are

-- with one key gone, the rest of the keys come to what all of them do, and have room
module _ {p : Profile} {R : ℕ} {s j : List ℕ} (b : LaidBooks p R s j) (t : ℕ) (k : Value) (ks : List Value) (room : RoomFor p R s j t (k ∷ ks)) where
  pub key-room : RoomFor p R s j t (k ∷ [])
  unfolding removals_in
  key-room = first-room (books_of p R s j) (table_in p R s t).name k ks room

  module _ {s₁ j₁ : List ℕ} (e : Removes p R s j t (k ∷ []) s₁ j₁) where
    removals-left : removals_in p R s₁ t ks ≡ removals (first_gone (books_of p R s j) (table_in p R s t).name k).store.rows (table_in p R s t).name ks
    unfolding removals_in
    removals-left =
        ap (λ (x : Table). removals (parse p R s₁).rows x.name ks) (left-table b t (k ∷ []) key-room e)
        ∙ ap (λ (x : Books). removals x.store.rows (table_in p R s t).name ks) (left-are b t (k ∷ []) key-room e)

    pub key-then : changed (removals_in p R s₁ t ks) (books_of p R s₁ j₁) ≡ changed (removals_in p R s t (k ∷ ks)) (books_of p R s j)
    unfolding removals_in
    key-then =
        ap (λ (cs : List Change). changed cs (books_of p R s₁ j₁)) removals-left
        ∙ ap (changed (removals (first_gone (books_of p R s j) (table_in p R s t).name k).store.rows (table_in p R s t).name ks)) (left-are b t (k ∷ []) key-room e)
        ∙ first_then (books_of p R s j) (table_in p R s t).name k ks

    pub key-room-then : RoomFor p R s₁ j₁ t ks
    unfolding removals_in
    key-room-then =
        ap (λ (cs : List Change). lacks (books_of p R s₁ j₁).journal (length cs)) removals-left
        ∙ ap (λ (x : Books). lacks x.journal (length (removals (first_gone (books_of p R s j) (table_in p R s t).name k).store.rows (table_in p R s t).name ks))) (left-are b t (k ∷ []) key-room e)
        ∙ then-room (books_of p R s j) (table_in p R s t).name k ks room

-- ---- one key, as the code finds its row

module _ {p : Profile} {R : ℕ} {s j : List ℕ} (b : LaidBooks p R s j) (t : ℕ) (known : t < length (parse p R s).tables) {n : Name} (en : n ≡ (table_in p R s t).name)
    (k : Value) where
  abbrev rows : List Row
  rows = (parse p R s).rows

  module _ {i : ℕ} (f : some i ≡ place_of (is_row n k) rows) where
    pub row_below : i < length rows
    row_below = (place_found (is_row n k) rows i (sym f)).0

    row_is : row_with rows n k ≡ some (row_in p R s i)
    row_is = sym (place_found (is_row n k) rows i (sym f)).1 ∙ row_at p R s b.store i row_below

    pub row-its : RowOf p R s t i
    row-its =
        record {
          known = known;
          stored = row_below;
          of = name-is _ _ (and_left (of_table n (row_in p R s i)) _ (find-in (is_row n k) rows (row_in p R s i) row_is).1) ∙ en;
        }

    goes : removals_in p R s t (k ∷ []) ≡ removed (row_in p R s i) ∷ []
    unfolding removals_in removals maybe
    goes = rw (← en, row_is)

    module _ (room : RoomFor p R s j t (k ∷ [])) where
      pub one_place : lacks (books_of p R s j).journal 1 ≡ false
      one_place = rw goes at room

      pub key-gone : {s₁ j₁ : List ℕ} → s₁ ≡ image p R (apply (removed (row_in p R s i)) (parse p R s)) → Noted p (stood (row_in p R s i)) j j₁
          → Removes p R s j t (k ∷ []) s₁ j₁ × (true ≡ not (is_nil (removals_in p R s t (k ∷ []))))
      unfolding apply_all note_all note
      key-gone e w = rw goes (record { store = e; journal = noted-is (journaled b) one_place (stood (row_in p R s i)) w }, refl)

  pub key-absent : none ≡ place_of (is_row n k) rows → Removes p R s j t (k ∷ []) s j × (false ≡ not (is_nil (removals_in p R s t (k ∷ []))))
  unfolding removals_in removals apply_all note_all maybe
  key-absent f = rw (← en, place-missing (is_row n k) rows (sym f)) (record { store = b.store.bytes; journal = b.bytes }, refl)

-- ---- key after key

-- `left` are those whose rows stand yet, and `m` keys were turned
pub record KeysTurn (p : Profile) (R : ℕ) (s₀ j₀ : List ℕ) (t : ℕ) (all : List Value) (s j : List ℕ) (left : List Value) (m : ℕ) : Type 0 where
  pub books : LaidBooks p R s j
  pub known : t < length (parse p R s).tables
  pub long : length s ≡ length s₀
  pub places : length j ≡ length j₀
  pub room : RoomFor p R s j t left
  pub rest : changed (removals_in p R s t left) (books_of p R s j) ≡ changed (removals_in p R s₀ t all) (books_of p R s₀ j₀)
  pub counted : m + length left ≡ length all

module _ (p : Profile) (R : ℕ) (s₀ j₀ : List ℕ) (t : ℕ) (all : List Value) where
  module _ {s j : List ℕ} {left : List Value} {m : ℕ} (x : KeysTurn p R s₀ j₀ t all s j left m) where
    -- the first of the others
    module _ {k : Value} {ks : List Value} (e : left ≡ k ∷ ks) where
      whole_room : RoomFor p R s j t (k ∷ ks)
      whole_room = rw e at x.room

      pub keys-room : RoomFor p R s j t (k ∷ [])
      keys-room = key-room x.books t k ks whole_room

      -- and its row went
      pub keys-next : {s₁ j₁ : List ℕ} → Removes p R s j t (k ∷ []) s₁ j₁ → KeysTurn p R s₀ j₀ t all s₁ j₁ ks (m + 1)
      keys-next g =
          let b = x.books in
          record {
            books = left_books b t (k ∷ []) keys-room g;
            known = rw (left-tables b t (k ∷ []) keys-room g) x.known;
            long = left-length b t (k ∷ []) keys-room g ∙ x.long;
            places = left-places b t (k ∷ []) keys-room g ∙ x.places;
            room = key-room-then b t k ks whole_room g;
            rest = key-then b t k ks whole_room g ∙ ap (λ (vs : List Value). changed (removals_in p R s t vs) (books_of p R s j)) (sym e) ∙ x.rest;
            counted = omega (arith, ap length e, x.counted);
          }

    -- no key is left
    pub keys-end : left ≡ [] → Removes p R s₀ j₀ t all s j × (m ≡ length all)
    unfolding removals_in removals apply_all note_all
    keys-end e =
        let q : books_of p R s j ≡ changed (removals_in p R s₀ t all) (books_of p R s₀ j₀) =
        ap (λ (ks : List Value). changed (removals_in p R s t ks) (books_of p R s j)) (sym e) ∙ x.rest
        in (
          record {
            store = x.books.store.bytes ∙ ap (λ (z : Books). image p R z.store) q;
            journal = x.books.bytes ∙ ap (λ (z : Books). journal_image p z.journal) q;
          },
          omega (arith, ap length e, x.counted),
        )

-- ---- delete

module _ (b : Books) (n : Name) (ks : List Value) where
  delete-unknown : table_named b.store.tables n ≡ none → delete b n ks ≡ refused (no UnknownTable 0)
  unfolding delete maybe
  delete-unknown f = rw f

  module _ (t : Table) (f : table_named b.store.tables n ≡ some t) where
    delete-referenced : (x : Carried) → row_referenced b.store.rows n ks b.store.tables ≡ some x → delete b n ks ≡ refused (no_carrying RowReferenced 0 x)
    unfolding delete maybe
    delete-referenced x g = rw (f, g)

    module _ (g : row_referenced b.store.rows n ks b.store.tables ≡ none) where
      delete-full : lacks b.journal (length (removals b.store.rows n ks)) ≡ true → delete b n ks ≡ refused (no JournalFull 0)
      unfolding delete maybe journal_fault first
      delete-full l = rw (f, g, l)

      delete-known : lacks b.journal (length (removals b.store.rows n ks)) ≡ false → delete b n ks ≡ did (removals b.store.rows n ks) (length ks)
      unfolding delete maybe journal_fault first
      delete-known l = rw (f, g, l)

module _ {p : Profile} {R : ℕ} {s j : List ℕ} (b : Booked p R s j) (n : Name) (ks : List Value) where
  abbrev before : Books
  before = books_of p R s j

  pub delete-missed : none ≡ place_of (is_named n) (parse p R s).tables → (a : Answer) → said a ≡ no UnknownTable 0 → Settled p R (delete before n ks) s j s j a
  delete-missed f a h = left_alone b (delete before n ks) (no UnknownTable 0) (delete-unknown before n ks (place-missing (is_named n) (parse p R s).tables (sym f))) a h

  module _ (t : ℕ) (f : some t ≡ place_of (is_named n) (parse p R s).tables) where
    pub delete-held : (x : Carried) → some x ≡ row_referenced (parse p R s).rows n ks (parse p R s).tables → (a : Answer) → said a ≡ no_carrying RowReferenced 0 x
        → Settled p R (delete before n ks) s j s j a
    delete-held x e a g =
        left_alone b (delete before n ks) (no_carrying RowReferenced 0 x) (delete-referenced before n ks (table_in p R s t) (stored p R s n t f) x (sym e)) a g

    module _ (e : none ≡ row_referenced (parse p R s).rows n ks (parse p R s).tables) where
      named : (table_in p R s t).name ≡ n
      named = named-is (parse p R s).tables n (table_in p R s t) (stored p R s n t f)

      its-removals : removals_in p R s t ks ≡ removals (parse p R s).rows n ks
      unfolding removals_in
      its-removals = ap (λ (m : Name). removals (parse p R s).rows m ks) named

      pub delete-lacks : lacks before.journal (length (removals_in p R s t ks)) ≡ true → (a : Answer) → said a ≡ no JournalFull 0 → Settled p R (delete before n ks) s j s j a
      delete-lacks l a g =
          left_alone b (delete before n ks) (no JournalFull 0)
          (delete-full before n ks (table_in p R s t) (stored p R s n t f) (sym e) (rw its-removals at l)) a g

      pub delete-goes : RoomFor p R s j t ks → {s₁ j₁ : List ℕ} {m : ℕ} → Removes p R s j t ks s₁ j₁ × (m ≡ length ks) → (a : Answer) → said a ≡ ok m
          → Settled p R (delete before n ks) s j s₁ j₁ a
      delete-goes l g a w =
          rw (delete-known before n ks (table_in p R s t) (stored p R s n t f) (sym e) (rw its-removals at l))
          (record { answer = w ∙ ap ok g.1; bytes = rw its-removals at g.0 })
