-- The operands of a drop, a delete and an update, as the code reads them, and what an update comes to, case by case. Assumes nothing.
use Rattle.std.specs.declared.result.Result.TheVariants.{Ok, Err}
use Rattle.forms.specs.declared.read.Broken.{Broken}
use Prim.Native.Nat.{ℕ, ◌+◌, ◌<◌}
use mathlib.Core.Path.{◌≡◌, refl, sym, ap, ◌∙◌, subst}
use mathlib.Core.Bool.{Bool, true}
use mathlib.Core.List.{List, []}
use mathlib.Core.Option.{none, some}
use lib.Dec.{eqb}
use lib.ListN.{length, get_or}
use Rattle.values.specs.Basic.{maybe, ◌or_else◌}
use Rattle.values.specs.Meaning.{text_bytes}
use Rattle.forms.specs.Read.{Read, got, name_at, NameRead}
use Rattle.values.specs.Value.{Value}
use Rattle.values.specs.declared.value.Text.{Text}
use Rattle.rules.specs.Layout.{lists, parse, read_table}
use Rattle.rules.specs.Request.{Pair, Request, Drop, Update, Delete, Names, said, no}
use Rattle.rules.specs.Rows.{rising_fault, size_fault}
use Rattle.rules.specs.State.{Name, Table, table_named, is_named}
use Rattle.rules.specs.Step.{refused, act, drop, delete, update, pair, in_turn, outside}
use Rattle.rules.specs.Request.{Answer}
use Rattle.rules.specs.Refusal.{Refusal}
use Rattle.rules.specs.Refusal.{UnknownTable}
use Rattle.rules.specs.declared.profile.Profile.{Profile}
use Rattle.laid.specs.Catalog.{place_of}
use Rattle.checks.specs.Keys.{values_from, values_of}
use Rattle.checks.specs.declared.keys.Values.{Values}
use Rattle.laid.specs.Row.{table_in}
use Rattle.rules.specs.Journal.{Books}
use Rattle.rules.specs.Pages.{books_of}
use Rattle.journal.specs.Books.{Booked, Settled}
use Rattle.laid.proofs.Finding.{place-missing}
use Rattle.store.proofs.Settling.{left_alone}
use Rattle.mapping.specs.Got.{is_got, got_or}
use Rattle.mapping.specs.Mapped.{pairs_at}
use Rattle.records.specs.Reading.{and_then, times, byte_at, byte_from}
use Rattle.records.specs.Record.{values_at, drop_at, insert_at, pair_at, update_at, keys_at, lookup_at, scan_at}
use Rattle.operations.specs.Counted.{Counted}
use Rattle.operations.specs.Told.{Acted}
use Rattle.operations.proofs.Naming.{named-its, named-is}
use Rattle.mapping.proofs.ValuesFrom.{was-got, got-gives, never-broken, parted, then_is, then-first, then_next, from-there, byte-got, values-there, values-inside}

-- ---- a name and then the rest

module _ {s : List ℕ} {at : ℕ} where
  -- a name that breaks breaks all
  module _ {x : Broken} (e : NameRead s at (Err x)) where
    pub unnamed : {B : Type 0} (f : List ℕ → ℕ → Read B) → is_got (and_then (name_at s at) f) ≡ true → ⊥
    unnamed f g = never-broken (name_at s at) x.at (then-first (name_at s at) f g) (sym e.is)

    pub drop-unnamed : is_got (drop_at s at) ≡ true → ⊥
    unfolding drop_at
    drop-unnamed g = unnamed _ g

    pub keys-unnamed : (make : List ℕ → List Value → Request) → is_got (keys_at s make at) ≡ true → ⊥
    unfolding keys_at
    keys-unnamed make g = unnamed _ g

    pub update-unnamed : is_got (update_at s at) ≡ true → ⊥
    unfolding update_at
    update-unnamed g = unnamed _ g

    pub lookup-unnamed : is_got (lookup_at s at) ≡ true → ⊥
    unfolding lookup_at
    lookup-unnamed g = unnamed _ g

    pub scan-unnamed : is_got (scan_at s at) ≡ true → ⊥
    unfolding scan_at
    scan-unnamed g = unnamed _ g

    pub insert-unnamed : is_got (insert_at s at) ≡ true → ⊥
    unfolding insert_at
    insert-unnamed g = unnamed _ g

  module _ {t : Text} {n : ℕ} (e : NameRead s at (Ok (t, n))) where
    pub named-then : {B : Type 0} (f : List ℕ → ℕ → Read B) → and_then (name_at s at) f ≡ f (text_bytes t) n
    named-then f = then_is (name_at s at) f (text_bytes t) n (sym e.is)

    -- ---- a flag
    module _ (g : is_got (drop_at s at) ≡ true) where
      pub drop-read : (c : ℕ) → c ≡ get_or s n 0 → got_or Names (drop_at s at) ≡ Drop (text_bytes t) (eqb c 1)
      unfolding drop_at
      drop-read c ec =
          let d = named-then (λ name a. and_then (byte_from 0 1 s a) (λ x b. got (Drop name (eqb x 1)) b)) in
          let w = was-got _ (subst (λ (z : Read Request). is_got z ≡ true) d g) in
          let b = parted (byte_from 0 1 s n) _ w.what w.end w.is in
          let k = from-there 0 1 s n b.first b.next b.is in
          let l : w.what ≡ Drop (text_bytes t) (eqb b.first 1) = cc b.then in
          got-gives Names _ w.what w.end (d ∙ w.is) ∙ l ∙ ap (λ (x : ℕ). Drop (text_bytes t) (eqb x 1)) (sym (ec ∙ k.is))

    -- ---- keys
    module _ (make : List ℕ → List Value → Request) (g : is_got (keys_at s make at) ≡ true) where
      keys-are : (got_or Names (keys_at s make at) ≡ make (text_bytes t) (values_from s (get_or s n 0) (n + 1))) × (n < length s)
      unfolding keys_at
      keys-are =
          let d = named-then (λ name a. and_then (values_at s a) (λ ks b. got (make name ks) b)) in
          let w = was-got _ (subst (λ (z : Read Request). is_got z ≡ true) d g) in
          let b = parted (values_at s n) _ w.what w.end w.is in
          let l : w.what ≡ make (text_bytes t) b.first = cc b.then in (
            got-gives Names _ w.what w.end (d ∙ w.is) ∙ l ∙ ap (make (text_bytes t)) (sym (values-there s n b.first b.next b.is).0),
            values-inside s n b.first b.next b.is,
          )

      -- as the code has them
      pub keys-read : {v : Values} → Counted s n v → got_or Names (keys_at s make at) ≡ make (text_bytes t) (values_of v)
      unfolding values_of
      keys-read k = keys-are.0 ∙ ap (make (text_bytes t)) (rw (k.bytes, k.from, k.count) refl)

      pub keys-inside : n < length s
      keys-inside = keys-are.1

    -- ---- pairs
    abbrev listed : ℕ → ℕ → Read Request
    listed c a = and_then (times (pair_at s) c a) (λ qs b. got (Update (text_bytes t) qs) b)

    update-then : update_at s at ≡ and_then (byte_at s n) listed
    unfolding update_at
    update-then = named-then (λ name a. and_then (byte_at s a) (λ c b. and_then (times (pair_at s) c b) (λ qs d. got (Update name qs) d)))

    module _ (g : is_got (update_at s at) ≡ true) where
      behind : is_got (and_then (byte_at s n) listed) ≡ true
      behind = subst (λ (w : Read Request). is_got w ≡ true) update-then g

      count-there : (n < length s) × (byte_at s n ≡ got (get_or s n 0) (n + 1))
      count-there = byte-got s n (then-first (byte_at s n) listed behind)

      pub update-inside : n < length s
      update-inside = count-there.0

      module _ (c : ℕ) (ec : c ≡ get_or s n 0) where
        counted : byte_at s n ≡ got c (n + 1)
        counted = count-there.1 ∙ ap (λ (j : ℕ). got j (n + 1)) (sym ec)

        pub pairs-got : is_got (times (pair_at s) c (n + 1)) ≡ true
        pairs-got = then-first (times (pair_at s) c (n + 1)) (λ qs b. got (Update (text_bytes t) qs) b) (then_next (byte_at s n) listed behind c (n + 1) counted)

        pub update-read : got_or Names (update_at s at) ≡ Update (text_bytes t) (pairs_at s c (n + 1))
        unfolding pairs_at
        update-read =
            let w = was-got (times (pair_at s) c (n + 1)) pairs-got in
            got-gives Names (update_at s at) (Update (text_bytes t) w.what) w.end
            (update-then ∙ then_is (byte_at s n) listed c (n + 1) counted ∙ then_is (times (pair_at s) c (n + 1)) (λ qs b. got (Update (text_bytes t) qs) b) w.what w.end w.is)
            ∙ ap (Update (text_bytes t)) (sym (got-gives [] (times (pair_at s) c (n + 1)) w.what w.end w.is))

-- ---- what was done is what the request asks

module _ {p : Profile} {R : ℕ} {s j s₁ j₁ : List ℕ} {a : Answer} (w : Read Request) {n : Name} where
  pub drop-acted : {x : Bool} → got_or Names w ≡ Drop n x → Settled p R (outside (books_of p R s j) (drop (parse p R s) n x)) s j s₁ j₁ a → Acted p R w s j s₁ j₁ a
  unfolding act
  drop-acted e h = rw e h

  pub delete-acted : {ks : List Value} → got_or Names w ≡ Delete n ks → Settled p R (delete (books_of p R s j) n ks) s j s₁ j₁ a → Acted p R w s j s₁ j₁ a
  unfolding act
  delete-acted e h = rw e h

-- ---- an update: 2; 35; 25; pair by pair

module _ (p : Profile) (R : ℕ) (b : Books) (n : Name) (qs : List Pair) where
  update-unknown : table_named b.store.tables n ≡ none → update p R b n qs ≡ refused (no UnknownTable 0)
  unfolding update maybe
  update-unknown f = rw f

  module _ (t : Table) (f : table_named b.store.tables n ≡ some t) where
    update-falls : (k : Refusal) (i : ℕ) → rising_fault 0 qs ≡ some (k, i) → update p R b n qs ≡ refused (no k i)
    unfolding update maybe ◌or_else◌
    update-falls k i e = rw (f, e)

    module _ (e : rising_fault 0 qs ≡ none) where
      update-sizes : (k : Refusal) (i : ℕ) → size_fault t 0 qs ≡ some (k, i) → update p R b n qs ≡ refused (no k i)
      unfolding update maybe ◌or_else◌
      update-sizes k i g = rw (f, e, g)

      update-goes : size_fault t 0 qs ≡ none → update p R b n qs ≡ in_turn (pair p R t) b 0 qs
      unfolding update maybe ◌or_else◌
      update-goes g = rw (f, e, g)

module _ {p : Profile} {R : ℕ} {s j : List ℕ} (b : Booked p R s j) (w : Read Request) {n : Name} {qs : List Pair} (eq : got_or Names w ≡ Update n qs) where
  abbrev before : Books
  before = books_of p R s j

  asked : act p R before (got_or Names w) ≡ update p R before n qs
  unfolding act
  asked = rw eq refl

  -- it is refused, and nothing is changed
  kept : (k : Refusal) (i : ℕ) → update p R before n qs ≡ refused (no k i) → (a : Answer) → said a ≡ no k i → Acted p R w s j s j a
  kept k i e a h = left_alone b (act p R before (got_or Names w)) (no k i) (asked ∙ e) a h

  -- no table has the name
  pub update-missed : none ≡ place_of (is_named n) (parse p R s).tables → {a : Answer} → said a ≡ no UnknownTable 0 → Acted p R w s j s j a
  update-missed f {a} = kept UnknownTable 0 (update-unknown p R before n qs (place-missing (is_named n) (parse p R s).tables (sym f))) a

  -- the table at place t has it
  module _ {t : ℕ} (f : some t ≡ place_of (is_named n) (parse p R s).tables) where
    abbrev T : Table
    T = table_in p R s t

    pub update-not-rising : {k : Refusal} {i : ℕ} → some (k, i) ≡ rising_fault 0 qs → {a : Answer} → said a ≡ no k i → Acted p R w s j s j a
    update-not-rising {k} {i} e {a} = kept k i (update-falls p R before n qs T (named-its b.store n f) k i (sym e)) a

    -- its record
    module _ {tab : List ℕ} (et : tab ≡ get_or (lists p R s).schemas t []) where
      as_read : size_fault (read_table p tab) 0 qs ≡ size_fault (table_in p R s t) 0 qs
      as_read = ap (λ (x : Table). size_fault x 0 qs) (sym (named-is b.store n f et))

      pub update-sized : none ≡ size_fault (read_table p tab) 0 qs → size_fault (table_in p R s t) 0 qs ≡ none
      update-sized g = sym (g ∙ as_read)

      module _ (e : none ≡ rising_fault 0 qs) where
        pub update-not-sized : {k : Refusal} {i : ℕ} → some (k, i) ≡ size_fault (read_table p tab) 0 qs → {a : Answer} → said a ≡ no k i → Acted p R w s j s j a
        update-not-sized {k} {i} g {a} = kept k i (update-sizes p R before n qs T (named-its b.store n f) (sym e) k i (sym (g ∙ as_read))) a

        pub update-in-turn : none ≡ size_fault (read_table p tab) 0 qs → {s₁ j₁ : List ℕ} {a : Answer}
            → Settled p R (in_turn (pair p R (table_in p R s t)) (books_of p R s j) 0 qs) s j s₁ j₁ a → Acted p R w s j s₁ j₁ a
        update-in-turn g h = rw (asked ∙ update-goes p R before n qs T (named-its b.store n f) (sym e) (update-sized g)) h
