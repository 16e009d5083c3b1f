-- Which of document 01's numbers each test can give; a number names one kind. Assumes nothing.
use Prim.Native.Nat.{ℕ, suc}
use mathlib.Core.Path.{◌≡◌, refl, sym, ◌∙◌, ap}
use mathlib.Core.Bool.{Bool, true, false, not, ◌||◌, cond, true≢false, false≢true}
use mathlib.Core.List.{List, [], ◌∷◌}
use mathlib.Core.Option.{Option, none, some, none-ne-some, some-injective}
use lib.Dec.{eqb}
use lib.ListN.{length}
use borrow.Author.Tests.{eqb-true}
use Rattle.values.specs.Basic.{any, nth, or_default, ◌or_else◌}
use Rattle.values.specs.Value.{Value, before}
use Rattle.rules.specs.declared.profile.Profile.{Profile}
use Rattle.rules.specs.Refusal.{Refusal, Accepted, RecordBroken, UnknownTable, TableExists, EmptyTableName, NoColumns, KeyColumnOutOfRange, EmptyColumnName, KeyNullable, KeyNotUnique, KeyIndexed, NullableWithoutDefault, NullDefault, DefaultKind, UniqueNotIndexed, ReferenceNotIndexed, UnknownTarget, TargetKind, ColumnTwice, TablesFull, TableReferenced, TooManyValues, MapCount, NoDefault, MapColumn, RowSize, KeyUndefined, KeyExists, WrongKind, NullNotAllowed, TargetMissing, ValueExists, RowReferenced, RowsFull, RowAbsent, KeysNotRising, NotIndexed, StoreUnsound, JournalFull, InsideBatch, BatchOutOfTurn, number_of}
use Rattle.rules.specs.State.{Name, same_name, Column, Table, Row, State}
use Rattle.rules.specs.Journal.{Journal, Books}
use Rattle.rules.specs.Request.{Pair}
use Rattle.rules.specs.Schema.{first, Fault, at, column_fault, columns_fault, repeat_fault, schema_fault}
use Rattle.rules.specs.Rows.{fill_fault, fills_fault, rising_fault, size_fault, cell_fault, cells_fault, row_fault}
use Rattle.rules.specs.Step.{journal_fault, create_fault}
use Rattle.rules.specs.Sound.{every}
use Rattle.rules.specs.Refused.{create_numbers, one_of}
use Rattle.rules.proofs.Tests.{every-at, and_left, and_right}
use Rattle.rules.proofs.Lists.{any-is}

-- ---- a number names one kind

-- the kinds in the order of their numbers, `Accepted` where none has the number
kinds : List Refusal
kinds =
    Accepted ∷ RecordBroken ∷ UnknownTable ∷ TableExists ∷ EmptyTableName ∷ NoColumns ∷ KeyColumnOutOfRange ∷ EmptyColumnName ∷ KeyNullable ∷ KeyNotUnique
    ∷ KeyIndexed ∷ NullableWithoutDefault ∷ NullDefault ∷ DefaultKind ∷ UniqueNotIndexed ∷ ReferenceNotIndexed ∷ UnknownTarget ∷ TargetKind ∷ ColumnTwice ∷ TablesFull
    ∷ TableReferenced ∷ TooManyValues ∷ MapCount ∷ NoDefault ∷ MapColumn ∷ RowSize ∷ KeyUndefined ∷ KeyExists ∷ WrongKind ∷ NullNotAllowed
    ∷ TargetMissing ∷ ValueExists ∷ RowReferenced ∷ RowsFull ∷ RowAbsent ∷ KeysNotRising ∷ Accepted ∷ NotIndexed ∷ StoreUnsound ∷ Accepted
    ∷ Accepted ∷ Accepted ∷ Accepted ∷ JournalFull ∷ InsideBatch ∷ BatchOutOfTurn ∷ []

named : ℕ → Refusal
named n = or_default (nth kinds n) Accepted

named-number : (k : Refusal) → named (number_of k) ≡ k
unfolding named kinds
named-number Accepted = refl
named-number RecordBroken = refl
named-number UnknownTable = refl
named-number TableExists = refl
named-number EmptyTableName = refl
named-number NoColumns = refl
named-number KeyColumnOutOfRange = refl
named-number EmptyColumnName = refl
named-number KeyNullable = refl
named-number KeyNotUnique = refl
named-number KeyIndexed = refl
named-number NullableWithoutDefault = refl
named-number NullDefault = refl
named-number DefaultKind = refl
named-number UniqueNotIndexed = refl
named-number ReferenceNotIndexed = refl
named-number UnknownTarget = refl
named-number TargetKind = refl
named-number ColumnTwice = refl
named-number TablesFull = refl
named-number TableReferenced = refl
named-number TooManyValues = refl
named-number MapCount = refl
named-number NoDefault = refl
named-number MapColumn = refl
named-number RowSize = refl
named-number KeyUndefined = refl
named-number KeyExists = refl
named-number WrongKind = refl
named-number NullNotAllowed = refl
named-number TargetMissing = refl
named-number ValueExists = refl
named-number RowReferenced = refl
named-number RowsFull = refl
named-number RowAbsent = refl
named-number KeysNotRising = refl
named-number NotIndexed = refl
named-number StoreUnsound = refl
named-number JournalFull = refl
named-number InsideBatch = refl
named-number BatchOutOfTurn = refl

pub number-injective : (j k : Refusal) → number_of j ≡ number_of k → j ≡ k
number-injective j k e = sym (named-number j) ∙ ap named e ∙ named-number k

-- ---- tests whose numbers are among some

abbrev pub Only : List ℕ → Option Refusal → Type 0
Only ns o = (k : Refusal) → o ≡ some k → one_of ns k ≡ true

abbrev pub OnlyAt : List ℕ → Fault → Type 0
OnlyAt ns f = (x : Refusal × ℕ) → f ≡ some x → one_of ns x.0 ≡ true

-- none of them says accepted
pub not-accepted : (ns : List ℕ) (k : Refusal) → any (eqb 0) ns ≡ false → one_of ns k ≡ true → eqb (number_of k) 0 ≡ false
not-accepted ns k z h = go (eqb (number_of k) 0) refl
  where
    go : (b : Bool) → eqb (number_of k) 0 ≡ b → b ≡ false
    go true e = absurd (true≢false (sym h ∙ ap (λ (n : ℕ). any (eqb n) ns) (eqb-true _ _ e) ∙ z))
    go false e = refl

pub more : (ns ms : List ℕ) (k : Refusal) → every (λ n. any (eqb n) ms) ns ≡ true → one_of ns k ≡ true → one_of ms k ≡ true
more ns ms k h o =
    let q = any-is (eqb (number_of k)) ns o in
    ap (λ (n : ℕ). any (eqb n) ms) (eqb-true _ _ q.2) ∙ every-at (λ n. any (eqb n) ms) ns h q.0 q.1

or_left : (a b : Bool) → (a || not b) ≡ true → b ≡ true → a ≡ true
or_left true b h e = refl
or_left false true h e = absurd (false≢true h)
or_left false false h e = absurd (false≢true e)

-- a test that is never broken needs no number
pub only-first : (ns : List ℕ) (rs : List (Refusal × Bool)) → every (λ r. one_of ns r.0 || not r.1) rs ≡ true → Only ns (first rs)
unfolding first every
only-first ns [] h k e = absurd (none-ne-some k e)
only-first ns (r ∷ rs) h k e = go r.1 refl e (only-first ns rs (and_right (one_of ns r.0 || not r.1) _ h) k)
  where
    go : (b : Bool) → r.1 ≡ b → cond b (some r.0) (first rs) ≡ some k → (first rs ≡ some k → one_of ns k ≡ true) → one_of ns k ≡ true
    go true f g q =
        ap (one_of ns) (sym (some-injective r.0 k g)) ∙ or_left (one_of ns r.0) r.1 (and_left (one_of ns r.0 || not r.1) _ h) f
    go false f g q = q g

pub or_else-some : {A : Type 0} (P : A → Type 0) (a b : Option A) → ((x : A) → a ≡ some x → P x) → ((x : A) → b ≡ some x → P x) → (x : A) → (a or_else b) ≡ some x → P x
unfolding ◌or_else◌
or_else-some P none b f g x e = g x e
or_else-some P (some a) b f g x e = f x e

pub only_at : (ns : List ℕ) (i : ℕ) (o : Option Refusal) → Only ns o → OnlyAt ns (at i o)
unfolding at
only_at ns i none h x e = absurd (none-ne-some x e)
only_at ns i (some k) h x e = ap (λ (y : Refusal × ℕ). one_of ns y.0) (sym (some-injective (k, i) x e)) ∙ h k refl

pub either : (ns : List ℕ) (a b : Option Refusal) → Only ns a → Only ns b → Only ns (a or_else b)
either ns a b = or_else-some (λ k. one_of ns k ≡ true) a b

pub either_at : (ns : List ℕ) (a b : Fault) → OnlyAt ns a → OnlyAt ns b → OnlyAt ns (a or_else b)
either_at ns a b = or_else-some (λ x. one_of ns x.0 ≡ true) a b

-- ---- a schema: 3; 4 to 18; 19

columns-only : (ts : List Table) (t : Table) (i : ℕ) (cs : List Column) → OnlyAt create_numbers (columns_fault ts t i cs)
unfolding columns_fault column_fault every
columns-only ts t i [] = λ x e. absurd (none-ne-some x e)
columns-only ts t i (c ∷ cs) =
    either_at create_numbers (at i (column_fault ts t i c)) (columns_fault ts t (suc i) cs) (only_at create_numbers i (column_fault ts t i c) (only-first create_numbers _ refl))
    (columns-only ts t (suc i) cs)

repeat-only : (seen : List Name) (i : ℕ) (cs : List Column) → OnlyAt create_numbers (repeat_fault seen i cs)
unfolding repeat_fault
repeat-only seen i [] x e = absurd (none-ne-some x e)
repeat-only seen i (c ∷ cs) x e = go (any (same_name c.name) seen) e (repeat-only (c.name ∷ seen) (suc i) cs x)
  where
    go : (b : Bool) → cond b (some (ColumnTwice, i)) (repeat_fault (c.name ∷ seen) (suc i) cs) ≡ some x
        → (repeat_fault (c.name ∷ seen) (suc i) cs ≡ some x → one_of create_numbers x.0 ≡ true) → one_of create_numbers x.0 ≡ true
    go true f r = ap (λ (y : Refusal × ℕ). one_of create_numbers y.0) (sym (some-injective (ColumnTwice, i) x f))
    go false f r = r f

pub create-only : (p : Profile) (s : State) (t : Table) → OnlyAt create_numbers (create_fault p s t)
unfolding create_fault schema_fault every
create-only p s t =
    either_at create_numbers _ _ (only_at create_numbers 0 _ (only-first create_numbers _ refl))
    (either_at create_numbers _ _
    (either_at create_numbers _ _ (only_at create_numbers 0 _ (only-first create_numbers _ refl))
    (either_at create_numbers _ _ (columns-only s.tables t 0 t.columns) (repeat-only [] 0 t.columns)))
    (only_at create_numbers 0 _ (only-first create_numbers _ refl)))

-- ---- rows: 21, 22, 23; 35; 25; a new row and one that takes its own place

abbrev pub fill_numbers : List ℕ
fill_numbers = 21 ∷ 22 ∷ 23 ∷ []

pub fills-only : (t : Table) (m : Option (List ℕ)) (i : ℕ) (rows : List (List Value)) → OnlyAt fill_numbers (fills_fault t m i rows)
unfolding fills_fault fill_fault every
fills-only t m i [] = λ x e. absurd (none-ne-some x e)
fills-only t m i (v ∷ vs) =
    either_at fill_numbers (at i (fill_fault t m v)) (fills_fault t m (suc i) vs) (only_at fill_numbers i (fill_fault t m v) (only-first fill_numbers _ refl))
    (fills-only t m (suc i) vs)

pub rising-only : (i : ℕ) (qs : List Pair) → OnlyAt (35 ∷ []) (rising_fault i qs)
unfolding rising_fault
rising-only i [] x e = absurd (none-ne-some x e)
rising-only i (q ∷ []) x e = absurd (none-ne-some x e)
rising-only i (q ∷ u ∷ qs) x e = go (before q.old u.old) e (rising-only (suc i) (u ∷ qs) x)
  where
    go : (b : Bool) → cond b (rising_fault (suc i) (u ∷ qs)) (some (KeysNotRising, suc i)) ≡ some x → (rising_fault (suc i) (u ∷ qs) ≡ some x → one_of (35 ∷ []) x.0 ≡ true)
        → one_of (35 ∷ []) x.0 ≡ true
    go true f r = r f
    go false f r = ap (λ (y : Refusal × ℕ). one_of (35 ∷ []) y.0) (sym (some-injective (KeysNotRising, suc i) x f))

pub size-only : (t : Table) (i : ℕ) (qs : List Pair) → OnlyAt (25 ∷ []) (size_fault t i qs)
unfolding size_fault
size-only t i [] x e = absurd (none-ne-some x e)
size-only t i (q ∷ qs) x e = go (eqb (length q.row) (length t.columns)) e (size-only t (suc i) qs x)
  where
    go : (b : Bool) → cond b (size_fault t (suc i) qs) (some (RowSize, i)) ≡ some x → (size_fault t (suc i) qs ≡ some x → one_of (25 ∷ []) x.0 ≡ true) → one_of (25 ∷ []) x.0 ≡ true
    go true f r = r f
    go false f r = ap (λ (y : Refusal × ℕ). one_of (25 ∷ []) y.0) (sym (some-injective (RowSize, i) x f))

abbrev pub cell_numbers : List ℕ
cell_numbers = 28 ∷ 29 ∷ 30 ∷ 31 ∷ []

pub cells-only : (rs : List Row) (t : Table) (u : Bool) (key : Value) (i : ℕ) (cs : List Column) (vs : List Value) → Only cell_numbers (cells_fault rs t u key i cs vs)
unfolding cells_fault cell_fault every
cells-only rs t u key i [] vs = λ k e. absurd (none-ne-some k e)
cells-only rs t u key i (c ∷ cs) [] = λ k e. absurd (none-ne-some k e)
cells-only rs t u key i (c ∷ cs) (v ∷ vs) =
    either cell_numbers (cell_fault rs t u key i c v) (cells_fault rs t u key (suc i) cs vs) (only-first cell_numbers _ refl) (cells-only rs t u key (suc i) cs vs)

-- a row's tests: of its key, of its cells, of its places
pub row-only : (ns : List ℕ) (a b c : Option Refusal) → every (λ n. any (eqb n) ns) cell_numbers ≡ true → Only ns a → Only cell_numbers b → Only ns c → Only ns (a or_else b or_else c)
row-only ns a b c h f g l = either ns a (b or_else c) f (either ns b c (λ k e. more cell_numbers ns k h (g k e)) l)

-- whatever it is put for
abbrev pub row_numbers : List ℕ
row_numbers = 26 ∷ 27 ∷ 28 ∷ 29 ∷ 30 ∷ 31 ∷ 33 ∷ 34 ∷ 36 ∷ []

pub fault-only : (p : Profile) (R : ℕ) (s : State) (t : Table) (u : Bool) (v : List Value) → Only row_numbers (row_fault p R s t u v)
unfolding row_fault every
fault-only p R s t u v = row-only row_numbers _ _ _ refl (only-first row_numbers _ refl) (cells-only _ _ _ _ _ _ _) (only-first row_numbers _ refl)

-- 43
pub journal-only : (ns : List ℕ) (j : Journal) (n : ℕ) → any (eqb 43) ns ≡ true → Only ns (journal_fault j n)
unfolding journal_fault every
journal-only ns j n h = only-first ns _ (rw h)

-- what refuses a row that is put: a fault of its own, or 43
abbrev pub put_fault : Profile → ℕ → Table → Books → Bool → List Value → Option Refusal
put_fault p R t b update v = row_fault p R b.store t update v or_else journal_fault b.journal 1

-- a row that needs a place
abbrev pub new_numbers : List ℕ
new_numbers = 26 ∷ 27 ∷ 28 ∷ 29 ∷ 30 ∷ 31 ∷ 33 ∷ 43 ∷ []

pub new-only : (p : Profile) (R : ℕ) (b : Books) (t : Table) (v : List Value) → Only new_numbers (put_fault p R t b false v)
unfolding row_fault every
new-only p R b t v =
    either new_numbers _ _ (row-only new_numbers _ _ _ refl (only-first new_numbers _ refl) (cells-only _ _ _ _ _ _ _) (only-first new_numbers _ refl))
    (journal-only new_numbers b.journal 1 refl)

-- and one that takes its own
abbrev pub same_numbers : List ℕ
same_numbers = 26 ∷ 28 ∷ 29 ∷ 30 ∷ 31 ∷ 34 ∷ 43 ∷ []

pub same-only : (p : Profile) (R : ℕ) (b : Books) (t : Table) (v : List Value) → Only same_numbers (put_fault p R t b true v)
unfolding row_fault every
same-only p R b t v =
    either same_numbers _ _ (row-only same_numbers _ _ _ refl (only-first same_numbers _ refl) (cells-only _ _ _ _ _ _ _) (only-first same_numbers _ refl))
    (journal-only same_numbers b.journal 1 refl)
