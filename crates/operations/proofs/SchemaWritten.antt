-- A schema that a record says: what a column and a create that are read give, and their bytes as they are written part by part over zeros. Assumes nothing.
use Rattle.std.specs.declared.result.Result.TheVariants.{Ok}
use mathlib.Core.Path.{◌≡◌, refl, sym, ap, ◌∙◌, subst}
use Prim.Native.Nat.{ℕ, zero, suc, ◌+◌, ◌-◌, ◌*◌, ◌/◌, ◌%◌, ◌≤◌, ◌<◌}
use native.Mathlib.Omega.{arith}
use mathlib.Core.Bool.{true, false, not, true≢false}
use mathlib.Core.List.{List, [], ◌∷◌, ◌++◌, map, append_assoc, append-nil, map-append}
use mathlib.Core.Option.{Option, none, some}
use lib.Dec.{eqb}
use lib.ListN.{length, get_or, take, drop, set, replicate, length-append, length-drop, length-replicate, drop_of_length-le, replicate-append-replicate}
use lib.Seq.{take_at, drop_at}
use native.Mathlib.Nat.{sub-zero, add-sub_cancel_left, zero-mul, suc-mul, mul-le-mul, mul-le-mul_right}
use borrow.Author.Tests.{ne_eqb}
use borrow.Rule.Slice.PartMut.{put_mid}
use Rattle.values.specs.Basic.{is_some, or_default}
use Rattle.values.specs.Bytes.{zeros, pad, Bytes}
use Rattle.values.specs.Value.{Value, null}
use Rattle.values.specs.Cell.{name_width, cell_width, name_cell, value_cell}
use Rattle.forms.specs.Read.{Read, got, broken, name_at, value_at}
use Rattle.values.specs.Meaning.{text_bytes, Packed, held, ProperCell}
use Rattle.values.specs.declared.value.Text.{Text}
use Rattle.values.specs.declared.value.Cell.{Cell}
use Rattle.areas.specs.Records.{joined}
use Rattle.values.proofs.Packing.{zeros-are, replicate-zeros}
use Rattle.areas.proofs.Records.{joined-append}
use Rattle.values.proofs.Cells.{null-zeros}
use Rattle.areas.proofs.Nest.{put_next, set_next}
use Rattle.rules.specs.declared.profile.Profile.{Profile}
use Rattle.rules.specs.Profile.{column_width, schema_width}
use Rattle.rules.specs.Request.{Request, Create, Names, entered_column, entered_table, said, no}
use Rattle.rules.specs.Readable.{readable}
use Rattle.rules.specs.Step.{create, act, outside}
use Rattle.rules.specs.Pages.{books_of}
use Rattle.rules.specs.Refusal.{InsideBatch}
use Rattle.journal.specs.Books.{Booked, Settled}
use Rattle.operations.proofs.Shut.{inside-refused}
use Rattle.rules.specs.Request.{Answer}
use Rattle.rules.specs.Sound.{good_column, good_table}
use Rattle.rules.proofs.Trip.{column-good, column-long, table-good, table-back}
use Rattle.rules.proofs.Widths.{column-within}
use Rattle.rules.specs.State.{Column, Table}
use Rattle.rules.specs.Layout.{one, flags, column_record, table_record, read_table, parse, bit}
use Rattle.laid.specs.Store.{Coded}
use Rattle.laid.specs.Catalog.{TableBytes}
use Rattle.laid.proofs.Stores.{table-bytes}
use Rattle.changes.proofs.Writing.{name-long, cell-wide}
use Rattle.changes.proofs.RowAdded.{drop-zeros}
use Rattle.mapping.specs.Got.{is_got, got_or}
use Rattle.records.proofs.Walking.{offset}
use Rattle.mapping.proofs.ValuesFrom.{was-got, never-broken, then_is, then-first, then_next, flagged-is, flagged-none, flagged-first, none_left, next-first, next-rest, next-whole, byte-got, from-got}
use Rattle.operations.proofs.Entered.{Same, gives_same, same-column}
use Rattle.mapping.proofs.Read.{Gives, given, gives_then, gives-got, Any, any, gives-column, gives-create}
use Rattle.records.specs.Reading.{and_then, times, flagged, byte_at, byte_from}
use Rattle.records.specs.Record.{column_at, create_at}
use Rattle.records.specs.Walked.{walked_as}
use Rattle.operations.specs.Told.{Acted}
use Rattle.laid.specs.Row.{no_column}
use Rattle.operations.specs.Created.{column_of, table_of}

-- ---- a column

abbrev pub column_with : List ℕ → ℕ → ℕ → Option Value → Option (List ℕ) → Column
column_with name kind f d r =
    record { name = name; kind = kind; nullable = bit 1 f; default = d; unique = bit 4 f; index = bit 8 f; reference = r }

module _ (s : List ℕ) (name : List ℕ) where
  abbrev after_default : ℕ → ℕ → Option Value → ℕ → Read Column
  after_default kind f d n = and_then (flagged (bit 16 f) (name_at s) n) (λ r e. got (column_with name kind f d r) e)

  abbrev after_flags : ℕ → ℕ → ℕ → Read Column
  after_flags kind f c = and_then (flagged (bit 2 f) (value_at s) c) (after_default kind f)

  abbrev after_kind : ℕ → ℕ → Read Column
  after_kind kind b = and_then (byte_from 0 31 s b) (after_flags kind)

  abbrev after_name : ℕ → Read Column
  after_name a = and_then (byte_from 1 4 s a) after_kind

pub column-name : (s : List ℕ) (at : ℕ) → is_got (column_at s at) ≡ true → is_got (name_at s at) ≡ true
unfolding column_at
column-name s at h = then-first (name_at s at) (after_name s) h

-- its name ends at a, where its kind stands
pub record ColumnGot (s : List ℕ) (at a : ℕ) (name : List ℕ) : Type 0 where
  pub inside : a + 1 < length s
  pub few : get_or s (a + 1) 0 ≤ 31
  pub default : is_got (flagged (bit 2 (get_or s (a + 1) 0)) (value_at s) (a + 2)) ≡ true
  pub reference : (d : Option Value) (n : ℕ) → flagged (bit 2 (get_or s (a + 1) 0)) (value_at s) (a + 2) ≡ got d n
      → is_got (flagged (bit 16 (get_or s (a + 1) 0)) (name_at s) n) ≡ true
  pub whole : (d : Option Value) (n : ℕ) (r : Option (List ℕ)) (e : ℕ) → flagged (bit 2 (get_or s (a + 1) 0)) (value_at s) (a + 2) ≡ got d n
      → flagged (bit 16 (get_or s (a + 1) 0)) (name_at s) n ≡ got r e → column_at s at ≡ got (column_with name (get_or s a 0) (get_or s (a + 1) 0) d r) e

pub column-got : (s : List ℕ) (at a : ℕ) (name : List ℕ) → name_at s at ≡ got name a → is_got (column_at s at) ≡ true → ColumnGot s at a name
unfolding column_at
column-got s at a name e h =
    let h1 = then_next (name_at s at) (after_name s) h name a e in
    let k = from-got 1 4 s a (then-first (byte_from 1 4 s a) (after_kind s name) h1) in
    let kind : ℕ = get_or s a 0 in
    let h2 = then_next (byte_from 1 4 s a) (after_kind s name) h1 kind (a + 1) k.is in
    let q = from-got 0 31 s (a + 1) (then-first (byte_from 0 31 s (a + 1)) (after_flags s name kind) h2) in
    let f : ℕ = get_or s (a + 1) 0 in
    let two : a + 1 + 1 ≡ a + 2 = omega arith in
    let i : byte_from 0 31 s (a + 1) ≡ got f (a + 2) = rw two at q.is in
    let h3 = then_next (byte_from 0 31 s (a + 1)) (after_flags s name kind) h2 f (a + 2) i in
    record {
      inside = q.inside;
      few = q.most;
      default = then-first (flagged (bit 2 f) (value_at s) (a + 2)) (after_default s name kind f) h3;
      reference = λ d n x.
          then-first (flagged (bit 16 f) (name_at s) n) (λ r y. got (column_with name kind f d r) y)
          (then_next (flagged (bit 2 f) (value_at s) (a + 2)) (after_default s name kind f) h3 d n x);
      whole = λ d n r y u v.
          then_is (name_at s at) (after_name s) name a e
          ∙ then_is (byte_from 1 4 s a) (after_kind s name) kind (a + 1) k.is
          ∙ then_is (byte_from 0 31 s (a + 1)) (after_flags s name kind) f (a + 2) i
          ∙ then_is (flagged (bit 2 f) (value_at s) (a + 2)) (after_default s name kind f) d n u
          ∙ then_is (flagged (bit 16 f) (name_at s) n) (λ r y. got (column_with name kind f d r) y) r y v;
    }

-- a fact of bytes and a position that are those
pub moved : (P : List ℕ → ℕ → Type 0) (l m : List ℕ) (i j : ℕ) → l ≡ m → i ≡ j → P m j → P l i
moved P l m i j e f h = subst (λ (x : List ℕ). P x i) (sym e) (subst (P m) (sym f) h)

-- ---- its flags are the byte that was read

bit-one : (x : ℕ) → x ≤ 1 → one (eqb x 1) ≡ x
bit-one zero h = refl
bit-one (suc zero) h = refl
bit-one (suc (suc x)) h = absurd (omega arith)

halved : (f a b c d e f2 f4 f8 f16 : ℕ) → f ≡ a + 2 * f2 → f2 ≡ b + 2 * f4 → f4 ≡ c + 2 * f8 → f8 ≡ d + 2 * f16 → f16 ≡ e → a + 2 * b + 4 * c + 8 * d + 16 * e ≡ f
halved f a b c d e f2 f4 f8 f16 h1 h2 h3 h4 h5 = omega arith

pub flags-are : (name : List ℕ) (kind f : ℕ) (d : Option Value) (r : Option (List ℕ)) → f ≤ 31 → is_some d ≡ bit 2 f → is_some r ≡ bit 16 f
    → flags (column_with name kind f d r) ≡ f
unfolding flags
flags-are name kind f d r h ed er =
    let a = bit-one (f / 1 % 2) (omega arith) in
    let b : one (is_some d) ≡ f / 2 % 2 = ap one ed ∙ bit-one (f / 2 % 2) (omega arith) in
    let c = bit-one (f / 4 % 2) (omega arith) in
    let e = bit-one (f / 8 % 2) (omega arith) in
    let g : one (is_some r) ≡ f / 16 % 2 = ap one er ∙ bit-one (f / 16 % 2) (omega arith) in
    rw (a, b, c, e, g)
    (halved f (f / 1 % 2) (f / 2 % 2) (f / 4 % 2) (f / 8 % 2) (f / 16 % 2) (f / 2) (f / 4) (f / 8) (f / 16) (omega arith) (omega arith) (omega arith) (omega arith) (omega arith))

-- ---- its bytes, over zeros

-- k of them are left as they are
pub skip : (a k n : ℕ) (p d : List ℕ) → d ≡ replicate n 0 → a + k ≤ n → p ++ drop a d ≡ (p ++ replicate k 0) ++ drop (a + k) d
skip a k n p d e h =
    let m : n - a ≡ k + (n - (a + k)) = omega arith in
    rw (append_assoc, e, drop-zeros a n, drop-zeros (a + k) n, m, replicate-append-replicate)

pub no_name : name_cell [] ≡ replicate name_width 0
unfolding name_cell pad
no_name = refl

pub column-wide : (p : Profile) → Coded p → column_width p ≡ 78
unfolding column_width
column-wide p k = omega (arith, k.cells)

-- name, kind and flags
abbrev pub leading : List ℕ → ℕ → ℕ → List ℕ
leading y kind f = y ++ (kind ∷ f ∷ [])

-- they are those of a column, whose name ends at a; they are written over the zeros of d
pub record Led (p : Profile) (d : List ℕ) (name : Text) (y : List ℕ) (kind f : ℕ) (s : List ℕ) (at a : ℕ) : Type 0 where
  pub coded : Coded p
  pub long : length d ≡ column_width p
  pub clear : zeros d ≡ true
  pub packed : Packed name
  pub cell : y ≡ name_cell (text_bytes name)
  pub column : ColumnGot s at a (text_bytes name)
  pub kind-is : kind ≡ get_or s a 0
  pub flags-is : f ≡ get_or s (a + 1) 0

module _ {p : Profile} {d : List ℕ} {name : Text} {y : List ℕ} {kind f : ℕ} {s : List ℕ} {at a : ℕ} (z : Led p d name y kind f s at a) where
  d-long : length d ≡ 78
  d-long = z.long ∙ column-wide p z.coded

  over : d ≡ replicate 78 0
  over = zeros-are d z.clear ∙ ap (λ (n : ℕ). replicate n 0) d-long

  y-long : length y ≡ 25
  y-long = ap length z.cell ∙ name-long name z.packed

  lead-long : length (leading y kind f) ≡ 27
  lead-long = simp length-append (omega (arith, y-long))

  led : set (set (put_mid 0 25 d y) 25 kind) 26 f ≡ leading y kind f ++ drop 27 d
  led =
      ap (λ (l : List ℕ). set (set l 25 kind) 26 f) (put_next 0 25 [] d y refl)
      ∙ ap (λ (l : List ℕ). set l 26 f) (set_next 25 kind y d y-long (omega (arith, d-long)))
      ∙ set_next 26 f (y ++ (kind ∷ [])) d (simp length-append (omega (arith, y-long))) (omega (arith, d-long))
      ∙ ap (λ (l : List ℕ). l ++ drop 27 d) (append_assoc y (kind ∷ []) (f ∷ []))

  pub led-long : length (set (set (put_mid 0 25 d y) 25 kind) 26 f) ≡ 78
  led-long = ap length led ∙ simp (length-append, length-drop) (omega (arith, y-long, d-long))

  -- the default is written, where there is one
  pub record Defaulted (part : List ℕ) (end : ℕ) : Type 0 where
    pub value : Option Value
    pub flag : is_some value ≡ bit 2 f
    pub read : flagged (bit 2 (get_or s (a + 1) 0)) (value_at s) (a + 2) ≡ got value end
    pub wide : length (value_cell cell_width (or_default value null)) ≡ 26
    pub is : part ≡ (leading y kind f ++ value_cell cell_width (or_default value null)) ++ drop 53 d

  pub default-written : (end : ℕ) (cell : Cell) (x : List ℕ) → f / 2 % 2 ≡ 1 → value_at s (a + 2) ≡ got (held cell) end → ProperCell cell
      → x ≡ value_cell cell_width (held cell) → Defaulted (put_mid 27 26 (set (set (put_mid 0 25 d y) 25 kind) 26 f) x) end
  default-written end cell x t e h ex =
      let on : bit 2 f ≡ true = rw t in
      record {
        value = some (held cell);
        flag = sym on;
        read = flagged-is (value_at s) (bit 2 (get_or s (a + 1) 0)) (a + 2) (held cell) end (sym (ap (bit 2) z.flags-is) ∙ on) e;
        wide = cell-wide cell.value h;
        is = ap (λ (l : List ℕ). put_mid 27 26 l x) led ∙ put_next 27 26 (leading y kind f) d x lead-long ∙ ap (λ (l : List ℕ). (leading y kind f ++ l) ++ drop 53 d) ex;
      }

  pub default-left : (f / 2 % 2 ≡ 1 → ⊥) → Defaulted (set (set (put_mid 0 25 d y) 25 kind) 26 f) (a + 2)
  default-left t =
      let off : bit 2 f ≡ false = ne_eqb (f / 2 % 2) 1 t in
      record {
        value = none;
        flag = sym off;
        read = flagged-none (value_at s) (bit 2 (get_or s (a + 1) 0)) (a + 2) (sym (ap (bit 2) z.flags-is) ∙ off);
        wide = ap length (null-zeros 26 (omega arith));
        is = led ∙ skip 27 26 78 (leading y kind f) d over (omega arith) ∙ ap (λ (l : List ℕ). (leading y kind f ++ l) ++ drop 53 d) (sym (null-zeros 26 (omega arith)));
      }

  pub default-broken : (x : ℕ) → f / 2 % 2 ≡ 1 → value_at s (a + 2) ≡ broken x → ⊥
  default-broken x t e =
      never-broken (value_at s (a + 2)) x (flagged-first (value_at s) (bit 2 (get_or s (a + 1) 0)) (a + 2) (sym (ap (bit 2) z.flags-is) ∙ rw t) z.column.default) e

  module _ (part : List ℕ) (mid : ℕ) (b : Defaulted part mid) where
    pub default-long : length part ≡ 78
    default-long = ap length b.is ∙ simp (length-append, length-drop) (omega (arith, y-long, d-long, b.wide))

    -- all is written
    abbrev pub Columned : List ℕ → ℕ → Type 0
    Columned all end = (all ≡ column_record p (column_of (column_at s at))) × (Ok end ≡ walked_as (column_at s at))

    columned : (all : List ℕ) (end : ℕ) (r : Option (List ℕ)) → is_some r ≡ bit 16 f → flagged (bit 16 (get_or s (a + 1) 0)) (name_at s) mid ≡ got r end
        → all ≡ ((leading y kind f ++ value_cell cell_width (or_default b.value null)) ++ name_cell (or_default r [])) ++ drop 78 d → Columned all end
    unfolding column_record walked_as got_or
    columned all end r er e x =
        let w : column_at s at ≡ got (column_with (text_bytes name) (get_or s a 0) (get_or s (a + 1) 0) b.value r) end = z.column.whole b.value mid r end b.read e in
        let none : drop 78 d ≡ [] = drop_of_length-le d {i = 78} (omega (arith, d-long)) in
        let fl : flags (column_with (text_bytes name) kind f b.value r) ≡ f = flags-are (text_bytes name) kind f b.value r (omega (arith, z.flags-is, z.column.few)) b.flag er in
        let v : List ℕ = value_cell cell_width (or_default b.value null) in
        let n : List ℕ = name_cell (or_default r []) in
        let whole : all ≡ column_record p (column_with (text_bytes name) kind f b.value r) =
        x ∙ ap (λ (l : List ℕ). ((leading y kind f ++ v) ++ n) ++ l) none
        ∙ append-nil ((leading y kind f ++ v) ++ n)
        ∙ append_assoc (leading y kind f) v n
        ∙ append_assoc y (kind ∷ f ∷ []) (v ++ n)
        ∙ rw (z.cell, fl, z.coded.cells)
        in
        (whole ∙ rw (z.kind-is, z.flags-is) (sym (ap (λ (q : Read Column). column_record p (got_or no_column q)) w)), sym (ap walked_as w))

    pub reference-written : (end : ℕ) (target : Text) (x : List ℕ) → f / 16 % 2 ≡ 1 → name_at s mid ≡ got (text_bytes target) end
        → x ≡ name_cell (text_bytes target) → Columned (put_mid 53 25 part x) end
    reference-written end target x t e ex =
        let on : bit 16 f ≡ true = rw t in
        columned (put_mid 53 25 part x) end (some (text_bytes target)) (sym on)
        (flagged-is (name_at s) (bit 16 (get_or s (a + 1) 0)) mid (text_bytes target) end (sym (ap (bit 16) z.flags-is) ∙ on) e)
        (ap (λ (l : List ℕ). put_mid 53 25 l x) b.is
        ∙ put_next 53 25 (leading y kind f ++ value_cell cell_width (or_default b.value null)) d x (simp length-append (omega (arith, y-long, b.wide)))
        ∙ ap (λ (l : List ℕ). ((leading y kind f ++ value_cell cell_width (or_default b.value null)) ++ l) ++ drop 78 d) ex)

    pub reference-left : (f / 16 % 2 ≡ 1 → ⊥) → Columned part mid
    reference-left t =
        let off : bit 16 f ≡ false = ne_eqb (f / 16 % 2) 1 t in
        columned part mid none (sym off)
        (flagged-none (name_at s) (bit 16 (get_or s (a + 1) 0)) mid (sym (ap (bit 16) z.flags-is) ∙ off))
        (b.is ∙ skip 53 25 78 (leading y kind f ++ value_cell cell_width (or_default b.value null)) d over (omega arith)
        ∙ ap (λ (l : List ℕ). ((leading y kind f ++ value_cell cell_width (or_default b.value null)) ++ l) ++ drop 78 d) (sym no_name))

    pub reference-broken : (x : ℕ) → f / 16 % 2 ≡ 1 → name_at s mid ≡ broken x → ⊥
    reference-broken x t e =
        never-broken (name_at s mid) x
        (flagged-first (name_at s) (bit 16 (get_or s (a + 1) 0)) mid (sym (ap (bit 16) z.flags-is) ∙ rw t) (z.column.reference b.value mid b.read)) e

-- what is got where it ends
pub got-ends : {A : Type 0} (w : Read A) (d : A) (r : ℕ) → is_got w ≡ true → Ok r ≡ walked_as w → w ≡ got (got_or d w) r
unfolding is_got walked_as got_or
got-ends (got a n) d r h e = ap (λ (j : ℕ). got a j) (sym (ap offset e))
got-ends (broken x) d r h e = absurd (true≢false (sym h))

-- ---- a column that is read is good as it stands: its default is normalised by the reading

module _ (s : List ℕ) where
  pub column-fine : Bytes s → (at : ℕ) (c : Column) (e : ℕ) → column_at s at ≡ got c e → good_column c ≡ true
  column-fine h at c e x =
      subst (λ (y : Column). good_column y ≡ true) (given (Same entered_column) (column_at s at) c e (same-column s at) x)
      (given (λ y. good_column (entered_column y) ≡ true) (column_at s at) c e (gives-column s h at) x)

-- ---- a create

module _ (s : List ℕ) (p : Profile) (name : List ℕ) where
  abbrev after_count : ℕ → ℕ → ℕ → Read Request
  after_count key n c = and_then (times (column_at s) n c) (λ cs d. got (Create (record { name = name; key = key; columns = cs })) d)

  abbrev after_key : ℕ → ℕ → Read Request
  after_key key b = and_then (byte_from 0 p.columns s b) (after_count key)

  abbrev after_table : ℕ → Read Request
  after_table a = and_then (byte_at s a) after_key

pub create-name : (s : List ℕ) (p : Profile) (at : ℕ) → is_got (create_at s p at) ≡ true → is_got (name_at s at) ≡ true
unfolding create_at
create-name s p at h = then-first (name_at s at) (after_table s p) h

-- its name ends at a, where its key column stands
pub record SchemaGot (s : List ℕ) (p : Profile) (at a : ℕ) (name : List ℕ) : Type 0 where
  pub inside : a + 1 < length s
  pub few : get_or s (a + 1) 0 ≤ p.columns
  pub columns : is_got (times (column_at s) (get_or s (a + 1) 0) (a + 2)) ≡ true
  pub whole : (cs : List Column) (e : ℕ) → times (column_at s) (get_or s (a + 1) 0) (a + 2) ≡ got cs e
      → create_at s p at ≡ got (Create (record { name = name; key = get_or s a 0; columns = cs })) e

pub schema-got : (s : List ℕ) (p : Profile) (at a : ℕ) (name : List ℕ) → name_at s at ≡ got name a → is_got (create_at s p at) ≡ true → SchemaGot s p at a name
unfolding create_at
schema-got s p at a name e h =
    let h1 = then_next (name_at s at) (after_table s p) h name a e in
    let key : ℕ = get_or s a 0 in
    let k = byte-got s a (then-first (byte_at s a) (after_key s p name) h1) in
    let h2 = then_next (byte_at s a) (after_key s p name) h1 key (a + 1) k.1 in
    let q = from-got 0 p.columns s (a + 1) (then-first (byte_from 0 p.columns s (a + 1)) (after_count s p name key) h2) in
    let n : ℕ = get_or s (a + 1) 0 in
    let two : a + 1 + 1 ≡ a + 2 = omega arith in
    let i : byte_from 0 p.columns s (a + 1) ≡ got n (a + 2) = rw two at q.is in
    let h3 = then_next (byte_from 0 p.columns s (a + 1)) (after_count s p name key) h2 n (a + 2) i in
    let last : List Column → ℕ → Read Request = λ cs d. got (Create (record { name = name; key = key; columns = cs })) d in
    record {
      inside = q.inside;
      few = q.most;
      columns = then-first (times (column_at s) n (a + 2)) last h3;
      whole = λ cs y u.
          then_is (name_at s at) (after_table s p) name a e
          ∙ then_is (byte_at s a) (after_key s p name) key (a + 1) k.1
          ∙ then_is (byte_from 0 p.columns s (a + 1)) (after_count s p name key) n (a + 2) i
          ∙ then_is (times (column_at s) n (a + 2)) last cs y u;
    }

-- ---- the columns written so far, behind the bytes `lead`

unfoldable pub columns_bytes : Profile → List Column → List ℕ
columns_bytes p cs = joined (map (column_record p) cs)

columns-next : (p : Profile) (cs : List Column) (c : Column) → columns_bytes p (cs ++ (c ∷ [])) ≡ columns_bytes p cs ++ column_record p c
unfolding columns_bytes joined
columns-next p cs c =
    ap joined (map-append (column_record p) cs (c ∷ []))
    ∙ joined-append (map (column_record p) cs) (column_record p c ∷ [])
    ∙ ap (λ (l : List ℕ). joined (map (column_record p) cs) ++ l) (append-nil (column_record p c))

pub record Schemed (p : Profile) (s lead : List ℕ) (count begin : ℕ) (out : List ℕ) (i from q : ℕ) : Type 0 where
  pub coded : Coded p
  pub bytes : Bytes s
  pub within : count ≤ p.columns
  pub done : List Column
  pub few : length done ≡ i
  pub ahead : is_got (times (column_at s) (count - i) q) ≡ true
  pub rest : (cs : List Column) (e : ℕ) → times (column_at s) (count - i) q ≡ got cs e → times (column_at s) count begin ≡ got (done ++ cs) e
  pub from_is : from ≡ 27 + length done * column_width p
  pub front : length (lead ++ columns_bytes p done) ≡ from
  pub is : out ≡ (lead ++ columns_bytes p done) ++ drop from (replicate (schema_width p) 0)

pub clear-front : (w n : ℕ) → w ≤ n → ◌≡◌ {A = List ℕ} (take w (replicate n 0)) (replicate w 0)
clear-front w n h =
    let e : n ≡ w + (n - w) = omega arith in
    ap {B = List ℕ} (λ (m : ℕ). take w (replicate m 0)) e
    ∙ ap (take w) (sym (replicate-append-replicate w (n - w) 0))
    ∙ take_at (replicate w 0) (replicate (n - w) 0) w (length-replicate w 0)

pub schema-start : (p : Profile) (s lead : List ℕ) (count begin : ℕ) → Coded p → Bytes s → count ≤ p.columns → (out : List ℕ) → length lead ≡ 27
    → out ≡ lead ++ drop 27 (replicate (schema_width p) 0) → is_got (times (column_at s) count begin) ≡ true → Schemed p s lead count begin out 0 27 begin
unfolding columns_bytes joined
schema-start p s lead count begin k b w out l e h =
    record {
      coded = k;
      bytes = b;
      within = w;
      done = [];
      few = refl;
      ahead = rw (sub-zero count) h;
      rest = λ cs e x. rw (sub-zero count) at x;
      from_is = rw (zero-mul (column_width p));
      front = ap length (append-nil lead) ∙ l;
      is = e ∙ ap (λ (x : List ℕ). x ++ drop 27 (replicate (schema_width p) 0)) (sym (append-nil lead));
    }

module _ {p : Profile} {s lead : List ℕ} {count begin : ℕ} {out : List ℕ} {i from q : ℕ} (x : Schemed p s lead count begin out i from q) (at_most : i ≤ count) where
  from-most : from ≤ schema_width p
  unfolding schema_width
  from-most =
      let h : length x.done ≤ p.columns = omega (arith, x.few, x.within) in
      omega (arith, x.from_is, mul-le-mul_right (column_width p) h)

  pub schema-inside : length out ≡ schema_width p
  schema-inside =
      ap length x.is ∙ length-append (lead ++ columns_bytes p x.done) (drop from (replicate (schema_width p) 0))
      ∙ omega (arith, from-most, x.front, length-drop {A = ℕ} from (replicate (schema_width p) 0), length-replicate {A = ℕ} (schema_width p) 0)

  module _ (more : i < count) {w : ℕ} (ew : w ≡ column_width p) where
    left : 0 < count - i
    left = omega arith

    less : count - i - 1 ≡ count - (i + 1)
    less = omega arith

    pub column-room : from + w ≤ schema_width p
    column-room = omega (arith, x.from_is, x.few, ew, column-within p (length x.done) (omega (arith, x.few, x.within)))

    pub column-inside : from + w ≤ length out
    column-inside = omega (arith, column-room, schema-inside)

    -- the part that a column is written through
    part-is : take (from + w - from) (drop from out) ≡ replicate w 0
    part-is =
        ap (λ (m : ℕ). take m (drop from out)) (add-sub_cancel_left from w)
        ∙ ap (λ (l : List ℕ). take w (drop from l)) x.is
        ∙ ap (take w) (drop_at (lead ++ columns_bytes p x.done) (drop from (replicate (schema_width p) 0)) from x.front ∙ drop-zeros from (schema_width p))
        ∙ clear-front w (schema_width p - from) (omega (arith, column-room))

    pub column-requires : Coded p × (length (take (from + w - from) (drop from out)) ≡ column_width p) × (zeros (take (from + w - from) (drop from out)) ≡ true) × (is_got (column_at s q) ≡ true)
    column-requires = (
      x.coded,
      ap length part-is ∙ length-replicate w 0 ∙ ew,
      ap zeros part-is ∙ replicate-zeros w,
      next-first (column_at s) (count - i) q left x.ahead,
    )

    module _ {y : List ℕ} {r : ℕ} (ey : y ≡ column_record p (column_of (column_at s q))) (er : Ok r ≡ walked_as (column_at s q)) where
      abbrev c : Column
      c = column_of (column_at s q)

      read : column_at s q ≡ got c r
      read = got-ends (column_at s q) no_column r (next-first (column_at s) (count - i) q left x.ahead) er

      y-wide : length y ≡ w
      y-wide = ap length ey ∙ column-long p x.coded.known.cell c (column-good c (column-fine s x.bytes q c r read)) ∙ sym ew

      joins : (lead ++ columns_bytes p x.done) ++ y ≡ lead ++ columns_bytes p (x.done ++ (c ∷ []))
      joins =
          append_assoc lead (columns_bytes p x.done) y
          ∙ ap (λ (l : List ℕ). lead ++ l) (ap (λ (l : List ℕ). columns_bytes p x.done ++ l) ey ∙ sym (columns-next p x.done c))

      pub schema-next : Schemed p s lead count begin (put_mid from (from + w - from) out y) (i + 1) (from + w) r
      schema-next =
          record {
            coded = x.coded;
            bytes = x.bytes;
            within = x.within;
            done = x.done ++ (c ∷ []);
            few = omega (arith, x.few, length-append x.done (c ∷ []));
            ahead = rw less at (next-rest (column_at s) (count - i) q c r left read x.ahead);
            rest = λ cs e h. x.rest (c ∷ cs) e (next-whole (column_at s) (count - i) q c r cs e left read (rw (← less) at h)) ∙ ap (λ (l : List Column). got l e) (sym (append_assoc x.done (c ∷ []) cs));
            from_is =
                let n : length (x.done ++ (c ∷ [])) ≡ suc (length x.done) = length-append x.done (c ∷ []) ∙ omega arith in
                omega (arith, x.from_is, ew, ap (λ (m : ℕ). m * column_width p) n ∙ suc-mul (length x.done) (column_width p));
            front = ap length (sym joins) ∙ length-append (lead ++ columns_bytes p x.done) y ∙ omega (arith, x.front, y-wide);
            is =
                ap (λ (m : ℕ). put_mid from m out y) (add-sub_cancel_left from w)
                ∙ ap (λ (l : List ℕ). put_mid from w l y) x.is
                ∙ put_next from w (lead ++ columns_bytes p x.done) (replicate (schema_width p) 0) y x.front
                ∙ ap (λ (l : List ℕ). l ++ drop (from + w) (replicate (schema_width p) 0)) joins;
          }

-- what a create says before its columns, when its name ends at a
abbrev pub schema_lead : List ℕ → ℕ → ℕ → ℕ → List ℕ
schema_lead s at a n = leading (name_cell (got_or [] (name_at s at))) (get_or s a 0) n

pub lead_is : (s : List ℕ) (at a n key : ℕ) (name : List ℕ) → name_at s at ≡ got name a → key ≡ get_or s a 0 → schema_lead s at a n ≡ leading (name_cell name) key n
unfolding got_or
lead_is s at a n key name e ek = rw (e, ek)

pub schema-least : (p : Profile) (d : List ℕ) → length d ≡ schema_width p → 27 ≤ length d
unfolding schema_width
schema-least p d long = omega (arith, long)

-- name, key column and column count are written
pub schema-led-long : (name : Text) → Packed name → (key n : ℕ) → length (leading (name_cell (text_bytes name)) key n) ≡ 27
schema-led-long name packed key n = simp length-append (omega (arith, name-long name packed))

module _ (p : Profile) (d : List ℕ) (long : length d ≡ schema_width p) (clear : zeros d ≡ true)
    (name : Text) (packed : Packed name) (y : List ℕ) (ey : y ≡ name_cell (text_bytes name)) (key n : ℕ) where
  y-named : length y ≡ 25
  y-named = ap length ey ∙ name-long name packed

  pub schema-led : set (set (put_mid 0 25 d y) 25 key) 26 n ≡ leading (name_cell (text_bytes name)) key n ++ drop 27 (replicate (schema_width p) 0)
  schema-led =
      ap (λ (l : List ℕ). set (set l 25 key) 26 n) (put_next 0 25 [] d y refl)
      ∙ ap (λ (l : List ℕ). set l 26 n) (set_next 25 key y d y-named (omega (arith, schema-least p d long)))
      ∙ set_next 26 n (y ++ (key ∷ [])) d (simp length-append (omega (arith, y-named))) (omega (arith, schema-least p d long))
      ∙ ap (λ (l : List ℕ). l ++ drop 27 d) (append_assoc y (key ∷ []) (n ∷ []))
      ∙ ap (λ (l : List ℕ). leading l key n ++ drop 27 d) ey
      ∙ ap (λ (l : List ℕ). leading (name_cell (text_bytes name)) key n ++ drop 27 l) (zeros-are d clear ∙ ap {B = List ℕ} (λ (m : ℕ). replicate m 0) long)

-- all of it is written
pub schema-written : {p : Profile} {s name : List ℕ} {at a key n : ℕ} {lead out : List ℕ} {i from q : ℕ} → SchemaGot s p at a name → key ≡ get_or s a 0 → n ≡ get_or s (a + 1) 0
    → lead ≡ leading (name_cell name) key n → length lead ≡ 27 → Schemed p s lead n (a + 2) out i from q → i ≡ n → out ≡ table_record p (table_of (create_at s p at))
unfolding table_record pad got_or columns_bytes schema_width
schema-written {p} {s} {name} {at} {a} {key} {n} {lead} {out} {i} {from} {q} g ek en el ll x h =
    let cs : List Column = x.done ++ [] in
    let same : cs ≡ x.done = append-nil x.done in
    let z : times (column_at s) (n - i) q ≡ got [] q = none_left (column_at s) (n - i) q (omega arith) in
    let r : create_at s p at ≡ got (Create (record { name = name; key = key; columns = x.done })) q =
    g.whole x.done q (ap (λ (m : ℕ). times (column_at s) m (a + 2)) (sym en) ∙ x.rest [] q z ∙ ap (λ (l : List Column). got l q) same)
    ∙ ap (λ (k : ℕ). got (Create (record { name = name; key = k; columns = x.done })) q) (sym ek) in
    let count : n ≡ length x.done = omega (arith, x.few) in
    let b : List ℕ = joined (map (column_record p) x.done) in
    let fr : from ≡ 27 + length b = omega (arith, x.front, length-append lead b, ll) in
    let room : p.columns * column_width p - length b ≡ 27 + p.columns * column_width p - from = omega (arith, fr) in
    x.is
    ∙ append_assoc lead b (drop from (replicate (27 + p.columns * column_width p) 0))
    ∙ ap (λ (l : List ℕ). lead ++ (b ++ l)) (drop-zeros from (27 + p.columns * column_width p) ∙ ap {B = List ℕ} (λ (m : ℕ). replicate m 0) (sym room))
    ∙ ap (λ (l : List ℕ). l ++ (b ++ replicate (p.columns * column_width p - length b) 0)) el
    ∙ append_assoc (name_cell name) (key ∷ n ∷ []) (b ++ replicate (p.columns * column_width p - length b) 0)
    ∙ ap (λ (m : ℕ). name_cell name ++ (key ∷ m ∷ (b ++ replicate (p.columns * column_width p - length b) 0))) count
    ∙ sym (ap (λ (w : Read Request). table_record p (table_of w)) r)

-- ---- what is created

abbrev Made : Request → Type 0
Made q = (t : Table) × (q ≡ Create t) × (entered_table t ≡ t)

gives_made : (s : List ℕ) (p : Profile) (at : ℕ) → Gives Made (create_at s p at)
unfolding create_at
gives_made s p at =
    gives_then Any Made (name_at s at) (after_table s p) (any (name_at s at))
    (λ name a x1.
    gives_then Any Made (byte_at s a) (after_key s p name) (any (byte_at s a))
    (λ key b x2.
    gives_then Any Made (byte_from 0 p.columns s b) (after_count s p name key) (any (byte_from 0 p.columns s b))
    (λ n c x3.
    gives_then (Same (map entered_column)) Made (times (column_at s) n c) (λ cs d. got (Create (record { name = name; key = key; columns = cs })) d)
    (gives_same entered_column (column_at s) n c (same-column s))
    (λ cs d e.
    gives-got Made (Create (record { name = name; key = key; columns = cs })) d
    (record { name = name; key = key; columns = cs }, refl, ap (λ (l : List Column). record { name = name; key = key; columns = l }) e)))))

-- a create that is read has a good table
pub record CreateGot (s : List ℕ) (p : Profile) (at : ℕ) : Type 0 where
  pub table : Table
  pub end : ℕ
  pub is : create_at s p at ≡ got (Create table) end
  pub good : good_table p table ≡ true

pub create-got : (s : List ℕ) → Bytes s → (p : Profile) (at : ℕ) → is_got (create_at s p at) ≡ true → CreateGot s p at
unfolding readable
create-got s b p at h =
    let g = was-got (create_at s p at) h in
    let m = given Made (create_at s p at) g.what g.end (gives_made s p at) g.is in
    let r : readable p g.what ≡ true = given (λ q. readable p q ≡ true) (create_at s p at) g.what g.end (gives-create s b p at) g.is in
    let i : create_at s p at ≡ got (Create m.0) g.end = g.is ∙ ap (λ (q : Request). got q g.end) m.1 in
    record {
      table = m.0;
      end = g.end;
      is = i;
      good = subst (λ (t : Table). good_table p t ≡ true) m.2 (subst (λ (q : Request). readable p q ≡ true) m.1 r);
    }

module _ (p : Profile) (coded : Coded p) (s : List ℕ) (at : ℕ) (g : CreateGot s p at) (y : List ℕ) (ey : y ≡ table_record p (table_of (create_at s p at))) where
  record_is : y ≡ table_record p g.table
  unfolding got_or
  record_is = ey ∙ ap (λ (w : Read Request). table_record p (table_of w)) g.is

  pub create-bytes : TableBytes p y
  create-bytes = subst (TableBytes p) (sym record_is) (table-bytes p coded g.table g.good)

  pub create-long : length y ≡ schema_width p
  create-long = create-bytes.long

  pub create-acts : {R : ℕ} {b j s₁ j₁ : List ℕ} {a : Answer} → Settled p R (outside (books_of p R b j) (create p (parse p R b) (read_table p y))) b j s₁ j₁ a
      → Acted p R (create_at s p at) b j s₁ j₁ a
  unfolding act got_or
  create-acts {R} {b} {j} {s₁} {j₁} {a} h =
      let e : read_table p y ≡ g.table = ap (read_table p) record_is ∙ table-back p coded.known.cell g.table (table-good p g.table g.good) in
      subst (λ (w : Read Request). Settled p R (act p R (books_of p R b j) (got_or Names w)) b j s₁ j₁ a) (sym g.is)
      (subst (λ (t : Table). Settled p R (outside (books_of p R b j) (create p (parse p R b) t)) b j s₁ j₁ a) e h)

-- 44
pub create-inside : {p : Profile} {R : ℕ} {s : List ℕ} {at : ℕ} → CreateGot s p at → {b j : List ℕ} {a : Answer} → Booked p R b j → not (eqb (get_or j 0 0) 0) ≡ true
    → said a ≡ no InsideBatch 0 → Acted p R (create_at s p at) b j b j a
unfolding act got_or
create-inside {p} {R} g {b} {j} {a} bk h e =
    subst (λ (w : Read Request). Settled p R (act p R (books_of p R b j) (got_or Names w)) b j b j a) (sym g.is) (inside-refused bk (create p (parse p R b) g.table) h e)

-- the room that it is written in
pub schema-room : (p : Profile) → Coded p → p.columns ≤ 8 → schema_width p ≤ 651
unfolding schema_width
schema-room p k h =
    let m : p.columns * column_width p ≤ 8 * 78 = mul-le-mul {n₂ = 8} {m₂ = 78} h (omega (arith, column-wide p k)) in
    omega arith

module _ (w : ℕ) (d : List ℕ) where
  pub room-clear : (n : ℕ) → w ≤ n → d ≡ replicate n 0 → take (w - 0) (drop 0 d) ≡ replicate w 0
  room-clear n h e = ap (λ (m : ℕ). take m d) (sub-zero w) ∙ ap (take w) e ∙ clear-front w n h

  module _ (y : List ℕ) (e : length y ≡ w) where
    room-is : put_mid 0 (w - 0) d y ≡ y ++ drop w d
    room-is = ap (λ (m : ℕ). y ++ drop m d) (sub-zero w)

    pub room_back : take (w - 0) (drop 0 (put_mid 0 (w - 0) d y)) ≡ y
    room_back = ap (λ (m : ℕ). take m (put_mid 0 (w - 0) d y)) (sub-zero w) ∙ ap (take w) room-is ∙ take_at y (drop w d) w e

    pub room-enough : w ≤ length (put_mid 0 (w - 0) d y)
    room-enough = rw room-is (omega (arith, length-append y (drop w d), e))
