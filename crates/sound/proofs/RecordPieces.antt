-- Which bytes are a column's, a table's and an index entry's record, piece by piece. Assumes nothing.
use mathlib.Core.Path.{◌≡◌, refl, sym, ap, ◌∙◌, subst}
use mathlib.Core.Bool.{Bool, true, false, ◌&&◌, cond}
use Prim.Native.Nat.{ℕ, zero, suc, ◌+◌, ◌-◌, ◌*◌, ◌/◌, ◌%◌, ◌≤◌, ◌<◌}
use native.Mathlib.Nat.{mul-le-mul, le_refl}
use native.Mathlib.Omega.{arith}
use mathlib.Core.List.{List, [], ◌∷◌, ◌++◌, map}
use lib.Dec.{eqb, leb}
use lib.ListN.{length, get_or, take, drop, replicate, length-append, length-drop, length-map}
use lib.Seq.{drop-drop, get_or-drop, take_all, length-take-le}
use borrow.Author.Tests.{eqb-true, eq-eqb, leb-true, le-leb}
use Rattle.values.specs.Basic.{is_some, or_default, only_if}
use Rattle.values.specs.Bytes.{leqb, zeros, pad, Bytes}
use Rattle.values.specs.Value.{null}
use Rattle.values.specs.Cell.{name_cell, read_name, is_name_cell, value_cell, read_value, is_cell}
use Rattle.areas.specs.Records.{joined, records}
use Rattle.values.proofs.Packing.{drop-bytes}
use Rattle.values.proofs.Cells.{null-zeros}
use Rattle.areas.proofs.Records.{length-records}
use Rattle.rules.specs.declared.profile.Profile.{Profile}
use Rattle.rules.specs.Profile.{column_width, schema_width, entry_width}
use Rattle.rules.specs.Layout.{one, bit, flags, column_record, table_record, read_column, read_table, entry_record, read_entry}
use Rattle.rules.specs.Sound.{all, every, canonical_default, good_reference, good_column, good_table}
use Rattle.rules.proofs.Tests.{and_no}
use Rattle.rules.proofs.Lists.{bool_same}
use Rattle.laid.specs.Store.{Coded}
use Rattle.sound.specs.Tested.{is_column, is_table, is_entry}
use Rattle.sound.proofs.Pieces.{leqb-append, leqb-cons, zeros-piece, name-piece, value-piece, name-long, value-long, good-read-name, canonical-read, joined-long, joined-piece}

-- ---- tests in a row

pub and_same : {a b c d : Bool} → a ≡ b → c ≡ d → (a && c) ≡ (b && d)
and_same e f = rw (e, f)

pub second-false : (a b : Bool) (bs : List Bool) → b ≡ false → all (a ∷ b ∷ bs) ≡ false
unfolding all
second-false true b bs e = rw e
second-false false b bs e = refl

entry-tests : (n z w : Bool) → (n && (true && (z && w))) ≡ all (n ∷ z ∷ w ∷ [])
unfolding all
entry-tests true true true = refl
entry-tests true true false = refl
entry-tests true false w = refl
entry-tests false z w = refl

-- ---- index entries

module _ (p : Profile) (k : Coded p) (r : List ℕ) (b : Bytes r) (l : length r ≡ entry_width p) where
  entry-long : length r ≡ 78
  unfolding entry_width
  entry-long = omega (arith, l, k.cells)

  pub entry_pieces : is_entry p r ≡ all (is_name_cell (take 25 r) ∷ is_cell (take 26 (drop 26 r)) ∷ is_cell (take 26 (drop 52 r)) ∷ [])
  unfolding is_entry entry_record read_entry
  entry_pieces =
      let n = entry-long in
      let v = read_value (drop 26 r) in
      let u = read_value (drop 52 r) in
      rw k.cells
      (leqb-append (name_cell (read_name r)) (get_or r 25 0 ∷ (value_cell 26 v ++ value_cell 26 u)) r 25 (name-long r) (omega arith)
      ∙ and_same (name-piece r)
      (leqb-cons (get_or r 25 0) (value_cell 26 v ++ value_cell 26 u) (drop 25 r) (simp length-drop (omega arith))
      ∙ and_same (eq-eqb (get_or r 25 0) (get_or (drop 25 r) 0 0) (sym (get_or-drop 25 r 0 0)))
      (ap (leqb (value_cell 26 v ++ value_cell 26 u)) (drop-drop 1 25 r)
      ∙ leqb-append (value_cell 26 v) (value_cell 26 u) (drop 26 r) 26 (value-long (drop 26 r) (drop-bytes 26 r b)) (simp length-drop (omega arith))
      ∙ and_same (value-piece (drop 26 r) (simp length-drop (omega arith)))
      (ap (leqb (value_cell 26 u)) (drop-drop 26 26 r ∙ sym (take_all 26 (drop 52 r) (simp length-drop (omega arith))))
      ∙ value-piece (drop 52 r) (simp length-drop (omega arith)))))
      ∙ entry-tests (is_name_cell (take 25 r)) (is_cell (take 26 (drop 26 r))) (is_cell (take 26 (drop 52 r))))

-- ---- columns

default-piece : (b : Bool) (x : List ℕ) → 26 ≤ length x
    → leqb (value_cell 26 (or_default (only_if b (read_value x)) null)) (take 26 x) ≡ cond b (is_cell (take 26 x)) (zeros (take 26 x))
default-piece true x h = value-piece x h
default-piece false x h = ap (λ (l : List ℕ). leqb l (take 26 x)) (null-zeros 26 (omega arith)) ∙ zeros-piece 26 (take 26 x) (length-take-le 26 x h)

default-long : (b : Bool) (x : List ℕ) → Bytes x → length (value_cell 26 (or_default (only_if b (read_value x)) null)) ≡ 26
default-long true x h = value-long x h
default-long false x h = ap length (null-zeros 26 (omega arith))

empty_name : name_cell [] ≡ replicate 25 0
unfolding name_cell pad
empty_name = refl

reference-piece : (b : Bool) (x : List ℕ) → 25 ≤ length x
    → leqb (name_cell (or_default (only_if b (read_name x)) [])) (take 25 x) ≡ cond b (is_name_cell (take 25 x)) (zeros (take 25 x))
reference-piece true x h = name-piece x
reference-piece false x h = ap (λ (l : List ℕ). leqb l (take 25 x)) empty_name ∙ zeros-piece 25 (take 25 x) (length-take-le 25 x h)

reference-long : (b : Bool) (x : List ℕ) → length (name_cell (or_default (only_if b (read_name x)) [])) ≡ 25
reference-long true x = name-long x
reference-long false x = ap length empty_name

one_below : (n : ℕ) → n < 2 → one (eqb n 1) ≡ n
one_below zero h = refl
one_below (suc zero) h = refl
one_below (suc (suc n)) h = absurd (omega arith)

one_bit : (n : ℕ) → one (eqb (n % 2) 1) ≡ n % 2
one_bit n = one_below (n % 2) (omega arith)

some-only : {A : Type 0} (b : Bool) (a : A) → is_some (only_if b a) ≡ b
some-only true a = refl
some-only false a = refl

bits-sum : (f a b c x0 x1 x2 x3 x4 : ℕ) → f ≡ 2 * a + x0 → a ≡ 2 * b + x1 → b ≡ 2 * c + x2 → c ≡ 2 * x4 + x3 → x0 + 2 * x1 + 4 * x2 + 8 * x3 + 16 * x4 ≡ f
bits-sum f a b c x0 x1 x2 x3 x4 e0 e1 e2 e3 = omega arith

bits_most : (x0 x1 x2 x3 x4 : ℕ) → x0 < 2 → x1 < 2 → x2 < 2 → x3 < 2 → x4 < 2 → x0 + 2 * x1 + 4 * x2 + 8 * x3 + 16 * x4 ≤ 31
bits_most x0 x1 x2 x3 x4 h0 h1 h2 h3 h4 = omega arith

bits-whole : (f : ℕ) → f ≤ 31 → f / 1 % 2 + 2 * (f / 2 % 2) + 4 * (f / 4 % 2) + 8 * (f / 8 % 2) + 16 * (f / 16 % 2) ≡ f
bits-whole f h =
    let top : f / 16 % 2 ≡ f / 16 = omega arith in
    rw top
    (bits-sum f (f / 2) (f / 4) (f / 8) (f / 1 % 2) (f / 2 % 2) (f / 4 % 2) (f / 8 % 2) (f / 16) (half-0 f) (half-1 f) (half-2 f) (half-3 f))
  where
    half-0 : (f : ℕ) → f ≡ 2 * (f / 2) + f / 1 % 2
    half-0 f = omega arith

    half-1 : (f : ℕ) → f / 2 ≡ 2 * (f / 4) + f / 2 % 2
    half-1 f = omega arith

    half-2 : (f : ℕ) → f / 4 ≡ 2 * (f / 8) + f / 4 % 2
    half-2 f = omega arith

    half-3 : (f : ℕ) → f / 8 ≡ 2 * (f / 16) + f / 8 % 2
    half-3 f = omega arith

bit_below : (n : ℕ) → n % 2 < 2
bit_below n = omega arith

flags-piece : (p : Profile) (c : List ℕ) → eqb (flags (read_column p c)) (get_or c 26 0) ≡ leb (get_or c 26 0) 31
unfolding flags read_column
flags-piece p c =
    let f : ℕ = get_or c 26 0 in
    rw (some-only (bit 2 f) (read_value (drop 27 c)), some-only (bit 16 f) (read_name (drop (27 + p.cell) c)), one_bit (f / 1), one_bit (f / 2), one_bit (f / 4), one_bit (f / 8), one_bit (f / 16))
    (bool_same (eqb (f / 1 % 2 + 2 * (f / 2 % 2) + 4 * (f / 4 % 2) + 8 * (f / 8 % 2) + 16 * (f / 16 % 2)) f) (leb f 31)
    (λ h. le-leb f 31 (subst (λ (n : ℕ). n ≤ 31) (eqb-true (f / 1 % 2 + 2 * (f / 2 % 2) + 4 * (f / 4 % 2) + 8 * (f / 8 % 2) + 16 * (f / 16 % 2)) f h)
    (bits_most _ _ _ _ _ (bit_below (f / 1)) (bit_below (f / 2)) (bit_below (f / 4)) (bit_below (f / 8)) (bit_below (f / 16)))))
    (λ h. eq-eqb _ f (bits-whole f (leb-true f 31 h))))

canonical-only : (b : Bool) (x : List ℕ) → Bytes x → canonical_default (only_if b (read_value x)) ≡ true
unfolding canonical_default
canonical-only true x h = canonical-read x h
canonical-only false x h = refl

good-only : (b : Bool) (x : List ℕ) → Bytes x → good_reference (only_if b (read_name x)) ≡ true
unfolding good_reference
good-only true x h = good-read-name x h
good-only false x h = refl

column-tests : (n f d e a b : Bool) → ((n && (true && (f && (d && e)))) && all (true ∷ a ∷ b ∷ true ∷ true ∷ [])) ≡ all (n ∷ f ∷ d ∷ e ∷ a ∷ b ∷ [])
unfolding all
column-tests true true true true a b = refl
column-tests true true true false a b = refl
column-tests true true false e a b = refl
column-tests true false d e a b = refl
column-tests false f d e a b = refl

sum : (a b c : ℕ) → a ≡ 25 → b ≡ 26 → c ≡ 25 → a + suc (suc (b + c)) ≡ 78
sum a b c e f g = omega arith

module _ (p : Profile) (k : Coded p) where
  column-width : column_width p ≡ 78
  unfolding column_width
  column-width = omega (arith, k.cells)

  module _ (c : List ℕ) (b : Bytes c) where
    column-long : length (column_record p (read_column p c)) ≡ column_width p
    unfolding column_record read_column
    column-long =
        let n : List ℕ = name_cell (read_column p c).name in
        let v : List ℕ = value_cell p.cell (or_default (read_column p c).default null) in
        let u : List ℕ = name_cell (or_default (read_column p c).reference []) in
        let x : length v ≡ 26 = rw k.cells (default-long (bit 2 (get_or c 26 0)) (drop 27 c) (drop-bytes 27 c b)) in
        let y : length u ≡ 25 = reference-long (bit 16 (get_or c 26 0)) (drop (27 + p.cell) c) in
        length-append n ((read_column p c).kind ∷ flags (read_column p c) ∷ (v ++ u))
        ∙ ap (λ (m : ℕ). length n + suc (suc m)) (length-append v u)
        ∙ sum (length n) (length v) (length u) (name-long c) x y ∙ sym column-width

    good-piece : good_column (read_column p c) ≡ all (true ∷ leb 1 (get_or c 25 0) ∷ leb (get_or c 25 0) 4 ∷ true ∷ true ∷ [])
    unfolding good_column read_column
    good-piece =
        rw (good-read-name c b, canonical-only (bit 2 (get_or c 26 0)) (drop 27 c) (drop-bytes 27 c b), good-only (bit 16 (get_or c 26 0)) (drop (27 + p.cell) c) (drop-bytes (27 + p.cell) c b))

    last : length c ≡ 78 → leqb (value_cell p.cell (or_default (read_column p c).default null) ++ name_cell (or_default (read_column p c).reference [])) (drop 27 c)
        ≡ (cond (bit 2 (get_or c 26 0)) (is_cell (take 26 (drop 27 c))) (zeros (take 26 (drop 27 c)))
        && cond (bit 16 (get_or c 26 0)) (is_name_cell (take 25 (drop 53 c))) (zeros (take 25 (drop 53 c))))
    unfolding read_column
    last n =
        let g = get_or c 26 0 in
        let v : List ℕ = value_cell 26 (or_default (only_if (bit 2 g) (read_value (drop 27 c))) null) in
        let u : List ℕ = name_cell (or_default (only_if (bit 16 g) (read_name (drop 53 c))) []) in
        rw k.cells
        (leqb-append v u (drop 27 c) 26 (default-long (bit 2 g) (drop 27 c) (drop-bytes 27 c b)) (simp length-drop (omega arith))
        ∙ and_same (default-piece (bit 2 g) (drop 27 c) (simp length-drop (omega arith)))
        (ap (leqb u) (drop-drop 26 27 c ∙ sym (take_all 25 (drop 53 c) (simp length-drop (omega arith))))
        ∙ reference-piece (bit 16 g) (drop 53 c) (simp length-drop (omega arith))))

    record-piece : length c ≡ 78 → leqb (column_record p (read_column p c)) c
        ≡ (is_name_cell (take 25 c) && (true && (leb (get_or c 26 0) 31
        && (cond (bit 2 (get_or c 26 0)) (is_cell (take 26 (drop 27 c))) (zeros (take 26 (drop 27 c)))
        && cond (bit 16 (get_or c 26 0)) (is_name_cell (take 25 (drop 53 c))) (zeros (take 25 (drop 53 c)))))))
    unfolding column_record read_column
    record-piece n =
        let f : ℕ = flags (read_column p c) in
        let v : List ℕ = value_cell p.cell (or_default (read_column p c).default null) in
        let u : List ℕ = name_cell (or_default (read_column p c).reference []) in
        leqb-append (name_cell (read_name c)) (get_or c 25 0 ∷ f ∷ (v ++ u)) c 25 (name-long c) (omega arith)
        ∙ and_same (name-piece c)
        (leqb-cons (get_or c 25 0) (f ∷ (v ++ u)) (drop 25 c) (simp length-drop (omega arith))
        ∙ and_same (eq-eqb (get_or c 25 0) (get_or (drop 25 c) 0 0) (sym (get_or-drop 25 c 0 0)))
        (ap (leqb (f ∷ (v ++ u))) (drop-drop 1 25 c)
        ∙ leqb-cons f (v ++ u) (drop 26 c) (simp length-drop (omega arith))
        ∙ and_same (ap (eqb f) (get_or-drop 26 c 0 0) ∙ flags-piece p c)
        (ap (leqb (v ++ u)) (drop-drop 1 26 c) ∙ last n)))

    pub column_pieces : length c ≡ column_width p → is_column p c
        ≡ all
        (is_name_cell (take 25 c)
        ∷ leb (get_or c 26 0) 31
        ∷ cond (bit 2 (get_or c 26 0)) (is_cell (take 26 (drop 27 c))) (zeros (take 26 (drop 27 c)))
        ∷ cond (bit 16 (get_or c 26 0)) (is_name_cell (take 25 (drop 53 c))) (zeros (take 25 (drop 53 c)))
        ∷ leb 1 (get_or c 25 0)
        ∷ leb (get_or c 25 0) 4
        ∷ [])
    unfolding is_column
    column_pieces l =
        let n : length c ≡ 78 = l ∙ column-width in
        and_same (record-piece n) good-piece
        ∙ column-tests (is_name_cell (take 25 c)) (leb (get_or c 26 0) 31) (cond (bit 2 (get_or c 26 0)) (is_cell (take 26 (drop 27 c))) (zeros (take 26 (drop 27 c))))
        (cond (bit 16 (get_or c 26 0)) (is_name_cell (take 25 (drop 53 c))) (zeros (take 25 (drop 53 c)))) (leb 1 (get_or c 25 0)) (leb (get_or c 25 0) 4)

-- ---- tables

pub every-both : {A B : Type 0} (f : A → Bool) (h : A → B) (g : B → Bool) (xs : List A) → every (λ x. f x && g (h x)) xs ≡ (every f xs && every g (map h xs))
unfolding every
every-both f h g [] = refl
every-both f h g (x ∷ xs) = rw (every-both f h g xs) (four (f x) (g (h x)) (every f xs) (every g (map h xs)))
  where
    four : (a b c d : Bool) → ((a && b) && (c && d)) ≡ ((a && c) && (b && d))
    four true true c d = refl
    four true false true d = refl
    four true false false d = refl
    four false b c d = refl

table-tests : (n e z g : Bool) → ((n && (true && (true && (e && z)))) && all (true ∷ true ∷ g ∷ [])) ≡ all (n ∷ true ∷ (e && g) ∷ z ∷ [])
unfolding all
table-tests true true true g = refl
table-tests true true false true = refl
table-tests true true false false = refl
table-tests true false z g = refl
table-tests false e z g = refl

module _ (p : Profile) (k : Coded p) (r : List ℕ) (b : Bytes r) (l : length r ≡ schema_width p) where
  abbrev count : ℕ
  count = get_or r 26 0

  abbrev rest : List ℕ
  rest = drop 27 r

  abbrev cols : List (List ℕ)
  cols = records (column_width p) (get_or r 26 0) (drop 27 r)

  cols-length : length (map (read_column p) cols) ≡ count
  cols-length = length-map cols (read_column p) ∙ length-records (column_width p) count rest

  good-table : good_table p (read_table p r) ≡ all (true ∷ leb count p.columns ∷ every good_column (map (read_column p) cols) ∷ [])
  unfolding good_table read_table
  good-table = rw (good-read-name r b, cols-length)

  rest-long : length rest ≡ p.columns * column_width p
  unfolding schema_width
  rest-long = simp length-drop (omega (arith, l))

  cols-joined : List ℕ
  cols-joined = joined (map (column_record p) (map (read_column p) cols))

  joined-width : length cols-joined ≡ count * column_width p
  unfolding cols-joined
  joined-width = joined-long (column_width p) (read_column p) (column_record p) (λ c h. column-long p k c h) count rest (drop-bytes 27 r b)

  pad-piece : count ≤ p.columns → leqb (pad (p.columns * column_width p) cols-joined) rest
      ≡ (every (λ c. leqb (column_record p (read_column p c)) c) cols && zeros (drop (27 + count * column_width p) r))
  unfolding pad cols-joined
  pad-piece h =
      let w = column_width p in
      let m : count * w ≤ p.columns * w = mul-le-mul h (le_refl w) in
      let j = joined-width in
      leqb-append cols-joined (replicate (p.columns * w - length cols-joined) 0) rest (count * w) j (omega (arith, rest-long))
      ∙ and_same (joined-piece w (read_column p) (column_record p) (λ c h. column-long p k c h) count rest (drop-bytes 27 r b) (omega (arith, rest-long)))
      (zeros-piece (p.columns * w - length cols-joined) (drop (count * w) rest)
      (length-drop (count * w) rest ∙ ap (λ (n : ℕ). n - count * w) rest-long ∙ ap (λ (n : ℕ). p.columns * w - n) (sym j))
      ∙ ap zeros (drop-drop (count * w) 27 r))

  table-piece : count ≤ p.columns → leqb (table_record p (read_table p r)) r
      ≡ (is_name_cell (take 25 r) && (true && (true && (every (λ c. leqb (column_record p (read_column p c)) c) cols && zeros (drop (27 + count * column_width p) r)))))
  unfolding table_record read_table schema_width cols-joined
  table-piece h =
      let tail : List ℕ = pad (p.columns * column_width p) cols-joined in
      leqb-append (name_cell (read_name r)) (get_or r 25 0 ∷ length (map (read_column p) cols) ∷ tail) r 25 (name-long r) (omega (arith, l))
      ∙ and_same (name-piece r)
      (leqb-cons (get_or r 25 0) (length (map (read_column p) cols) ∷ tail) (drop 25 r) (simp length-drop (omega (arith, l)))
      ∙ and_same (eq-eqb (get_or r 25 0) (get_or (drop 25 r) 0 0) (sym (get_or-drop 25 r 0 0)))
      (ap (leqb (length (map (read_column p) cols) ∷ tail)) (drop-drop 1 25 r)
      ∙ leqb-cons (length (map (read_column p) cols)) tail (drop 26 r) (simp length-drop (omega (arith, l)))
      ∙ and_same (eq-eqb (length (map (read_column p) cols)) (get_or (drop 26 r) 0 0) (cols-length ∙ sym (get_or-drop 26 r 0 0)))
      (ap (leqb tail) (drop-drop 1 26 r) ∙ pad-piece h)))

  pub table_pieces : is_table p r ≡ all (is_name_cell (take 25 r) ∷ leb count p.columns ∷ every (is_column p) cols ∷ zeros (drop (27 + count * column_width p) r) ∷ [])
  unfolding is_table is_column
  table_pieces = on (leb count p.columns) refl
    where
      on : (o : Bool) → leb count p.columns ≡ o → is_table p r ≡ all (is_name_cell (take 25 r) ∷ o ∷ every (is_column p) cols ∷ zeros (drop (27 + count * column_width p) r) ∷ [])
      on true e =
          and_same (table-piece (leb-true count p.columns e)) (good-table ∙ ap (λ (x : Bool). all (true ∷ x ∷ every good_column (map (read_column p) cols) ∷ [])) e)
          ∙ table-tests (is_name_cell (take 25 r)) (every (λ c. leqb (column_record p (read_column p c)) c) cols) (zeros (drop (27 + count * column_width p) r)) (every good_column (map (read_column p) cols))
          ∙ ap (λ (x : Bool). all (is_name_cell (take 25 r) ∷ true ∷ x ∷ zeros (drop (27 + count * column_width p) r) ∷ []))
          (sym (every-both (λ c. leqb (column_record p (read_column p c)) c) (read_column p) good_column cols))
      on false e =
          ap (λ (x : Bool). leqb (table_record p (read_table p r)) r && x) (good-table ∙ ap (λ (x : Bool). all (true ∷ x ∷ every good_column (map (read_column p) cols) ∷ [])) e)
          ∙ and_no (leqb (table_record p (read_table p r)) r) _ (second-false true _ _ refl) ∙ sym (second-false (is_name_cell (take 25 r)) _ _ refl)
