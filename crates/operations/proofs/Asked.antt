-- Operations that only read: keys found one by one, the operands behind a table's name, what get, lookup, scan and list answer; and which operation a
-- number says. Assumes nothing.
use Rattle.std.specs.declared.result.Result.TheVariants.{Ok}
use Prim.Native.Nat.{ℕ, zero, suc, ◌+◌, ◌-◌, ◌<◌, ◌≤◌}
use native.Mathlib.Omega.{arith}
use mathlib.Core.Path.{◌≡◌, refl, sym, ap, ◌∙◌}
use mathlib.Core.Bool.{true, false, true≢false}
use mathlib.Core.List.{List, [], ◌∷◌}
use mathlib.Core.Option.{Option, none, some}
use lib.ListN.{length, get_or, length-map, length-take, length-drop}
use Rattle.values.specs.Basic.{is_some, maybe}
use Rattle.std.specs.Option as O
use Rattle.std.specs.declared.option.Option.{Option as Held}
use Rattle.std.specs.declared.option.Option.TheVariants.{None, Some}
use Rattle.values.specs.Value.{Value, text}
use Rattle.values.specs.Meaning.{text_bytes}
use Rattle.areas.specs.Counted.{count_at}
use Rattle.forms.specs.Read.{Read, got, broken, value_at, NameRead}
use Rattle.forms.proofs.Reading.{value_read}
use Rattle.values.specs.declared.value.Text.{Text}
use Rattle.rules.specs.declared.profile.Profile.{Profile}
use Rattle.rules.specs.Request.{Answer}
use Rattle.rules.specs.State.{Name, Table, Row, is_row, row_with, rows_of}
use Rattle.rules.specs.Layout.{Schemas, tables_count, lists, read_table, parse}
use Rattle.rules.specs.Journal.{Books}
use Rattle.rules.specs.Request.{Request, Get, Lookup, Scan, Names, said, ok}
use Rattle.rules.specs.Step.{found, lookup, act}
use Rattle.laid.specs.Catalog.{found_at, place_of}
use Rattle.checks.specs.Keys.{on_read, values_from, values_of}
use Rattle.checks.specs.declared.keys.Values.{Values}
use Rattle.walks.specs.declared.walk.Span.{Span}
use Rattle.walks.specs.Spans.{Spans}
use Rattle.checks.proofs.Checking.{place-some, place_none}
use Rattle.laid.proofs.Inside.{area-count}
use Rattle.mapping.specs.Got.{is_got, got_or}
use Rattle.records.specs.Reading.{and_then, byte_at}
use Rattle.records.specs.Record.{values_at, keys_at, lookup_at, scan_at, operands_at}
use Rattle.operations.specs.Counted.{Counted}
use Rattle.operations.specs.Told.{reads}
use Rattle.records.specs.Walked.{walked_as}
use Rattle.records.proofs.Walking.{unknown}
use borrow.Author.Tests.{lt-ltb}
use Rattle.rules.proofs.Tests.{and_both}
use Rattle.operations.proofs.Entered.{reads-range}
use Rattle.operations.proofs.Operands.{named-then, keys-read}
use Rattle.mapping.proofs.ValuesFrom.{was-got, got-gives, parted, byte-there, values-there, values-inside}

-- ---- keys found, one by one

-- at most as many values as bytes
values-few : (s : List ℕ) (n at : ℕ) → length (values_from s n at) ≤ length s - at
unfolding values_from on_read
values-few s zero at = omega arith
values-few s (suc n) at = go (value_at s at) refl (values-few s n)
  where
    go : (r : Read Value) → value_at s at ≡ r → ((b : ℕ) → length (values_from s n b) ≤ length s - b) → length (on_read r [] (λ v b. v ∷ values_from s n b)) ≤ length s - at
    go (got v b) e h = let g = value_read s at v b e in omega (arith, h b, g.after, g.inside)
    go (broken x) e h = omega arith

module _ (rs : List Row) (n : Name) where
  few : (ks : List Value) → length (found rs n ks) ≤ length ks
  unfolding found maybe
  few [] = omega arith
  few (k ∷ ks) = go (row_with rs n k) (few ks)
    where
      go : (o : Option Row) → length (found rs n ks) ≤ length ks → length (maybe o (found rs n ks) (λ r. r.cells ∷ found rs n ks)) ≤ suc (length ks)
      go none h = omega (arith, h)
      go (some r) h = omega (arith, h)

  pub found-few : (v : Values) → length (found rs n (values_of v)) ≤ length v.bytes.now
  unfolding values_of
  found-few v = omega (arith, few (values_from v.bytes.now v.count v.at), values-few v.bytes.now v.count v.at)

module _ (rs : List Row) (n : Name) (k : Value) (ks : List Value) where
  one_more : (o : Option Row) → row_with rs n k ≡ o → true ≡ is_some o → length (found rs n (k ∷ ks)) ≡ suc (length (found rs n ks))
  unfolding found maybe
  one_more none e h = absurd (true≢false h)
  one_more (some r) e h = rw e

  no_more : (o : Option Row) → row_with rs n k ≡ o → false ≡ is_some o → length (found rs n (k ∷ ks)) ≡ length (found rs n ks)
  unfolding found maybe
  no_more none e h = rw e
  no_more (some r) e h = absurd (true≢false (sym h))

-- c keys were found, and with those of `us` they are z; the first of `us` is k, and r is what was found at it
module _ (rs : List Row) (n : Name) {us ks : List Value} {k : Value} (e : us ≡ k ∷ ks) (r : Held ℕ) (h : found_at r ≡ place_of (is_row n k) rs)
    (c : ℕ) {z : ℕ} (inv : c + length (found rs n us) ≡ z) where
  now : c + length (found rs n (k ∷ ks)) ≡ z
  now = rw e at inv

  pub found-one : true ≡ O.is_some r → c + 1 + length (found rs n ks) ≡ z
  found-one t = go r h t now
    where
      go : (r : Held ℕ) → found_at r ≡ place_of (is_row n k) rs → true ≡ O.is_some r → c + length (found rs n (k ∷ ks)) ≡ z → c + 1 + length (found rs n ks) ≡ z
      go None h t m = absurd (true≢false t)
      go (Some i) h t m = omega (arith, m, one_more rs n k ks _ refl (place-some _ rs i h))

  pub found-none : false ≡ O.is_some r → c + length (found rs n ks) ≡ z
  found-none t = go r h t now
    where
      go : (r : Held ℕ) → found_at r ≡ place_of (is_row n k) rs → false ≡ O.is_some r → c + length (found rs n (k ∷ ks)) ≡ z → c + length (found rs n ks) ≡ z
      go None h t m = omega (arith, m, no_more rs n k ks _ refl (place_none _ rs h))
      go (Some i) h t m = absurd (true≢false (sym t))

-- none is left
pub found-end : (rs : List Row) (n : Name) {us : List Value} → us ≡ [] → (c : ℕ) {z : ℕ} → c + length (found rs n us) ≡ z → c ≡ z
unfolding found
found-end rs n {us} e c {z} inv = let h : c + length (found rs n []) ≡ z = rw e at inv in omega (arith, h)

-- ---- what is answered

module _ (p : Profile) (R : ℕ) (b : Books) (q : Request) (a : Answer) where
  get-answered : (n : Name) (ks : List Value) → q ≡ Get n ks → (c : ℕ) → said a ≡ ok c → c ≡ length (found b.store.rows n ks) → said a ≡ (act p R b q).reply
  unfolding act
  get-answered n ks e c h k = h ∙ ap ok k ∙ rw e

  lookup-answered : (n : Name) (i : ℕ) (vs : List Value) → q ≡ Lookup n i vs → said a ≡ (lookup b.store n i vs).reply → said a ≡ (act p R b q).reply
  unfolding act
  lookup-answered n i vs e h = h ∙ rw e

  scan-answered : (n : Name) → q ≡ Scan n → (x : Span) → Spans b.store.rows n x → said a ≡ ok (x.to - x.from) → said a ≡ (act p R b q).reply
  unfolding act
  scan-answered n e x s h =
      let l : x.to - x.from ≡ length (rows_of b.store.rows n) =
      rw s.are (simp (length-take, length-drop) (omega (arith, s.start, s.inside)))
      in
      h ∙ ap ok (l ∙ sym (length-map (rows_of b.store.rows n) (λ (r : Row). r.cells))) ∙ rw e

-- the count of tables is theirs
pub tables-counted : (p : Profile) (R : ℕ) (s : List ℕ) → count_at tables_count 1 s ≡ length (parse p R s).tables
unfolding parse
tables-counted p R s = sym (area-count p R s Schemas) ∙ sym (length-map (lists p R s).schemas (read_table p))

pub names-answered : (p : Profile) (R : ℕ) (b : Books) (from : ℕ) {c : ℕ} → c ≡ length b.store.tables → ok c ≡ (act p R b (got_or Names (got Names from))).reply
unfolding act got_or
names-answered p R b from k = ap ok (k ∙ sym (length-map b.store.tables (λ (t : Table). text t.name ∷ [])))

-- ---- what stands behind a name, where nothing broke

module _ {s : List ℕ} {from : ℕ} {t : Text} {q : ℕ} (e : NameRead s from (Ok (t, q))) where
  -- keys
  pub get-told : is_got (keys_at s Get from) ≡ true → (p : Profile) (R : ℕ) (b : Books) {c : ℕ} {v : Values} → Counted s q v → c ≡ length (found b.store.rows (text_bytes t) (values_of v))
      → ok c ≡ (act p R b (got_or Names (keys_at s Get from))).reply
  get-told g p R b {c} {v} k ec = get-answered p R b (got_or Names (keys_at s Get from)) (Ok c) (text_bytes t) (values_of v) (keys-read e Get g k) c refl ec

  -- a table, a column number and values
  module _ (g : is_got (lookup_at s from) ≡ true) where
    lookup-told : (q + 1 < length s) × (got_or Names (lookup_at s from) ≡ Lookup (text_bytes t) (get_or s q 0) (values_from s (get_or s (q + 1) 0) (q + 1 + 1)))
    unfolding lookup_at
    lookup-told =
        let d = named-then e (λ name a. and_then (byte_at s a) (λ i b. and_then (values_at s b) (λ vs c. got (Lookup name i vs) c))) in
        let w = was-got (lookup_at s from) g in
        let x = parted (byte_at s q) _ w.what w.end (sym d ∙ w.is) in
        let b = byte-there s q x.first x.next x.is in
        let u = parted (values_at s x.next) _ w.what w.end x.then in
        let v : values_from s (get_or s (q + 1) 0) (q + 1 + 1) ≡ u.first =
        ap (λ (j : ℕ). values_from s (get_or s j 0) (j + 1)) b.next
        ∙ (values-there s x.next u.first u.next u.is).0
        in
        let same : w.what ≡ Lookup (text_bytes t) x.first u.first = cc u.then in (
          rw b.next (values-inside s x.next u.first u.next u.is),
          got-gives Names (lookup_at s from) w.what w.end w.is
              ∙ same
              ∙ ap (λ (i : ℕ). Lookup (text_bytes t) i u.first) (sym b.is)
              ∙ ap (Lookup (text_bytes t) (get_or s q 0)) (sym v),
        )

    pub lookup-inside : q + 1 < length s
    lookup-inside = lookup-told.0

    pub lookup-says : (p : Profile) (R : ℕ) (b : Books) (a : Answer) {i : ℕ} {v : Values} → i ≡ get_or s q 0 → Counted s (q + 1) v
        → said a ≡ (lookup b.store (text_bytes t) i (values_of v)).reply → said a ≡ (act p R b (got_or Names (lookup_at s from))).reply
    unfolding values_of
    lookup-says p R b a {i} {v} ei k h =
        lookup-answered p R b (got_or Names (lookup_at s from)) a (text_bytes t) (get_or s q 0) (values_from s (get_or s (q + 1) 0) (q + 1 + 1)) lookup-told.1
        (rw (ei, k.bytes, k.from, k.count) at h)

  -- a table
  scan-is : got_or Names (scan_at s from) ≡ Scan (text_bytes t)
  unfolding scan_at
  scan-is = got-gives Names (scan_at s from) (Scan (text_bytes t)) q (named-then e (λ name a. got (Scan name) a))

  pub scan-says : (p : Profile) (R : ℕ) (b : Books) {x : Span} → Spans b.store.rows (text_bytes t) x → {c : ℕ} → c ≡ x.to - x.from → ok c ≡ (act p R b (got_or Names (scan_at s from))).reply
  scan-says p R b {x} g {c} ec = scan-answered p R b (got_or Names (scan_at s from)) (Ok c) (text_bytes t) scan-is x g (ap ok ec)

-- ---- operation k, where it is known

module _ (s : List ℕ) (p : Profile) (k from : ℕ) where
  -- a reading that did not break says one of the twelve
  is_known : is_got (operands_at s p k from) ≡ true → (k ≡ 1 → ⊥) → (k ≡ 2 → ⊥) → (k ≡ 3 → ⊥) → (k ≡ 4 → ⊥) → (k ≡ 5 → ⊥)
      → (k ≡ 6 → ⊥) → (k ≡ 7 → ⊥) → (k ≡ 8 → ⊥) → (k ≡ 9 → ⊥) → (k ≡ 12 → ⊥) → (k ≡ 13 → ⊥) → (k ≡ 14 → ⊥) → ⊥
  unfolding walked_as
  is_known h a b c d e f g i j l m n =
      let w = was-got (operands_at s p k from) h in
      let u = unknown s p k from a b c d e f g i j l m n ∙ ap walked_as w.is in
      let z : ◌≡◌ {A = ℕ} 0 1 = cc in omega arith

  pub reads_known : is_got (operands_at s p k from) ≡ true → reads k ≡ true → (k ≡ 6 → ⊥) → (k ≡ 7 → ⊥) → (k ≡ 8 → ⊥) → (k ≡ 9 → ⊥) → ⊥
  reads_known h r f g i j =
      let l = reads-range k r in
      let low : 5 < k = l.0 in
      let high : k < 10 = l.1 in
      is_known h (omega arith) (omega arith) (omega arith) (omega arith) (omega arith) f g i j (omega arith) (omega arith) (omega arith)

  -- it is none of the four that read
  not-read : reads k ≡ false → (5 < k) → (k < 10) → ⊥
  unfolding reads
  not-read r l h = true≢false (sym (and_both (lt-ltb 5 k l) (lt-ltb k 10 h)) ∙ r)

  pub writes-known : is_got (operands_at s p k from) ≡ true → reads k ≡ false → (k ≡ 1 → ⊥) → (k ≡ 2 → ⊥) → (k ≡ 3 → ⊥) → (k ≡ 4 → ⊥) → (k ≡ 5 → ⊥)
      → (k ≡ 12 → ⊥) → (k ≡ 13 → ⊥) → (k ≡ 14 → ⊥) → ⊥
  writes-known h r a b c d e l m n =
      is_known h a b c d e (λ q. not-read r (omega arith) (omega arith)) (λ q. not-read r (omega arith) (omega arith)) (λ q. not-read r (omega arith) (omega arith)) (λ q. not-read r (omega arith) (omega arith)) l m n
