-- A front of a buffer, and what is written behind it. Assumes nothing.
use Prim.Native.Nat.{ℕ, suc, ◌+◌, ◌-◌, ◌≤◌, ◌<◌}
use mathlib.Core.Path.{◌≡◌, refl, sym, ap, ◌∙◌, subst}
use mathlib.Core.Bool.{true, false, cond}
use mathlib.Core.List.{List, [], ◌∷◌, ◌++◌, append-nil, append_assoc}
use native.Mathlib.Omega.{arith}
use native.Mathlib.Numerals.{add-one}
use lib.Dec.{eqb}
use lib.ListN.{length, get_or, take, drop, set, length-append, length-drop, length-set, take-append-drop}
use lib.Seq.{length-take-le, take_all, take_at, drop_at, drop-drop, drop-cons, set_at, drop-length}
use borrow.Rule.Slice.PartMut.{put_mid}
use Rattle.values.specs.Meaning.{text_bytes, meaning}
use Rattle.values.specs.declared.value.Value.TheVariants as D
use Rattle.forms.specs.Print.{decimal, Front}
use Rattle.rules.specs.declared.answer.Refused.{Refused}
use Rattle.rules.specs.declared.answer.Refusal.{Refusal}
use Rattle.rules.specs.declared.answer.Refusal.TheVariants as V
use Rattle.rules.specs.Refusal.{RecordBroken, number_of, refusal_of}
use Rattle.rules.specs.Request.{Reply, no, told}
use Rattle.rules.specs.Step.{is_accepted}
use Rattle.requests.specs.Lines.{space, newline, answer_line}

-- a word at the front
pub front_word : (w out : List ℕ) (n : ℕ) → n ≡ length w → Front w out (w ++ drop n out) n
front_word w out n e = record { count = e; bytes = refl }

module _ (p out b : List ℕ) (n : ℕ) (f : Front p out b n) (l : n ≤ length out) where
  -- the buffer is as long as before
  pub front_length : length b ≡ length out
  front_length = ap length f.bytes ∙ length-append p (drop n out) ∙ rw (length-drop n out) (omega (arith, f.count))

  -- what is behind it
  pub front_rest : take (length b - n) (drop n b) ≡ drop n out
  front_rest =
      let d : drop n b ≡ drop n out = ap (drop n) f.bytes ∙ drop_at p (drop n out) n (sym f.count) in
      let m : length (drop n out) ≤ length b - n = rw (length-drop n out, front_length) (omega arith) in
      rw d (take_all (length b - n) (drop n out) m)

  -- and then a front of that
  pub front-then : (q last : List ℕ) (r : ℕ) → Front q (take (length b - n) (drop n b)) last r → Front (p ++ q) out (put_mid n (length b - n) b last) (n + r)
  front-then q last r g =
      let d : drop n b ≡ drop n out = ap (drop n) f.bytes ∙ drop_at p (drop n out) n (sym f.count) in
      let t : take n b ≡ p = ap (take n) f.bytes ∙ take_at p (drop n out) n (sym f.count) in
      let h : last ≡ q ++ drop (n + r) out = g.bytes ∙ ap (λ (s : List ℕ). q ++ drop r s) front_rest ∙ ap (λ (s : List ℕ). q ++ s) (drop-drop r n out) in
      let z : drop (length b - n) (drop n b) ≡ [] =
      ap (λ (k : ℕ). drop k (drop n b)) (sym (length-drop n b)) ∙ drop-length (drop n b) in
      record {
        count = ap (λ (k : ℕ). k + r) f.count ∙ ap (λ (k : ℕ). length p + k) g.count ∙ sym (length-append p q);
        bytes = rw (z, t, append-nil last, h) (sym (append_assoc p q (drop (n + r) out)));
      }

  -- and then one byte
  pub front-byte : (x : ℕ) → n < length out → Front (p ++ (x ∷ [])) out (set b n x) (n + 1)
  front-byte x h =
      record {
        count = ap (λ (k : ℕ). k + 1) f.count ∙ sym (length-append p (x ∷ []));
        bytes =
            ap (λ (s : List ℕ). set s n x) (f.bytes ∙ ap (λ (s : List ℕ). p ++ s) (drop-cons out n 0 h))
            ∙ set_at p (get_or out n 0) (drop (suc n) out) x n (sym f.count)
            ∙ ap (λ (k : ℕ). p ++ (x ∷ drop k out)) (sym (add-one n))
            ∙ sym (append_assoc p (x ∷ []) (drop (n + 1) out));
      }

  -- and then what was written from its end on
  pub front-on : (q after : List ℕ) (r : ℕ) → Front (take n b ++ q) b after r → Front (p ++ q) out after r
  front-on q after r g =
      let d : drop n b ≡ drop n out = ap (drop n) f.bytes ∙ drop_at p (drop n out) n (sym f.count) in
      let t : take n b ≡ p = ap (take n) f.bytes ∙ take_at p (drop n out) n (sym f.count) in
      let k : r ≡ n + length q = g.count ∙ rw t (length-append p q ∙ ap (λ (j : ℕ). j + length q) (sym f.count)) in
      let e : drop r b ≡ drop r out = rw k (sym (drop-drop (length q) n b) ∙ ap (drop (length q)) d ∙ drop-drop (length q) n out) in
      record { count = g.count ∙ ap (λ (s : List ℕ). length (s ++ q)) t; bytes = g.bytes ∙ rw (t, e) }

-- ---- the lines' parts

-- a buffer as it stands, up to a position
pub front_self : (out : List ℕ) (n : ℕ) → n ≤ length out → Front (take n out) out out n
front_self out n l = record { count = sym (length-take-le n out l); bytes = sym (take-append-drop n out) }

-- a byte x at n and then a front of what is behind it
pub front-spaced : (x : ℕ) (p out last : List ℕ) (n r : ℕ) → n < length out
    → Front p (take (length (set out n x) - (n + 1)) (drop (n + 1) (set out n x))) last r
    → Front (take n out ++ (x ∷ p)) out (put_mid (n + 1) (length (set out n x) - (n + 1)) (set out n x) last) (n + 1 + r)
front-spaced x p out last n r l g =
    let l' : n ≤ length out = omega arith in
    let m : n + 1 ≤ length out = omega arith in
    let f = front-byte (take n out) out out n (front_self out n l') l' x l in
    subst (λ (q : List ℕ). Front q out (put_mid (n + 1) (length (set out n x) - (n + 1)) (set out n x) last) (n + 1 + r))
    (append_assoc (take n out) (x ∷ []) p)
    (front-then (take n out ++ (x ∷ [])) out (set out n x) (n + 1) f m p last r g)

pub behind-long : (x : ℕ) (out : List ℕ) (n : ℕ) → n < length out → length (take (length (set out n x) - (n + 1)) (drop (n + 1) (set out n x))) ≡ length out - (n + 1)
behind-long x out n l = rw (length-set out n x, length-take-le (length out - (n + 1)) (drop (n + 1) (set out n x)) (rw (length-drop (n + 1) (set out n x), length-set out n x) (omega arith)))

-- a front, one more byte, all after what stood before
pub front-ended : (x : ℕ) (a p out b : List ℕ) (n : ℕ) → Front (a ++ p) out b n → n < length out → Front (a ++ (p ++ (x ∷ []))) out (set b n x) (n + 1)
front-ended x a p out b n f l =
    subst (λ (q : List ℕ). Front q out (set b n x) (n + 1)) (append_assoc a p (x ∷ [])) (front-byte (a ++ p) out b n f (omega arith) x l)

-- ---- the two answers

-- no refusal of the code has the number 0
numbered : (k : Refusal) → eqb (number_of (refusal_of k)) 0 ≡ false
numbered V.RecordBroken = refl
numbered V.UnknownTable = refl
numbered V.TableExists = refl
numbered V.EmptyTableName = refl
numbered V.NoColumns = refl
numbered V.KeyColumnOutOfRange = refl
numbered V.EmptyColumnName = refl
numbered V.KeyNullable = refl
numbered V.KeyNotUnique = refl
numbered V.KeyIndexed = refl
numbered V.NullableWithoutDefault = refl
numbered V.NullDefault = refl
numbered V.DefaultKind = refl
numbered V.UniqueNotIndexed = refl
numbered V.ReferenceNotIndexed = refl
numbered V.UnknownTarget = refl
numbered V.TargetKind = refl
numbered V.ColumnTwice = refl
numbered V.TablesFull = refl
numbered V.TableReferenced = refl
numbered V.TooManyValues = refl
numbered V.MapCount = refl
numbered V.NoDefault = refl
numbered V.MapColumn = refl
numbered V.RowSize = refl
numbered V.KeyUndefined = refl
numbered V.KeyExists = refl
numbered V.WrongKind = refl
numbered V.NullNotAllowed = refl
numbered V.TargetMissing = refl
numbered V.ValueExists = refl
numbered V.RowReferenced = refl
numbered V.RowsFull = refl
numbered V.RowAbsent = refl
numbered V.KeysNotRising = refl
numbered V.NotIndexed = refl
numbered V.StoreUnsound = refl
numbered V.JournalFull = refl
numbered V.InsideBatch = refl
numbered V.BatchOutOfTurn = refl

-- what a refusal of the code says, whatever it carries
pub record Tells (f : Refused) : Type 0 where
  pub refused : is_accepted (told f) ≡ false
  pub code : number_of (refusal_of f.kind) ≡ number_of (told f).kind
  pub at : f.at ≡ (told f).at
  pub count : (told f).count ≡ 0

pub tells : (f : Refused) → Tells f
tells f = record { refused = numbered f.kind; code = refl; at = refl; count = refl }

-- the refusal that a broken record gets
pub broken-refusal : Refused
broken-refusal =
    record { kind = V.RecordBroken; at = 0; gone = false; carried = record { table = record { a = 0; b = 0; c = 0; len = 0 }; column = 0; key = D.Null } }

pub broken-told : told broken-refusal ≡ no RecordBroken 0
unfolding broken-refusal text_bytes meaning
broken-told = refl

-- the word w, which is v, and what was written behind it
module _ (w v out : List ℕ) (e : w ≡ v) (ev : 2 ≡ length v) (l : 2 ≤ length out) where
  pub behind_word : (q after : List ℕ) (r : ℕ) → Front (take 2 (w ++ drop 2 out) ++ q) (w ++ drop 2 out) after r → Front (v ++ q) out after r
  behind_word q after r f = front-on v out (w ++ drop 2 out) 2 (rw e (front_word v out 2 ev)) l q after r f

pub line-accepted : (a : Reply) (w out after : List ℕ) (r : ℕ) → is_accepted a ≡ true → w ≡ 111 ∷ 107 ∷ [] → 2 ≤ length out
    → Front (take 2 (w ++ drop 2 out) ++ (space ∷ (decimal a.count ++ (newline ∷ [])))) (w ++ drop 2 out) after r
    → Front (answer_line a) out after r
unfolding answer_line
line-accepted a w out after r e ew l g = rw e (behind_word w (111 ∷ 107 ∷ []) out ew refl l _ after r g)

-- the same, of a word written byte by byte
pub line_ok : (a : Reply) (out after : List ℕ) (r : ℕ) → is_accepted a ≡ true → 2 ≤ length out
    → Front (take 2 (set (set out 0 111) 1 107) ++ (space ∷ (decimal a.count ++ (newline ∷ [])))) (set (set out 0 111) 1 107) after r
    → Front (answer_line a) out after r
line_ok a [] after r e l g = absurd (omega arith)
line_ok a (x ∷ []) after r e l g = absurd (omega arith)
line_ok a (x ∷ y ∷ out) after r e l g = line-accepted a (111 ∷ 107 ∷ []) (x ∷ y ∷ out) after r e refl l g

pub line-no : (a : Reply) (w out b c after : List ℕ) (code at gone n m r : ℕ) → is_accepted a ≡ false → code ≡ number_of a.kind → at ≡ a.at → gone ≡ cond a.gone 1 0
    → w ≡ 110 ∷ 111 ∷ [] → 2 ≤ length out → n ≤ length out → m ≤ length out
    → Front (take 2 (w ++ drop 2 out) ++ (space ∷ decimal code)) (w ++ drop 2 out) b n
    → Front (take n b ++ (space ∷ decimal at)) b c m
    → Front (take m c ++ (space ∷ (decimal gone ++ (newline ∷ [])))) c after r
    → Front (answer_line a) out after r
unfolding answer_line
line-no a w out b c after code at gone n m r e ec ea eg ew l ln lm x h k =
    let second = decimal at in
    let end = decimal gone ++ (newline ∷ []) in
    let one = behind_word w (110 ∷ 111 ∷ []) out ew refl l (space ∷ decimal code) b n x in
    let two = front-on (110 ∷ 111 ∷ space ∷ decimal code) out b n one ln (space ∷ second) c m h in
    let three = front-on ((110 ∷ 111 ∷ space ∷ decimal code) ++ (space ∷ second)) out c m two lm (space ∷ end) after r k in
    rw (e, ← eg, ← ea, ← ec) (subst (λ (q : List ℕ). Front (110 ∷ 111 ∷ space ∷ q) out after r) (append_assoc (decimal code) (space ∷ second) (space ∷ end)) three)
