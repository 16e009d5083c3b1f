-- A record answered: a write shows no row lines, the line of an answer without them, and what is answered for each kind of record. Assumes nothing.
use Rattle.records.specs.Walked.{Walked}
use Rattle.std.specs.Result.{is_err}
use Rattle.std.specs.declared.result.Result.TheVariants.{Ok, Err}
use Prim.Native.Nat.{ℕ, ◌≤◌}
use native.Mathlib.Omega.{arith}
use mathlib.Core.Path.{◌≡◌, refl, sym, ap, ◌∙◌}
use mathlib.Core.Bool.{Bool, true, false, cond, true≢false}
use mathlib.Core.List.{List, [], ◌++◌, append-nil}
use lib.Dec.{eqb}
use lib.ListN.{length, get_or, take, drop, length-append, length-drop}
use lib.Seq.{drop-nil}
use borrow.Author.Tests.{ne_eqb, le-leb}
use Rattle.values.specs.Value.{Value}
use Rattle.forms.specs.Read.{Read, got, broken, name_at}
use Rattle.forms.specs.Print.{Front}
use Rattle.rules.specs.declared.profile.Profile.{Profile}
use Rattle.rules.specs.Request.{Answer}
use Rattle.rules.specs.Refusal.{RecordBroken}
use Rattle.rules.specs.Journal.{Books}
use Rattle.rules.specs.Layout.{parse}
use Rattle.rules.specs.Request.{Request, Delete, Names, Open, Keep, Back, entered, Reply, said, no}
use Rattle.rules.specs.Step.{Outcome, refused, act, step}
use Rattle.rules.specs.Pages.{books_of}
use Rattle.rules.proofs.Refusals.{is_write, write-silent}
use Rattle.journal.specs.Books.{Booked}
use Rattle.journal.proofs.Booking.{settled-still}
use Rattle.requests.specs.declared.lines.Put.{Put}
use Rattle.mapping.specs.Got.{is_got, got_or}
use Rattle.records.specs.Reading.{and_then, times, byte_at, byte_from}
use Rattle.records.specs.Record.{values_at, column_at, create_at, drop_at, map_at, insert_at, pair_at, update_at, keys_at, operands_at, request_of}
use Rattle.records.specs.Walked.{walked_as}
use Rattle.operations.specs.Told.{outcome_of, reads, Acted, Replied}
use Rattle.requests.specs.Lines.{row_lines, answer_line}
use Rattle.requests.specs.Places.{text_from, Wrote, Replies, Shows}
use Rattle.requests.specs.Stream.{Answered}
use Rattle.requests.proofs.Copied.{front-is}
use Rattle.requests.proofs.Fitting.{lines-all}
use Rattle.operations.proofs.Entered.{same_operands, Still, still-operands, walked-got, operands-got, outcome-is, written}
use Rattle.mapping.proofs.Read.{Gives, gives, gives_then, gives-either, gives-got, gives-broken}

pub broken-outcome : (p : Profile) (R : ℕ) (b : Books) (x : ℕ) → outcome_of p R b (broken x) ≡ refused (no RecordBroken 0)
unfolding outcome_of
broken-outcome p R b x = refl

-- ---- operations but 6 to 9 write, and a write shows no lines

module _ (Q : Request → Type 0) where
  then-any : {A : Type 0} (w : Read A) (f : A → ℕ → Read Request) → ((a : A) (n : ℕ) → Gives Q (f a n)) → Gives Q (and_then w f)
  then-any {A} w f h = gives_then (λ (a : A). Unit {0}) Q w f (gives (λ (a : A). Unit {0}) w (λ a n e. tt)) (λ a n e. h a n)

  given-or : (r : Read Request) → is_got r ≡ true → Gives Q r → Q (got_or Names r)
  unfolding Gives is_got got_or
  given-or (got q n) h g = g
  given-or (broken x) h g = absurd (true≢false (sym h))

no_read : (k : ℕ) → reads k ≡ false → (m : ℕ) → reads m ≡ true → k ≡ m → ⊥
no_read k h m r e = true≢false (sym r ∙ ap reads (sym e) ∙ h)

module _ (s : List ℕ) (p : Profile) (k at : ℕ) where
  abbrev Writes : Request → Type 0
  Writes q = is_write q ≡ true

  gives-writes : reads k ≡ false → Gives Writes (operands_at s p k at)
  unfolding operands_at create_at drop_at insert_at update_at keys_at reads
  gives-writes h =
      let n6 = no_read k h 6 refl in
      let n7 = no_read k h 7 refl in
      let n8 = no_read k h 8 refl in
      let n9 = no_read k h 9 refl in
      rw (ne_eqb k 6 n6, ne_eqb k 7 n7, ne_eqb k 8 n8, ne_eqb k 9 n9)
      (gives-either Writes (eqb k 1) _ _
      (then-any Writes (name_at s at) _
      (λ name a.
      then-any Writes (byte_at s a) _
      (λ key b. then-any Writes (byte_from 0 p.columns s b) _ (λ n c. then-any Writes (times (column_at s) n c) _ (λ cs d. gives-got Writes _ d refl)))))
      (gives-either Writes (eqb k 2) _ _
      (then-any Writes (name_at s at) _ (λ name a. then-any Writes (byte_from 0 1 s a) _ (λ x b. gives-got Writes _ b refl)))
      (gives-either Writes (eqb k 3) _ _
      (then-any Writes (name_at s at) _
      (λ name a.
      then-any Writes (map_at s a) _
      (λ m b. then-any Writes (byte_at s b) _ (λ n c. then-any Writes (times (values_at s) n c) _ (λ rows d. gives-got Writes _ d refl)))))
      (gives-either Writes (eqb k 4) _ _
      (then-any Writes (name_at s at) _
      (λ name a. then-any Writes (byte_at s a) _ (λ n b. then-any Writes (times (pair_at s) n b) _ (λ qs c. gives-got Writes _ c refl))))
      (gives-either Writes (eqb k 5) _ _
      (then-any Writes (name_at s at) _ (λ name a. then-any Writes (values_at s a) _ (λ ks b. gives-got Writes (Delete name ks) b refl)))
      (gives-either Writes (eqb k 12) _ _ (gives-got Writes Open at refl)
      (gives-either Writes (eqb k 13) _ _ (gives-got Writes Keep at refl)
      (gives-either Writes (eqb k 14) _ _ (gives-got Writes Back at refl) (gives-broken Writes 1)))))))))

silent : (p : Profile) (R : ℕ) (b : Books) (q : Request) → entered q ≡ q → is_write q ≡ true → (act p R b q).lines ≡ []
unfolding step
silent p R b q e h = ap (λ (x : Request). (act p R b x).lines) (sym e) ∙ write-silent p R b q h

-- ---- an answer that has no row lines

-- its line alone is written
abbrev pub Only : Reply → List ℕ → List ℕ → Put → Type 0
Only a out done r = Front (answer_line a) out done r.written × (r.lines ≡ 0) × (r.done ≡ true)

pub only_wrote : (o : Outcome) (i : ℕ) (a : Reply) (out done : List ℕ) (r : Put) → o.lines ≡ [] → a ≡ o.reply → Only a out done r
    → length done ≡ length out
    → Wrote o i out done r
unfolding text_from row_lines
only_wrote o i a out done r none e (f, z, d) l =
    let t : take r.written done ≡ answer_line a = front-is (answer_line a) out done r.written f in
    let x : text_from o i ≡ answer_line a =
    ap (λ (ls : List (List Value)). row_lines (drop i ls) ++ answer_line o.reply) none
    ∙ ap (λ (ls : List (List Value)). row_lines ls ++ answer_line o.reply) (drop-nil i)
    ∙ ap answer_line (sym e)
    in
    let w : r.written ≤ length out =
    omega (arith, f.count, ap length f.bytes, length-append (answer_line a) (drop r.written out), length-drop r.written out)
    in
    record {
      whole = d ∙ sym (le-leb (length (text_from o i)) (length out) (omega (arith, ap length x, f.count)));
      count = z ∙ sym (lines-all o i (length out) (rw none (omega arith)) ∙ ap length none);
      long = l;
      fits = w;
      text =
          x
          ∙ sym t
          ∙ sym (append-nil (take r.written done))
          ∙ ap (λ (b : Bool). take r.written done ++ cond b [] (text_from o r.lines)) (sym d);
      bytes = f.bytes ∙ ap (λ (x : List ℕ). x ++ drop r.written out) (sym t);
      room = λ z. absurd (true≢false (sym d ∙ z));
    }

-- ---- answered

module _ (p : Profile) (R : ℕ) (s j : List ℕ) (r : Read Request) (i : ℕ) (out done : List ℕ) (put : Put) where
  abbrev own : Outcome
  own = outcome_of p R (books_of p R s j) r

  -- where nothing changes both buffers stay; the answer is any that says the reply
  pub stayed : Booked p R s j → own.changes ≡ [] → (a : Answer) → said a ≡ own.reply → Wrote own i out done put → Answered p R r i s j s j out done put
  stayed b e a ea w = record { wrote = w; bytes = (settled-still b own e a ea).bytes; again = λ d. e }

  -- a broken one
  pub broken-answered : Booked p R s j → own ≡ refused (no RecordBroken 0) → (a : Answer) → said a ≡ no RecordBroken 0
      → Only (said a) out done put → length done ≡ length out
      → Answered p R r i s j s j out done put
  broken-answered b e a ea f l =
      let x = ea ∙ ap (λ (o : Outcome). o.reply) (sym e) in
      stayed b (ap (λ (o : Outcome). o.changes) e) a x (only_wrote own i (said a) out done put (ap (λ (o : Outcome). o.lines) e) x f l)

-- a record walked to its end, whose operation is k
pub record Walks (p : Profile) (rec : List ℕ) (k : ℕ) : Type 0 where
  pub walked : Walked
  pub is : walked ≡ walked_as (request_of rec p)
  pub end : ℕ
  pub ends : walked ≡ Ok end
  pub operation : k ≡ get_or rec 1 0

module _ (p : Profile) (rec : List ℕ) where
  pub walk-ends : (w : Walked) → w ≡ walked_as (request_of rec p) → is_err w ≡ false → (k : ℕ) → k ≡ get_or rec 1 0 → Walks p rec k
  walk-ends (Ok n) e h k ek = record { walked = Ok n; is = e; end = n; ends = refl; operation = ek }
  walk-ends (Err b) e h k ek = absurd (true≢false h)

  pub walk-breaks : (w : Walked) → w ≡ walked_as (request_of rec p) → is_err w ≡ true → (x : ℕ) × (request_of rec p ≡ broken x)
  unfolding walked_as
  walk-breaks w e h = go (request_of rec p) refl
    where
      go : (r : Read Request) → request_of rec p ≡ r → (x : ℕ) × (request_of rec p ≡ broken x)
      go (got q n) f = absurd (true≢false (sym h ∙ ap is_err (e ∙ ap walked_as f)))
      go (broken x) f = (x, f)

module _ {p : Profile} {rec : List ℕ} {k : ℕ} (w : Walks p rec k) where
  abbrev operands : Read Request
  operands = operands_at rec p k 2

  abbrev asked : Request
  asked = got_or Names operands

  pub walks-got : is_got (request_of rec p) ≡ true
  walks-got = walked-got (request_of rec p) w.walked w.end w.is w.ends

  pub walks-operands : is_got (operands_at rec p k 2) ≡ true
  walks-operands = operands-got p rec w.walked w.is w.end w.ends k w.operation

  its-is : (R : ℕ) (b : Books) → outcome_of p R b (request_of rec p) ≡ act p R b asked
  its-is = outcome-is p rec w.walked w.is w.end w.ends k w.operation

  -- a read, whatever the journal
  pub replies-of : (R : ℕ) (s : List ℕ) (a : Answer) → Replied p R (operands_at rec p k 2) s a → Replies p R (parse p R s) (request_of rec p) a
  replies-of R s a e x = e x ∙ ap (λ (o : Outcome). o.reply) (sym (its-is R _))

  module _ {R : ℕ} {s j : List ℕ} (b : Booked p R s j) where
    abbrev books : Books
    books = books_of p R s j

    pub read-answered : {i : ℕ} {out done : List ℕ} {put : Put} (a : Answer) → reads k ≡ true → Replied p R (operands_at rec p k 2) s a → Shows p R (parse p R s) (request_of rec p) i out done put
        → Answered p R (request_of rec p) i s j s j out done put
    read-answered {i} {out} {done} {put} a l e x =
        stayed p R s j (request_of rec p) i out done put b
        (ap (λ (o : Outcome). o.changes) (its-is R books) ∙ given-or (Still p R books) operands walks-operands (still-operands p R books rec k 2 l))
        a (replies-of R s a e books.journal) (x books.journal)

    pub write-answered : {i : ℕ} {out done s₁ j₁ : List ℕ} {put : Put} (a : Answer) → reads k ≡ false → Acted p R (operands_at rec p k 2) s j s₁ j₁ a
        → Only (said a) out done put → length done ≡ length out
        → Answered p R (request_of rec p) i s j s₁ j₁ out done put
    write-answered {i} {out} {done} {s₁} {j₁} {put} a l t f e =
        let g : (act p R books asked).lines ≡ [] =
        silent p R books asked (given-or (λ q. entered q ≡ q) operands walks-operands (same_operands rec p k 2))
        (given-or (λ q. is_write q ≡ true) operands walks-operands (gives-writes rec p k 2 l))
        in
        let u = written p rec w.walked w.is w.end w.ends k w.operation R s j a s₁ j₁ t in
        record {
          wrote = only_wrote (outcome_of p R books (request_of rec p)) i (said a) out done put (ap (λ (o : Outcome). o.lines) (its-is R books) ∙ g) u.answer f e;
          bytes = u.bytes;
          again = λ z. absurd (true≢false (sym f.2 ∙ z));
        }
