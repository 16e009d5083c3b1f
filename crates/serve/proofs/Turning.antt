-- One turn over the bytes at hand: what comes after it of the records, the books and the text. Assumes nothing.
use Rattle.std.proofs.Common.{◌≡◌, ℕ, ◌+◌, ◌-◌, ◌≤◌, Bool, true, false, cond, eqb, leb, List, [], ◌++◌, length, take, drop, sym, refl, ap, ◌∙◌, subst, append-nil, arith, length-append, take-append-drop, drop_of_length-le, length-take-le, take_at, drop_at, eq-eqb, ne_eqb, eqb-true, leb-false, leb-true}
use lib.Seq.{drop-append-le, drop-append-add, drop-nil}
use borrow.Author.Tests.{eqb-false}
use Rattle.values.specs.Basic.{is_nil}
use Rattle.forms.specs.Read.{Read}
use Rattle.rules.specs.declared.profile.Profile.{Profile}
use Rattle.rules.specs.Journal.{Books}
use Rattle.rules.specs.Request.{Request}
use Rattle.requests.specs.declared.entry.Ran.{Ran}
use Rattle.requests.specs.Stream.{records_in, bytes_of, text_of, books_after, Runs}
use Rattle.serve.specs.declared.flow.Flow.{Flow}
use Rattle.serve.specs.declared.flow.Turn.{Turn}
use Rattle.serve.specs.Buffers.{Buffers, books_in}
use Rattle.serve.specs.Flow.{hand, Turned}
use Rattle.serve.specs.Course.{Standing, standing, ahead, left, Came}
use Rattle.serve.proofs.Hand.{none-taken}
use Rattle.serve.proofs.Pieces.{no-records, split, same_bytes, bytes-zero, all_held, passed_on}
use Rattle.serve.proofs.Texts.{text-onward}

-- the text of the records at hand
abbrev pub at_hand : Profile → ℕ → Buffers → Flow → List ℕ → List ℕ
at_hand p R s f input = text_of p R (books_in p R s) (records_in p (drop f.skip (hand f input)) f.ended) f.lines

-- ---- a run over the bytes a: whatever follows them

-- the records of all that comes, and those behind the run
pub record Onward (p : Profile) (R : ℕ) (i : ℕ) (before after : Buffers) (done : List ℕ) (r : Ran) (held all rest : List (Read Request)) : Type 0 where
  pub few : r.count ≤ length all
  pub others : rest ≡ drop r.count all
  pub first : take r.count all ≡ take r.count held
  pub text : text_of p R (books_in p R before) all i ≡ take r.written done ++ text_of p R (books_in p R after) rest r.lines

module _ (p : Profile) (R : ℕ) (a : List ℕ) (i : ℕ) (before after : Buffers) (out done : List ℕ) (r : Ran) where
  abbrev bs : Books
  bs = books_in p R before

  abbrev n : ℕ
  n = r.count

  abbrev wrote : List ℕ
  wrote = take r.written done

  -- what stands behind the run
  abbrev behind : List ℕ → List ℕ
  behind more = drop r.skip (drop r.taken a ++ more)

  module _ (ended : Bool) (run : Runs p R a ended i before.store before.journal after.store after.journal out done r) where
    abbrev held : List (Read Request)
    held = records_in p a ended

    behind-is : (more : List ℕ) → behind more ≡ drop (bytes_of n a ended) (a ++ more)
    behind-is more =
        ap (λ (k : ℕ). drop k (drop r.taken a ++ more)) run.over
        ∙ ap (λ (k : ℕ). drop (bytes_of n a ended - length a) (drop k a ++ more)) run.passed
        ∙ passed_on (bytes_of n a ended) a more

    -- whether or not more may follow, the records that are answered take as many bytes
    bytes-held : (more : List ℕ) → (ended ≡ true → more ≡ []) → bytes_of n (a ++ more) true ≡ bytes_of n a ended
    bytes-held more e = go ended refl
      where
        go : (b : Bool) → ended ≡ b → bytes_of n (a ++ more) true ≡ bytes_of n a ended
        go true t =
            ap (λ (l : List ℕ). bytes_of n (a ++ l) true) (e t)
            ∙ ap (λ (l : List ℕ). bytes_of n l true) (append-nil a)
            ∙ ap (bytes_of n a) (sym t)
        go false t =
            same_bytes p more true n a (subst (λ (b : Bool). n ≤ length (records_in p a b)) t run.few) ∙ ap (bytes_of n a) (sym t)

    pub place-behind : (more : List ℕ) → (ended ≡ true → more ≡ []) → behind more ≡ drop (bytes_of n (a ++ more) true) (a ++ more)
    place-behind more e = behind-is more ∙ ap (λ (k : ℕ). drop k (a ++ more)) (sym (bytes-held more e))

    lines_then : drop n held ≡ [] → r.lines ≡ cond (is_nil (take n held)) i 0
    lines_then e = run.next e ∙ ap (λ (b : Bool). cond b i 0) (sym (none-taken n held run.few))

    -- the text of the records at hand, the first of them and the others apart
    text-apart : text_of p R bs (take n held ++ drop n held) i ≡ wrote ++ text_of p R (books_after p R bs (take n held)) (drop n held) r.lines
    text-apart = ap (λ (ws : List (Read Request)). text_of p R bs ws i) (take-append-drop n held) ∙ run.text

    -- where bytes are still to be passed over, the run took all that is at hand
    all-taken : (r.skip ≡ 0 → ⊥) → drop r.taken a ≡ []
    all-taken h = drop_of_length-le a {i = r.taken} (omega (arith, h, run.over, run.passed))

    -- what is left of the records at hand
    pub left-held : records_in p (drop r.skip (drop r.taken a)) ended ≡ drop n held
    left-held = go (eqb r.skip 0) refl ∙ run.rest
      where
        go : (b : Bool) → eqb r.skip 0 ≡ b → records_in p (drop r.skip (drop r.taken a)) ended ≡ records_in p (drop r.taken a) ended
        go true e = ap (λ (k : ℕ). records_in p (drop k (drop r.taken a)) ended) (eqb-true r.skip 0 e)
        go false e =
            let z = all-taken (eqb-false r.skip 0 e) in
            ap (λ (l : List ℕ). records_in p (drop r.skip l) ended) z ∙ ap (λ (l : List ℕ). records_in p l ended) (drop-nil r.skip ∙ sym z)

  -- more may follow
  module _ (run : Runs p R a false i before.store before.journal after.store after.journal out done r) (more : List ℕ) where
    abbrev ws : List (Read Request)
    ws = records_in p a false

    abbrev rest : List (Read Request)
    rest = records_in p (behind more) true

    all-is : records_in p (a ++ more) true ≡ take n ws ++ rest
    all-is = split p more true n a run.few ∙ ap (λ (l : List ℕ). take n ws ++ records_in p l true) (sym (behind-is false run more))

    count-is : length (take n ws) ≡ n
    count-is = length-take-le n ws run.few

    others-are : rest ≡ drop n (records_in p (a ++ more) true)
    others-are = sym (ap (drop n) all-is ∙ drop_at (take n ws) rest n count-is)

    -- they begin with those that are at hand
    rest-is : rest ≡ drop n ws ++ records_in p (drop (bytes_of (length ws) a false) (a ++ more)) true
    rest-is = others-are ∙ ap (drop n) (all_held p a more) ∙ drop-append-le n ws _ run.few

    pub onward : Onward p R i before after done r ws (records_in p (a ++ more) true) rest
    onward =
        let far : List (Read Request) = records_in p (drop (bytes_of (length ws) a false) (a ++ more)) true in
        record {
          few = subst (λ (l : List (Read Request)). n ≤ length l) (sym all-is) (rw (length-append (take n ws) rest) (omega (arith, count-is)));
          others = others-are;
          first = ap (take n) all-is ∙ take_at (take n ws) rest n count-is;
          text =
              ap (λ (l : List (Read Request)). text_of p R bs l i) (all-is ∙ ap (λ (l : List (Read Request)). take n ws ++ l) rest-is)
              ∙ text-onward p R bs (take n ws) i r.lines wrote (drop n ws) (text-apart false run) (lines_then false run) far
              ∙ ap (λ (l : List (Read Request)). wrote ++ text_of p R (books_after p R bs (take n ws)) l r.lines) (sym rest-is)
              ∙ ap (λ (x : Books). wrote ++ text_of p R x rest r.lines) (sym run.books);
        }

  -- nothing follows
  module _ (run : Runs p R a true i before.store before.journal after.store after.journal out done r) where
    pub ended-onward : Onward p R i before after done r (records_in p a true) (records_in p (a ++ []) true) (records_in p (behind []) true)
    ended-onward =
        let e : records_in p (a ++ []) true ≡ records_in p a true = ap (λ (l : List ℕ). records_in p l true) (append-nil a) in
        let o : records_in p (behind []) true ≡ drop n (records_in p a true) =
        ap (λ (l : List ℕ). records_in p (drop r.skip l) true) (append-nil (drop r.taken a)) ∙ left-held true run
        in
        record {
          few = subst (λ (l : List (Read Request)). n ≤ length l) (sym e) run.few;
          others = o ∙ ap (drop n) (sym e);
          first = ap (take n) e;
          text =
              ap (λ (l : List (Read Request)). text_of p R bs l i) e
              ∙ run.text
              ∙ ap (λ (x : Books). wrote ++ text_of p R x (drop n (records_in p a true)) r.lines) (sym run.books)
              ∙ ap (λ (l : List (Read Request)). wrote ++ text_of p R (books_in p R after) l r.lines) (sym o);
        }

  -- whether or not more may follow
  pub goes_on_lem : (ended : Bool) → Runs p R a ended i before.store before.journal after.store after.journal out done r → (more : List ℕ) → (ended ≡ true → more ≡ [])
      → Onward p R i before after done r (records_in p a ended) (records_in p (a ++ more) true) (records_in p (behind more) true)
  goes_on_lem false run more e = onward run more
  goes_on_lem true run more e =
      subst (λ (l : List ℕ). Onward p R i before after done r (records_in p a true) (records_in p (a ++ l) true) (records_in p (behind l) true)) (sym (e refl)) (ended-onward run)

-- ---- a turn

module _ (p : Profile) (R : ℕ) (f : Flow) (before after : Buffers) (input kept out done : List ℕ) (t : Turn) (have : f.have ≤ length input)
    (turn : Turned p R f before after input kept out done t) where
  abbrev x : Standing
  x = standing before f input

  abbrev y : Standing
  y = standing after t.flow kept

  -- what the run is over
  abbrev a : List ℕ
  a = drop f.skip (hand f input)

  abbrev r : Ran
  r = t.ran

  long : length (hand f input) ≡ f.have
  long = length-take-le f.have input have

  -- what is passed over first
  skipped : (more : List ℕ) → drop f.skip (hand f input ++ more) ≡ drop (f.skip - f.have) (a ++ more)
  skipped more = go (leb f.skip f.have) refl
    where
      go : (b : Bool) → leb f.skip f.have ≡ b → drop f.skip (hand f input ++ more) ≡ drop (f.skip - f.have) (a ++ more)
      go true e =
          let l = leb-true f.skip f.have e in
          let z : f.skip - f.have ≡ 0 = omega arith in
          drop-append-le f.skip (hand f input) more (omega (arith, l, long)) ∙ ap (λ (k : ℕ). drop k (a ++ more)) (sym z)
      go false e =
          let l = leb-false f.skip f.have e in
          let z : length (hand f input) + (f.skip - f.have) ≡ f.skip = omega (arith, long) in
          let n : a ≡ [] = drop_of_length-le (hand f input) {i = f.skip} (omega (arith, long)) in
          ap (λ (k : ℕ). drop k (hand f input ++ more)) (sym z)
          ∙ drop-append-add (hand f input) more (f.skip - f.have)
          ∙ ap (λ (l : List ℕ). drop (f.skip - f.have) (l ++ more)) (sym n)

  abbrev d : ℕ
  d = f.skip - f.have

  abbrev held-now : List (Read Request)
  held-now = records_in p a f.ended

  left-now : (more : List ℕ) → left p x more ≡ records_in p (drop d (a ++ more)) true
  left-now more = ap (λ (l : List ℕ). records_in p l true) (skipped more)

  ahead-then : (more : List ℕ) → ahead y more ≡ drop (cond (eqb d 0) r.skip d) (drop r.taken a ++ more)
  ahead-then more =
      ap (λ (k : ℕ). drop k (hand t.flow kept ++ more)) turn.skip
      ∙ ap (λ (l : List ℕ). drop (cond (eqb d 0) r.skip d) (l ++ more)) turn.hand

  left-then : (more : List ℕ) → left p y more ≡ records_in p (drop (cond (eqb d 0) r.skip d) (drop r.taken a ++ more)) true
  left-then more = ap (λ (l : List ℕ). records_in p l true) (ahead-then more)

  -- where more is to be passed over than is at hand, the run was over nothing
  module _ (far : d ≡ 0 → ⊥) where
    nothing : a ≡ []
    nothing = drop_of_length-le (hand f input) {i = f.skip} (omega (arith, far, long))

    none-held : held-now ≡ []
    none-held = ap (λ (l : List ℕ). records_in p l f.ended) nothing ∙ no-records p f.ended

    none-counted : r.count ≡ 0
    none-counted = let l : length held-now ≡ 0 = ap length none-held in omega (arith, turn.ran.few)

    none-behind : drop r.taken a ≡ []
    none-behind = ap (drop r.taken) nothing ∙ drop-nil r.taken

    same_lines : r.lines ≡ f.lines
    same_lines = turn.ran.next (ap (drop r.count) none-held ∙ drop-nil r.count) ∙ ap (λ (b : Bool). cond b f.lines 0) (eq-eqb r.count 0 none-counted)

    no_text : (bs : Books) (i : ℕ) → text_of p R bs [] i ≡ []
    unfolding text_of
    no_text bs i = refl

    no-books : (bs : Books) (ws : List (Read Request)) → books_after p R bs (take 0 ws) ≡ bs
    unfolding books_after
    no-books bs ws = refl

    same_books : books_in p R after ≡ books_in p R before
    same_books =
        turn.ran.books ∙ ap (λ (k : ℕ). books_after p R (books_in p R before) (take k held-now)) none-counted ∙ no-books (books_in p R before) held-now

    none-wrote : take r.written done ≡ []
    none-wrote =
        sym (append-nil (take r.written done))
        ∙ ap (λ (l : List ℕ). take r.written done ++ l)
        (sym (ap (λ (l : List (Read Request)). text_of p R (books_after p R (books_in p R before) (take r.count held-now)) l r.lines) (ap (drop r.count) none-held ∙ drop-nil r.count) ∙ no_text _ r.lines))
        ∙ sym turn.ran.text
        ∙ ap (λ (l : List (Read Request)). text_of p R (books_in p R before) l f.lines) none-held
        ∙ no_text (books_in p R before) f.lines

    same_ahead : (more : List ℕ) → ahead y more ≡ ahead x more
    same_ahead more =
        ahead-then more
        ∙ ap (λ (b : Bool). drop (cond b r.skip d) (drop r.taken a ++ more)) (ne_eqb d 0 far)
        ∙ ap (λ (l : List ℕ). drop d (l ++ more)) (none-behind ∙ sym nothing)
        ∙ sym (skipped more)

    passing : (more : List ℕ) → Onward p R f.lines before after done r held-now (left p x more) (left p y more)
    passing more =
        let same : left p y more ≡ left p x more = ap (λ (l : List ℕ). records_in p l true) (same_ahead more) in
        record {
          few = omega (arith, none-counted);
          others = same ∙ ap (λ (k : ℕ). drop k (left p x more)) (sym none-counted);
          first = ap (λ (k : ℕ). take k (left p x more)) none-counted ∙ ap (λ (k : ℕ). take k held-now) (sym none-counted);
          text =
              ap (λ (l : List (Read Request)). text_of p R (books_in p R before) l f.lines) (sym same)
              ∙ ap (λ (k : ℕ). text_of p R (books_in p R before) (left p y more) k) (sym same_lines)
              ∙ ap (λ (bs : Books). text_of p R bs (left p y more) r.lines) (sym same_books)
              ∙ ap (λ (l : List ℕ). l ++ text_of p R (books_in p R after) (left p y more) r.lines) (sym none-wrote);
        }

  turn-onward : (b : Bool) → eqb d 0 ≡ b → (more : List ℕ) → (f.ended ≡ true → more ≡ [])
      → Onward p R f.lines before after done r held-now (left p x more) (left p y more)
  turn-onward false e more h = passing (eqb-false d 0 e) more
  turn-onward true e more h =
      let l : left p x more ≡ records_in p (a ++ more) true = left-now more ∙ ap (λ (k : ℕ). records_in p (drop k (a ++ more)) true) (eqb-true d 0 e) in
      let m : left p y more ≡ records_in p (drop r.skip (drop r.taken a ++ more)) true =
      left-then more ∙ ap (λ (b : Bool). records_in p (drop (cond b r.skip d) (drop r.taken a ++ more)) true) e
      in
      subst (λ (ws : List (Read Request)). Onward p R f.lines before after done r held-now ws (left p y more)) (sym l)
      (subst (λ (ws : List (Read Request)). Onward p R f.lines before after done r held-now (records_in p (a ++ more) true) ws) (sym m)
      (goes_on_lem p R a f.lines before after out done r f.ended turn.ran more h))

  turn-place : (b : Bool) → eqb d 0 ≡ b → (more : List ℕ) → (f.ended ≡ true → more ≡ [])
      → ahead y more ≡ drop (bytes_of r.count (ahead x more) true) (ahead x more)
  turn-place false e more h =
      let far = eqb-false d 0 e in
      same_ahead far more
      ∙ sym (ap (λ (k : ℕ). drop (bytes_of k (ahead x more) true) (ahead x more)) (none-counted far)
      ∙ ap (λ (k : ℕ). drop k (ahead x more)) (bytes-zero (ahead x more) true))
  turn-place true e more h =
      let s : ahead x more ≡ a ++ more = skipped more ∙ ap (λ (k : ℕ). drop k (a ++ more)) (eqb-true d 0 e) in
      ahead-then more
      ∙ ap (λ (b : Bool). drop (cond b r.skip d) (drop r.taken a ++ more)) e
      ∙ place-behind p R a f.lines before after out done r f.ended turn.ran more h
      ∙ ap (λ (l : List ℕ). drop (bytes_of r.count l true) l) (sym s)

  pub came-turn : Came p R f.ended x [] y (take r.written done)
  came-turn =
      let o : (more : List ℕ) → (f.ended ≡ true → more ≡ []) → Onward p R f.lines before after done r held-now (left p x more) (left p y more) =
      turn-onward (eqb d 0) refl
      in
      record {
        booked = turn.ran.kept;
        count = r.count;
        held =
            subst (λ (l : List ℕ). r.count ≤ length (records_in p (drop f.skip l) f.ended)) (sym (append-nil (hand f input)))
            turn.ran.few;
        few = λ more h. (o more h).few;
        others = λ more h. (o more h).others;
        place = turn-place (eqb d 0) refl;
        books = λ more h. turn.ran.books ∙ ap (books_after p R (books_in p R before)) (sym (o more h).first);
        text = λ more h. (o more h).text ∙ ap (λ (k : ℕ). take r.written done ++ text_of p R (books_in p R after) (left p y more) k) (sym turn.lines);
      }

  -- where bytes are still to be passed over, none is at hand
  pub turn-passing : (t.flow.skip ≡ 0 → ⊥) → hand t.flow kept ≡ []
  turn-passing h = turn.hand ∙ go (eqb d 0) refl
    where
      go : (b : Bool) → eqb d 0 ≡ b → drop r.taken a ≡ []
      go true e =
          all-taken p R a f.lines before after out done r f.ended turn.ran
          (λ z. h (turn.skip ∙ ap (λ (b : Bool). cond b r.skip d) e ∙ z))
      go false e = none-behind (eqb-false d 0 e)

  -- ---- what is left of the records at hand, and of their text

  held_then : records_in p (drop t.flow.skip (hand t.flow kept)) t.flow.ended ≡ drop r.count held-now
  held_then =
      ap (λ (b : Bool). records_in p (drop t.flow.skip (hand t.flow kept)) b) turn.ended
      ∙ ap (λ (k : ℕ). records_in p (drop k (hand t.flow kept)) f.ended) turn.skip
      ∙ ap (λ (l : List ℕ). records_in p (drop (cond (eqb d 0) r.skip d) l) f.ended) turn.hand
      ∙ go (eqb d 0) refl
    where
      go : (b : Bool) → eqb d 0 ≡ b → records_in p (drop (cond (eqb d 0) r.skip d) (drop r.taken a)) f.ended ≡ drop r.count held-now
      go true e =
          ap (λ (b : Bool). records_in p (drop (cond b r.skip d) (drop r.taken a)) f.ended) e
          ∙ left-held p R a f.lines before after out done r f.ended turn.ran
      go false e =
          let far = eqb-false d 0 e in
          ap (λ (l : List ℕ). records_in p (drop (cond (eqb d 0) r.skip d) l) f.ended) (none-behind far)
          ∙ ap (λ (l : List ℕ). records_in p l f.ended) (drop-nil (cond (eqb d 0) r.skip d))
          ∙ no-records p f.ended
          ∙ sym (ap (drop r.count) (none-held far) ∙ drop-nil r.count)

  -- where the input has ended, nothing else is left
  pub left-last : f.ended ≡ true → left p y [] ≡ drop r.count held-now
  left-last e =
      ap (λ (l : List ℕ). records_in p (drop t.flow.skip l) true) (append-nil (hand t.flow kept))
      ∙ ap (λ (b : Bool). records_in p (drop t.flow.skip (hand t.flow kept)) b) (sym (turn.ended ∙ e))
      ∙ held_then

  pub text-shrinks : at_hand p R before f input ≡ take r.written done ++ at_hand p R after t.flow kept
  text-shrinks =
      turn.ran.text
      ∙ ap (λ (bs : Books). take r.written done ++ text_of p R bs (drop r.count held-now) r.lines) (sym turn.ran.books)
      ∙ ap (λ (ws : List (Read Request)). take r.written done ++ text_of p R (books_in p R after) ws r.lines) (sym held_then)
      ∙ ap (λ (k : ℕ). take r.written done ++ text_of p R (books_in p R after) (records_in p (drop t.flow.skip (hand t.flow kept)) t.flow.ended) k) (sym turn.lines)
