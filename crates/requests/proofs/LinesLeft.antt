-- The lines of a request that are left from a place on, and what is written of them. Assumes nothing.
use Prim.Native.Nat.{ℕ, suc, ◌+◌, ◌-◌, ◌≤◌, ◌<◌, max}
use native.Mathlib.Nat.{sub-zero}
use native.Mathlib.Omega.{arith}
use mathlib.Core.Path.{◌≡◌, refl, sym, ap, ◌∙◌}
use mathlib.Core.Bool.{Bool, true, false, cond, not, ◌&&◌, true≢false}
use mathlib.Core.List.{List, [], ◌∷◌, ◌++◌, map, map-map, append-nil, append_assoc}
use lib.ListN.{length, take, drop, length-append, length-drop, drop_of_length-le}
use lib.Seq.{drop-drop, length-take-le}
use borrow.Author.Tests.{le-leb, lt-leb}
use borrow.Rule.Slice.PartMut.{put_mid}
use Rattle.values.specs.Basic.{keep, keep_if, maybe}
use Rattle.values.specs.Value.{Value, null, before, among}
use Rattle.forms.specs.Read.{Read, got, broken}
use Rattle.forms.specs.Print.{Front}
use Rattle.areas.proofs.Sorting.{keep-length}
use Rattle.rules.specs.declared.profile.Profile.{Profile}
use Rattle.rules.specs.Refusal.{NotIndexed, UnknownTable}
use Rattle.rules.specs.State.{Name, Row, State, table_named, of_table, cell_at}
use Rattle.rules.specs.Journal.{Journal, Books}
use Rattle.rules.specs.Layout.{parse}
use Rattle.rules.specs.Schema.{first, at}
use Rattle.rules.specs.Request.{Request, Create, Drop, Insert, Update, Delete, Get, Lookup, Scan, Names, Open, Keep, Back, entered, no}
use Rattle.rules.specs.Step.{Outcome, settle, refused, shows, looked_up, lookup, is_indexed, is_accepted, act, step}
use Rattle.rules.proofs.Refusals.{is_write, write-silent, answers}
use Rattle.rules.proofs.Tests.{by-option}
use Rattle.laid.specs.Store.{LaidStore}
use Rattle.walks.specs.Looked.{keys_with}
use Rattle.walks.proofs.KeysCounted.{left_behind, all_left}
use Rattle.mapping.specs.Got.{is_got, got_or}
use Rattle.operations.specs.Told.{outcome_of}
use Rattle.requests.specs.Lines.{row_line, row_lines, row_most, answer_line}
use Rattle.requests.proofs.Copied.{front-is, front-told, front-copied}
use Rattle.requests.proofs.Fitting.{lines-all, lines_stay, lines_next}
use Rattle.requests.proofs.Fronts.{front_length}
use Rattle.requests.specs.Places.{beside, key_line, lines_from, text_from, lines_to, Wrote}

-- ---- at the start all of them are left

-- where as many are kept as there are, all are
keep-full : {A : Type 0} (q : A → Bool) (xs : List A) → length (keep q xs) ≡ length xs → keep q xs ≡ xs
keep-full q [] e = refl
keep-full {A} q (x ∷ xs) e = on (q x) refl e (keep-full q xs)
  where
    on : (b : Bool) → q x ≡ b → length (keep_if b x (keep q xs)) ≡ suc (length xs) → (length (keep q xs) ≡ length xs → keep q xs ≡ xs) → keep_if (q x) x (keep q xs) ≡ x ∷ xs
    on true h l r = let k : length (keep q xs) ≡ length xs = omega arith in rw h (ap (λ (ys : List A). x ∷ ys) (r k))
    on false h l r = absurd (omega (arith, keep-length q xs))

module _ (p : Profile) (R : ℕ) (s : List ℕ) (b : LaidStore p R s) where
  abbrev st : State
  st = parse p R s

  module _ (n : Name) (i : ℕ) (vs : List Value) where
    abbrev behind : List (List Value)
    behind = map key_line (keep (before null) (keys_with st.rows n i vs))

    all-behind : looked_up st.rows n i vs ≡ behind
    unfolding left_behind keys_with
    all-behind =
        sym (map-map key_line (λ (r : Row). r.key) (keep (λ r. of_table n r && among (cell_at r.cells i) vs) st.rows))
        ∙ ap (map key_line) (sym (keep-full (before null) (keys_with st.rows n i vs) (all_left p R s b n i vs null refl)))

    abbrev Shown : Outcome → Type 0
    Shown o = o.lines ≡ cond (is_accepted o.reply) behind []

    looked-up : (x : Bool) → Shown (settle (at 0 (first ((NotIndexed, not x) ∷ []))) (shows (looked_up st.rows n i vs)))
    unfolding first at maybe
    looked-up true = all-behind
    looked-up false = refl

    lookup-start : Shown (lookup st n i vs)
    unfolding lookup
    lookup-start =
        by-option Shown (table_named st.tables n) (refused (no UnknownTable 0))
        (λ t. settle (at 0 (first ((NotIndexed, not (is_indexed t i)) ∷ []))) (shows (looked_up st.rows n i vs)))
        (λ e. refl)
        (λ t e. looked-up (is_indexed t i))

  read-start : (q : Request) → is_write q ≡ false → (x : Journal) → (act p R (beside st x) q).lines ≡ lines_from st q 0 null
  unfolding act lines_from
  read-start (Create t) h x = absurd (true≢false h)
  read-start (Drop n f) h x = absurd (true≢false h)
  read-start (Insert n m rows) h x = absurd (true≢false h)
  read-start (Update n qs) h x = absurd (true≢false h)
  read-start (Delete n ks) h x = absurd (true≢false h)
  read-start (Get n ks) h x = refl
  read-start (Lookup n i vs) h x = lookup-start n i vs
  read-start (Scan n) h x = refl
  read-start Names h x = refl
  read-start Open h x = absurd (true≢false h)
  read-start Keep h x = absurd (true≢false h)
  read-start Back h x = absurd (true≢false h)

  write-start : (q : Request) → is_write q ≡ true → lines_from st q 0 null ≡ []
  unfolding lines_from
  write-start (Create t) h = refl
  write-start (Drop n x) h = refl
  write-start (Insert n m rows) h = refl
  write-start (Update n qs) h = refl
  write-start (Delete n ks) h = refl
  write-start (Get n ks) h = absurd (true≢false (sym h))
  write-start (Lookup n i vs) h = absurd (true≢false (sym h))
  write-start (Scan n) h = absurd (true≢false (sym h))
  write-start Names h = absurd (true≢false (sym h))
  write-start Open h = refl
  write-start Keep h = refl
  write-start Back h = refl

  module _ (x : Journal) where
    abbrev books : Books
    books = beside st x

    step_start : (q : Request) → entered q ≡ q → (w : Bool) → is_write q ≡ w → (step p R books q).lines ≡ lines_from st q 0 null
    unfolding step
    step_start q e true h = write-silent p R books q h ∙ sym (write-start q h)
    step_start q e false h = ap (λ (y : Request). (act p R books y).lines) e ∙ read-start q h x

    -- the lines of an outcome
    pub lines_start : (r : Read Request) → is_got r ≡ true → ((q : Request) (end : ℕ) → r ≡ got q end → entered q ≡ q)
        → lines_from st (got_or Names r) 0 null ≡ (outcome_of p R books r).lines
    unfolding is_got got_or outcome_of
    lines_start (got q end) h e = sym (step_start q (e q end refl) (is_write q) refl)
    lines_start (broken n) h e = absurd (true≢false (sym h))

-- ---- there are no more of them than the answer says

none-counted : (o : Outcome) → o.lines ≡ [] → length o.lines ≤ o.reply.count
none-counted o e = rw e (omega arith)

shown-counted : (o : Outcome) (b : Bool) → is_accepted o.reply ≡ b → (is_accepted o.reply ≡ false → o.lines ≡ []) → (is_accepted o.reply ≡ true → o.reply.count ≡ length o.lines) → length o.lines ≤ o.reply.count
shown-counted o true e h f = let k = f e in omega arith
shown-counted o false e h f = none-counted o (h e)

step-counted : (p : Profile) (R : ℕ) (b : Books) (q : Request) → length (step p R b q).lines ≤ (step p R b q).reply.count
step-counted p R b (Create t) = none-counted (step p R b (Create t)) (write-silent p R b (Create t) refl)
step-counted p R b (Drop n x) = none-counted (step p R b (Drop n x)) (write-silent p R b (Drop n x) refl)
step-counted p R b (Insert n m rows) = none-counted (step p R b (Insert n m rows)) (write-silent p R b (Insert n m rows) refl)
step-counted p R b (Update n qs) = none-counted (step p R b (Update n qs)) (write-silent p R b (Update n qs) refl)
step-counted p R b (Delete n ks) = none-counted (step p R b (Delete n ks)) (write-silent p R b (Delete n ks) refl)
step-counted p R b (Get n ks) = shown-counted (step p R b (Get n ks)) _ refl (answers p R b (Get n ks)).no_lines (answers p R b (Get n ks)).count
step-counted p R b (Lookup n i vs) = shown-counted (step p R b (Lookup n i vs)) _ refl (answers p R b (Lookup n i vs)).no_lines (answers p R b (Lookup n i vs)).count
step-counted p R b (Scan n) = shown-counted (step p R b (Scan n)) _ refl (answers p R b (Scan n)).no_lines (answers p R b (Scan n)).count
step-counted p R b Names = shown-counted (step p R b Names) _ refl (answers p R b Names).no_lines (answers p R b Names).count
step-counted p R b Open = none-counted (step p R b Open) (write-silent p R b Open refl)
step-counted p R b Keep = none-counted (step p R b Keep) (write-silent p R b Keep refl)
step-counted p R b Back = none-counted (step p R b Back) (write-silent p R b Back refl)

pub lines-counted : (p : Profile) (R : ℕ) (b : Books) (r : Read Request) → length (outcome_of p R b r).lines ≤ (outcome_of p R b r).reply.count
unfolding outcome_of
lines-counted p R b (got q end) = step-counted p R b q
lines-counted p R b (broken x) = omega arith

-- ---- the lines written so far, and those that are left

pub record Going (o : Outcome) (i : ℕ) (ls : List (List Value)) (before now : List ℕ) (written lines : ℕ) : Type 0 where
  pub rest : ls ≡ drop lines o.lines
  pub few : lines ≤ length o.lines
  pub count : lines_to o i (length before) ≡ lines_to o (max i lines) (length before - written)
  pub fits : written ≤ length now
  pub long : length now ≡ length before
  pub front : Front (take written now) before now written
  pub text : row_lines (drop i o.lines) ≡ take written now ++ row_lines (drop (max i lines) o.lines)

module _ (o : Outcome) (i : ℕ) (before : List ℕ) where
  pub going_start : (ls : List (List Value)) → ls ≡ o.lines → Going o i ls before before 0 0
  going_start ls e =
      let m : i ≡ max i 0 = omega arith in
      record {
        rest = e;
        few = omega arith;
        count = ap (λ (k : ℕ). lines_to o k (length before)) m ∙ ap (lines_to o (max i 0)) (sym (sub-zero (length before)));
        fits = omega arith;
        long = refl;
        front = record { count = refl; bytes = refl };
        text = ap (λ (k : ℕ). row_lines (drop k o.lines)) m;
      }

  module _ (ls : List (List Value)) (now : List ℕ) (written lines : ℕ) (g : Going o i ls before now written lines) where
    module _ (l : List Value) (rest : List (List Value)) (e : ls ≡ l ∷ rest) where
      next : rest ≡ drop (lines + 1) o.lines
      next = ap (drop 1) (sym e ∙ g.rest) ∙ drop-drop 1 lines o.lines

      pub one_left : lines < length o.lines
      one_left = omega (arith, length-drop lines o.lines, ap length (sym g.rest ∙ e))

      pub going-skips : lines < i → Going o i rest before now written (lines + 1)
      going-skips h =
          let m : max i lines ≡ max i (lines + 1) = omega arith in
          record {
            rest = next;
            few = omega (arith, one_left);
            count = g.count ∙ ap (λ (k : ℕ). lines_to o k (length before - written)) m;
            fits = g.fits;
            long = g.long;
            front = g.front;
            text = g.text ∙ ap (λ (k : ℕ). take written now ++ row_lines (drop k o.lines)) m;
          }

      module _ (q : List ℕ) (n : ℕ) (eq : q ≡ row_line l) (en : length q ≡ n) (room : written + n ≤ length now) (h : i ≤ lines) where
        abbrev copied : List ℕ
        copied = put_mid written (written + n - written) now q

        front-next : Front (take written now ++ q) before copied (written + n)
        front-next = front-copied (take written now) before now q written n g.front en

        is-next : take (written + n) copied ≡ take written now ++ q
        is-next = front-is (take written now ++ q) before copied (written + n) front-next

        text-next : row_lines (drop i o.lines) ≡ take (written + n) copied ++ row_lines (drop (max i (lines + 1)) o.lines)
        unfolding row_lines
        text-next =
            let m : max i lines ≡ lines = omega arith in
            let k : lines + 1 ≡ max i (lines + 1) = omega arith in
            g.text
            ∙ ap (λ (j : ℕ). take written now ++ row_lines (drop j o.lines)) m
            ∙ ap (λ (x : List (List Value)). take written now ++ row_lines x) (sym g.rest ∙ e)
            ∙ sym (append_assoc (take written now) (row_line l) (row_lines rest))
            ∙ ap (λ (x : List ℕ). (take written now ++ x) ++ row_lines rest) (sym eq)
            ∙ ap (λ (x : List ℕ). x ++ row_lines rest) (sym is-next)
            ∙ ap (λ (x : List (List Value)). take (written + n) copied ++ row_lines x) next
            ∙ ap (λ (j : ℕ). take (written + n) copied ++ row_lines (drop j o.lines)) k

        count_next : lines_to o i (length before) ≡ lines_to o (max i (lines + 1)) (length before - (written + n))
        count_next =
            let m : max i lines ≡ lines = omega arith in
            let k : lines + 1 ≡ max i (lines + 1) = omega arith in
            let w : length (row_line l) ≡ n = ap length (sym eq) ∙ en in
            let d : length before - written - n ≡ length before - (written + n) = omega arith in
            g.count
            ∙ ap (λ (j : ℕ). lines_to o j (length before - written)) m
            ∙ lines_next o lines (length before - written) l rest (sym g.rest ∙ e) (omega (arith, w, g.long))
            ∙ ap (λ (j : ℕ). lines_to o (lines + 1) (length before - written - j)) w
            ∙ ap (lines_to o (lines + 1)) d
            ∙ ap (λ (j : ℕ). lines_to o j (length before - (written + n))) k

        pub going-writes : Going o i rest before copied (written + n) (lines + 1)
        going-writes =
            let r : written + n ≤ length before = omega (arith, g.long) in
            let f = front_length (take written now ++ q) before copied (written + n) front-next r in
            record {
              rest = next;
              few = omega (arith, one_left);
              count = count_next;
              fits = omega arith;
              long = f;
              front = front-told (take written now ++ q) before copied (written + n) front-next;
              text = text-next;
            }

    -- ---- a line of n bytes does not fit

    stays : drop (max i lines) o.lines ≡ drop lines o.lines → lines_to o (max i lines) (length before - written) ≡ lines
        → (n : ℕ) → n ≤ length (text_from o lines) → length now - written < n → n ≤ row_most
        → Wrote o i before now (record { written = written; lines = lines; done = false })
    unfolding text_from
    stays e c n k l m =
        let t : text_from o i ≡ take written now ++ text_from o lines =
        ap (λ (x : List ℕ). x ++ answer_line o.reply) (g.text ∙ ap (λ (x : List (List Value)). take written now ++ row_lines x) e)
        ∙ append_assoc (take written now) (row_lines (drop lines o.lines)) (answer_line o.reply)
        in
        let w : length (text_from o i) ≡ length (take written now) + length (text_from o lines) =
        ap length t ∙ length-append (take written now) (text_from o lines)
        in
        record {
          whole = sym (lt-leb (length (text_from o i)) (length before) (omega (arith, w, length-take-le written now g.fits, g.long)));
          count = sym (g.count ∙ c);
          long = g.long;
          fits = omega (arith, g.fits, g.long);
          text = t;
          bytes = g.front.bytes;
          room = λ d. omega (arith, g.long);
        }

    -- a row line
    pub line_stays : (l : List Value) (rest : List (List Value)) → ls ≡ l ∷ rest → i ≤ lines → (n : ℕ) → n ≡ length (row_line l)
        → length now - written < n → n ≤ row_most
        → Wrote o i before now (record { written = written; lines = lines; done = false })
    unfolding text_from row_lines
    line_stays v rest e h n en l m =
        let k : max i lines ≡ lines = omega arith in
        let d : drop lines o.lines ≡ v ∷ rest = sym g.rest ∙ e in
        let a : length (text_from o lines) ≡ length (row_line v) + length (row_lines rest) + length (answer_line o.reply) =
        rw (d, length-append (row_line v ++ row_lines rest) (answer_line o.reply), length-append (row_line v) (row_lines rest))
        in
        stays (ap (λ (j : ℕ). drop j o.lines) k)
        (ap (λ (j : ℕ). lines_to o j (length before - written)) k
        ∙ lines_stay o lines (length before - written) v rest d (omega (arith, g.long)))
        n (omega arith) l m

    module _ (none : ls ≡ []) where
      all_told : length o.lines ≡ lines
      all_told = omega (arith, g.few, length-drop lines o.lines, ap length (sym g.rest ∙ none))

      all-passed : drop (max i lines) o.lines ≡ []
      all-passed = let k : length o.lines ≤ max i lines = omega (arith, all_told) in drop_of_length-le o.lines k

      all_lines : lines_to o (max i lines) (length before - written) ≡ lines
      all_lines = lines-all o (max i lines) (length before - written) (omega (arith, all_told)) ∙ all_told

      -- the answer
      pub answer-stays : (n : ℕ) → n ≡ length (answer_line o.reply) → length now - written < n → n ≤ row_most
          → Wrote o i before now (record { written = written; lines = lines; done = false })
      unfolding text_from
      answer-stays n en l m =
          stays (all-passed ∙ sym none ∙ g.rest) all_lines n
          (omega (arith, en, length-append (row_lines (drop lines o.lines)) (answer_line o.reply))) l m

      -- ---- all is written

      pub all-wrote : (q : List ℕ) (n : ℕ) → q ≡ answer_line o.reply → length q ≡ n → written + n ≤ length now
          → Wrote o i before (put_mid written (written + n - written) now q) (record { written = written + n; lines = lines; done = true })
      unfolding text_from row_lines
      all-wrote q n eq en room =
          let z : List ℕ = put_mid written (written + n - written) now q in
          let f : Front (take written now ++ q) before z (written + n) = front-copied (take written now) before now q written n g.front en in
          let t : take (written + n) z ≡ take written now ++ q = front-is (take written now ++ q) before z (written + n) f in
          let b : written + n ≤ length before = omega (arith, g.long) in
          let k : length z ≡ length before = front_length (take written now ++ q) before z (written + n) f b in
          let x : text_from o i ≡ take (written + n) z =
          ap (λ (x : List ℕ). x ++ answer_line o.reply)
          (g.text ∙ ap (λ (x : List (List Value)). take written now ++ row_lines x) all-passed ∙ append-nil (take written now))
          ∙ ap (λ (x : List ℕ). take written now ++ x) (sym eq)
          ∙ sym t
          in
          record {
            whole =
                let w = length-take-le (written + n) z (omega (arith, k, b)) in
                sym (le-leb (length (text_from o i)) (length before) (omega (arith, ap length x, w)));
            count = sym (g.count ∙ all_lines);
            long = k;
            fits = b;
            text = x ∙ sym (append-nil (take (written + n) z));
            bytes = f.bytes ∙ ap (λ (x : List ℕ). x ++ drop (written + n) before) (sym t);
            room = λ d. absurd (true≢false d);
          }

-- ---- a turn of the loop: the next line is written into a buffer of its own, and then behind what is written if it is wanted

module _ (o : Outcome) (i : ℕ) (before : List ℕ) (old new : List (List Value)) (now : List ℕ) (written lines : ℕ) (g : Going o i old before now written lines)
    (values : List Value) (e : old ≡ values ∷ new) (part last : List ℕ) (n : ℕ) (f : Front (row_line values) part last n) where
  pub turn_more : lines < length o.lines
  turn_more = one_left o i before old now written lines g values new e

  pub turn-less : length new < length old
  turn-less = rw e (omega arith)

  pub turn-stays : i ≤ lines → length now - written < n → n ≤ row_most → Wrote o i before now (record { written = written; lines = lines; done = false })
  turn-stays h l k = line_stays o i before old now written lines g values new e h n f.count l k

  -- z stands behind the turn, and w bytes of it are written
  module _ (z : List ℕ) (w : ℕ) where
    pub turn-skips : z ≡ now → w ≡ written → lines < i → Going o i new before z w (lines + 1)
    turn-skips ez ew h = rw (ez, ew) (going-skips o i before old now written lines g values new e h)

    pub turn-writes : (q : List ℕ) → z ≡ put_mid written (written + n - written) now q → w ≡ written + n → q ≡ take n last → i ≤ lines → n ≤ length now - written
        → Going o i new before z w (lines + 1)
    turn-writes q ez ew eq h l =
        let x : q ≡ row_line values = eq ∙ front-is (row_line values) part last n f in
        let r : written + n ≤ length now = omega (arith, g.fits) in
        rw (ez, ew) (going-writes o i before old now written lines g values new e q n x (ap length x ∙ sym f.count) r h)

-- ---- behind the loop

module _ (o : Outcome) (i : ℕ) (before : List ℕ) (old : List (List Value)) (now : List ℕ) (written lines : ℕ) (g : Going o i old before now written lines) (none : old ≡ [])
    (part last : List ℕ) (n : ℕ) (x : Front (answer_line o.reply) part last n) where
  pub end_stays : length now - written < n → n ≤ row_most → Wrote o i before now (record { written = written; lines = lines; done = false })
  end_stays l k = answer-stays o i before old now written lines g none n x.count l k

  pub end-writes : (q : List ℕ) → q ≡ take n last → n ≤ length now - written
      → Wrote o i before (put_mid written (written + n - written) now q) (record { written = written + n; lines = lines; done = true })
  end-writes q eq l =
      let f : q ≡ answer_line o.reply = eq ∙ front-is (answer_line o.reply) part last n x in
      let r : written + n ≤ length now = omega (arith, g.fits) in
      all-wrote o i before old now written lines g none q n f (ap length f ∙ sym x.count) r
