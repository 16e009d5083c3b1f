-- How a run over an input in pieces goes on: nothing done, something read, one after the other. Assumes nothing.
use Rattle.std.proofs.Common.{◌≡◌, ℕ, ◌+◌, ◌-◌, ◌≤◌, Bool, true, false, List, [], ◌++◌, length, take, drop, sym, refl, ap, ◌∙◌, subst, true≢false, append_assoc, append-nil, arith, length-drop, take_all, drop-drop, take-add}
use Rattle.forms.specs.Read.{Read}
use Rattle.rules.specs.declared.profile.Profile.{Profile}
use Rattle.rules.specs.Journal.{Books}
use Rattle.rules.specs.Request.{Request}
use Rattle.journal.specs.Books.{BytesOf}
use Rattle.requests.specs.Stream.{records_in, bytes_of, text_of, books_after}
use Rattle.serve.specs.declared.flow.Flow.{Flow}
use Rattle.serve.specs.declared.Taken.{Taken}
use Rattle.serve.specs.Buffers.{Buffers, books_in, bytes_for, BookedIn}
use Rattle.serve.specs.Flow.{hand}
use Rattle.serve.specs.Course.{standing, TakenIn, Standing, ahead, left, text_left, Came}
use Rattle.journal.proofs.Booking.{booked-bytes}
use Rattle.serve.proofs.Pieces.{bytes-zero, bytes-add, same_bytes, more-records, records-behind}
use Rattle.serve.proofs.Texts.{books-then}

-- both hold these books, to the byte
pub bytes-are : {p : Profile} {R : ℕ} {b : Books} {x : Buffers} → BytesOf p R b x.store x.journal → x ≡ bytes_for p R b
bytes-are y = rw (← y.store, ← y.journal)

-- every byte of both is that of what stands in them
pub booked-is : {p : Profile} {R : ℕ} {x : Buffers} → BookedIn p R x → x ≡ bytes_for p R (books_in p R x)
booked-is b = bytes-are (booked-bytes b)

module _ (p : Profile) (R : ℕ) where
  no-books : (bs : Books) (ws : List (Read Request)) → books_after p R bs (take 0 ws) ≡ bs
  unfolding books_after
  no-books bs ws = refl

  behind-none : (s : List ℕ) → s ≡ drop (bytes_of 0 s true) s
  behind-none s = sym (ap (λ (k : ℕ). drop k s) (bytes-zero s true))

  pub came-nowhere : (ended : Bool) (x : Standing) → BookedIn p R x.buffers → Came p R ended x [] x []
  came-nowhere ended x s =
      record {
        booked = s;
        count = 0;
        held = omega arith;
        few = λ more e. omega arith;
        others = λ more e. refl;
        place = λ more e. behind-none (ahead x more);
        books = λ more e. sym (no-books (books_in p R x.buffers) (left p x more));
        text = λ more e. refl;
      }

  -- a piece came in behind the bytes at hand
  came-read : (x : Standing) (piece : List ℕ) → BookedIn p R x.buffers
      → Came p R false x piece (record { buffers = x.buffers; hand = x.hand ++ piece; skip = x.skip; lines = x.lines }) []
  came-read x piece s =
      let next : Standing = record { buffers = x.buffers; hand = x.hand ++ piece; skip = x.skip; lines = x.lines } in
      let bytes : (more : List ℕ) → ahead next more ≡ ahead x (piece ++ more) =
      λ more. ap (drop x.skip) (append_assoc x.hand piece more)
      in
      let same : (more : List ℕ) → left p next more ≡ left p x (piece ++ more) =
      λ more. ap (λ (l : List ℕ). records_in p l true) (bytes more)
      in
      record {
        booked = s;
        count = 0;
        held = omega arith;
        few = λ more e. omega arith;
        others = λ more e. same more;
        place = λ more e. bytes more ∙ behind-none (ahead x (piece ++ more));
        books = λ more e. sym (no-books (books_in p R x.buffers) (left p x (piece ++ more)));
        text = λ more e. sym (ap (λ (ws : List (Read Request)). text_of p R (books_in p R x.buffers) ws x.lines) (same more));
      }

  pub came-taken : (f : Flow) (s : Buffers) (input mid : List ℕ) (t : Taken) (i : TakenIn f input mid t) → BookedIn p R s
      → Came p R false (standing s f input) i.piece (standing s t.flow mid) []
  came-taken f s input mid t i b =
      subst (λ (x : Standing). Came p R false (standing s f input) i.piece x []) same (came-read (standing s f input) i.piece b)
    where
      same : record { buffers = s; hand = hand f input ++ i.piece; skip = f.skip; lines = f.lines } ≡ standing s t.flow mid
      same = rw (i.hand, i.skip, i.lines)

  -- one after the other; behind the input's end nothing more is read
  module _ (e₁ e₂ : Bool) (x y z : Standing) (a b v w : List ℕ) (h : Came p R e₁ x a y v) (k : Came p R e₂ y b z w)
      (ends : e₁ ≡ true → (e₂ ≡ true) × (b ≡ [])) where
    module _ (more : List ℕ) (e : e₂ ≡ true → more ≡ []) where
      abbrev rest : List ℕ
      rest = b ++ more

      none : e₁ ≡ true → rest ≡ []
      none t = ap (λ (l : List ℕ). l ++ more) (ends t).1 ∙ e (ends t).0

      abbrev all : List (Read Request)
      all = left p x (a ++ rest)

      whole : left p x ((a ++ b) ++ more) ≡ all
      whole = ap (left p x) (append_assoc a b more)

      then-others : left p z more ≡ drop (h.count + k.count) (left p x ((a ++ b) ++ more))
      then-others =
          k.others more e
          ∙ ap (drop k.count) (h.others rest none)
          ∙ drop-drop k.count h.count all
          ∙ ap (drop (h.count + k.count)) (sym whole)

      then-place : ahead z more ≡ drop (bytes_of (h.count + k.count) (ahead x ((a ++ b) ++ more)) true) (ahead x ((a ++ b) ++ more))
      then-place =
          let s : List ℕ = ahead x (a ++ rest) in
          let n : ℕ = bytes_of h.count s true in
          k.place more e
          ∙ ap (λ (l : List ℕ). drop (bytes_of k.count l true) l) (h.place rest none)
          ∙ drop-drop (bytes_of k.count (drop n s) true) n s
          ∙ ap (λ (j : ℕ). drop j s) (sym (bytes-add h.count k.count s true))
          ∙ ap (λ (l : List ℕ). drop (bytes_of (h.count + k.count) (ahead x l) true) (ahead x l)) (sym (append_assoc a b more))

      then-few : h.count + k.count ≤ length (left p x ((a ++ b) ++ more))
      then-few =
          let l : k.count ≤ length all - h.count = rw (← length-drop h.count all, ← h.others rest none) (k.few more e) in
          rw whole (omega (arith, l, h.few rest none))

      then-books : books_in p R z.buffers ≡ books_after p R (books_in p R x.buffers) (take (h.count + k.count) (left p x ((a ++ b) ++ more)))
      then-books =
          k.books more e
          ∙ ap (λ (bs : Books). books_after p R bs (take k.count (left p y rest))) (h.books rest none)
          ∙ ap (λ (ws : List (Read Request)). books_after p R (books_after p R (books_in p R x.buffers) (take h.count all)) (take k.count ws)) (h.others rest none)
          ∙ sym (books-then p R (books_in p R x.buffers) (take h.count all) (take k.count (drop h.count all)))
          ∙ ap (books_after p R (books_in p R x.buffers)) (sym (take-add h.count k.count all))
          ∙ ap (λ (ws : List (Read Request)). books_after p R (books_in p R x.buffers) (take (h.count + k.count) ws)) (sym whole)

      then-text : text_left p R x ((a ++ b) ++ more) ≡ (v ++ w) ++ text_left p R z more
      then-text =
          ap (λ (ws : List (Read Request)). text_of p R (books_in p R x.buffers) ws x.lines) whole
          ∙ h.text rest none
          ∙ ap (λ (l : List ℕ). v ++ l) (k.text more e)
          ∙ sym (append_assoc v w (text_left p R z more))

    -- what was read of the one and of the other
    abbrev both : List ℕ
    both = ahead x (a ++ b)

    held_first : h.count ≤ length (records_in p both e₂)
    held_first = go e₁ refl
      where
        go : (t : Bool) → e₁ ≡ t → h.count ≤ length (records_in p both e₂)
        go true t =
            let o : records_in p (ahead x a) e₁ ≡ records_in p both e₂ =
            ap (records_in p (ahead x a)) (t ∙ sym (ends t).0)
            ∙ ap (λ (l : List ℕ). records_in p (ahead x l) e₂) (sym (ap (λ (l : List ℕ). a ++ l) (ends t).1 ∙ append-nil a))
            in
            subst (λ (ws : List (Read Request)). h.count ≤ length ws) o h.held
        go false t =
            subst (λ (l : List ℕ). h.count ≤ length (records_in p (drop x.skip l) e₂)) (append_assoc x.hand a b)
            (more-records p b e₂ h.count x.skip (x.hand ++ a)
            (subst (λ (u : Bool). h.count ≤ length (records_in p (ahead x a) u)) t h.held))

    same_place : bytes_of h.count both true ≡ bytes_of h.count both e₂
    same_place = go e₂ refl
      where
        go : (t : Bool) → e₂ ≡ t → bytes_of h.count both true ≡ bytes_of h.count both e₂
        go true t = ap (bytes_of h.count both) (sym t)
        go false t =
            ap (λ (l : List ℕ). bytes_of h.count l true) (sym (append-nil both))
            ∙ same_bytes p [] true h.count both (subst (λ (u : Bool). h.count ≤ length (records_in p both u)) t held_first)
            ∙ ap (bytes_of h.count both) (sym t)

    then-held : h.count + k.count ≤ length (records_in p both e₂)
    then-held =
        let e : records_in p (ahead y b) e₂ ≡ drop h.count (records_in p both e₂) =
        ap (λ (l : List ℕ). records_in p l e₂) (h.place b (λ t. (ends t).1) ∙ ap (λ (j : ℕ). drop j both) same_place)
        ∙ records-behind p e₂ h.count both
        in
        let l : k.count ≤ length (records_in p both e₂) - h.count = rw (← length-drop h.count (records_in p both e₂), ← e) k.held in
        omega (arith, l, held_first)

    pub came-then : Came p R e₂ x (a ++ b) z (v ++ w)
    came-then =
        record {
          booked = k.booked;
          count = h.count + k.count;
          held = then-held;
          few = then-few;
          others = then-others;
          place = then-place;
          books = then-books;
          text = then-text;
        }

    pub then-count : came-then.count ≡ h.count + k.count
    unfolding came-then
    then-count = refl

  -- what holds whatever follows holds where nothing does
  pub came-last : (x y : Standing) (read wrote : List ℕ) → Came p R false x read y wrote → Came p R true x read y wrote
  came-last x y read wrote c =
      let never : (more : List ℕ) → false ≡ true → more ≡ [] = λ more e. absurd (true≢false (sym e)) in
      record {
        booked = c.booked;
        count = c.count;
        held = subst (λ (l : List ℕ). c.count ≤ length (left p x l)) (append-nil read) (c.few [] (never []));
        few = λ more e. c.few more (never more);
        others = λ more e. c.others more (never more);
        place = λ more e. c.place more (never more);
        books = λ more e. c.books more (never more);
        text = λ more e. c.text more (never more);
      }

  -- where nothing is left, all are counted
  pub all-counted : (ended : Bool) (x y : Standing) (read wrote : List ℕ) (c : Came p R ended x read y wrote) → left p y [] ≡ []
      → c.count ≡ length (left p x read)
  all-counted ended x y read wrote c none =
      let ws : List (Read Request) = left p x (read ++ []) in
      let same : length ws ≡ length (left p x read) = ap (λ (l : List ℕ). length (left p x l)) (append-nil read) in
      let l : length ws - c.count ≡ 0 = sym (length-drop c.count ws) ∙ ap length (sym (c.others [] (λ e. refl)) ∙ none) in
      omega (arith, l, same, c.few [] (λ e. refl))

  -- ---- to the end of the input: all of its text is written, and every record of it is carried out

  module _ (x y : Standing) (read wrote : List ℕ) (h : Came p R true x read y wrote) (none : left p y [] ≡ []) where
    unextended : left p x (read ++ []) ≡ left p x read
    unextended = ap (left p x) (append-nil read)

    all_done : take h.count (left p x (read ++ [])) ≡ left p x read
    all_done =
        let d : drop h.count (left p x (read ++ [])) ≡ [] = sym (h.others [] (λ e. refl)) ∙ none in
        let l : length (left p x (read ++ [])) - h.count ≡ 0 = sym (length-drop h.count (left p x (read ++ []))) ∙ ap length d in
        take_all h.count (left p x (read ++ [])) (omega arith) ∙ unextended

    no_text : (bs : Books) (i : ℕ) → text_of p R bs [] i ≡ []
    unfolding text_of
    no_text bs i = refl

    pub all-text : text_left p R x read ≡ wrote
    all-text =
        ap (λ (ws : List (Read Request)). text_of p R (books_in p R x.buffers) ws x.lines) (sym unextended)
        ∙ h.text [] (λ e. refl)
        ∙ ap (λ (ws : List (Read Request)). wrote ++ text_of p R (books_in p R y.buffers) ws y.lines) none
        ∙ ap (λ (l : List ℕ). wrote ++ l) (no_text (books_in p R y.buffers) y.lines)
        ∙ append-nil wrote

    pub all-books : books_in p R y.buffers ≡ books_after p R (books_in p R x.buffers) (left p x read)
    all-books = h.books [] (λ e. refl) ∙ ap (books_after p R (books_in p R x.buffers)) all_done

    pub all-bytes : y.buffers ≡ bytes_for p R (books_after p R (books_in p R x.buffers) (left p x read))
    all-bytes = booked-is h.booked ∙ ap (bytes_for p R) all-books
