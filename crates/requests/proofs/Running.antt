-- The records of an input one after the other: each takes some bytes, and one more changes the books and the text. Assumes nothing.
use Prim.Native.Nat.{ℕ, zero, suc, ◌+◌, ◌-◌, ◌≤◌}
use native.Mathlib.Omega.{arith}
use mathlib.Core.Path.{◌≡◌, refl, sym, ap, ◌∙◌}
use mathlib.Core.Bool.{Bool, true, false}
use mathlib.Core.List.{List, [], ◌∷◌, ◌++◌}
use lib.Dec.{eqb, ltb}
use lib.ListN.{length, take, drop, length-drop}
use lib.Seq.{take-add, drop-drop, drop-length}
use borrow.Author.Tests.{eqb-false, ltb-false}
use Rattle.values.specs.Bytes.{Bytes}
use Rattle.forms.specs.Read.{Read, got, broken}
use Rattle.values.proofs.Packing.{take-bytes, drop-bytes}
use Rattle.rules.specs.declared.profile.Profile.{Profile}
use Rattle.rules.specs.Journal.{Books}
use Rattle.rules.specs.Request.{Request}
use Rattle.rules.specs.Readable.{readable}
use Rattle.rules.specs.Step.{apply_all, note_all, changed, after}
use Rattle.rules.proofs.Backed.{Right, step_right}
use Rattle.rules.proofs.Tests.{by_cond}
use Rattle.records.specs.declared.frame.Framed.{Framed}
use Rattle.records.specs.declared.frame.Framed.TheVariants.{Whole, Skip, More, Cut, Done}
use Rattle.records.specs.Record.{request_of}
use Rattle.records.specs.Frame.{framed, length_of, least_length, most_length, short}
use Rattle.operations.specs.Told.{outcome_of}
use Rattle.requests.specs.Places.{text_from}
use Rattle.requests.specs.Stream.{in_frame, some_records, records_in, in_bytes, bytes_of, text_of, books_after}

-- ---- a frame moves on, and stays inside where it is whole

abbrev pub Moves : ℕ → Framed → Type 0
Moves l (Whole k) = (4 ≤ k) × (k ≤ l)
Moves l (Skip k) = (2 ≤ k) × (2 ≤ l)
Moves l More = Unit {0}
Moves l Cut = 1 ≤ l
Moves l Done = Unit {0}

module _ (s : List ℕ) (ended : Bool) where
  abbrev In : Framed → Type 0
  In f = Moves (length s) f

  moves-short : 1 ≤ length s → In (short ended)
  moves-short l = by_cond In ended Cut More (λ e. l) (λ e. tt)

  pub moves : In (framed s ended)
  unfolding framed
  moves =
      by_cond In (eqb (length s) 0) _ _ (λ e. by_cond In ended Done More (λ f. tt) (λ f. tt))
      (λ e.
      let some = eqb-false (length s) 0 e in
      by_cond In (eqb (length s) 1) _ _ (λ f. moves-short (omega (arith, some)))
      (λ f.
      let two : 2 ≤ length s = omega (arith, some, eqb-false (length s) 1 f) in
      by_cond In (ltb (length_of s) least_length) _ _ (λ g. (omega arith, two))
      (λ g.
      by_cond In (ltb most_length (length_of s)) _ _ (λ h. (omega arith, two))
      (λ h.
      by_cond In (ltb (length s) (2 + length_of s)) _ _ (λ k. moves-short (omega arith))
      (λ k. (omega (arith, ltb-false (length_of s) least_length g), omega (arith, ltb-false (length s) (2 + length_of s) k)))))))

-- ---- a frame says whether the input has ended, where it holds no record that is whole

abbrev pub Says : Bool → Framed → Type 0
Says ended (Whole k) = Unit {0}
Says ended (Skip k) = Unit {0}
Says ended More = ended ≡ false
Says ended Cut = ended ≡ true
Says ended Done = ended ≡ true

pub says : (s : List ℕ) (ended : Bool) → Says ended (framed s ended)
unfolding framed
says s ended =
    let cut : Says ended (short ended) = by_cond (Says ended) ended Cut More (λ e. e) (λ e. e) in
    by_cond (Says ended) (eqb (length s) 0) _ _ (λ e. by_cond (Says ended) ended Done More (λ f. f) (λ f. f))
    (λ e.
    by_cond (Says ended) (eqb (length s) 1) _ _ (λ f. cut)
    (λ f.
    by_cond (Says ended) (ltb (length_of s) least_length) _ _ (λ g. tt)
    (λ g.
    by_cond (Says ended) (ltb most_length (length_of s)) _ _ (λ h. tt)
    (λ h. by_cond (Says ended) (ltb (length s) (2 + length_of s)) _ _ (λ k. cut) (λ k. tt)))))

-- ---- how many bytes one record more takes

pub bytes_one : (s : List ℕ) (ended : Bool) (f : Framed) → f ≡ framed s ended → bytes_of 1 s ended ≡ in_bytes s f (λ k. 0)
unfolding bytes_of
bytes_one s ended f e = ap (λ (x : Framed). in_bytes s x (λ k. 0)) (sym e)

bytes-none : (ended : Bool) → bytes_of 1 [] ended ≡ 0
unfolding bytes_of framed
bytes-none true = refl
bytes-none false = refl

abbrev OneMore : ℕ → List ℕ → Bool → Type 0
OneMore n s ended = bytes_of (suc n) s ended ≡ bytes_of n s ended + bytes_of 1 (drop (bytes_of n s ended) s) ended

-- of a first record of k bytes
bytes-behind : (k m : ℕ) (s : List ℕ) (ended : Bool) → OneMore m (drop k s) ended
    → k + bytes_of (suc m) (drop k s) ended ≡ k + bytes_of m (drop k s) ended + bytes_of 1 (drop (k + bytes_of m (drop k s) ended) s) ended
bytes-behind k m s ended ih =
    let b : ℕ = bytes_of m (drop k s) ended in
    let d : bytes_of 1 (drop b (drop k s)) ended ≡ bytes_of 1 (drop (k + b) s) ended = ap (λ (t : List ℕ). bytes_of 1 t ended) (drop-drop b k s) in
    omega (arith, ih, d)

bytes-step : (m : ℕ) (s : List ℕ) (ended : Bool) (f : Framed) → bytes_of 1 s ended ≡ in_bytes s f (λ k. 0) → ((k : ℕ) → OneMore m (drop k s) ended)
    → in_bytes s f (λ k. bytes_of (suc m) (drop k s) ended)
    ≡ in_bytes s f (λ k. bytes_of m (drop k s) ended) + bytes_of 1 (drop (in_bytes s f (λ k. bytes_of m (drop k s) ended)) s) ended
bytes-step m s ended (Whole k) own ih = bytes-behind k m s ended (ih k)
bytes-step m s ended (Skip k) own ih = bytes-behind k m s ended (ih k)
bytes-step m s ended More own ih = omega (arith, own)
bytes-step m s ended Cut own ih = omega (arith, ap (λ (t : List ℕ). bytes_of 1 t ended) (drop-length s) ∙ bytes-none ended)
bytes-step m s ended Done own ih = omega (arith, own)

pub bytes-more : (n : ℕ) (s : List ℕ) (ended : Bool) → OneMore n s ended
unfolding bytes_of
bytes-more zero s ended = omega arith
bytes-more (suc n) s ended = bytes-step n s ended (framed s ended) (bytes_one s ended (framed s ended) refl) (λ k. bytes-more n (drop k s) ended)

-- ---- as many records as there are bytes are enough

module _ (p : Profile) where
  agree : (s : List ℕ) (f : Framed) → Moves (length s) f → (g h : ℕ → List (Read Request)) → ((k : ℕ) → 2 ≤ k → g k ≡ h k) → in_frame p s f g ≡ in_frame p s f h
  agree s (Whole k) m g h e = ap (λ (r : List (Read Request)). request_of (take (k - 2) (drop 2 s)) p ∷ r) (e k (omega (arith, m.0)))
  agree s (Skip k) m g h e = ap (λ (r : List (Read Request)). broken 0 ∷ r) (e k m.0)
  agree s More m g h e = refl
  agree s Cut m g h e = refl
  agree s Done m g h e = refl

  none_in : (ended : Bool) (g : ℕ → List (Read Request)) → in_frame p [] (framed [] ended) g ≡ []
  unfolding framed
  none_in true g = refl
  none_in false g = refl

  enough : (n m : ℕ) (s : List ℕ) (ended : Bool) → length s ≤ n → length s ≤ m → some_records p n s ended ≡ some_records p m s ended
  unfolding some_records
  enough zero zero s ended h k = refl
  enough zero (suc m) [] ended h k = sym (none_in ended (λ j. some_records p m (drop j []) ended))
  enough zero (suc m) (x ∷ s) ended h k = absurd (omega arith)
  enough (suc n) zero [] ended h k = none_in ended (λ j. some_records p n (drop j []) ended)
  enough (suc n) zero (x ∷ s) ended h k = absurd (omega arith)
  enough (suc n) (suc m) s ended h k =
      agree s (framed s ended) (moves s ended) (λ j. some_records p n (drop j s) ended) (λ j. some_records p m (drop j s) ended)
      (λ j l. enough n m (drop j s) ended (rw (length-drop j s) (omega arith)) (rw (length-drop j s) (omega arith)))

  unrolled : (s : List ℕ) (ended : Bool) → records_in p s ended ≡ in_frame p s (framed s ended) (λ k. records_in p (drop k s) ended)
  unfolding records_in some_records
  unrolled [] ended = sym (none_in ended (λ k. some_records p (length (drop k [])) (drop k []) ended))
  unrolled (x ∷ s) ended =
      agree (x ∷ s) (framed (x ∷ s) ended) (moves (x ∷ s) ended) (λ k. some_records p (length s) (drop k (x ∷ s)) ended)
      (λ k. some_records p (length (drop k (x ∷ s))) (drop k (x ∷ s)) ended)
      (λ k l. enough (length s) (length (drop k (x ∷ s))) (drop k (x ∷ s)) ended (rw (length-drop k (x ∷ s)) (omega arith)) (omega arith))

  pub records-by : (s : List ℕ) (ended : Bool) (f : Framed) → f ≡ framed s ended → records_in p s ended ≡ in_frame p s f (λ k. records_in p (drop k s) ended)
  records-by s ended f e = unrolled s ended ∙ ap (λ (x : Framed). in_frame p s x (λ k. records_in p (drop k s) ended)) (sym e)

  pub none_left : (ended : Bool) → records_in p [] ended ≡ []
  unfolding records_in some_records
  none_left ended = refl

-- ---- one record more

pub some_left : {q : Read Request} {qs : List (Read Request)} → q ∷ qs ≡ [] → ⊥
some_left {q} {qs} e = let z : suc (length qs) ≡ 0 = ap length e in absurd (omega arith)

module _ {A : Type 0} (n : ℕ) (xs rest : List A) (x : A) (e : drop n xs ≡ x ∷ rest) where
  pub take_more : take (n + 1) xs ≡ take n xs ++ (x ∷ [])
  take_more = take-add n 1 xs ∙ ap (λ (l : List A). take n xs ++ take 1 l) e

  pub drop_more : drop (n + 1) xs ≡ rest
  drop_more = sym (drop-drop 1 n xs) ∙ ap (drop 1) e

pub books-more : (p : Profile) (R : ℕ) (b : Books) (qs : List (Read Request)) (q : Read Request)
    → books_after p R b (qs ++ (q ∷ [])) ≡ changed (outcome_of p R (books_after p R b qs) q).changes (books_after p R b qs)
unfolding books_after
books-more p R b [] q = refl
books-more p R b (x ∷ qs) q = books-more p R (changed (outcome_of p R b x).changes b) qs q

pub text-more : (p : Profile) (R : ℕ) (b : Books) (q : Read Request) (qs : List (Read Request)) (i : ℕ)
    → text_of p R b (q ∷ qs) i ≡ text_from (outcome_of p R b q) i ++ text_of p R (changed (outcome_of p R b q).changes b) qs 0
unfolding text_of
text-more p R b q qs i = refl

-- a record that is broken or says a readable request keeps right books right
pub kept-right : (p : Profile) (R : ℕ) (b : Books) (r : Read Request) → ((q : Request) (end : ℕ) → r ≡ got q end → readable p q ≡ true) → Right p R b
    → Right p R (changed (outcome_of p R b r).changes b)
unfolding outcome_of apply_all note_all after
kept-right p R b (got q end) f v = step_right p R b q (f q end refl) v
kept-right p R b (broken x) f v = v

-- a broken one says no request
pub never-got : (p : Profile) (x : Request) (end : ℕ) → ◌≡◌ {A = Read Request} (broken 0) (got x end) → readable p x ≡ true
never-got p x end e = let z : ◌≡◌ {A = ℕ} 0 1 = cc in absurd (omega arith)

-- ---- the bytes of a part

pub part_bytes : (k n : ℕ) (s : List ℕ) → Bytes s → Bytes (take k (drop n s))
part_bytes k n s h = take-bytes k (drop n s) (drop-bytes n s h)
