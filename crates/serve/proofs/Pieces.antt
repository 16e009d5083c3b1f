-- The records of an input that comes in pieces: the first ones of a piece are the first ones of the whole. Assumes nothing.
use Rattle.std.proofs.Common.{◌≡◌, ℕ, zero, suc, ◌+◌, ◌-◌, ◌<◌, ◌≤◌, min, Bool, true, false, cond, ltb, leb, List, [], ◌∷◌, ◌++◌, length, take, drop, sym, refl, ap, ◌∙◌, subst, true≢false, arith, length-append, length-drop, drop_of_length-le, length-take-le, take_all, drop-drop, ltb-false, le-ltb, ne_eqb, leb-false, leb-true}
use lib.Seq.{take-append-le, drop-append-le, drop-append-add, drop-length, drop-nil}
use Rattle.forms.specs.Read.{Read, broken}
use Rattle.rules.specs.declared.profile.Profile.{Profile}
use Rattle.rules.specs.Request.{Request}
use Rattle.records.specs.declared.frame.Framed.{Framed}
use Rattle.records.specs.declared.frame.Framed.TheVariants.{Whole, Skip, More, Cut, Done}
use Rattle.records.specs.Record.{request_of}
use Rattle.records.specs.Frame.{framed, length_of, least_length, most_length, short}
use Rattle.requests.specs.Stream.{some_records, records_in, in_bytes, bytes_of}
use Rattle.requests.proofs.Running.{Moves, moves, records-by}

-- ---- a frame of the first piece that holds a record is the frame of the whole

-- g is the frame of the whole, the other one that of the first piece
abbrev Same : Framed → Framed → Type 0
Same g (Whole k) = Whole k ≡ g
Same g (Skip k) = Skip k ≡ g
Same g More = Unit {0}
Same g Cut = ⊥
Same g Done = ⊥

abbrev pub tested : Bool → Bool → Bool → ℕ → Bool → Framed
tested low high less k ended = cond low (Skip k) (cond high (Skip k) (cond less (short ended) (Whole k)))

same-tested : (low high less less' ended : Bool) (k : ℕ) → (less ≡ false → less' ≡ false)
    → Same (tested low high less' k ended) (tested low high less k false)
same-tested true high less less' ended k h = refl
same-tested false true less less' ended k h = refl
same-tested false false true less' ended k h = tt
same-tested false false false true ended k h = absurd (true≢false (h refl))
same-tested false false false false ended k h = refl

pub framed-two : (s : List ℕ) (ended : Bool) → 2 ≤ length s
    → tested (ltb (length_of s) least_length) (ltb most_length (length_of s)) (ltb (length s) (2 + length_of s)) (2 + length_of s) ended ≡ framed s ended
unfolding framed
framed-two s ended h = simp (ne_eqb (length s) 0 (omega arith), ne_eqb (length s) 1 (omega arith))

same-frame : (a more : List ℕ) (ended : Bool) → Same (framed (a ++ more) ended) (framed a false)
unfolding framed
same-frame [] more ended = tt
same-frame (x ∷ []) more ended = tt
same-frame (x ∷ y ∷ a) more ended =
    let s : List ℕ = x ∷ y ∷ a in
    let k : ℕ = length_of s in
    subst (λ (g : Framed). Same g (framed s false)) (framed-two (s ++ more) ended (omega arith))
    (subst (Same (tested (ltb k least_length) (ltb most_length k) (ltb (length (s ++ more)) (2 + k)) (2 + k) ended))
    (framed-two s false (omega arith))
    (same-tested (ltb k least_length) (ltb most_length k) (ltb (length s) (2 + k)) (ltb (length (s ++ more)) (2 + k)) ended (2 + k)
    (λ e. le-ltb (length (s ++ more)) (2 + k) (omega (arith, ltb-false (length s) (2 + k) e, length-append s more)))))

-- ---- so the first n records of a piece are the first n of the whole, and the others stand behind the bytes that they took

pub bytes-first : (s : List ℕ) (ended : Bool) (f : Framed) → f ≡ framed s ended → (n : ℕ)
    → bytes_of (suc n) s ended ≡ in_bytes s f (λ k. bytes_of n (drop k s) ended)
unfolding bytes_of
bytes-first s ended f e n = ap (λ (x : Framed). in_bytes s x (λ k. bytes_of n (drop k s) ended)) (sym e)

pub bytes-zero : (s : List ℕ) (ended : Bool) → bytes_of 0 s ended ≡ 0
unfolding bytes_of
bytes-zero s ended = refl

-- ---- the bytes of n records and of m behind them

abbrev Added : ℕ → ℕ → List ℕ → Bool → Type 0
Added n m s ended = bytes_of (n + m) s ended ≡ bytes_of n s ended + bytes_of m (drop (bytes_of n s ended) s) ended

bytes-nowhere : (m : ℕ) (ended : Bool) → bytes_of m [] ended ≡ 0
unfolding bytes_of framed
bytes-nowhere zero ended = refl
bytes-nowhere (suc m) true = refl
bytes-nowhere (suc m) false = refl

-- where no record comes first, none takes a byte
bytes-none : (m : ℕ) (s : List ℕ) (ended : Bool) → ((n : ℕ) → bytes_of (suc n) s ended ≡ 0) → bytes_of m s ended ≡ 0
bytes-none zero s ended h = bytes-zero s ended
bytes-none (suc m) s ended h = h m

added-behind : (n m k : ℕ) (s : List ℕ) (ended : Bool) → Added n m (drop k s) ended
    → k + bytes_of (n + m) (drop k s) ended ≡ k + bytes_of n (drop k s) ended + bytes_of m (drop (k + bytes_of n (drop k s) ended) s) ended
added-behind n m k s ended ih =
    let b : ℕ = bytes_of n (drop k s) ended in
    let d : bytes_of m (drop b (drop k s)) ended ≡ bytes_of m (drop (k + b) s) ended =
    ap (λ (t : List ℕ). bytes_of m t ended) (drop-drop b k s)
    in
    omega (arith, ih, d)

added-by : (n m : ℕ) (s : List ℕ) (ended : Bool) (f : Framed)
    → ((j : ℕ) → bytes_of (suc j) s ended ≡ in_bytes s f (λ k. bytes_of j (drop k s) ended))
    → ((k : ℕ) → Added n m (drop k s) ended)
    → in_bytes s f (λ k. bytes_of (n + m) (drop k s) ended)
    ≡ in_bytes s f (λ k. bytes_of n (drop k s) ended) + bytes_of m (drop (in_bytes s f (λ k. bytes_of n (drop k s) ended)) s) ended
added-by n m s ended (Whole k) own ih = added-behind n m k s ended (ih k)
added-by n m s ended (Skip k) own ih = added-behind n m k s ended (ih k)
added-by n m s ended More own ih = omega (arith, bytes-none m s ended own)
added-by n m s ended Cut own ih =
    let z : bytes_of m (drop (length s) s) ended ≡ 0 = ap (λ (t : List ℕ). bytes_of m t ended) (drop-length s) ∙ bytes-nowhere m ended in
    omega (arith, z)
added-by n m s ended Done own ih = omega (arith, bytes-none m s ended own)

pub bytes-add : (n m : ℕ) (s : List ℕ) (ended : Bool) → Added n m s ended
unfolding bytes_of
bytes-add zero m s ended =
    let e : 0 + m ≡ m = omega arith in
    let z : bytes_of m s ended ≡ 0 + bytes_of m s ended = omega arith in
    ap (λ (j : ℕ). bytes_of j s ended) e ∙ z
bytes-add (suc n) m s ended =
    let e : suc n + m ≡ suc (n + m) = omega arith in
    ap (λ (j : ℕ). bytes_of j s ended) e ∙ added-by n m s ended (framed s ended) (λ j. refl) (λ k. bytes-add n m (drop k s) ended)

-- where more than n are there, a first one is, and n behind it
pub few-behind : (n : ℕ) (q : Read Request) (ws vs : List (Read Request)) → ws ≡ q ∷ vs → suc n ≤ length ws → n ≤ length vs
few-behind n q ws vs e l = let z : length ws ≡ suc (length vs) = ap length e in omega arith

pub none-few : (n : ℕ) (ws : List (Read Request)) → ws ≡ [] → suc n ≤ length ws → ⊥
none-few n ws e l = let z : length ws ≡ 0 = ap length e in absurd (omega arith)

module _ (p : Profile) where
  pub no-records : (ended : Bool) → records_in p [] ended ≡ []
  unfolding records_in some_records
  no-records ended = refl

  pub same-record : (a more : List ℕ) (k : ℕ) → 4 ≤ k → k ≤ length a → take (k - 2) (drop 2 (a ++ more)) ≡ take (k - 2) (drop 2 a)
  same-record a more k l m =
      ap (take (k - 2)) (drop-append-le 2 a more (omega (arith, l, m)))
      ∙ take-append-le (k - 2) (drop 2 a) more (omega (arith, l, m, length-drop 2 a))

  module _ (more : List ℕ) (ended : Bool) where
    abbrev Split : ℕ → List ℕ → Type 0
    Split n a = records_in p (a ++ more) ended ≡ take n (records_in p a false) ++ records_in p (drop (bytes_of n a false) (a ++ more)) ended

    split-none : (a : List ℕ) → Split 0 a
    split-none a = ap (λ (k : ℕ). records_in p (drop k (a ++ more)) ended) (sym (bytes-zero a false))

    -- behind a first record of k bytes
    abbrev Behind : ℕ → ℕ → List ℕ → Type 0
    Behind n k a =
        records_in p (drop k (a ++ more)) ended
        ≡ take n (records_in p (drop k a) false) ++ records_in p (drop (k + bytes_of n (drop k a) false) (a ++ more)) ended

    behind-some : (n k : ℕ) (a : List ℕ) → k ≤ length a → Split n (drop k a) → Behind n k a
    behind-some n k a l h =
        let b : ℕ = bytes_of n (drop k a) false in
        let d : drop k (a ++ more) ≡ drop k a ++ more = drop-append-le k a more l in
        ap (λ (s : List ℕ). records_in p s ended) d
        ∙ h
        ∙ ap (λ (s : List ℕ). take n (records_in p (drop k a) false) ++ records_in p s ended)
        (ap (drop b) (sym d) ∙ drop-drop b k (a ++ more))

    -- past the end there is no record
    none-past : (n k : ℕ) (a : List ℕ) → length a ≤ k → n ≤ length (records_in p (drop k a) false) → n ≡ 0
    none-past n k a l few =
        let r : records_in p (drop k a) false ≡ [] =
        ap (λ (s : List ℕ). records_in p s false) (drop_of_length-le a {i = k} l) ∙ no-records false
        in
        let q : length (records_in p (drop k a) false) ≡ 0 = ap length r in
        omega (arith, few)

    behind-none : (n k : ℕ) (a : List ℕ) → length a < k → n ≤ length (records_in p (drop k a) false) → Behind n k a
    behind-none n k a l few =
        let z : n ≡ 0 = none-past n k a (omega arith) few in
        let t : take n (records_in p (drop k a) false) ≡ [] = ap (λ (j : ℕ). take j (records_in p (drop k a) false)) z in
        let b : k + bytes_of n (drop k a) false ≡ k = let y : bytes_of n (drop k a) false ≡ 0 = ap (λ (j : ℕ). bytes_of j (drop k a) false) z ∙ bytes-zero (drop k a) false in omega arith in
        sym (ap (λ (ws : List (Read Request)). ws ++ records_in p (drop (k + bytes_of n (drop k a) false) (a ++ more)) ended) t
        ∙ ap (λ (j : ℕ). records_in p (drop j (a ++ more)) ended) b)

    behind : (n k : ℕ) (a : List ℕ) → n ≤ length (records_in p (drop k a) false) → Split n (drop k a) → Behind n k a
    behind n k a few h = go (leb k (length a)) refl
      where
        go : (b : Bool) → leb k (length a) ≡ b → Behind n k a
        go true e = behind-some n k a (leb-true k (length a) e) h
        go false e = behind-none n k a (leb-false k (length a) e) few

    -- a record q of k bytes comes first, in the piece as in the whole
    first_then : (n k : ℕ) (a : List ℕ) (q : Read Request) → bytes_of (suc n) a false ≡ k + bytes_of n (drop k a) false
        → records_in p a false ≡ q ∷ records_in p (drop k a) false
        → records_in p (a ++ more) ended ≡ q ∷ records_in p (drop k (a ++ more)) ended
        → Behind n k a
        → Split (suc n) a
    first_then n k a q b r e h =
        e
        ∙ ap (λ (ws : List (Read Request)). q ∷ ws) h
        ∙ ap (λ (j : ℕ). q ∷ (take n (records_in p (drop k a) false) ++ records_in p (drop j (a ++ more)) ended)) (sym b)
        ∙ ap (λ (ws : List (Read Request)). take (suc n) ws ++ records_in p (drop (bytes_of (suc n) a false) (a ++ more)) ended) (sym r)

    split_by : (n : ℕ) (a : List ℕ) (f : Framed) → f ≡ framed a false → Same (framed (a ++ more) ended) f → Moves (length a) f
        → suc n ≤ length (records_in p a false)
        → ((k : ℕ) → n ≤ length (records_in p (drop k a) false) → Split n (drop k a))
        → Split (suc n) a
    split_by n a (Whole k) e g m few ih =
        let q : Read Request = request_of (take (k - 2) (drop 2 a)) p in
        let r : records_in p a false ≡ q ∷ records_in p (drop k a) false = records-by p a false (Whole k) e in
        let less = few-behind n q (records_in p a false) (records_in p (drop k a) false) r few in
        first_then n k a q (bytes-first a false (Whole k) e n) r
        (records-by p (a ++ more) ended (Whole k) g
        ∙ ap (λ (s : List ℕ). request_of s p ∷ records_in p (drop k (a ++ more)) ended) (same-record a more k m.0 m.1))
        (behind n k a less (ih k less))
    split_by n a (Skip k) e g m few ih =
        let r : records_in p a false ≡ broken 0 ∷ records_in p (drop k a) false = records-by p a false (Skip k) e in
        let less = few-behind n (broken 0) (records_in p a false) (records_in p (drop k a) false) r few in
        first_then n k a (broken 0) (bytes-first a false (Skip k) e n) r (records-by p (a ++ more) ended (Skip k) g)
        (behind n k a less (ih k less))
    split_by n a More e g m few ih = absurd (none-few n (records_in p a false) (records-by p a false More e) few)
    split_by n a Cut e g m few ih = absurd g
    split_by n a Done e g m few ih = absurd g

    pub split : (n : ℕ) (a : List ℕ) → n ≤ length (records_in p a false) → Split n a
    split zero a few = split-none a
    split (suc n) a few =
        split_by n a (framed a false) refl (same-frame a more ended) (moves a false) few (λ k less. split n (drop k a) less)

    -- ---- and they take as many bytes

    abbrev SameBytes : ℕ → List ℕ → Type 0
    SameBytes n a = bytes_of n (a ++ more) ended ≡ bytes_of n a false

    bytes-behind : (n k : ℕ) (a : List ℕ) → n ≤ length (records_in p (drop k a) false) → SameBytes n (drop k a)
        → bytes_of n (drop k (a ++ more)) ended ≡ bytes_of n (drop k a) false
    bytes-behind n k a few h = go (leb k (length a)) refl
      where
        go : (b : Bool) → leb k (length a) ≡ b → bytes_of n (drop k (a ++ more)) ended ≡ bytes_of n (drop k a) false
        go true e = ap (λ (s : List ℕ). bytes_of n s ended) (drop-append-le k a more (leb-true k (length a) e)) ∙ h
        go false e =
            let l = leb-false k (length a) e in
            let z : n ≡ 0 = none-past n k a (omega arith) few in
            ap (λ (j : ℕ). bytes_of j (drop k (a ++ more)) ended) z
            ∙ bytes-zero (drop k (a ++ more)) ended
            ∙ sym (ap (λ (j : ℕ). bytes_of j (drop k a) false) z ∙ bytes-zero (drop k a) false)

    bytes-by : (n : ℕ) (a : List ℕ) (f : Framed) → f ≡ framed a false → Same (framed (a ++ more) ended) f
        → suc n ≤ length (records_in p a false)
        → ((k : ℕ) → n ≤ length (records_in p (drop k a) false) → SameBytes n (drop k a))
        → SameBytes (suc n) a
    bytes-by n a (Whole k) e g few ih =
        let less = few-behind n _ (records_in p a false) (records_in p (drop k a) false) (records-by p a false (Whole k) e) few in
        bytes-first (a ++ more) ended (Whole k) g n
        ∙ ap (λ (j : ℕ). k + j) (bytes-behind n k a less (ih k less))
        ∙ sym (bytes-first a false (Whole k) e n)
    bytes-by n a (Skip k) e g few ih =
        let less = few-behind n _ (records_in p a false) (records_in p (drop k a) false) (records-by p a false (Skip k) e) few in
        bytes-first (a ++ more) ended (Skip k) g n
        ∙ ap (λ (j : ℕ). k + j) (bytes-behind n k a less (ih k less))
        ∙ sym (bytes-first a false (Skip k) e n)
    bytes-by n a More e g few ih = absurd (none-few n (records_in p a false) (records-by p a false More e) few)
    bytes-by n a Cut e g few ih = absurd g
    bytes-by n a Done e g few ih = absurd g

    pub same_bytes : (n : ℕ) (a : List ℕ) → n ≤ length (records_in p a false) → SameBytes n a
    same_bytes zero a few = bytes-zero (a ++ more) ended ∙ sym (bytes-zero a false)
    same_bytes (suc n) a few = bytes-by n a (framed a false) refl (same-frame a more ended) few (λ k less. same_bytes n (drop k a) less)

    -- so there are no fewer records where more follows
    pub more-records : (n k : ℕ) (a : List ℕ) → n ≤ length (records_in p (drop k a) false)
        → n ≤ length (records_in p (drop k (a ++ more)) ended)
    more-records n k a few = go (leb k (length a)) refl
      where
        go : (b : Bool) → leb k (length a) ≡ b → n ≤ length (records_in p (drop k (a ++ more)) ended)
        go true e =
            let s : List ℕ = drop k a in
            let d : drop k (a ++ more) ≡ s ++ more = drop-append-le k a more (leb-true k (length a) e) in
            let rest : List (Read Request) = records_in p (drop (bytes_of n s false) (s ++ more)) ended in
            let l : length (records_in p (drop k (a ++ more)) ended) ≡ length (take n (records_in p s false)) + length rest =
            ap (λ (x : List ℕ). length (records_in p x ended)) d
            ∙ ap length (split n s few)
            ∙ length-append (take n (records_in p s false)) rest
            in
            omega (arith, l, length-take-le n (records_in p s false) few)
        go false e = let l = leb-false k (length a) e in omega (arith, none-past n k a (omega arith) few)

  -- ---- the records behind the bytes of the first n

  module _ (ended : Bool) where
    abbrev Rest : ℕ → List ℕ → Type 0
    Rest n s = records_in p (drop (bytes_of n s ended) s) ended ≡ drop n (records_in p s ended)

    rest_then : (n k : ℕ) (s : List ℕ) (q : Read Request) → bytes_of (suc n) s ended ≡ k + bytes_of n (drop k s) ended
        → records_in p s ended ≡ q ∷ records_in p (drop k s) ended
        → Rest n (drop k s)
        → Rest (suc n) s
    rest_then n k s q b r ih =
        ap (λ (j : ℕ). records_in p (drop j s) ended) b
        ∙ ap (λ (l : List ℕ). records_in p l ended) (sym (drop-drop (bytes_of n (drop k s) ended) k s))
        ∙ ih
        ∙ ap (drop (suc n)) (sym r)

    rest-none : (n : ℕ) (s : List ℕ) → records_in p s ended ≡ [] → bytes_of (suc n) s ended ≡ 0 → Rest (suc n) s
    rest-none n s r b = ap (λ (j : ℕ). records_in p (drop j s) ended) b ∙ r ∙ ap (drop (suc n)) (sym r)

    rest-by : (n : ℕ) (s : List ℕ) (f : Framed) → f ≡ framed s ended → ((k : ℕ) → Rest n (drop k s)) → Rest (suc n) s
    rest-by n s (Whole k) e ih = rest_then n k s _ (bytes-first s ended (Whole k) e n) (records-by p s ended (Whole k) e) (ih k)
    rest-by n s (Skip k) e ih = rest_then n k s _ (bytes-first s ended (Skip k) e n) (records-by p s ended (Skip k) e) (ih k)
    rest-by n s More e ih = rest-none n s (records-by p s ended More e) (bytes-first s ended More e n)
    rest-by n s Cut e ih =
        ap (λ (j : ℕ). records_in p (drop j s) ended) (bytes-first s ended Cut e n)
        ∙ ap (λ (l : List ℕ). records_in p l ended) (drop-length s)
        ∙ no-records ended
        ∙ sym (ap (drop (suc n)) (records-by p s ended Cut e) ∙ drop-nil n)
    rest-by n s Done e ih = rest-none n s (records-by p s ended Done e) (bytes-first s ended Done e n)

    pub records-behind : (n : ℕ) (s : List ℕ) → Rest n s
    records-behind zero s = ap (λ (j : ℕ). records_in p (drop j s) ended) (bytes-zero s ended)
    records-behind (suc n) s = rest-by n s (framed s ended) refl (λ k. records-behind n (drop k s))

  -- ---- the whole of what is at hand

  module _ (a more : List ℕ) where
    abbrev held : List (Read Request)
    held = records_in p a false

    pub all_held : records_in p (a ++ more) true ≡ held ++ records_in p (drop (bytes_of (length held) a false) (a ++ more)) true
    all_held =
        split more true (length held) a (omega arith)
        ∙ ap (λ (ws : List (Read Request)). ws ++ records_in p (drop (bytes_of (length held) a false) (a ++ more)) true) (take_all (length held) held (omega arith))

-- ---- what is left behind n bytes: those passed over first, then the rest of the piece

pub passed_on : (b : ℕ) (a more : List ℕ) → drop (b - length a) (drop (min b (length a)) a ++ more) ≡ drop b (a ++ more)
passed_on b a more = go (leb b (length a)) refl
  where
    go : (x : Bool) → leb b (length a) ≡ x → drop (b - length a) (drop (min b (length a)) a ++ more) ≡ drop b (a ++ more)
    go true e =
        let l = leb-true b (length a) e in
        let m : min b (length a) ≡ b = omega arith in
        let z : b - length a ≡ 0 = omega arith in
        ap (λ (k : ℕ). drop k (drop (min b (length a)) a ++ more)) z ∙ ap (λ (k : ℕ). drop k a ++ more) m ∙ sym (drop-append-le b a more l)
    go false e =
        let l = leb-false b (length a) e in
        let m : min b (length a) ≡ length a = omega arith in
        let w : length a + (b - length a) ≡ b = omega arith in
        ap (λ (k : ℕ). drop (b - length a) (drop k a ++ more)) m
        ∙ ap (λ (s : List ℕ). drop (b - length a) (s ++ more)) (drop-length a)
        ∙ sym (drop-append-add a more (b - length a))
        ∙ ap (λ (k : ℕ). drop k (a ++ more)) w
