-- An input cut behind its first records: they stay what they were, whatever follows the cut. Assumes nothing.
use Rattle.std.proofs.Common.{◌≡◌, ℕ, zero, suc, ◌+◌, ◌-◌, ◌<◌, ◌≤◌, Bool, true, false, ltb, List, [], ◌∷◌, ◌++◌, length, take, drop, sym, refl, ap, ◌∙◌, subst, true≢false, append_assoc, arith, length-append, length-drop, take-append-drop, length-take-le, take-add, drop_at, le-ltb}
use Rattle.forms.specs.Read.{Read, broken}
use Rattle.rules.specs.declared.profile.Profile.{Profile}
use Rattle.rules.specs.Request.{Request}
use Rattle.records.specs.declared.frame.Framed.{Framed}
use Rattle.records.specs.declared.frame.Framed.TheVariants.{Whole, Skip, More, Cut, Done}
use Rattle.records.specs.Record.{request_of}
use Rattle.records.specs.Frame.{framed, length_of, least_length, most_length}
use Rattle.requests.specs.Stream.{records_in, bytes_of}
use Rattle.requests.proofs.Running.{Moves, moves, records-by}
use Rattle.serve.proofs.Pieces.{tested, framed-two, bytes-first, bytes-zero, few-behind, none-few, same-record}

-- ---- a frame looks at the two length bytes, and whether the record's bytes are there

-- g is the frame of l bytes, the other one that of bytes that begin as they do
abbrev Alike : ℕ → Framed → Framed → Type 0
Alike l g (Whole k) = k ≤ l → Whole k ≡ g
Alike l g (Skip k) = Skip k ≡ g
Alike l g More = Unit {0}
Alike l g Cut = Unit {0}
Alike l g Done = Unit {0}

alike-tested : (low high less less' ended : Bool) (k l : ℕ) → (k ≤ l → less' ≡ false)
    → Alike l (tested low high less' k ended) (tested low high less k true)
alike-tested true high less less' ended k l h = refl
alike-tested false true less less' ended k l h = refl
alike-tested false false true less' ended k l h = tt
alike-tested false false false true ended k l h = λ m. absurd (true≢false (h m))
alike-tested false false false false ended k l h = λ m. refl

alike-frame : (x y : ℕ) (u v : List ℕ) (ended : Bool) → Alike (length (x ∷ y ∷ v)) (framed (x ∷ y ∷ v) ended) (framed (x ∷ y ∷ u) true)
alike-frame x y u v ended =
    let s : List ℕ = x ∷ y ∷ u in
    let t : List ℕ = x ∷ y ∷ v in
    let k : ℕ = length_of s in
    subst (λ (g : Framed). Alike (length t) g (framed s true)) (framed-two t ended (omega arith))
    (subst (Alike (length t) (tested (ltb k least_length) (ltb most_length k) (ltb (length t) (2 + k)) (2 + k) ended))
    (framed-two s true (omega arith))
    (alike-tested (ltb k least_length) (ltb most_length k) (ltb (length s) (2 + k)) (ltb (length t) (2 + k)) ended (2 + k) (length t)
    (le-ltb (length t) (2 + k))))

-- what follows the cut may have ended or not
module _ (more : List ℕ) (ended : Bool) where
  alike-cut : (b : ℕ) (a : List ℕ) → 2 ≤ b → 2 ≤ length a
      → Alike (length (take b a ++ more)) (framed (take b a ++ more) ended) (framed a true)
  alike-cut b [] l m = absurd (omega arith)
  alike-cut b (x ∷ []) l m = absurd (omega arith)
  alike-cut zero (x ∷ y ∷ a) l m = absurd (omega arith)
  alike-cut (suc zero) (x ∷ y ∷ a) l m = absurd (omega arith)
  alike-cut (suc (suc b)) (x ∷ y ∷ a) l m = alike-frame x y a (take b a ++ more) ended

  -- ---- cut behind n records that end before the input does

  module _ (p : Profile) where
    -- the input up to there, and what follows
    abbrev cut_at : ℕ → List ℕ → List ℕ
    cut_at n a = take (bytes_of n a true) a ++ more

    abbrev IsCut : ℕ → List ℕ → Type 0
    IsCut n a =
        (records_in p (cut_at n a) ended ≡ take n (records_in p a true) ++ records_in p more ended) ×
        (bytes_of n (cut_at n a) ended ≡ bytes_of n a true)

    -- behind a first record q of k bytes
    module _ (n k : ℕ) (a : List ℕ) (q : Read Request) (inside : k ≤ length a)
        (bytes : bytes_of (suc n) a true ≡ k + bytes_of n (drop k a) true) where
      apart : cut_at (suc n) a ≡ take k a ++ cut_at n (drop k a)
      apart =
          ap (λ (j : ℕ). take j a ++ more) bytes
          ∙ ap (λ (l : List ℕ). l ++ more) (take-add k (bytes_of n (drop k a) true) a)
          ∙ append_assoc (take k a) (take (bytes_of n (drop k a) true) (drop k a)) more

      behind : drop k (cut_at (suc n) a) ≡ cut_at n (drop k a)
      behind = ap (drop k) apart ∙ drop_at (take k a) (cut_at n (drop k a)) k (length-take-le k a inside)

      -- a record that was whole is what it was
      same_bytes : 4 ≤ k → take (k - 2) (drop 2 (cut_at (suc n) a)) ≡ take (k - 2) (drop 2 a)
      same_bytes l =
          let m : k ≤ length (take k a) = omega (arith, length-take-le k a inside) in
          ap (λ (s : List ℕ). take (k - 2) (drop 2 s)) apart
          ∙ same-record p (take k a) (cut_at n (drop k a)) k l m
          ∙ sym (ap (λ (s : List ℕ). take (k - 2) (drop 2 s)) (sym (take-append-drop k a)) ∙ same-record p (take k a) (drop k a) k l m)

      first-cut : records_in p a true ≡ q ∷ records_in p (drop k a) true
          → records_in p (cut_at (suc n) a) ended ≡ q ∷ records_in p (drop k (cut_at (suc n) a)) ended
          → bytes_of (suc n) (cut_at (suc n) a) ended ≡ k + bytes_of n (drop k (cut_at (suc n) a)) ended
          → IsCut n (drop k a)
          → IsCut (suc n) a
      first-cut r e b h = (
        e
            ∙ ap (λ (s : List ℕ). q ∷ records_in p s ended) behind
            ∙ ap (λ (ws : List (Read Request)). q ∷ ws) h.0
            ∙ ap (λ (ws : List (Read Request)). take (suc n) ws ++ records_in p more ended) (sym r),
        b ∙ ap (λ (s : List ℕ). k + bytes_of n s ended) behind ∙ ap (λ (j : ℕ). k + j) h.1 ∙ sym bytes,
      )

    cut_by : (n : ℕ) (a : List ℕ) (f : Framed) → f ≡ framed a true → Moves (length a) f → suc n ≤ length (records_in p a true)
        → bytes_of (suc n) a true < length a
        → ((k : ℕ) → n ≤ length (records_in p (drop k a) true) → bytes_of n (drop k a) true < length (drop k a) → IsCut n (drop k a))
        → IsCut (suc n) a
    cut_by n a (Whole k) e m few l ih =
        let b = bytes-first a true (Whole k) e n in
        let q : Read Request = request_of (take (k - 2) (drop 2 a)) p in
        let r : records_in p a true ≡ q ∷ records_in p (drop k a) true = records-by p a true (Whole k) e in
        let long : length (take (bytes_of (suc n) a true) a) ≡ bytes_of (suc n) a true =
        length-take-le (bytes_of (suc n) a true) a (omega (arith, l))
        in
        let g : Whole k ≡ framed (cut_at (suc n) a) ended =
        subst (Alike (length (cut_at (suc n) a)) (framed (cut_at (suc n) a) ended)) (sym e)
        (alike-cut (bytes_of (suc n) a true) a (omega (arith, b, m.0)) (omega (arith, m.0, m.1)))
        (omega (arith, length-append (take (bytes_of (suc n) a true) a) more, long, b))
        in
        first-cut n k a q m.1 b r
        (records-by p (cut_at (suc n) a) ended (Whole k) g
        ∙ ap (λ (s : List ℕ). request_of s p ∷ records_in p (drop k (cut_at (suc n) a)) ended) (same_bytes n k a q m.1 b m.0))
        (bytes-first (cut_at (suc n) a) ended (Whole k) g n)
        (ih k (few-behind n q (records_in p a true) (records_in p (drop k a) true) r few) (omega (arith, l, b, length-drop k a)))
    cut_by n a (Skip k) e m few l ih =
        let b = bytes-first a true (Skip k) e n in
        let r : records_in p a true ≡ broken 0 ∷ records_in p (drop k a) true = records-by p a true (Skip k) e in
        let g : Skip k ≡ framed (cut_at (suc n) a) ended =
        subst (Alike (length (cut_at (suc n) a)) (framed (cut_at (suc n) a) ended)) (sym e)
        (alike-cut (bytes_of (suc n) a true) a (omega (arith, b, m.0)) m.1)
        in
        first-cut n k a (broken 0) (omega (arith, l, b)) b r (records-by p (cut_at (suc n) a) ended (Skip k) g)
        (bytes-first (cut_at (suc n) a) ended (Skip k) g n)
        (ih k (few-behind n (broken 0) (records_in p a true) (records_in p (drop k a) true) r few) (omega (arith, l, b, length-drop k a)))
    cut_by n a More e m few l ih = absurd (none-few n (records_in p a true) (records-by p a true More e) few)
    cut_by n a Cut e m few l ih = absurd (let b = bytes-first a true Cut e n in omega (arith, l, b))
    cut_by n a Done e m few l ih = absurd (none-few n (records_in p a true) (records-by p a true Done e) few)

    pub cut : (n : ℕ) (a : List ℕ) → n ≤ length (records_in p a true) → bytes_of n a true < length a → IsCut n a
    cut zero a few l =
        let z : cut_at 0 a ≡ more = ap (λ (j : ℕ). take j a ++ more) (bytes-zero a true) in
        (ap (λ (s : List ℕ). records_in p s ended) z, bytes-zero (cut_at 0 a) ended ∙ sym (bytes-zero a true))
    cut (suc n) a few l = cut_by n a (framed a true) refl (moves a true) few l (λ k. cut n (drop k a))
