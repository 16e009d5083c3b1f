-- A replay of what a run has read leaves the store and journal that the run left: a torn record at the end changes nothing. Assumes nothing.
use Rattle.std.proofs.Common.{◌≡◌, ℕ, suc, ◌+◌, Bool, true, false, ltb, List, [], ◌∷◌, ◌++◌, length, take, drop, sym, refl, ap, ◌∙◌, subst, append-nil, arith, take-append-drop}
use Rattle.forms.specs.Read.{Read, broken}
use Rattle.rules.specs.declared.profile.Profile.{Profile}
use Rattle.rules.specs.Journal.{Books}
use Rattle.rules.specs.Request.{Request}
use Rattle.rules.specs.Step.{apply_all, note_all}
use Rattle.records.specs.declared.frame.Framed.{Framed}
use Rattle.records.specs.declared.frame.Framed.TheVariants.{Whole, Skip, More, Cut, Done}
use Rattle.records.specs.Frame.{framed, length_of, least_length, most_length}
use Rattle.operations.specs.Told.{outcome_of}
use Rattle.requests.specs.Stream.{records_in, books_after}
use Rattle.requests.proofs.Running.{records-by}
use Rattle.serve.specs.Buffers.{Buffers, books_in, bytes_for}
use Rattle.serve.specs.Course.{Standing, start, ahead, left, Came}
use Rattle.serve.proofs.Pieces.{tested, framed-two}
use Rattle.serve.proofs.Texts.{books-then}
use Rattle.serve.proofs.Coming.{booked-is, all-bytes}
use Rattle.serve.proofs.Answered.{none_ahead}

-- ---- where no whole record is at hand, what is at hand changes nothing: at the end of the input it is cut off, or nothing is there

abbrev Over : Framed → Type 0
Over (Whole k) = ⊥
Over (Skip k) = ⊥
Over More = ⊥
Over Cut = Unit {0}
Over Done = Unit {0}

-- g is the frame at the end of the input, the other one that of the same bytes where more may follow
abbrev Ends : Framed → Framed → Type 0
Ends g (Whole k) = Unit {0}
Ends g (Skip k) = Unit {0}
Ends g More = Over g
Ends g Cut = ⊥
Ends g Done = ⊥

ends-tested : (low high less : Bool) (k : ℕ) → Ends (tested low high less k true) (tested low high less k false)
ends-tested true high less k = tt
ends-tested false true less k = tt
ends-tested false false true k = tt
ends-tested false false false k = tt

ends-frame : (s : List ℕ) → Ends (framed s true) (framed s false)
unfolding framed
ends-frame [] = tt
ends-frame (x ∷ []) = tt
ends-frame (x ∷ y ∷ a) =
    let s : List ℕ = x ∷ y ∷ a in
    let k : ℕ = length_of s in
    subst (λ (g : Framed). Ends g (framed s false)) (framed-two s true (omega arith))
    (subst (Ends (tested (ltb k least_length) (ltb most_length k) (ltb (length s) (2 + k)) (2 + k) true)) (framed-two s false (omega arith))
    (ends-tested (ltb k least_length) (ltb most_length k) (ltb (length s) (2 + k)) (2 + k)))

some-whole : (q : Read Request) (ws : List (Read Request)) → q ∷ ws ≡ [] → ⊥
some-whole q ws e = let z : ◌≡◌ {A = ℕ} (suc (length ws)) 0 = ap length e in absurd (omega arith)

module _ (p : Profile) (R : ℕ) where
  no_change : (bs : Books) (x : ℕ) → books_after p R bs (broken x ∷ []) ≡ bs
  unfolding books_after outcome_of apply_all note_all
  no_change bs x = refl

  no-books : (bs : Books) → books_after p R bs [] ≡ bs
  unfolding books_after
  no-books bs = refl

  over_by : (s : List ℕ) (g : Framed) → g ≡ framed s true → Over g → (bs : Books) → books_after p R bs (records_in p s true) ≡ bs
  over_by s (Whole k) e h bs = absurd h
  over_by s (Skip k) e h bs = absurd h
  over_by s More e h bs = absurd h
  over_by s Cut e h bs = ap (books_after p R bs) (records-by p s true Cut e) ∙ no_change bs 0
  over_by s Done e h bs = ap (books_after p R bs) (records-by p s true Done e) ∙ no-books bs

  torn-by : (s : List ℕ) (f : Framed) → f ≡ framed s false → Ends (framed s true) f → records_in p s false ≡ []
      → (bs : Books) → books_after p R bs (records_in p s true) ≡ bs
  torn-by s (Whole k) e h n bs = absurd (some-whole _ _ (sym (records-by p s false (Whole k) e) ∙ n))
  torn-by s (Skip k) e h n bs = absurd (some-whole _ _ (sym (records-by p s false (Skip k) e) ∙ n))
  torn-by s More e h n bs = over_by s (framed s true) refl h bs
  torn-by s Cut e h n bs = absurd h
  torn-by s Done e h n bs = absurd h

  torn-changes-nothing : (s : List ℕ) → records_in p s false ≡ [] → (bs : Books) → books_after p R bs (records_in p s true) ≡ bs
  torn-changes-nothing s = torn-by s (framed s false) refl (ends-frame s)

  -- a replay of what a run has read to its end leaves the store and journal that the run left
  module _ (s : Buffers) (log : List ℕ) (y : Standing) (v : List ℕ) (c : Came p R false (start s) log y v) (passing : (y.skip ≡ 0 → ⊥) → y.hand ≡ [])
      (none : records_in p y.hand false ≡ []) where
    left-torn : (bs : Books) → books_after p R bs (left p y []) ≡ bs
    left-torn = torn-changes-nothing (ahead y []) (none_ahead p R s log y v c passing none)

    pub replayed : (z : Standing) (w : List ℕ) → Came p R true (start s) log z w → left p z [] ≡ [] → y.buffers ≡ z.buffers
    replayed z w d all =
        let ws : List (Read Request) = records_in p (log ++ []) true in
        let never : false ≡ true → ◌≡◌ {A = List ℕ} [] [] = λ e. refl in
        let e : books_after p R (books_in p R s) (records_in p log true) ≡ books_in p R y.buffers =
        ap (λ (l : List ℕ). books_after p R (books_in p R s) (records_in p l true)) (sym (append-nil log))
        ∙ ap (books_after p R (books_in p R s)) (sym (take-append-drop c.count ws))
        ∙ books-then p R (books_in p R s) (take c.count ws) (drop c.count ws)
        ∙ ap (λ (bs : Books). books_after p R bs (drop c.count ws)) (sym (c.books [] never))
        ∙ ap (books_after p R (books_in p R y.buffers)) (sym (c.others [] never))
        ∙ left-torn (books_in p R y.buffers)
        in
        booked-is c.booked ∙ ap (bytes_for p R) (sym e) ∙ sym (all-bytes p R (start s) z log w d all)
