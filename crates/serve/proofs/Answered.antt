-- Each record that a run has carried out is carried out by a replay of what the run had read, and of more. Assumes nothing.
use Rattle.std.proofs.Common.{◌≡◌, ℕ, ◌-◌, ◌≤◌, Bool, true, false, eqb, List, [], ◌++◌, length, drop, sym, refl, ap, ◌∙◌, append-nil, arith, length-drop, eqb-true}
use lib.Seq.{drop-nil}
use borrow.Author.Tests.{eqb-false}
use Rattle.rules.specs.declared.profile.Profile.{Profile}
use Rattle.requests.specs.Stream.{records_in, bytes_of}
use Rattle.serve.specs.Buffers.{Buffers}
use Rattle.serve.specs.Course.{Standing, start, ahead, Came}
use Rattle.serve.proofs.Pieces.{no-records, same_bytes, more-records, records-behind}

module _ (p : Profile) (R : ℕ) (s : Buffers) where
  -- a replay that left no whole record at hand carried out all that its log holds
  module _ (log : List ℕ) (y : Standing) (v : List ℕ) (c : Came p R false (start s) log y v) (passing : (y.skip ≡ 0 → ⊥) → y.hand ≡ [])
      (none : records_in p y.hand false ≡ []) where
    pub none_ahead : records_in p (ahead y []) false ≡ []
    none_ahead = go (eqb y.skip 0) refl
      where
        go : (b : Bool) → eqb y.skip 0 ≡ b → records_in p (ahead y []) false ≡ []
        go true e =
            ap (λ (l : List ℕ). records_in p (drop y.skip l) false) (append-nil y.hand)
            ∙ ap (λ (k : ℕ). records_in p (drop k y.hand) false) (eqb-true y.skip 0 e)
            ∙ none
        go false e =
            ap (λ (l : List ℕ). records_in p (drop y.skip (l ++ [])) false) (passing (eqb-false y.skip 0 e))
            ∙ ap (λ (l : List ℕ). records_in p l false) (drop-nil y.skip)
            ∙ no-records p false

    pub all-carried : length (records_in p log false) ≤ c.count
    all-carried =
        let place : ahead y [] ≡ drop (bytes_of c.count log false) log =
        c.place [] (λ e. refl)
        ∙ ap (λ (j : ℕ). drop j (log ++ [])) (same_bytes p [] true c.count log c.held)
        ∙ ap (drop (bytes_of c.count log false)) (append-nil log)
        in
        let none-behind : drop c.count (records_in p log false) ≡ [] =
        sym (ap (λ (l : List ℕ). records_in p l false) place ∙ records-behind p false c.count log) ∙ none_ahead
        in
        let l : length (records_in p log false) - c.count ≡ 0 =
        sym (length-drop c.count (records_in p log false)) ∙ ap length none-behind
        in
        omega (arith, l)

  pub answered-again : (read rest : List ℕ) (z : Standing) (w : List ℕ) (d : Came p R false (start s) read z w)
      (y : Standing) (v : List ℕ) (c : Came p R false (start s) (read ++ rest) y v) → ((y.skip ≡ 0 → ⊥) → y.hand ≡ [])
      → records_in p y.hand false ≡ []
      → d.count ≤ c.count
  answered-again read rest z w d y v c passing none =
      omega (arith, more-records p rest false d.count 0 read d.held, all-carried (read ++ rest) y v c passing none)
