-- The text and the books of records one after the other. Assumes nothing.
use Rattle.std.proofs.Common.{◌≡◌, ℕ, cond, List, [], ◌∷◌, ◌++◌, sym, refl, ap, ◌∙◌, append_assoc, append-nil}
use mathlib.Core.List.{append_cancel_right}
use Rattle.values.specs.Basic.{is_nil}
use Rattle.forms.specs.Read.{Read}
use Rattle.rules.specs.declared.profile.Profile.{Profile}
use Rattle.rules.specs.Journal.{Books}
use Rattle.rules.specs.Request.{Request}
use Rattle.rules.specs.Step.{Outcome, changed}
use Rattle.operations.specs.Told.{outcome_of}
use Rattle.requests.specs.Places.{text_from}
use Rattle.requests.specs.Stream.{text_of, books_after}

module _ (p : Profile) (R : ℕ) where
  pub books-then : (bs : Books) (us vs : List (Read Request)) → books_after p R bs (us ++ vs) ≡ books_after p R (books_after p R bs us) vs
  unfolding books_after
  books-then bs [] vs = refl
  books-then bs (u ∷ us) vs = books-then (changed (outcome_of p R bs u).changes bs) us vs

  -- row lines that are written already are those of the first record
  pub text-then : (bs : Books) (us vs : List (Read Request)) (i : ℕ)
      → text_of p R bs (us ++ vs) i ≡ text_of p R bs us i ++ text_of p R (books_after p R bs us) vs (cond (is_nil us) i 0)
  unfolding text_of books_after
  text-then bs [] vs i = refl
  text-then bs (u ∷ []) vs i = ap (λ (l : List ℕ). l ++ text_of p R (changed (outcome_of p R bs u).changes bs) vs 0) (sym (append-nil (text_from (outcome_of p R bs u) i)))
  text-then bs (u ∷ v ∷ us) vs i =
      let o : Outcome = outcome_of p R bs u in
      let t : Books = changed o.changes bs in
      ap (λ (l : List ℕ). text_from o i ++ l) (text-then t (v ∷ us) vs 0)
      ∙ sym (append_assoc (text_from o i) (text_of p R t (v ∷ us) 0) (text_of p R (books_after p R t (v ∷ us)) vs 0))

  -- what was written of the records us and vs, up to line j of the first of vs, is written whatever follows them
  module _ (bs : Books) (us : List (Read Request)) (i j : ℕ) (w : List ℕ) where
    abbrev mid : Books
    mid = books_after p R bs us

    abbrev head : List ℕ
    head = text_of p R bs us i

    abbrev from : ℕ
    from = cond (is_nil us) i 0

    tail-then : (v : Read Request) (vs more : List (Read Request)) (k : ℕ) → text_of p R mid (v ∷ (vs ++ more)) k
        ≡ text_from (outcome_of p R mid v) k ++ text_of p R (changed (outcome_of p R mid v).changes mid) (vs ++ more) 0
    unfolding text_of
    tail-then v vs more k = refl

    tail-alone : (v : Read Request) (vs : List (Read Request)) (k : ℕ) → text_of p R mid (v ∷ vs) k
        ≡ text_from (outcome_of p R mid v) k ++ text_of p R (changed (outcome_of p R mid v).changes mid) vs 0
    unfolding text_of
    tail-alone v vs k = refl

    none-text : (k : ℕ) → text_of p R mid [] k ≡ []
    unfolding text_of
    none-text k = refl

    pub text-onward : (vs : List (Read Request)) → text_of p R bs (us ++ vs) i ≡ w ++ text_of p R mid vs j → (vs ≡ [] → j ≡ from)
        → (more : List (Read Request)) → text_of p R bs (us ++ (vs ++ more)) i ≡ w ++ text_of p R mid (vs ++ more) j
    text-onward [] e h more =
        let k : head ≡ w =
        sym (append-nil head) ∙ ap (λ (l : List ℕ). head ++ l) (sym (none-text from)) ∙ sym (text-then bs us [] i) ∙ e ∙ ap (λ (l : List ℕ). w ++ l) (none-text j) ∙ append-nil w
        in
        text-then bs us more i ∙ ap (λ (l : List ℕ). l ++ text_of p R mid more from) k ∙ ap (λ (x : ℕ). w ++ text_of p R mid more x) (sym (h refl))
    text-onward (v ∷ vs) e h more =
        let o : Outcome = outcome_of p R mid v in
        let t : Books = changed o.changes mid in
        let rest : List ℕ = text_of p R t vs 0 in
        let all : List ℕ = text_of p R t (vs ++ more) 0 in
        let k : head ++ text_from o from ≡ w ++ text_from o j =
        append_cancel_right (head ++ text_from o from) (w ++ text_from o j) rest
        (append_assoc head (text_from o from) rest
        ∙ ap (λ (l : List ℕ). head ++ l) (sym (tail-alone v vs from))
        ∙ sym (text-then bs us (v ∷ vs) i)
        ∙ e
        ∙ ap (λ (l : List ℕ). w ++ l) (tail-alone v vs j)
        ∙ sym (append_assoc w (text_from o j) rest))
        in
        text-then bs us (v ∷ (vs ++ more)) i
        ∙ ap (λ (l : List ℕ). head ++ l) (tail-then v vs more from)
        ∙ sym (append_assoc head (text_from o from) all)
        ∙ ap (λ (l : List ℕ). l ++ all) k
        ∙ append_assoc w (text_from o j) all
        ∙ ap (λ (l : List ℕ). w ++ l) (sym (tail-then v vs more j))
