-- Where there is no slash the name begins at the path's start, where a character begins. No byte is a slash where no character is one.
use Rattle.std.proofs.Common.{ℕ, List, ◌≡◌, ◌+◌, ◌-◌, ◌<◌, ◌==◌, ◌∙◌, length, drop, get_or, arith, eq-eqb, sym, subst}
use Rattle.std.specs.Str.{NoCharPasses}
use Rattle.std.proofs.lemmas.Bool.{true≢false}
use Rattle.std.proofs.lemmas.List.{get_or-drop, length-drop}
use Rattle.std.proofs.lemmas.Str.{IsCharBoundary-start, NoCharPasses-byte}
use Rattle.files.proofs.path.name_at.Goals as goal

no_slash : (bs : List ℕ) → NoCharPasses (λ d. d == 47) bs → (i : ℕ) → i < length bs → get_or bs i 0 ≡ 47 → ⊥
no_slash bs none i lt is =
    let ascii : get_or bs i 0 < 128 = subst (λ z. z < 128) (sym is) (omega arith) in
    true≢false (sym (eq-eqb (get_or bs i 0) 47 is) ∙ NoCharPasses-byte (λ d. d == 47) bs i none lt ascii)

pub returns-in-None-clause-boundary : goal.returns-in-None-clause-boundary
returns-in-None-clause-boundary c = IsCharBoundary-start _ c.utf8.path

pub returns-in-Some-clause-last : goal.returns-in-Some-clause-last
returns-in-Some-clause-last c i le lt is =
    let s = c.args.path.now in
    let j = c.in-Some.ensures.cases.0 in
    let found = c.in-Some.ensures.cases.1 in
    let ends : j ≡ c.in-Some.at + 1 = found.1.ends in
    let at : j + (i - j) ≡ i = omega arith in
    let inside : i - j < length (drop j s) = subst (λ n. i - j < n) (sym (length-drop j s)) (omega arith) in
    no_slash (drop j s) found.0 (i - j) inside (get_or-drop j s (i - j) 0 ∙ subst (λ n. get_or s n 0 ≡ 47) (sym at) is)

pub returns-in-None-clause-last : goal.returns-in-None-clause-last
returns-in-None-clause-last c i le lt is = no_slash _ c.in-None.ensures.cases i lt is
