-- A log that was replayed and is mended: its torn bytes are cut off, the bytes that are missing appended. Assumes nothing.
use Rattle.std.proofs.Common.{◌≡◌, ℕ, ◌+◌, ◌-◌, ◌<◌, ◌≤◌, Bool, true, false, cond, eqb, List, [], ◌∷◌, ◌++◌, length, take, drop, sym, refl, ap, ◌∙◌, subst, true≢false, append-nil, arith, length-append, length-drop, drop_of_length-le, length-take-le, take_all, take_at, drop_at, eqb-true}
use lib.Seq.{take-append-le, take-append-add}
use borrow.Author.Tests.{eqb-false}
use Rattle.values.specs.Basic.{is_nil}
use Rattle.forms.specs.Read.{Read}
use Rattle.rules.specs.declared.profile.Profile.{Profile}
use Rattle.rules.specs.Journal.{Books}
use Rattle.rules.specs.Request.{Request}
use Rattle.requests.specs.Stream.{records_in, bytes_of, text_of, books_after}
use Rattle.serve.specs.Buffers.{Buffers, books_in}
use Rattle.serve.specs.Course.{Standing, start, Came, mended}
use Rattle.serve.proofs.Pieces.{no-records}
use Rattle.serve.proofs.Cutting.{cut}
use Rattle.serve.proofs.Texts.{text-then}

either_way : (b : Bool) (i : ℕ) → cond b i i ≡ i
either_way true i = refl
either_way false i = refl

-- what was carried out of the log is carried out of the mended log, and nothing of it is left
module _ (p : Profile) (R : ℕ) (s : Buffers) (log : List ℕ) (y : Standing) (v : List ℕ) (c : Came p R false (start s) log y v)
    (fill : List ℕ) (filled : length fill ≡ y.skip) (passing : (y.skip ≡ 0 → ⊥) → y.hand ≡ []) where
  abbrev n : ℕ
  n = c.count

  abbrev kept : List ℕ
  kept = mended log (length y.hand) fill

  -- the log, and a byte behind what is appended
  abbrev longer : List ℕ
  longer = log ++ (fill ++ (0 ∷ []))

  never : false ≡ true → fill ++ (0 ∷ []) ≡ []
  never e = absurd (true≢false (sym e))

  abbrev b : ℕ
  b = bytes_of n longer true

  ends : b + length y.hand ≡ length log + length fill
  ends =
      let l : length (drop y.skip (y.hand ++ (fill ++ (0 ∷ [])))) ≡ length (drop b longer) =
      ap length (c.place (fill ++ (0 ∷ [])) never)
      in
      let m = simp (length-drop, length-append) at l in
      omega (arith, m, filled)

  is-kept : take b longer ≡ kept
  is-kept = go (eqb y.skip 0) refl
    where
      go : (x : Bool) → eqb y.skip 0 ≡ x → take b longer ≡ kept
      go true e =
          let z : length fill ≡ 0 = filled ∙ eqb-true y.skip 0 e in
          let k : b ≡ length log - length y.hand = omega (arith, ends, z) in
          take-append-le b log (fill ++ (0 ∷ [])) (omega (arith, k))
          ∙ ap (λ (j : ℕ). take j log) k
          ∙ sym (ap (λ (l : List ℕ). take (length log - length y.hand) log ++ l)
          (drop_of_length-le fill {i = 0} (omega (arith, z))) ∙ append-nil (take (length log - length y.hand) log))
      go false e =
          let z : length y.hand ≡ 0 = ap length (passing (eqb-false y.skip 0 e)) in
          let k : b ≡ length log + length fill = omega (arith, ends, z) in
          ap (λ (j : ℕ). take j longer) k
          ∙ take-append-add log (fill ++ (0 ∷ [])) (length fill)
          ∙ ap (λ (l : List ℕ). log ++ l) (take_at fill (0 ∷ []) (length fill) refl)
          ∙ sym (ap (λ (l : List ℕ). l ++ fill) (take_all (length log - length y.hand) log (omega (arith, z))))

  inside : b < length longer
  inside = simp length-append (omega (arith, ends))

  long : length kept ≡ b
  long = sym (ap length is-kept) ∙ length-take-le b longer (omega (arith, inside))

  -- its records
  abbrev us : List (Read Request)
  us = take n (records_in p longer true)

  counted : length us ≡ n
  counted = length-take-le n (records_in p longer true) (c.few (fill ++ (0 ∷ [])) never)

  all-is : (more : List ℕ) (ended : Bool) → records_in p (kept ++ more) ended ≡ us ++ records_in p more ended
  all-is more ended =
      ap (λ (l : List ℕ). records_in p (l ++ more) ended) (sym is-kept)
      ∙ (cut more ended p n longer (c.few (fill ++ (0 ∷ [])) never) inside).0

  kept-is : (ended : Bool) → records_in p kept ended ≡ us
  kept-is ended =
      ap (λ (l : List ℕ). records_in p l ended) (sym (append-nil kept))
      ∙ all-is [] ended
      ∙ ap (λ (ws : List (Read Request)). us ++ ws) (no-records p ended)
      ∙ append-nil us

  bytes-are : (more : List ℕ) → bytes_of n (kept ++ more) true ≡ b
  bytes-are more =
      ap (λ (l : List ℕ). bytes_of n (l ++ more) true) (sym is-kept) ∙ (cut more true p n longer (c.few (fill ++ (0 ∷ [])) never) inside).1

  books-are : books_in p R y.buffers ≡ books_after p R (books_in p R s) us
  books-are = c.books (fill ++ (0 ∷ [])) never

  text-is : (ws : List (Read Request)) → text_of p R (books_in p R s) (us ++ ws) 0
      ≡ text_of p R (books_in p R s) (records_in p kept true) 0 ++ text_of p R (books_in p R y.buffers) ws 0
  text-is ws =
      text-then p R (books_in p R s) us ws 0
      ∙ ap (λ (i : ℕ). text_of p R (books_in p R s) us 0 ++ text_of p R (books_after p R (books_in p R s) us) ws i) (either_way (is_nil us) 0)
      ∙ ap (λ (bs : Books). text_of p R (books_in p R s) us 0 ++ text_of p R bs ws 0) (sym books-are)
      ∙ ap (λ (vs : List (Read Request)). text_of p R (books_in p R s) vs 0 ++ text_of p R (books_in p R y.buffers) ws 0) (sym (kept-is true))

  pub came-mended : Came p R false (start s) kept (start y.buffers) (text_of p R (books_in p R s) (records_in p kept true) 0)
  came-mended =
      record {
        booked = c.booked;
        count = n;
        held = subst (λ (ws : List (Read Request)). n ≤ length ws) (sym (kept-is false)) (omega (arith, counted));
        few = λ more e. subst (λ (ws : List (Read Request)). n ≤ length ws) (sym (all-is more true))
            (rw (length-append us (records_in p more true)) (omega (arith, counted)));
        others = λ more e. sym (ap (drop n) (all-is more true) ∙ drop_at us (records_in p more true) n counted);
        place = λ more e. sym (ap (λ (j : ℕ). drop j (kept ++ more)) (bytes-are more) ∙ drop_at kept more b long);
        books = λ more e. books-are
            ∙ ap (books_after p R (books_in p R s)) (sym (ap (take n) (all-is more true) ∙ take_at us (records_in p more true) n counted));
        text = λ more e. ap (λ (ws : List (Read Request)). text_of p R (books_in p R s) ws 0) (all-is more true)
            ∙ text-is (records_in p more true);
      }
