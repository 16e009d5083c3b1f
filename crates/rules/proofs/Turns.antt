-- Row by row and pair by pair: a run of items that is accepted, and one that stops at an item. Assumes nothing.
use Prim.Native.Nat.{ℕ, suc, ◌+◌}
use native.Mathlib.Nat.{add-zero}
use native.Mathlib.Omega.{arith}
use mathlib.Core.Path.{◌≡◌, refl, sym, ◌∙◌, ap, subst}
use mathlib.Core.Bool.{Bool, true, false, true≢false, false≢true}
use mathlib.Core.List.{List, [], ◌∷◌, ◌++◌, append_assoc}
use lib.ListN.{length}
use Rattle.values.specs.Value.{Value}
use Rattle.rules.specs.Journal.{Books}
use Rattle.rules.specs.Request.{Reply, ok}
use Rattle.rules.specs.Step.{Change, apply_all, Outcome, did, is_accepted, at_place, numbered, onward, in_turn, note_all, changed}
use Rattle.rules.specs.Stops.{Turn, outcome_at, stop_at}
use Rattle.rules.proofs.Removed.{changed-append}
use Rattle.rules.proofs.Tests.{by_cond}

-- where an item was accepted or refused
pub onward-yes : (o : Outcome) (i : ℕ) (rest : List Change → Outcome) → is_accepted o.reply ≡ true
    → onward o i rest ≡ record { changes = o.changes ++ (rest o.changes).changes; lines = []; reply = (rest o.changes).reply }
unfolding onward
onward-yes o i rest h = rw h

pub onward-no : (o : Outcome) (i : ℕ) (rest : List Change → Outcome) → is_accepted o.reply ≡ false
    → onward o i rest ≡ record { changes = o.changes; lines = []; reply = at_place i o.reply }
unfolding onward
onward-no o i rest h = rw h

-- a number refuses nothing and accepts nothing, and where an item was refused the answer is at it
pub numbered-accepted : (i : ℕ) (o : Outcome) → is_accepted (numbered i o).reply ≡ is_accepted o.reply
numbered-accepted i o = by_cond (λ (r : Reply). is_accepted r ≡ is_accepted o.reply) (is_accepted o.reply) _ _ (λ h. refl) (λ h. refl)

pub numbered-no : (i : ℕ) (o : Outcome) → is_accepted o.reply ≡ false
    → numbered i o ≡ record { changes = o.changes; lines = o.lines; reply = at_place i o.reply }
numbered-no i o h = rw h

-- an outcome that shows nothing and is accepted
pub is-did : (o : Outcome) (n : ℕ) → o.lines ≡ [] → o.reply ≡ ok n → o ≡ did o.changes n
is-did o n e f = parts o.lines o.reply e f
  where
    parts : (ls : List (List Value)) (r : Reply) → ls ≡ [] → r ≡ ok n → ◌≡◌ {A = Outcome} (record { changes = o.changes; lines = ls; reply = r }) (did o.changes n)
    parts ls r e f = rw (e, f)

module _ {A : Type 0} (f : Books → A → Outcome) where
  pub in-turn-nil : (s : Books) (i : ℕ) → in_turn f s i [] ≡ did [] i
  unfolding in_turn
  in-turn-nil s i = refl

  pub in-turn-cons : (s : Books) (i : ℕ) (x : A) (xs : List A) → in_turn f s i (x ∷ xs) ≡ onward (f s x) i (λ cs. in_turn f (changed cs s) (suc i) xs)
  unfolding in_turn
  in-turn-cons s i x xs = refl

  -- one item more at the front
  pub in-turn-yes : (s : Books) (i : ℕ) (x : A) (xs : List A) → is_accepted (f s x).reply ≡ true
      → in_turn f s i (x ∷ xs)
      ≡ record {
        changes = (f s x).changes ++ (in_turn f (changed (f s x).changes s) (suc i) xs).changes;
        lines = [];
        reply = (in_turn f (changed (f s x).changes s) (suc i) xs).reply;
      }
  in-turn-yes s i x xs h = in-turn-cons s i x xs ∙ onward-yes (f s x) i (λ cs. in_turn f (changed cs s) (suc i) xs) h

  pub in-turn-no : (s : Books) (i : ℕ) (x : A) (xs : List A) → is_accepted (f s x).reply ≡ false
      → in_turn f s i (x ∷ xs) ≡ record { changes = (f s x).changes; lines = []; reply = at_place i (f s x).reply }
  in-turn-no s i x xs h = in-turn-cons s i x xs ∙ onward-no (f s x) i (λ cs. in_turn f (changed cs s) (suc i) xs) h

  pub in-turn-did : (s : Books) (i : ℕ) (x : A) (xs : List A) (cs : List Change) (n : ℕ) → f s x ≡ did cs n
      → in_turn f s i (x ∷ xs)
      ≡ record { changes = cs ++ (in_turn f (changed cs s) (suc i) xs).changes; lines = []; reply = (in_turn f (changed cs s) (suc i) xs).reply }
  in-turn-did s i x xs cs n e =
      in-turn-yes s i x xs (ap (λ (o : Outcome). is_accepted o.reply) e)
      ∙ ap (λ (o : Outcome). record {
        changes = o.changes ++ (in_turn f (changed o.changes s) (suc i) xs).changes;
        lines = [];
        reply = (in_turn f (changed o.changes s) (suc i) xs).reply;
      }) e

  pub lines_none : (s : Books) (i : ℕ) (xs : List A) → (in_turn f s i xs).lines ≡ []
  lines_none s i [] = ap (λ (o : Outcome). o.lines) (in-turn-nil s i)
  lines_none s i (x ∷ xs) = go (is_accepted (f s x).reply) refl
    where
      go : (b : Bool) → is_accepted (f s x).reply ≡ b → (in_turn f s i (x ∷ xs)).lines ≡ []
      go true e = ap (λ (o : Outcome). o.lines) (in-turn-yes s i x xs e)
      go false e = ap (λ (o : Outcome). o.lines) (in-turn-no s i x xs e)

  -- all were accepted: N counts them
  pub all-counted : (s : Books) (i : ℕ) (xs : List A) → is_accepted (in_turn f s i xs).reply ≡ true → (in_turn f s i xs).reply ≡ ok (i + length xs)
  all-counted s i [] h = ap (λ (o : Outcome). o.reply) (in-turn-nil s i) ∙ ap ok (sym (add-zero i))
  all-counted s i (x ∷ xs) h = go (is_accepted (f s x).reply) refl (λ t. all-counted t (suc i) xs)
    where
      go : (b : Bool) → is_accepted (f s x).reply ≡ b
          → ((t : Books) → is_accepted (in_turn f t (suc i) xs).reply ≡ true → (in_turn f t (suc i) xs).reply ≡ ok (suc i + length xs))
          → (in_turn f s i (x ∷ xs)).reply ≡ ok (i + suc (length xs))
      go false e r = absurd (false≢true (sym (ap (λ (o : Outcome). is_accepted o.reply) (in-turn-no s i x xs e) ∙ e) ∙ h))
      go true e r =
          let q = in-turn-yes s i x xs e in
          ap (λ (o : Outcome). o.reply) q ∙ r (changed (f s x).changes s) (sym (ap (λ (o : Outcome). is_accepted o.reply) q) ∙ h) ∙ ap ok (omega arith)

  pub all-through : (s : Books) (i : ℕ) (xs : List A) → is_accepted (in_turn f s i xs).reply ≡ true → in_turn f s i xs ≡ did (in_turn f s i xs).changes (i + length xs)
  all-through s i xs h = is-did (in_turn f s i xs) (i + length xs) (lines_none s i xs) (all-counted s i xs h)

  -- the changes of an item before those of the others
  behind-one : (s : Books) (i : ℕ) (cs ds : List Change) (x : A) (n : ℕ)
      → ◌≡◌ {A = Outcome}
      (record {
        changes = cs ++ (ds ++ (f (changed ds (changed cs s)) x).changes);
        lines = [];
        reply = at_place (suc i + n) (f (changed ds (changed cs s)) x).reply;
      })
      (record { changes = (cs ++ ds) ++ (f (changed (cs ++ ds) s) x).changes; lines = []; reply = at_place (i + suc n) (f (changed (cs ++ ds) s) x).reply })
  behind-one s i cs ds x n = let m : i + suc n ≡ suc i + n = omega arith in rw (m, changed-append cs ds s, append_assoc cs ds)

  -- one was refused: the items before it were accepted, and their changes stay
  pub stopped : (s : Books) (i : ℕ) (xs : List A) → is_accepted (in_turn f s i xs).reply ≡ false
      → (t : Turn f s i xs) × (is_accepted (outcome_at f t).reply ≡ false) × (in_turn f s i xs ≡ stop_at f t)
  unfolding apply_all note_all
  stopped s i [] h = absurd (true≢false (sym (ap (λ (o : Outcome). is_accepted o.reply) (in-turn-nil s i)) ∙ h))
  stopped s i (x ∷ xs) h = go (is_accepted (f s x).reply) refl (λ t. stopped t (suc i) xs)
    where
      go : (b : Bool) → is_accepted (f s x).reply ≡ b
          → ((u : Books) → is_accepted (in_turn f u (suc i) xs).reply ≡ false → (t : Turn f u (suc i) xs) × (is_accepted (outcome_at f t).reply ≡ false) × (in_turn f u (suc i) xs ≡ stop_at f t))
          → (t : Turn f s i (x ∷ xs)) × (is_accepted (outcome_at f t).reply ≡ false) × (in_turn f s i (x ∷ xs) ≡ stop_at f t)
      go false e r = (
        record { before = []; item = x; behind = xs; earlier = []; split = refl; through = in-turn-nil s i ∙ ap (did []) (sym (add-zero i)) },
        e,
        in-turn-no s i x xs e
            ∙ ap (λ (n : ℕ). record { changes = (f s x).changes; lines = []; reply = at_place n (f s x).reply }) (sym (add-zero i)),
      )
      go true e r =
          let cs : List Change = (f s x).changes in
          let u : Books = changed cs s in
          let q = r u (sym (ap (λ (o : Outcome). is_accepted o.reply) (in-turn-yes s i x xs e)) ∙ h) in
          let t : Turn f u (suc i) xs = q.0 in
          let n : suc i + length t.before ≡ i + suc (length t.before) = omega arith in (
            record {
              before = x ∷ t.before;
              item = t.item;
              behind = t.behind;
              earlier = cs ++ t.earlier;
              split = ap (λ (l : List A). x ∷ l) t.split;
              through =
                  in-turn-yes s i x t.before e
                  ∙ ap (λ (o : Outcome). record { changes = cs ++ o.changes; lines = []; reply = o.reply }) t.through
                  ∙ ap (did (cs ++ t.earlier)) n;
            },
            subst (λ (v : Books). is_accepted (f v t.item).reply ≡ false) (sym (changed-append cs t.earlier s)) q.1,
            in-turn-yes s i x xs e
                ∙ ap (λ (o : Outcome). record { changes = cs ++ o.changes; lines = []; reply = o.reply }) q.2
                ∙ behind-one s i cs t.earlier t.item (length t.before),
          )

  -- and where an item is refused, this is what is answered
  stops-from : (before : List A) (item : A) (behind : List A) (s : Books) (i : ℕ) (earlier : List Change) → in_turn f s i before ≡ did earlier (i + length before)
      → is_accepted (f (changed earlier s) item).reply ≡ false
      → in_turn f s i (before ++ (item ∷ behind))
      ≡ record {
        changes = earlier ++ (f (changed earlier s) item).changes;
        lines = [];
        reply = at_place (i + length before) (f (changed earlier s) item).reply;
      }
  unfolding apply_all note_all
  stops-from [] item behind s i earlier t h = subst At-once (ap (λ (o : Outcome). o.changes) (sym (in-turn-nil s i) ∙ t)) first h
    where
      At-once : List Change → Type 0
      At-once cs = is_accepted (f (changed cs s) item).reply ≡ false
          → in_turn f s i (item ∷ behind)
          ≡ record { changes = cs ++ (f (changed cs s) item).changes; lines = []; reply = at_place (i + 0) (f (changed cs s) item).reply }

      first : At-once []
      first k =
          in-turn-no s i item behind k
          ∙ ap (λ (n : ℕ). record { changes = (f s item).changes; lines = []; reply = at_place n (f s item).reply }) (sym (add-zero i))
  stops-from (x ∷ before) item behind s i earlier t h = go (is_accepted (f s x).reply) refl (stops-from before item behind)
    where
      cs : List Change
      cs = (f s x).changes

      u : Books
      u = changed cs s

      ds : List Change
      ds = (in_turn f u (suc i) before).changes

      Stops : List Change → Type 0
      Stops es =
          in_turn f s i (x ∷ (before ++ (item ∷ behind)))
          ≡ record {
            changes = es ++ (f (changed es s) item).changes;
            lines = [];
            reply = at_place (i + suc (length before)) (f (changed es s) item).reply;
          }

      go : (b : Bool) → is_accepted (f s x).reply ≡ b
          → ((s : Books) (i : ℕ) (earlier : List Change) → in_turn f s i before ≡ did earlier (i + length before)
          → is_accepted (f (changed earlier s) item).reply ≡ false
          → in_turn f s i (before ++ (item ∷ behind))
          ≡ record {
            changes = earlier ++ (f (changed earlier s) item).changes;
            lines = [];
            reply = at_place (i + length before) (f (changed earlier s) item).reply;
          })
          → Stops earlier
      go false e r = absurd (true≢false (sym (ap (λ (o : Outcome). is_accepted o.reply) t) ∙ ap (λ (o : Outcome). is_accepted o.reply) (in-turn-no s i x before e) ∙ e))
      go true e r =
          let q = sym (in-turn-yes s i x before e) ∙ t in
          let k : earlier ≡ cs ++ ds = sym (ap (λ (o : Outcome). o.changes) q) in
          let yes : is_accepted (in_turn f u (suc i) before).reply ≡ true = ap (λ (o : Outcome). is_accepted o.reply) q in
          let h' : is_accepted (f (changed ds u) item).reply ≡ false =
          subst (λ (v : Books). is_accepted (f v item).reply ≡ false) (ap (λ (l : List Change). changed l s) k ∙ changed-append cs ds s) h
          in
          subst Stops (sym k)
          (in-turn-yes s i x (before ++ (item ∷ behind)) e
          ∙ ap (λ (o : Outcome). record { changes = cs ++ o.changes; lines = []; reply = o.reply }) (r u (suc i) ds (all-through u (suc i) before yes) h')
          ∙ behind-one s i cs ds item (length before))

  pub stops : {s : Books} {i : ℕ} {xs : List A} (t : Turn f s i xs) → is_accepted (outcome_at f t).reply ≡ false → in_turn f s i xs ≡ stop_at f t
  stops {s} {i} {xs} t h = ap (in_turn f s i) t.split ∙ stops-from t.before t.item t.behind s i t.earlier t.through h
