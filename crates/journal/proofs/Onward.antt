-- After a turn: store and journal read back, and the batch is still open over them. So places can be turned one after the other. Assumes nothing.
use Prim.Native.Nat.{ℕ, zero, suc, ◌≤◌}
use native.Mathlib.Omega.{arith}
use mathlib.Core.Path.{◌≡◌, refl, sym, ◌∙◌, ap, subst}
use mathlib.Core.Bool.{Bool, true}
use mathlib.Core.List.{List, [], ◌∷◌, ◌++◌}
use mathlib.Core.Option.{some, some-injective}
use lib.ListN.{length, get_or, take, drop}
use Rattle.areas.specs.Sorted.{replace_at}
use Rattle.areas.specs.Counted.{framed}
use Rattle.areas.proofs.Changes.{length-replace-at}
use Rattle.rules.specs.declared.profile.Profile.{Profile}
use Rattle.rules.specs.State.{State}
use Rattle.rules.specs.Journal.{Event, Journal, put, stand}
use Rattle.rules.specs.Layout.{image, parse}
use Rattle.rules.specs.Sound.{every, good_event}
use Rattle.rules.specs.Pages.{open_image, journal_places, parse_journal}
use Rattle.rules.proofs.Tests.{and_left, and_right, and_both, every-at}
use Rattle.rules.proofs.Valid.{LaidState, laid_of}
use Rattle.rules.proofs.Removed.{with_rows}
use Rattle.rules.proofs.Whole.{parse-image}
use Rattle.rules.proofs.Paged.{open-back}
use Rattle.laid.specs.Store.{LaidStore}
use Rattle.laid.proofs.Stores.{held-state}
use Rattle.journal.specs.Turn.{event_at, events_in, Batch, Turnable, Turned}
use Rattle.journal.proofs.Events.{placed, put-laid, stand-good}
use Rattle.journal.proofs.Turning.{turn-known, turn-good}

every-replaced : {A : Type 0} (f : A → Bool) (xs : List A) (i : ℕ) (x : A) → every f xs ≡ true → f x ≡ true → every f (replace_at i x xs) ≡ true
unfolding replace_at every
every-replaced {A = A} f xs i x h g = go xs i h
  where
    go : (l : List A) (k : ℕ) → every f l ≡ true → every f (take k l ++ (x ∷ drop (suc k) l)) ≡ true
    go [] zero e = and_both g refl
    go [] (suc k) e = and_both g refl
    go (y ∷ l) zero e = and_both g (and_right (f y) _ e)
    go (y ∷ l) (suc k) e = and_both (and_left (f y) _ e) (go l k (and_right (f y) _ e))

module _ {p : Profile} {R : ℕ} {s j : List ℕ} {i : ℕ} (h : Turnable p R s j i) {s₁ j₁ : List ℕ} (y : Turned p R s j i s₁ j₁) where
  abbrev after : State
  after = with_rows (parse p R s) (put (event_at p (parse p R s).tables j i) (parse p R s).rows)

  next-state : LaidState p R (with_rows (parse p R s) (put (event_at p (parse p R s).tables j i) (parse p R s).rows))
  next-state = put-laid p R (parse p R s) (held-state p R s h.place.batch.store) _ (turn-good h.place) h.room

  -- the store reads back
  pub next-parse : parse p R s₁ ≡ with_rows (parse p R s) (put (event_at p (parse p R s).tables j i) (parse p R s).rows)
  next-parse = ap (parse p R) y.store ∙ parse-image p (turn-known h.place) h.place.batch.store.indexed R h.place.batch.store.places after next-state

  pub next-store : LaidStore p R s₁
  next-store =
      record {
        coded = h.place.batch.store.coded;
        indexed = h.place.batch.store.indexed;
        places = h.place.batch.store.places;
        laid = laid_of p R (parse p R s₁) (subst (LaidState p R) (sym next-parse) next-state);
        bytes = y.store ∙ ap (image p R) (sym next-parse);
      }

  -- and the journal
  abbrev fs : List Event
  fs = replace_at i (stand (event_at p (parse p R s).tables j i) (parse p R s).rows) (events_in p (parse p R s).tables j)

  next-good : every (good_event (parse p R s).tables) (replace_at i (stand (event_at p (parse p R s).tables j i) (parse p R s).rows) (events_in p (parse p R s).tables j)) ≡ true
  next-good =
      every-replaced (good_event (parse p R s).tables) (events_in p (parse p R s).tables j) i _ h.place.batch.good
      (stand-good p R (parse p R s) (held-state p R s h.place.batch.store) _ (turn-good h.place))

  next-few : length (replace_at i (stand (event_at p (parse p R s).tables j i) (parse p R s).rows) (events_in p (parse p R s).tables j)) ≤ journal_places p j
  next-few = omega (arith, length-replace-at i (stand (event_at p (parse p R s).tables j i) (parse p R s).rows) (events_in p (parse p R s).tables j) h.place.within, h.place.batch.few)

  next-journal : parse_journal p (parse p R s).tables j₁ ≡ record { places = journal_places p j; batch = some fs }
  next-journal =
      ap (parse_journal p (parse p R s).tables) y.journal
      ∙ open-back p (turn-known h.place).cell h.place.batch.paging.coded.known.some-column (parse p R s).tables (journal_places p j) h.place.batch.most fs next-few
      (λ e m. placed p R (parse p R s) (held-state p R s h.place.batch.store) (turn-known h.place) e (every-at (good_event (parse p R s).tables) fs next-good e m))

  pub next-places : journal_places p j₁ ≡ journal_places p j
  unfolding parse_journal
  next-places = ap (λ (x : Journal). x.places) next-journal

  first_one : get_or j₁ 0 0 ≡ 1
  unfolding open_image framed
  first_one = ap (λ (l : List ℕ). get_or l 0 0) y.journal

  pub next-events : events_in p (parse p R s).tables j₁ ≡ replace_at i (stand (event_at p (parse p R s).tables j i) (parse p R s).rows) (events_in p (parse p R s).tables j)
  unfolding parse_journal events_in
  next-events = some-injective _ _ (sym (rw first_one) ∙ ap (λ (x : Journal). x.batch) next-journal)

  pub next-tables : (parse p R s₁).tables ≡ (parse p R s).tables
  next-tables = ap (λ (x : State). x.tables) next-parse

  -- so the next place can be turned
  pub next-batch : Batch p R s₁ j₁
  next-batch =
      record {
        store = next-store;
        paging = h.place.batch.paging;
        most = rw next-places h.place.batch.most;
        few = rw (next-tables, next-events, next-places) next-few;
        good = rw (next-tables, next-events) next-good;
        bytes = y.journal ∙ sym (rw (next-tables, next-places, next-events));
      }
