-- A store and its journal stay right through every request: the store valid, an open batch such that it can be taken back to a valid store. Assumes nothing.
use Prim.Native.Nat.{ℕ, suc, ◌+◌, ◌≤◌, Ordering}
use native.Mathlib.Omega.{arith}
use mathlib.Core.Path.{◌≡◌, refl, sym, ◌∙◌, ap, subst}
use mathlib.Core.Bool.{Bool, true, false, ◌&&◌, true≢false}
use mathlib.Core.Logic.{◌⊎◌, inl, inr}
use mathlib.Core.List.{List, [], ◌∷◌, ◌++◌, map, append-nil, append_assoc}
use mathlib.Core.Option
use mathlib.Core.Option.{Option, none, some, some-injective, none-ne-some}
use lib.Dec.{leb, ltb, compare_is_eq}
use lib.ListN.{length, length-append}
use borrow.Author.Tests.{leb-true, le-leb, ltb-false, le-ltb}
use Rattle.values.specs.Basic.{find, is_some, maybe, keep}
use Rattle.values.specs.Value.{Value, normalised}
use Rattle.areas.specs.Sorted.{In}
use Rattle.values.proofs.Orders.{self, congʳ, ord_value}
use Rattle.areas.proofs.Sorting.{keep-sorted, keep-length, in-keep, find-in}
use Rattle.rules.specs.declared.profile.Profile.{Profile}
use Rattle.rules.specs.State.{Name, Table, Row, State, of_table, is_row, table_named, row_with, rows_of, key_of, row_of}
use Rattle.rules.specs.Journal.{Event, absent, stood, put, unwound, roomy, Journal, lacks, Books, batch_of, with_notes}
use Rattle.rules.specs.Request.{Request}
use Rattle.rules.specs.Rows.{row_fault}
use Rattle.rules.specs.Step.{added, removed, replaced, dropped, without_row, apply, apply_all, note, note_all, changed, removals, after, run_after}
use Rattle.rules.specs.Sound.{every, has_table, good_cells, right_kinds, key_defined, good_event, laid, backed}
use Rattle.rules.specs.Readable.{readable}
use Rattle.rules.proofs.Tests.{and_left, and_right, and_both, all_head, all_tail, all_nil, all_cons, every-at, every_of, by-option, is_eq, same-normalised}
use Rattle.rules.proofs.Valid.{Valid, valid-is, valid-of, LaidState, valid-laid, laid_of}
use Rattle.rules.proofs.Index.{ord_row}
use Rattle.rules.proofs.Lists.{eq-turn}
use Rattle.rules.proofs.Trip.{canonical-normal, canonical-cell}
use Rattle.rules.proofs.Cells.{row-passes}
use Rattle.rules.proofs.Removed.{with_rows, at_row, removals-come, drop-comes}
use Rattle.rules.proofs.Unwinding.{unwound-append, added-back, removed-back, replaced-back}
use Rattle.rules.proofs.Keeps.{Keeps, named-is, after-keeps}
use Rattle.rules.proofs.Asked.{Ready, Good, asked}
use Rattle.rules.proofs.Kept.{put-valid, removed-valid, created-valid, dropped-valid}

-- ---- a batch that can be taken back

pub record BackedBy (p : Profile) (R : ℕ) (s : State) (places : ℕ) (es : List Event) : Type 0 where
  pub few : length es ≤ places
  pub good : (e : Event) → In e es → good_event s.tables e ≡ true
  pub room : roomy R es s.rows ≡ true
  pub valid : Valid p R (with_rows s (unwound es s.rows))

abbrev pub Backed : Profile → ℕ → Books → Type 0
Backed p R b = (es : List Event) → b.journal.batch ≡ some es → BackedBy p R b.store b.journal.places es

pub record Right (p : Profile) (R : ℕ) (b : Books) : Type 0 where
  pub valid : Valid p R b.store
  pub backed : Backed p R b

-- the test says it, and this is all that it says
never-backed : (p : Profile) (R : ℕ) (b : Books) → b.journal.batch ≡ none → Backed p R b
never-backed p R b e es h = absurd (none-ne-some es (sym e ∙ h))

pub backed-is : (p : Profile) (R : ℕ) (b : Books) → backed p R b ≡ true → Backed p R b
unfolding backed
backed-is p R b =
    by-option (λ (x : Bool). x ≡ true → Backed p R b) b.journal.batch _ _ (λ e h. never-backed p R b e)
    (λ es e h fs f.
    let h1 = all_tail _ _ h in
    let h2 = all_tail _ _ h1 in
    subst (BackedBy p R b.store b.journal.places) (some-injective es fs (sym e ∙ f))
    (record {
      few = leb-true _ _ (all_head _ _ h);
      good = every-at (good_event b.store.tables) es (all_head _ _ h1);
      room = all_head _ _ h2;
      valid = valid-is p R (with_rows b.store (unwound es b.store.rows)) (all_head _ _ (all_tail _ _ h2));
    }))

pub backed-of : (p : Profile) (R : ℕ) (b : Books) → Backed p R b → backed p R b ≡ true
unfolding backed
backed-of p R b k =
    by-option (λ (x : Bool). x ≡ true) b.journal.batch _ _ (λ e. refl)
    (λ es e.
    let y = k es e in
    all_cons _ _ (le-leb _ _ y.few)
    (all_cons _ _ (every_of (good_event b.store.tables) es y.good)
    (all_cons _ _ y.room (all_cons _ _ (valid-of p R (with_rows b.store (unwound es b.store.rows)) y.valid) all_nil))))

-- ---- more places, which can be undone

in-append : {A : Type 0} (x : A) (xs ys : List A) → In x (xs ++ ys) → In x xs ⊎ In x ys
in-append x [] ys m = inr m
in-append x (y ∷ xs) ys (inl e) = inl (inl e)
in-append x (y ∷ xs) ys (inr m) = go (in-append x xs ys m)
  where
    go : In x xs ⊎ In x ys → In x (y ∷ xs) ⊎ In x ys
    go (inl n) = inl (inr n)
    go (inr n) = inr n

and-both-of : (a b c : Bool) → (a && (b && c)) ≡ ((a && b) && c)
and-both-of true b c = refl
and-both-of false b c = refl

pub roomy-append : (R : ℕ) (es fs : List Event) (rs : List Row) → roomy R (es ++ fs) rs ≡ (roomy R es (unwound fs rs) && roomy R fs rs)
unfolding roomy unwound
roomy-append R [] fs rs = refl
roomy-append R (e ∷ es) fs rs =
    ap (λ (x : List Row). leb (length (put e x)) R && roomy R (es ++ fs) rs) (unwound-append es fs rs)
    ∙ ap (λ (b : Bool). leb (length (put e (unwound es (unwound fs rs)))) R && b) (roomy-append R es fs rs)
    ∙ and-both-of (leb (length (put e (unwound es (unwound fs rs)))) R) (roomy R es (unwound fs rs)) (roomy R fs rs)

-- a batch with more places

-- z comes from b by changes of rows: the schemas stay, and what is noted of the changes leads back
pub record More (R : ℕ) (b z : Books) : Type 0 where
  pub notes : List Event
  pub places : z.journal.places ≡ b.journal.places
  pub batch : z.journal.batch ≡ with_notes b.journal notes
  pub few : lacks b.journal (length notes) ≡ false
  pub tables : z.store.tables ≡ b.store.tables
  pub good : (e : Event) → In e notes → good_event b.store.tables e ≡ true
  pub back : unwound notes z.store.rows ≡ b.store.rows
  pub room : roomy R notes z.store.rows ≡ true

-- room in the journal, and the other way round
pub has-place : (j : Journal) (es : List Event) (n : ℕ) → j.batch ≡ some es → lacks j n ≡ false → length es + n ≤ j.places
unfolding lacks maybe
has-place j es n e h = ltb-false j.places (length es + n) (rw e at h)

pub place-had : (j : Journal) (n : ℕ) → ((es : List Event) → j.batch ≡ some es → length es + n ≤ j.places) → lacks j n ≡ false
unfolding lacks maybe
place-had j n h = go j.batch refl
  where
    go : (o : Option (List Event)) → j.batch ≡ o → maybe o false (λ es. ltb j.places (length es + n)) ≡ false
    go none e = refl
    go (some es) e = le-ltb j.places (length es + n) (h es e)

pub some-notes : (o : Option (List Event)) (es fs : List Event) → o ≡ some es → Option.map (λ (x : List Event). x ++ fs) o ≡ some (es ++ fs)
some-notes o es fs e = rw e

pub notes-twice : (o : Option (List Event)) (fs gs : List Event)
    → Option.map (λ (x : List Event). x ++ gs) (Option.map (λ (x : List Event). x ++ fs) o) ≡ Option.map (λ (x : List Event). x ++ (fs ++ gs)) o
notes-twice none fs gs = refl
notes-twice (some es) fs gs = ap some (append_assoc es fs gs)

-- none, and one after the other
pub more-none : (R : ℕ) (b : Books) → lacks b.journal 0 ≡ false → More R b b
unfolding unwound roomy
more-none R b l =
    record { notes = []; places = refl; batch = same b.journal.batch; few = l; tables = refl; good = λ e m. absurd m; back = refl; room = refl }
  where
    same : (o : Option (List Event)) → o ≡ Option.map (λ (es : List Event). es ++ []) o
    same none = refl
    same (some es) = ap some (sym (append-nil es))

pub more-more : (R : ℕ) (b m z : Books) → More R b m → More R m z → More R b z
more-more R b m z x y =
    record {
      notes = x.notes ++ y.notes;
      places = y.places ∙ x.places;
      batch = y.batch ∙ ap (Option.map (λ (es : List Event). es ++ y.notes)) x.batch ∙ notes-twice b.journal.batch x.notes y.notes;
      few = place-had b.journal _ (λ es e.
          let k = has-place m.journal (es ++ x.notes) (length y.notes) (x.batch ∙ some-notes b.journal.batch es x.notes e) y.few in
          omega (arith, k, x.places, length-append es x.notes, length-append x.notes y.notes));
      tables = y.tables ∙ x.tables;
      good = λ e i. which e (in-append e x.notes y.notes i);
      back = unwound-append x.notes y.notes z.store.rows ∙ ap (unwound x.notes) y.back ∙ x.back;
      room = roomy-append R x.notes y.notes z.store.rows
          ∙ rw y.back (and_both x.room y.room);
    }
  where
    which : (e : Event) → In e x.notes ⊎ In e y.notes → good_event b.store.tables e ≡ true
    which e (inl i) = x.good e i
    which e (inr i) = subst (λ (ts : List Table). good_event ts e ≡ true) x.tables (y.good e i)

-- one row's change: e is what stood at the key before
pub more-one : (R : ℕ) (b : Books) (e : Event) (rs : List Row) → put e rs ≡ b.store.rows → good_event b.store.tables e ≡ true
    → length b.store.rows ≤ R → lacks b.journal 1 ≡ false
    → More R b (record { store = with_rows b.store rs; journal = batch_of b.journal.places (with_notes b.journal (e ∷ [])) })
unfolding unwound roomy
more-one R b e rs back good few l =
    record {
      notes = e ∷ [];
      places = refl;
      batch = refl;
      few = l;
      tables = refl;
      good = λ x m. which x m;
      back = back;
      room = rw back (and_both (le-leb (length b.store.rows) R few) refl);
    }
  where
    which : (x : Event) → In x (e ∷ []) → good_event b.store.tables x ≡ true
    which x (inl f) = ap (good_event b.store.tables) f ∙ good
    which x (inr m) = absurd m

-- a batch that can be taken back still can
pub more-backed : (p : Profile) (R : ℕ) (b z : Books) → More R b z → Backed p R b → Backed p R z
more-backed p R b z x k fs h = go b.journal.batch refl (sym x.batch ∙ h)
  where
    go : (o : Option (List Event)) → b.journal.batch ≡ o → Option.map (λ (es : List Event). es ++ x.notes) o ≡ some fs → BackedBy p R z.store z.journal.places fs
    go none i f = absurd (none-ne-some fs f)
    go (some es) i f =
        let y = k es i in
        subst (BackedBy p R z.store z.journal.places) (some-injective (es ++ x.notes) fs f)
        (record {
          few = omega (arith, has-place b.journal es (length x.notes) i x.few, length-append es x.notes, x.places);
          good = λ e m. which e (in-append e es x.notes m) y;
          room = roomy-append R es x.notes z.store.rows ∙ rw x.back (and_both y.room x.room);
          valid = subst (Valid p R) (whole es) y.valid;
        })
      where
        which : (e : Event) → In e es ⊎ In e x.notes → BackedBy p R b.store b.journal.places es → good_event z.store.tables e ≡ true
        which e (inl m) y = subst (λ (ts : List Table). good_event ts e ≡ true) (sym x.tables) (y.good e m)
        which e (inr m) y = subst (λ (ts : List Table). good_event ts e ≡ true) (sym x.tables) (x.good e m)

        whole : (es : List Event) → with_rows b.store (unwound es b.store.rows) ≡ with_rows z.store (unwound (es ++ x.notes) z.store.rows)
        whole es = rw (x.tables, unwound-append es x.notes z.store.rows, x.back)

-- ---- what is noted is as a place must be

pub row-event : (p : Profile) (R : ℕ) (s : State) → LaidState p R s → (r : Row) → In r s.rows → good_event s.tables (stood r) ≡ true
unfolding good_event laid
row-event p R s v r m =
    let h = laid_of p R s v in
    let h6 = all_tail _ _ (all_tail _ _ (all_tail _ _ (all_tail _ _ (all_tail _ _ (all_tail _ _ h))))) in
    let h7 = all_tail _ _ h6 in
    let h8 = all_tail _ _ h7 in
    let h9 = all_tail _ _ h8 in
    all_cons _ _ (every-at (has_table s.tables) s.rows (all_head _ _ h6) r m)
    (all_cons _ _ (every-at good_cells s.rows (all_head _ _ h7) r m)
    (all_cons _ _ (every-at (right_kinds s.tables) s.rows (all_head _ _ h8) r m)
    (all_cons _ _ (every-at key_defined s.rows (all_head _ _ h9) r m) all_nil)))

new-event : (t : Table) (ts : List Table) (v : List Value) → table_named ts t.name ≡ some t → Ready t v → good_event ts (absent t.name (normalised (key_of t v))) ≡ true
unfolding good_event
new-event t ts v named ready =
    all_cons _ _ (ap is_some named) (all_cons _ _ (let k = canonical-cell v t.key ready.1 in rw (canonical-normal _ k) k) all_nil)

-- ---- a key as it was given, and as it is stored

find-ext : {A : Type 0} (f g : A → Bool) (xs : List A) → ((x : A) → f x ≡ g x) → find f xs ≡ find g xs
find-ext f g [] h = refl
find-ext f g (x ∷ xs) h = rw (h x, find-ext f g xs h)

key-as-stored : (n : Name) (k : Value) (x : Row) → is_row n (normalised k) x ≡ is_row n k x
key-as-stored n k x =
    ap (λ (o : Ordering). of_table n x && compare_is_eq o) (sym (congʳ ord_value x.key (normalised k) k (is_eq _ (same-normalised k k ∙ ap compare_is_eq (self ord_value k)))))

found-as-stored : (rs : List Row) (t : Table) (v : List Value) → row_with rs (row_of t v).table (row_of t v).key ≡ row_with rs t.name (key_of t v)
found-as-stored rs t v = find-ext _ _ rs (key-as-stored t.name (key_of t v))

none-stored : (o : Option Row) → is_some o ≡ false → o ≡ none
none-stored none h = refl
none-stored (some r) h = absurd (true≢false h)

-- ---- rows that go

fewer-laid : (p : Profile) (R : ℕ) (s : State) → LaidState p R s → (f : Row → Bool) → LaidState p R (with_rows s (keep f s.rows))
fewer-laid p R s v f =
    record {
      few-tables = v.few-tables;
      few-rows = omega (arith, v.few-rows, keep-length f s.rows);
      good-tables = v.good-tables;
      tables-sorted = v.tables-sorted;
      faults = v.faults;
      rows-sorted = keep-sorted ord_row f s.rows v.rows-sorted;
      rows = λ r m. v.rows r (in-keep f r s.rows m).0;
    }

-- room for all of them is room for the first, and then for the others
lacks-first : (j : Journal) (n : ℕ) → lacks j (suc n) ≡ false → lacks j 1 ≡ false
lacks-first j n h = place-had j 1 (λ es e. omega (arith, has-place j es (suc n) e h))

lacks_rest : (j : Journal) (e : Event) (n : ℕ) → lacks j (suc n) ≡ false → lacks (batch_of j.places (with_notes j (e ∷ []))) n ≡ false
lacks_rest j e n h = place-had _ n (λ fs f. go j.batch refl fs f)
  where
    go : (o : Option (List Event)) → j.batch ≡ o → (fs : List Event) → Option.map (λ (es : List Event). es ++ (e ∷ [])) o ≡ some fs → length fs + n ≤ j.places
    go none i fs f = absurd (none-ne-some fs f)
    go (some es) i fs f =
        let k : length (es ++ (e ∷ [])) ≡ length fs = ap length (some-injective (es ++ (e ∷ [])) fs f) in
        omega (arith, k, has-place j es (suc n) i h, length-append es (e ∷ []))

pub removals-more : (p : Profile) (R : ℕ) (ks : List Value) (n : Name) (b : Books) → LaidState p R b.store
    → lacks b.journal (length (removals b.store.rows n ks)) ≡ false → More R b (changed (removals b.store.rows n ks) b)
unfolding removals apply_all apply note_all note maybe
removals-more p R [] n b v l = more-none R b l
removals-more p R (x ∷ ks) n b v l =
    go (row_with b.store.rows n x) refl l (removals-more p R ks n b v) (λ r. removals-more p R ks n (gone r) (fewer-laid p R b.store v _))
  where
    gone : Row → Books
    gone r = record {
      store = with_rows b.store (without_row r b.store.rows);
      journal = batch_of b.journal.places (with_notes b.journal (stood r ∷ []));
    }

    go : (o : Option Row) → row_with b.store.rows n x ≡ o
        → lacks b.journal (length (maybe o (removals b.store.rows n ks) (λ r. removed r ∷ removals (without_row r b.store.rows) n ks))) ≡ false
        → (lacks b.journal (length (removals b.store.rows n ks)) ≡ false → More R b (changed (removals b.store.rows n ks) b))
        → ((r : Row) → lacks (gone r).journal (length (removals (without_row r b.store.rows) n ks)) ≡ false
        → More R (gone r) (changed (removals (without_row r b.store.rows) n ks) (gone r)))
        → More R b (changed (maybe o (removals b.store.rows n ks) (λ r. removed r ∷ removals (without_row r b.store.rows) n ks)) b)
    go none e h f g = f h
    go (some r) e h f g =
        let q = find-in (is_row n x) b.store.rows r e in
        more-more R b (gone r) _
        (more-one R b (stood r) (without_row r b.store.rows) (removed-back r b.store.rows v.rows-sorted q.0) (row-event p R b.store v r q.0)
        v.few-rows (lacks-first b.journal _ h))
        (g r (lacks_rest b.journal (stood r) _ h))

-- ---- a row added, a row replaced

module _ (p : Profile) (R : ℕ) (b : Books) (t : Table) (v : List Value) (ok : Valid p R b.store) (named : table_named b.store.tables t.name ≡ some t)
    (l : lacks b.journal 1 ≡ false) where
  pub added_more : Ready t v → row_fault p R b.store t false v ≡ none → More R b (changed (added (row_of t v) ∷ []) b)
  unfolding apply_all apply note_all note
  added_more r h =
      more-one R b (absent t.name (normalised (key_of t v))) _
      (added-back (row_of t v) b.store.rows ok.rows-sorted
      (found-as-stored b.store.rows t v ∙ none-stored _ (row-passes p R b.store t false v h).new))
      (new-event t b.store.tables v named r) ok.few-rows l

  pub replaced-more : (old : Row) → row_with b.store.rows t.name (key_of t v) ≡ some old → More R b (changed (replaced old (row_of t v) ∷ []) b)
  unfolding apply_all apply note_all note
  replaced-more old f =
      let q = find-in (is_row t.name (key_of t v)) b.store.rows old f in
      more-one R b (stood old) _
      (replaced-back old (row_of t v) b.store.rows ok.rows-sorted q.0
      (eq-turn ord_row old (row_of t v) (is_eq _ (at_row old (row_of t v) ∙ key-as-stored t.name (key_of t v) old ∙ q.1))))
      (row-event p R b.store (valid-laid ok) old q.0) ok.few-rows l

-- ---- while no batch is open, nothing is noted

pub closed : (o : Option (List Event)) → is_some o ≡ false → o ≡ none
closed none h = refl
closed (some es) h = absurd (true≢false h)

still-closed : (rs : List Row) (t : Table) (j : Journal) → j.batch ≡ none → (note_all (map removed rs ++ (dropped t ∷ [])) j).batch ≡ none
unfolding note_all note
still-closed [] t j e = e
still-closed (r ∷ rs) t j e = still-closed rs t (batch_of j.places (with_notes j (stood r ∷ []))) (ap (Option.map (λ (es : List Event). es ++ (stood r ∷ []))) e)

-- ---- every request, and every sequence of them

just-opened : (p : Profile) (R : ℕ) (b : Books) → Valid p R b.store → BackedBy p R b.store b.journal.places []
unfolding unwound roomy
just-opened p R b v = record { few = omega arith; good = λ e m. absurd m; room = refl; valid = v }

pub right-keeps : (p : Profile) (R : ℕ) → Keeps p R (λ n. Unit {0}) Ready (Good p) (λ e. Unit {0}) (Right p R)
unfolding apply_all apply note_all note
right-keeps p R =
    record {
      row-added = λ b t v a n r h l ok. record {
        valid = put-valid p R b.store t false v n r (row-passes p R b.store t false v h) ok.valid;
        backed = more-backed p R b _ (added_more p R b t v ok.valid n l r h) ok.backed;
      };
      row-replaced = λ b t v old a n r h f l ok. record {
        valid = put-valid p R b.store t true v n r (row-passes p R b.store t true v h) ok.valid;
        backed = more-backed p R b _ (replaced-more p R b t v ok.valid n l old f) ok.backed;
      };
      rows-removed = λ b n t ks a e h l ok. record {
        valid = subst (Valid p R) (sym (removals-come ks n b.store)) (removed-valid p R b.store n ks h ok.valid);
        backed = more-backed p R b _ (removals-more p R ks n b (valid-laid ok.valid) l) ok.backed;
      };
      table-created = λ b t a g i h ok. record {
        valid = created-valid p R b.store t g h ok.valid;
        backed = never-backed p R _ (closed b.journal.batch i);
      };
      table-dropped = λ b n t a e i h ok. record {
        valid = subst (Valid p R) (sym (drop-comes b.store n t (named-is b.store.tables n t e))) (dropped-valid p R b.store n h ok.valid);
        backed = never-backed p R _ (still-closed (rows_of b.store.rows n) t b.journal (closed b.journal.batch i));
      };
      batch-opened = λ b i ok. record { valid = ok.valid; backed = λ es e. subst (BackedBy p R b.store b.journal.places) (some-injective [] es e) (just-opened p R b ok.valid) };
      batch-kept = λ b a i ok. record { valid = ok.valid; backed = never-backed p R _ refl };
      batch-back = λ b es a e ok. record { valid = (ok.backed es e).valid; backed = never-backed p R _ refl };
    }

pub step_right : (p : Profile) (R : ℕ) (b : Books) (q : Request) → readable p q ≡ true → Right p R b → Right p R (after p R b q)
step_right p R b q h ok =
    after-keeps p R (λ n. Unit {0}) Ready (Good p) (λ e. Unit {0}) (Right p R) (right-keeps p R) b q (asked p b ok.valid.good-tables q h) ok

pub run-right : (p : Profile) (R : ℕ) (b : Books) (qs : List Request) → every (readable p) qs ≡ true → Right p R b → Right p R (run_after p R b qs)
unfolding every run_after
run-right p R b [] h ok = ok
run-right p R b (q ∷ qs) h ok = run-right p R (after p R b q) qs (and_right (readable p q) _ h) (step_right p R b q (and_left _ _ h) ok)
