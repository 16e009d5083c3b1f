-- The soundness test as the code asks it: what each part gives to the next, and that all of them passed is soundness. Assumes nothing.
use mathlib.Core.Path.{◌≡◌, sym, subst}
use mathlib.Core.Bool.{true, false}
use Prim.Native.Nat.{ℕ, ◌≤◌}
use mathlib.Core.List.{List, [], ◌∷◌}
use lib.ListN.{length}
use Rattle.values.specs.Bytes.{leqb, Bytes}
use Rattle.areas.specs.Records.{Wide}
use Rattle.areas.specs.Sorted.{All}
use Rattle.values.proofs.Scans.{leqb-eq}
use Rattle.rules.specs.declared.profile.Profile.{Profile}
use Rattle.rules.specs.Profile.{schema_width, places_most, store_length, Indexed}
use Rattle.rules.specs.State.{cmp_table}
use Rattle.rules.specs.Layout.{Schemas, lists, parse, places_of, table_record, read_table}
use Rattle.rules.specs.Sound.{all, every, faultless, references_held, right_length, sound}
use Rattle.rules.proofs.Lists.{bool_same}
use Rattle.rules.proofs.Tests.{and_left, and_right, all_head, all_tail, all_nil, all_cons, sorted-is}
use Rattle.laid.specs.Store.{Coded, Inside}
use Rattle.laid.specs.Catalog.{TableBytes, Catalog}
use Rattle.sound.specs.Tested.{laid_out, is_table, cataloged, rowed, index_tested, Schemed, Tabled}
use Rattle.laid.proofs.Inside.{area-wide}
use Rattle.sound.proofs.LaidOut.{inside_of}
use Rattle.sound.proofs.Lengths.{right_is}
use Rattle.sound.proofs.Parts.{Parts, sound-parts, parts-sound}

-- ---- the catalog

tables-bytes : (p : Profile) → Coded p → (rs : List (List ℕ)) → Wide (schema_width p) rs → every (is_table p) rs ≡ true → All (TableBytes p) rs
unfolding every Wide is_table
tables-bytes p k [] w h = tt
tables-bytes p k (r ∷ rs) w h =
    let q = and_left (is_table p r) (every (is_table p) rs) h in (
      record { coded = k; long = w.0; whole = leqb-eq _ r (and_left (leqb (table_record p (read_table p r)) r) _ q); good = and_right (leqb (table_record p (read_table p r)) r) _ q },
      tables-bytes p k rs w.1 (and_right (is_table p r) (every (is_table p) rs) h),
    )

pub catalog-of : (p : Profile) (R : ℕ) (s : List ℕ) → Inside p R s → cataloged p R s ≡ true → Catalog p R s
unfolding cataloged
catalog-of p R s i h =
    record {
      inside = i;
      records = tables-bytes p i.coded (lists p R s).schemas (area-wide p R s i Schemas) (all_head _ _ h);
      sorted = sorted-is cmp_table (parse p R s).tables (all_head _ _ (all_tail _ _ h));
    }

pub schemed-of : (p : Profile) (R : ℕ) (s : List ℕ) → Inside p R s → cataloged p R s ≡ true → faultless (parse p R s).tables ≡ true → Schemed p R s
schemed-of p R s i h f = record { catalog = catalog-of p R s i h; faults = f }

pub tabled-of : (p : Profile) (R : ℕ) (s : List ℕ) → Inside p R s → cataloged p R s ≡ true → faultless (parse p R s).tables ≡ true → rowed p R s ≡ true → Tabled p R s
tabled-of p R s i h f r = record { schemed = schemed-of p R s i h f; rows = r }

-- ---- the verdict

module _ (p : Profile) (k : Coded p × Indexed p) (s : List ℕ) where
  pub sound_short : right_length p s ≡ false → sound p s ≡ false
  unfolding sound all
  sound_short h = rw h

  module _ (h : right_length p s ≡ true) (R : ℕ) (e : R ≡ places_of p s) where
    pub long_of : (R ≤ places_most) × (length s ≡ store_length p R)
    long_of = let r = right_is p s h in rw e (r.most, r.long)

    module _ (b : Bytes s) where
      pub inside-laid : laid_out p R s ≡ true → Inside p R s
      inside-laid l = inside_of p R s long_of.1 b k.0 long_of.0 l

      -- a store of the right length is sound just where it passes each part
      pub sound_is : sound p s
          ≡ all (laid_out p R s ∷ cataloged p R s ∷ faultless (parse p R s).tables ∷ rowed p R s ∷ every (references_held (parse p R s).tables (parse p R s).rows) (parse p R s).rows ∷ index_tested p R s ∷ [])
      sound_is =
          bool_same (sound p s)
          (all (laid_out p R s ∷ cataloged p R s ∷ faultless (parse p R s).tables ∷ rowed p R s ∷ every (references_held (parse p R s).tables (parse p R s).rows) (parse p R s).rows ∷ index_tested p R s ∷ []))
          (λ q.
          let x : Parts p R s = subst (λ (n : ℕ). Parts p n s) (sym e) (sound-parts p k.0.known s k.1 q) in
          all_cons _ _ x.laid (all_cons _ _ x.tables (all_cons _ _ x.faults (all_cons _ _ x.rows (all_cons _ _ x.links (all_cons _ _ x.index all_nil))))))
          (λ q.
          let q1 = all_tail _ _ q in
          let q2 = all_tail _ _ q1 in
          let q3 = all_tail _ _ q2 in
          let q4 = all_tail _ _ q3 in
          parts-sound p k.0.known s b h
          (subst (λ (n : ℕ). Parts p n s) e
          (record {
            laid = all_head _ _ q;
            tables = all_head _ _ q1;
            faults = all_head _ _ q2;
            rows = all_head _ _ q3;
            links = all_head _ _ q4;
            index = all_head _ _ (all_tail _ _ q4);
          })) k.0)
