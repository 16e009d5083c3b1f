-- What a store that is laid out gives: what it is laid out from, records that lie inside, and its catalog. Assumes nothing.
use mathlib.Core.Path.{◌≡◌, refl, ap}
use Prim.Native.Nat.{ℕ, ◌≤◌}
use native.Mathlib.Omega.{arith}
use mathlib.Core.Bool.{true}
use mathlib.Core.List.{List, [], ◌∷◌, map}
use mathlib.Core.Logic.{inl, inr}
use Rattle.areas.specs.Counted.{count_at}
use Rattle.areas.specs.Sorted.{In, All}
use Rattle.rules.specs.declared.profile.Profile.{Profile}
use Rattle.rules.specs.Profile.{places_most}
use Rattle.rules.specs.State.{Table, State}
use Rattle.rules.specs.Layout.{Lists, lists, Laid, Area, Schemas, Rows, Entries, count_place, count_width, area_places, table_record, read_table, records_of, image, parse}
use Rattle.rules.specs.Sound.{good_table}
use Rattle.rules.proofs.Valid.{Valid, valid-is, LaidState, laid-is, laid_of, valid-laid}
use Rattle.rules.proofs.Laid.{laid-lists, laid-length, laid-count, area-few}
use Rattle.rules.proofs.Room.{indexed}
use Rattle.rules.proofs.Whole.{fits-image}
use Rattle.rules.proofs.Trip.{table-good, table-long, table-back}
use Rattle.laid.specs.Store.{Coded, Inside, LaidStore, Store}
use Rattle.laid.specs.Catalog.{TableBytes, Catalog}

-- the record of a good table
pub table-bytes : (p : Profile) → Coded p → (t : Table) → good_table p t ≡ true → TableBytes p (table_record p t)
table-bytes p k t g =
    let w = k.known.cell in
    let e : read_table p (table_record p t) ≡ t = table-back p w t (table-good p t g) in
    record { coded = k; long = table-long p w t (table-good p t g); whole = ap (table_record p) e; good = rw e g }

tables-bytes : (p : Profile) → Coded p → (ts : List Table) → ((t : Table) → In t ts → good_table p t ≡ true) → All (TableBytes p) (map (table_record p) ts)
tables-bytes p k [] h = tt
tables-bytes p k (t ∷ ts) h = (table-bytes p k t (h t (inl refl)), tables-bytes p k ts (λ x m. h x (inr m)))

-- ---- any lists that are laid out

module _ (p : Profile) (k : Coded p) (R : ℕ) (most : R ≤ places_most) (s : List ℕ) (x : Lists) (l : Laid p R s x) where
  few : (a : Area) → count_at (count_place a) (count_width a) s ≤ area_places p R a
  few a = omega (arith, laid-count p R s x l a, area-few p R a x l.fits)

  pub laid-inside : Inside p R s
  laid-inside =
      record {
        coded = k;
        places = most;
        long = laid-length p R s x l;
        tables-le = few Schemas;
        rows-le = few Rows;
        entries-le = few Entries;
      }

-- ---- a store that is laid out

module _ (p : Profile) (R : ℕ) (s : List ℕ) (b : LaidStore p R s) where
  -- its schemas, rows and index entries
  abbrev pub held : State
  held = parse p R s

  pub held-state : LaidState p R held
  held-state = laid-is p R held b.laid

  pub held-laid : Laid p R s (records_of p held (indexed held))
  unfolding image
  held-laid = record { fits = fits-image p b.coded.known b.indexed R b.places held held-state; whole = b.bytes }

  pub held-lists : lists p R s ≡ records_of p held (indexed held)
  held-lists = laid-lists p R s (records_of p held (indexed held)) held-laid

  pub held-inside : Inside p R s
  held-inside = laid-inside p b.coded R b.places s (records_of p held (indexed held)) held-laid

  pub held-catalog : Catalog p R s
  unfolding records_of
  held-catalog =
      record {
        inside = held-inside;
        records = rw held-lists (tables-bytes p b.coded held.tables held-state.good-tables);
        sorted = held-state.tables-sorted;
      }

-- ---- a sound store is laid out

module _ (p : Profile) (R : ℕ) (s : List ℕ) (b : Store p R s) where
  pub store-valid : Valid p R (parse p R s)
  store-valid = valid-is p R (parse p R s) b.valid

  pub laid-store : LaidStore p R s
  laid-store = record { coded = b.coded; indexed = b.indexed; places = b.places; laid = laid_of p R (parse p R s) (valid-laid store-valid); bytes = b.bytes }

  pub store_laid : Laid p R s (records_of p (parse p R s) (indexed (parse p R s)))
  store_laid = held-laid p R s laid-store

  pub store-lists : lists p R s ≡ records_of p (parse p R s) (indexed (parse p R s))
  store-lists = held-lists p R s laid-store

  pub store-inside : Inside p R s
  store-inside = held-inside p R s laid-store

  pub store-catalog : Catalog p R s
  store-catalog = held-catalog p R s laid-store
