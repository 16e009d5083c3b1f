-- A row in flight, filled cell by cell from a record. Assumes nothing.
use mathlib.Core.Path.{◌≡◌, refl, sym, ap, ◌∙◌}
use Prim.Native.Nat.{ℕ, zero, suc, ◌+◌, ◌*◌, ◌≤◌, ◌<◌}
use native.Mathlib.Nat.{suc-mul, zero-mul, add_comm}
use native.Mathlib.Numerals.{add-one}
use native.Mathlib.Omega.{arith}
use mathlib.Core.List.{List, [], ◌∷◌, ◌++◌, map}
use mathlib.Core.Option
use mathlib.Core.Option.{Option}
use lib.ListN.{length, length-append, take, drop}
use lib.Seq.{drop-drop}
use Rattle.values.specs.Basic.{or_default}
use Rattle.values.specs.Value.{Value, null}
use Rattle.values.specs.Cell.{name_width, cell_width, read_value}
use Rattle.values.specs.declared.value.Cell.{Cell}
use Rattle.values.specs.Meaning.{held, ProperCell}
use Rattle.areas.specs.Records.{records}
use Rattle.areas.specs.Sorted.{All}
use Rattle.areas.proofs.Records.{length-records, get_or-records}
use Rattle.rules.specs.declared.profile.Profile.{Profile}
use Rattle.rules.specs.State.{cell_at}
use Rattle.rules.specs.Layout.{read_cells}
use Rattle.laid.specs.Row.{cells_of}
use Rattle.laid.proofs.Columns.{value-front}
use Rattle.laid.proofs.Finding.{nth-map, nth-get_or}
use Rattle.journal.specs.Page.{Paging}
use Rattle.journal.specs.Turn.{RowFrom}

-- one record more is read behind the others
records-next : (w n : ℕ) (s : List ℕ) → records w (suc n) s ≡ records w n s ++ (take w (drop (n * w) s) ∷ [])
unfolding records
records-next w zero s = rw (zero-mul w)
records-next w (suc n) s =
    ap (λ (l : List (List ℕ)). take w s ∷ l) (records-next w n (drop w s)
    ∙ ap (λ (l : List ℕ). records w n (drop w s) ++ (take w l ∷ [])) (drop-drop (n * w) w s ∙ ap (λ (k : ℕ). drop k s) (add_comm w (n * w) ∙ sym (suc-mul n w))))

map_next : {A B : Type 0} (f : A → B) (xs : List A) (x : A) → map f (xs ++ (x ∷ [])) ≡ map f xs ++ (f x ∷ [])
map_next f [] x = refl
map_next f (y ∷ xs) x = ap (λ l. f y ∷ l) (map_next f xs x)

all-next : {A : Type 0} (P : A → Type 0) (xs : List A) (x : A) → All P xs → P x → All P (xs ++ (x ∷ []))
all-next P [] x h k = (k, tt)
all-next P (y ∷ xs) x h k = (h.0, all-next P xs x h.1 k)

cells-next : (w n : ℕ) (s : List ℕ) → cell_width ≤ w → read_cells w (suc n) s ≡ read_cells w n s ++ (read_value (drop (n * w) s) ∷ [])
unfolding read_cells
cells-next w n s h =
    ap (map read_value) (records-next w n s) ∙ map_next read_value (records w n s) (take w (drop (n * w) s))
    ∙ ap (λ (v : Value). map read_value (records w n s) ++ (v ∷ [])) (value-front w (drop (n * w) s) h)

pub record Filled (p : Profile) (rec : List ℕ) (row : List Cell) (j : ℕ) : Type 0 where
  pub long : length row ≡ j
  pub proper : All ProperCell row
  pub read : cells_of row ≡ read_cells p.cell j (drop name_width rec)

pub filled-start : (p : Profile) (rec : List ℕ) → Filled p rec [] 0
unfolding cells_of read_cells records
filled-start p rec = record { long = refl; proper = tt; read = refl }

module _ {p : Profile} {rec : List ℕ} {row : List Cell} {j : ℕ} (g : Paging p) (h : Filled p rec row j) where
  pub filled_next : (c : Cell) → held c ≡ read_value (drop (name_width + j * p.cell) rec) → ProperCell c → Filled p rec (row ++ (c ∷ [])) (j + 1)
  unfolding cells_of
  filled_next c e k =
      record {
        long = length-append row (c ∷ []) ∙ ap (λ (n : ℕ). n + 1) h.long;
        proper = all-next ProperCell row c h.proper k;
        read =
            map_next held row c
            ∙ ap (λ (x : List Value). x ++ (held c ∷ [])) h.read
            ∙ ap (λ (v : Value). read_cells p.cell j (drop name_width rec) ++ (v ∷ [])) (e ∙ ap read_value (sym (drop-drop (j * p.cell) name_width rec)))
            ∙ sym (ap (λ (n : ℕ). read_cells p.cell n (drop name_width rec)) (add-one j) ∙ cells-next p.cell j (drop name_width rec) g.coded.known.cell);
      }

  module _ {count : ℕ} (few : count ≤ p.columns) where
    pub filled-room : j < count → length row < 8
    filled-room l = omega (arith, h.long, g.most)

    pub filled-ends : j ≤ count → count ≤ j → RowFrom p rec count row
    filled-ends m l =
        let e : j ≡ count = omega arith in
        record {
          proper = record { most = omega (arith, h.long, g.most); proper = h.proper };
          counted = h.long ∙ e;
          cells = rw e at h.read;
        }

-- a cell of those that are read
pub cells_at : (w n i : ℕ) (s : List ℕ) → cell_width ≤ w → i < n → cell_at (read_cells w n s) i ≡ read_value (drop (i * w) s)
unfolding read_cells
cells_at w n i s h l =
    ap (λ (o : Option Value). or_default o null) (nth-map read_value (records w n s) i ∙ ap (Option.map read_value) (nth-get_or (records w n s) i [] (omega (arith, length-records w n s))))
    ∙ ap read_value (get_or-records w n i s l)
    ∙ value-front w (drop (i * w) s) h
