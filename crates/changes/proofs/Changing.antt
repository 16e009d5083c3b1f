-- What the changes of a row share: what they read first of the table's record, and the place that they write the row's record at. Assumes nothing.
use Rattle.values.specs.declared.value.Cell.{Cell}
use mathlib.Core.Path.{◌≡◌, ◌∙◌}
use Prim.Native.Nat.{ℕ, ◌+◌, ◌-◌, ◌*◌, ◌^◌, ◌≤◌, ◌<◌}
use native.Mathlib.Omega.{arith}
use mathlib.Core.List.{List, []}
use lib.ListN.{length, take, drop, get_or}
use Rattle.values.specs.Cell.{read_name}
use Rattle.values.specs.declared.value.Text.{Text}
use Rattle.values.specs.declared.value.Value as D
use Rattle.values.specs.Meaning.{text_bytes, Packed}
use Rattle.rules.specs.declared.profile.Profile.{Profile}
use Rattle.rules.specs.Profile.{row_width}
use Rattle.rules.specs.State as S
use Rattle.rules.specs.State.{Table}
use Rattle.rules.specs.Layout.{lists, parse}
use Rattle.rules.proofs.Widths.{store-in-four}
use Rattle.laid.specs.Row.{ProperRow, table_in}
use Rattle.laid.specs.Store.{Coded, Inside, LaidStore}
use Rattle.laid.proofs.Stores.{held-inside}
use Rattle.laid.proofs.RowFacts.{RowFacts, start-table, start-least, start-name, start-key, start-count}

-- ---- the table's record at the start

-- what is read of it: the name and the key column
pub record Begun (p : Profile) (R : ℕ) (s : List ℕ) (t : ℕ) (name : Text) (column : ℕ) : Type 0 where
  pub held : LaidStore p R s
  pub known : t < length (parse p R s).tables
  pub named : text_bytes name ≡ (table_in p R s t).name
  pub packed : Packed name
  pub key : column ≡ (table_in p R s t).key

module _ {p : Profile} {R : ℕ} {s : List ℕ} {t : ℕ} (b : LaidStore p R s) (known : t < length (parse p R s).tables) where
  pub record-asked : Inside p R s × (t < length (lists p R s).schemas)
  record-asked = (held-inside p R s b, start-table p R s b t known)

  module _ {rec : List ℕ} (er : rec ≡ get_or (lists p R s).schemas t []) where
    pub record-least : 27 ≤ length rec
    record-least = start-least p R s b t known rec er

    pub record-count : {count : ℕ} → count ≡ get_or rec 26 0 → count ≡ length (table_in p R s t).columns
    record-count e = e ∙ start-count p R s b t known rec er

    pub begun : {name : Text} → (text_bytes name ≡ read_name rec) × Packed name → {column : ℕ} → column ≡ get_or rec 25 0 → Begun p R s t name column
    begun n k =
        record {
          held = b;
          known = known;
          named = n.0 ∙ start-name p R s b t known rec er;
          packed = n.1;
          key = k ∙ start-key p R s b t known rec er;
        }

-- ---- the place of a row's record, in a buffer as long as the store

pub record Place (p : Profile) (s₀ s : List ℕ) (from w i : ℕ) : Type 0 where
  pub small : from + i * w + w < 2 ^ 32
  pub inside : from + i * w + w ≤ length s
  pub part : length (take (from + i * w + w - (from + i * w)) (drop (from + i * w) s)) ≡ row_width p

pub place_of : {p : Profile} {R : ℕ} {s₀ s : List ℕ} {from w i : ℕ} → LaidStore p R s₀ → from + i * w + w ≤ length s
    → length (take (from + i * w + w - (from + i * w)) (drop (from + i * w) s)) ≡ row_width p → length s ≡ length s₀ → Place p s₀ s from w i
place_of {p} {R} {s₀} b h part kept =
    record {
      small = omega (arith, (held-inside p R s₀ b).long, store-in-four p b.coded.known R b.places);
      inside = h;
      part = part;
    }

-- what the row's writing asks
pub write-asked : {p : Profile} {R : ℕ} {T : Table} {r : S.Row} {name : Text} {row : List Cell} {key : D.Value} → RowFacts p R T r name (length row) key → ProperRow row
    → {s₀ s : List ℕ} {from w i : ℕ} → Place p s₀ s from w i
    → Coded p × (length (take (from + i * w + w - (from + i * w)) (drop (from + i * w) s)) ≡ row_width p) × Packed name × ProperRow row × (length row ≤ p.columns)
write-asked f pr q = (f.coded, q.part, f.packed, pr, omega (arith, f.full, f.good-row.few))
