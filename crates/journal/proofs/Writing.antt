-- A place as it is written part by part, and its part of the journal. Assumes nothing.
use mathlib.Core.Path.{◌≡◌, refl, sym, ap, ◌∙◌}
use Prim.Native.Nat.{ℕ, suc, ◌+◌, ◌-◌, ◌*◌, ◌≤◌}
use native.Mathlib.Nat.{mul-le-mul_right, one-mul}
use native.Mathlib.Omega.{arith}
use mathlib.Core.List.{List, [], ◌∷◌, ◌++◌, append_assoc}
use lib.ListN.{length, take, drop, set, replicate, length-append, length-take, length-drop, length-set, length-replicate}
use borrow.Rule.Slice.PartMut.{put_mid}
use Rattle.values.specs.Area.{with_record}
use Rattle.values.specs.Bytes.{pad}
use Rattle.values.specs.Cell.{cell_width, name_cell, value_cell}
use Rattle.values.specs.declared.value.Text.{Text}
use Rattle.values.specs.declared.value.Value as D
use Rattle.values.specs.Meaning.{text_bytes, Packed, meaning, Proper}
use Rattle.values.proofs.Parts.{Starts, one, fill, whole}
use Rattle.areas.proofs.Places.{written_back}
use Rattle.rules.specs.declared.profile.Profile.{Profile}
use Rattle.rules.specs.Profile.{row_width, Known}
use Rattle.rules.specs.Journal.{absent}
use Rattle.rules.specs.Pages.{journal_header, event_width, event_record}
use Rattle.rules.proofs.Widths.{row-most}
use Rattle.changes.proofs.Writing.{name-long, cell-wide}
use Rattle.journal.specs.Page.{Paging}

pub width-most : (p : Profile) → Known p → event_width p ≤ 1050
unfolding event_width
width-most p k = omega (arith, row-most p k)

pub width_some : (p : Profile) → 1 ≤ event_width p
unfolding event_width
width_some p = omega arith

pub row-place : (p : Profile) (rec : List ℕ) → length rec ≡ row_width p → length (2 ∷ rec) ≡ event_width p
unfolding event_width
row-place p rec e = omega (arith, e)

-- the last part is written
fill-rest : (n a : ℕ) (front xs ys : List ℕ) → Starts n front xs → length front ≡ a → a ≤ n → length ys ≡ n - a → put_mid a (n - a) xs ys ≡ front ++ ys
fill-rest n a front xs ys s l h k =
    whole n (front ++ ys) (put_mid a (n - a) xs ys) (fill n a (n - a) front xs ys s l k (omega arith)) (length-append front ys ∙ omega (arith, l, k))

-- a row
module _ (d rec : List ℕ) (long : length d ≡ 1 + length rec) where
  pub row_written : (y : List ℕ) → y ≡ rec → put_mid 1 (length (set d 0 2) - 1) (set d 0 2) y ≡ 2 ∷ rec
  row_written y e =
      rw length-set (fill-rest (length d) 1 (2 ∷ []) (set d 0 2) y (one (length d) 2 d refl (omega arith)) refl (omega arith) (ap length e ∙ omega arith))
      ∙ ap (λ (l : List ℕ). 2 ∷ l) e

-- a name and a key's cell
module _ (p : Profile) (g : Paging p) where
  cells-room : p.columns * p.cell ≡ p.columns * p.cell - 26 + 26
  cells-room = let m = mul-le-mul_right p.cell g.coded.known.some-column in omega (arith, one-mul p.cell, g.coded.cells)

  pub width-least : 52 ≤ event_width p
  unfolding event_width row_width
  width-least = omega (arith, cells-room)

  module _ (name : Text) (key : D.Value) (hn : Packed name) (hk : Proper key) where
    pub absent-long : length (event_record p (absent (text_bytes name) (meaning key))) ≡ event_width p
    unfolding event_record event_width row_width pad
    absent-long =
        let a = name-long name hn in
        let b : length (value_cell p.cell (meaning key)) ≡ 26 = ap (λ (w : ℕ). length (value_cell w (meaning key))) g.coded.cells ∙ cell-wide key hk in
        simp (length-append, length-replicate) (omega (arith, cells-room))

    module _ (d y : List ℕ) (long : length d ≡ event_width p) (ey : y ≡ name_cell (text_bytes name)) where
      y-long : length y ≡ 25
      y-long = ap length ey ∙ name-long name hn

      named : Starts (event_width p) ((1 ∷ []) ++ y) (put_mid 1 25 (set d 0 1) y)
      named = fill (event_width p) 1 25 (1 ∷ []) (set d 0 1) y (one (event_width p) 1 d long (width_some p)) refl y-long (omega (arith, width-least))

      pub named-long : length (put_mid 1 25 (set d 0 1) y) ≡ event_width p
      named-long = named.long

      module _ (z : List ℕ) (ez : z ≡ value_cell cell_width (meaning key)) where
        z-long : length z ≡ 26
        z-long = ap length ez ∙ cell-wide key hk

        keyed : Starts (event_width p) (((1 ∷ []) ++ y) ++ z) (put_mid 26 26 (put_mid 1 25 (set d 0 1) y) z)
        keyed = fill (event_width p) 26 26 ((1 ∷ []) ++ y) (put_mid 1 25 (set d 0 1) y) z named (ap suc y-long) z-long width-least

        pub keyed-long : length (put_mid 26 26 (put_mid 1 25 (set d 0 1) y) z) ≡ event_width p
        keyed-long = keyed.long

        front_long : length (((1 ∷ []) ++ y) ++ z) ≡ 52
        front_long = length-append ((1 ∷ []) ++ y) z ∙ omega (arith, y-long, z-long)

        spare : event_width p - 52 ≡ p.columns * p.cell - length (value_cell p.cell (meaning key))
        unfolding event_width row_width
        spare =
            let b : length (value_cell p.cell (meaning key)) ≡ 26 = ap (λ (w : ℕ). length (value_cell w (meaning key))) g.coded.cells ∙ cell-wide key hk in
            omega (arith, cells-room)

        pub absent-written : (u : List ℕ) → u ≡ replicate (length (drop 52 (put_mid 26 26 (put_mid 1 25 (set d 0 1) y) z))) 0
            → put_mid 52 (length (put_mid 26 26 (put_mid 1 25 (set d 0 1) y) z) - 52) (put_mid 26 26 (put_mid 1 25 (set d 0 1) y) z) u ≡ event_record p (absent (text_bytes name) (meaning key))
        unfolding event_record pad
        absent-written u e =
            let k : length (put_mid 26 26 (put_mid 1 25 (set d 0 1) y) z) - 52 ≡ event_width p - 52 = omega (arith, keyed-long) in
            let l : length u ≡ event_width p - 52 = ap length e ∙ length-replicate _ 0 ∙ length-drop 52 _ ∙ k in
            rw k (fill-rest (event_width p) 52 (((1 ∷ []) ++ y) ++ z) _ u keyed front_long width-least l)
            ∙ append_assoc ((1 ∷ []) ++ y) z u
            ∙ ap (λ (v : List ℕ). 1 ∷ (y ++ (z ++ v))) (e ∙ ap (λ (m : ℕ). replicate m 0) (length-drop 52 _ ∙ k ∙ spare))
            ∙ rw (ey, ez, g.coded.cells)

-- ---- place i of a journal, its width as the code has it

module _ (p : Profile) (i w : ℕ) (j : List ℕ) (ew : w ≡ event_width p) (h : journal_header + i * event_width p + event_width p ≤ length j) where
  pub place_in : 3 + i * w + w ≤ length j
  place_in = rw ew h

  pub place-part : length (take (3 + i * w + w - (3 + i * w)) (drop (3 + i * w) j)) ≡ event_width p
  place-part = simp (length-take, length-drop) (omega (arith, place_in, ew))

  pub place-put : (r y : List ℕ) → length r ≡ event_width p → y ≡ r → put_mid (3 + i * w) (3 + i * w + w - (3 + i * w)) j y ≡ with_record journal_header i r j
  place-put r y l e = let f : w ≡ length r = ew ∙ sym l in rw f (written_back j y r 3 i e)
