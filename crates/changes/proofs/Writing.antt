-- An index entry and a row as they are written part by part. Assumes nothing.
use mathlib.Core.Path.{◌≡◌, refl, sym, ap, ◌∙◌}
use Prim.Native.Nat.{ℕ, zero, suc, ◌+◌, ◌-◌, ◌*◌, ◌≤◌, ◌<◌}
use native.Mathlib.Nat.{add-sub_cancel_left, zero-mul, suc-mul}
use native.Mathlib.Numerals.{add-one}
use native.Mathlib.Omega.{arith}
use mathlib.Core.List.{List, [], ◌∷◌, ◌++◌, map, append_assoc, append-nil}
use lib.ListN.{length, take, drop, set, get_or, length-append, length-drop, length-map, drop_of_length-le, take-append-drop}
use lib.Seq.{take-suc, take_all, take_at, length-take-le, drop-drop}
use Rattle.values.proofs.Shifts.{drop_past}
use borrow.Rule.Slice.PartMut.{put_mid}
use Rattle.values.specs.Cell.{name_width, cell_width, name_cell, value_cell}
use Rattle.areas.specs.Records.{joined, Wide}
use Rattle.areas.specs.Sorted.{All}
use Rattle.values.specs.declared.value.Text.{Text}
use Rattle.values.specs.declared.value.Cell.{Cell}
use Rattle.values.specs.declared.value.Value as D
use Rattle.values.specs.declared.value.Value.TheVariants.{Null}
use Rattle.values.specs.Meaning.{text_bytes, Packed, meaning, Proper, held, ProperCell}
use Rattle.values.proofs.Packing.{text-long}
use Rattle.values.proofs.Cells.{length-name, length-value, proper-storable}
use Rattle.areas.proofs.Records.{length-joined}
use Rattle.areas.proofs.Nest.{put_next, set_next}
use Rattle.laid.specs.Row.{cells_of}
use Rattle.laid.specs.Entered.{entry_of, ProperEntry, entry_bytes, row_bytes}

pub name-long : (t : Text) → Packed t → length (name_cell (text_bytes t)) ≡ name_width
name-long t h = length-name (text_bytes t) (omega (arith, text-long t h, h.short))

pub cell-wide : (v : D.Value) → Proper v → length (value_cell cell_width (meaning v)) ≡ cell_width
cell-wide v h = length-value cell_width (meaning v) (proper-storable v h)

-- ---- an entry: the name, the column, the value, the key

module _ (d y : List ℕ) (name : Text) (column : ℕ) (v k : D.Value) (h : ProperEntry name v k) (long : length d ≡ 78) (ey : y ≡ name_cell (text_bytes name)) where
  ly : length y ≡ 25
  ly = ap length ey ∙ name-long name h.name

  numbered : set (y ++ drop 25 d) 25 column ≡ (y ++ (column ∷ [])) ++ drop 26 d
  numbered = set_next 25 column y d ly (omega arith)

  module _ (ya : List ℕ) (ea : ya ≡ value_cell cell_width (meaning v)) where
    la : length ya ≡ 26
    la = ap length ea ∙ cell-wide v h.value

    valued : put_mid 26 26 (set (y ++ drop 25 d) 25 column) ya ≡ ((y ++ (column ∷ [])) ++ ya) ++ drop 52 d
    valued = ap (λ (l : List ℕ). put_mid 26 26 l ya) numbered ∙ put_next 26 26 (y ++ (column ∷ [])) d ya (simp length-append (omega (arith, ly)))

    pub entry-written : (yb : List ℕ) → yb ≡ value_cell cell_width (meaning k) → put_mid 52 26 (put_mid 26 26 (set (y ++ drop 25 d) 25 column) ya) yb ≡ entry_bytes (entry_of name column v k)
    unfolding entry_bytes
    entry-written yb eb =
        let e : drop 78 d ≡ [] = drop_of_length-le d {i = 78} (omega (arith, long)) in
        ap (λ (l : List ℕ). put_mid 52 26 l yb) valued
        ∙ put_next 52 26 ((y ++ (column ∷ [])) ++ ya) d yb (simp length-append (omega (arith, ly, la)))
        ∙ ap (λ (l : List ℕ). (((y ++ (column ∷ [])) ++ ya) ++ yb) ++ l) e
        ∙ append-nil (((y ++ (column ∷ [])) ++ ya) ++ yb)
        ∙ append_assoc (y ++ (column ∷ [])) ya yb
        ∙ append_assoc y (column ∷ []) (ya ++ yb)
        ∙ rw (ey, ea, eb)

pub entry-long : (name : Text) (column : ℕ) (v k : D.Value) → ProperEntry name v k → length (entry_bytes (entry_of name column v k)) ≡ 78
unfolding entry_bytes
entry-long name column v k h = simp length-append (omega (arith, name-long name h.name, cell-wide v h.value, cell-wide k h.key))

-- ---- a row: the name, and the first j cells

abbrev pub cell_bytes : Cell → List ℕ
cell_bytes c = value_cell cell_width (held c)

cells_wide : (cs : List Cell) → All ProperCell cs → Wide cell_width (map cell_bytes cs)
unfolding Wide
cells_wide [] h = tt
cells_wide (c ∷ cs) h = (cell-wide c.value h.0, cells_wide cs h.1)

all_take : {A : Type 0} (P : A → Type 0) (j : ℕ) (xs : List A) → All P xs → All P (take j xs)
all_take P zero xs a = tt
all_take P (suc j) [] a = tt
all_take P (suc j) (x ∷ xs) a = (a.0, all_take P j xs a.1)

joined-next : (cs : List Cell) (c : Cell) → joined (map cell_bytes (cs ++ (c ∷ []))) ≡ joined (map cell_bytes cs) ++ cell_bytes c
unfolding joined
joined-next [] c = append-nil (cell_bytes c)
joined-next (x ∷ cs) c =
    ap (λ (l : List ℕ). cell_bytes x ++ l) (joined-next cs c) ∙ sym (append_assoc (cell_bytes x) (joined (map cell_bytes cs)) (cell_bytes c))

cells-held : (cs : List Cell) → map (value_cell cell_width) (map held cs) ≡ map cell_bytes cs
cells-held [] = refl
cells-held (c ∷ cs) = ap (λ (l : List (List ℕ)). cell_bytes c ∷ l) (cells-held cs)

unfoldable pub row_so_far : List ℕ → List Cell → ℕ → ℕ → List ℕ
row_so_far d cs w j = (take 25 d ++ joined (map cell_bytes (take j cs))) ++ drop (25 + j * w) d

pub row-start : (d : List ℕ) (cs : List Cell) (w : ℕ) → d ≡ row_so_far d cs w 0
unfolding row_so_far joined
row-start d cs w = sym (rw (zero-mul w) (ap (λ (l : List ℕ). l ++ drop 25 d) (append-nil (take 25 d)) ∙ take-append-drop 25 d))

module _ (d : List ℕ) (cs : List Cell) (w : ℕ) (ew : w ≡ 26) (proper : All ProperCell cs) (room : 25 ≤ length d) where
  front_long : (j : ℕ) → j ≤ length cs → length (take 25 d ++ joined (map cell_bytes (take j cs))) ≡ 25 + j * w
  front_long j h =
      let a : length (take 25 d) ≡ 25 = length-take-le 25 d (omega (arith, room)) in
      let t : length (take j cs) ≡ j = length-take-le j cs h in
      let b : length (joined (map cell_bytes (take j cs))) ≡ j * w =
      length-joined 26 (map cell_bytes (take j cs)) (cells_wide (take j cs) (all_take ProperCell j cs proper))
      ∙ ap (λ (m : ℕ). m * 26) (length-map (take j cs) cell_bytes ∙ t)
      ∙ ap (λ (m : ℕ). j * m) (sym ew)
      in
      length-append (take 25 d) (joined (map cell_bytes (take j cs))) ∙ omega (arith, a, b)

  pub row_next : (j : ℕ) (y : List ℕ) → j < length cs → y ≡ cell_bytes (get_or cs j (record { value = Null }))
      → put_mid (25 + j * w) (25 + j * w + 26 - (25 + j * w)) (row_so_far d cs w j) y ≡ row_so_far d cs w (j + 1)
  unfolding row_so_far
  row_next j y h ey =
      let p : List ℕ = take 25 d ++ joined (map cell_bytes (take j cs)) in
      let e : 25 + j * w + 26 ≡ 25 + (j + 1) * w = omega (arith, ap (λ (m : ℕ). m * w) (add-one j) ∙ suc-mul j w, ew) in
      let f : p ++ y ≡ take 25 d ++ joined (map cell_bytes (take (j + 1) cs)) =
      append_assoc (take 25 d) (joined (map cell_bytes (take j cs))) y
      ∙ ap (λ (l : List ℕ). take 25 d ++ l)
      (ap (λ (l : List ℕ). joined (map cell_bytes (take j cs)) ++ l) ey
      ∙ sym (joined-next (take j cs) (get_or cs j (record { value = Null })))
      ∙ sym (ap (λ (l : List Cell). joined (map cell_bytes l)) (ap (λ (m : ℕ). take m cs) (add-one j) ∙ take-suc cs j (record { value = Null }) h)))
      in
      ap (λ (m : ℕ). put_mid (25 + j * w) m (p ++ drop (25 + j * w) d) y) (add-sub_cancel_left (25 + j * w) 26)
      ∙ put_next (25 + j * w) 26 p d y (front_long j (omega arith))
      ∙ ap (λ (l : List ℕ). l ++ drop (25 + j * w + 26) d) f
      ∙ ap (λ (m : ℕ). (take 25 d ++ joined (map cell_bytes (take (j + 1) cs))) ++ drop m d) e

-- the name was written first
module _ (d₀ y : List ℕ) (name : Text) (h : Packed name) (ey : y ≡ name_cell (text_bytes name)) where
  y-long : length y ≡ 25
  y-long = ap length ey ∙ name-long name h

  pub lead-long : 25 ≤ length d₀ → length (y ++ drop 25 d₀) ≡ length d₀
  lead-long l = length-append y (drop 25 d₀) ∙ omega (arith, y-long, length-drop 25 d₀)

  pub named-long : 25 ≤ length d₀ → length (put_mid 0 25 d₀ y) ≡ length d₀
  named-long l = ap length (put_next 0 25 [] d₀ y refl) ∙ lead-long l

  pub row_written : (r : List Cell) (w : ℕ) → w ≡ 26 → row_so_far (y ++ drop 25 d₀) r w (length r) ≡ row_bytes (text_bytes name) (cells_of r) ++ drop (25 + length r * 26) d₀
  unfolding row_so_far row_bytes cells_of
  row_written r w ew =
      let a : take 25 (y ++ drop 25 d₀) ≡ name_cell (text_bytes name) = take_at y (drop 25 d₀) 25 y-long ∙ ey in
      let b : drop (25 + length r * w) (y ++ drop 25 d₀) ≡ drop (25 + length r * 26) d₀ =
      drop_past y (drop 25 d₀) 25 (length r * w) y-long ∙ drop-drop (length r * w) 25 d₀
      ∙ ap (λ (m : ℕ). drop (25 + length r * m) d₀) ew
      in
      rw (a, b, take_all (length r) r (omega arith), cells-held r)
