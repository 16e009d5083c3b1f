-- Which bytes are a place of a journal, and which an open journal, piece by piece. Assumes nothing.
use Prim.Native.Nat.{ℕ, ◌+◌, ◌-◌, ◌*◌, ◌≤◌}
use native.Mathlib.Nat.{mul-le-mul, le_refl}
use native.Mathlib.Omega.{arith}
use mathlib.Core.Path.{◌≡◌, refl, sym, ap, ◌∙◌}
use mathlib.Core.Bool.{Bool, true, false, ◌&&◌, cond}
use mathlib.Core.List.{List, [], ◌∷◌, ◌++◌, map, append-nil}
use mathlib.Core.Option.{Option, none, some}
use lib.Dec.{eqb}
use lib.ListN.{length, get_or, take, drop, replicate, length-drop, length-map}
use lib.Seq.{drop-drop}
use borrow.Author.Tests.{eq-eqb, eqb-true}
use Rattle.values.specs.Basic.{is_some, or_default}
use Rattle.values.specs.Bytes.{leqb, zeros, pad, be, Bytes}
use Rattle.values.specs.Value.{Value}
use Rattle.values.specs.Cell.{name_cell, read_name, is_name_cell, value_cell, read_value, is_cell}
use Rattle.values.proofs.Scans.{leqb-refl}
use Rattle.values.proofs.Packing.{drop-bytes}
use Rattle.areas.specs.Records.{joined, area, filled}
use Rattle.areas.specs.Counted.{framed, count_at}
use Rattle.areas.specs.Sorted.{In}
use Rattle.areas.proofs.Records.{length-records}
use Rattle.areas.proofs.Counting.{be-long}
use Rattle.areas.proofs.Sorting.{find-in}
use Rattle.rules.specs.declared.profile.Profile.{Profile}
use Rattle.rules.specs.Profile.{row_width}
use Rattle.rules.specs.State.{Name, Table, is_named, table_named}
use Rattle.rules.specs.Journal.{absent, stood}
use Rattle.rules.specs.Layout.{row_record, read_row, unknown}
use Rattle.rules.specs.Sound.{all, every, good_name, good_event}
use Rattle.rules.specs.Pages.{used_at, event_width, journal_length, event_record, read_event, open_image}
use Rattle.rules.proofs.Trip.{GoodRow, row-long}
use Rattle.rules.proofs.Paged.{nothing, event-long}
use Rattle.laid.specs.Store.{Coded}
use Rattle.sound.specs.Tested.{is_row}
use Rattle.sound.specs.Journal.{is_event, is_absent, pages_in}
use Rattle.laid.proofs.Columns.{rest, rest-length}
use Rattle.sound.proofs.Walks.{row_is}
use Rattle.sound.proofs.Pieces.{leqb-append, leqb-cons, zeros-piece, name-piece, value-piece, name-long, value-long, good-read-name, canonical-read, joined-long, joined-piece}
use Rattle.sound.proofs.RecordPieces.{and_same}
use Rattle.sound.proofs.RowPieces.{row-name, cells-long, cells-canonical}
use Rattle.sound.proofs.LaidOut.{counted_back, less-times}

place-tests : (e n c z t : Bool) → ((e && (n && (c && z))) && all (t ∷ true ∷ [])) ≡ all (e ∷ n ∷ c ∷ z ∷ t ∷ [])
unfolding all
place-tests true true true true t = refl
place-tests true true true false t = refl
place-tests true true false z t = refl
place-tests true false c z t = refl
place-tests false n c z t = refl

-- ---- a place

module _ (p : Profile) (ts : List Table) (k : Coded p) (r : List ℕ) (b : Bytes r) (l : length r ≡ event_width p) where
  place-wide : length r ≡ 26 + p.columns * 26
  unfolding event_width row_width
  place-wide = l ∙ omega (arith, ap (λ (c : ℕ). p.columns * c) k.cells)

  one_cell : 1 * 26 ≤ p.columns * 26
  one_cell = mul-le-mul k.known.some-column (le_refl 26)

  pub place-least : 52 ≤ length r
  place-least = omega (arith, place-wide, one_cell)

  -- a row stood there
  pub event-row : eqb (get_or r 0 0) 2 ≡ true → is_event p ts r ≡ is_row p ts (drop 1 r)
  unfolding is_event read_event event_record good_event is_row all
  event-row h =
      let x = read_row p ts (drop 1 r) in
      rw h
      (ap (λ (q : Bool). q && good_event ts (stood x))
      (leqb-cons 2 (row_record p x) r (omega (arith, place-least)) ∙ ap (λ (q : Bool). q && leqb (row_record p x) (drop 1 r)) (eq-eqb 2 (get_or r 0 0) (sym (eqb-true (get_or r 0 0) 2 h)))))

  -- nothing did
  key-piece : leqb (pad (p.columns * 26) (value_cell 26 (read_value (drop 26 r)))) (drop 26 r) ≡ (is_cell (take 26 (drop 26 r)) && zeros (drop 52 r))
  unfolding pad
  key-piece =
      let v : Value = read_value (drop 26 r) in
      let n : length (value_cell 26 v) ≡ 26 = value-long (drop 26 r) (drop-bytes 26 r b) in
      let m : length (drop 26 r) ≡ p.columns * 26 = simp length-drop (omega (arith, place-wide)) in
      leqb-append (value_cell 26 v) (replicate (p.columns * 26 - length (value_cell 26 v)) 0) (drop 26 r) 26 n (omega (arith, m, one_cell))
      ∙ and_same (value-piece (drop 26 r) (omega (arith, m, one_cell)))
      (zeros-piece (p.columns * 26 - length (value_cell 26 v)) (drop 26 (drop 26 r)) (length-drop 26 (drop 26 r) ∙ omega (arith, m, n))
      ∙ ap zeros (drop-drop 26 26 r))

  pub event-absent : eqb (get_or r 0 0) 2 ≡ false → is_event p ts r ≡ is_absent ts r
  unfolding is_event read_event event_record good_event is_absent
  event-absent h =
      let n : Name = read_name (drop 1 r) in
      let v : Value = read_value (drop 26 r) in
      let tail : List ℕ = pad (p.columns * 26) (value_cell 26 v) in
      let rest : length (drop 1 r) ≡ 25 + p.columns * 26 = simp length-drop (omega (arith, place-wide)) in
      rw (h, k.cells, canonical-read (drop 26 r) (drop-bytes 26 r b))
      (ap (λ (q : Bool). q && all (is_some (table_named ts n) ∷ true ∷ []))
      (leqb-cons 1 (name_cell n ++ tail) r (omega (arith, place-least))
      ∙ ap (λ (q : Bool). eqb 1 (get_or r 0 0) && q)
      (leqb-append (name_cell n) tail (drop 1 r) 25 (name-long (drop 1 r)) (omega (arith, rest))
      ∙ and_same (name-piece (drop 1 r)) (ap (leqb tail) (drop-drop 25 1 r) ∙ key-piece)))
      ∙ place-tests (eqb 1 (get_or r 0 0)) (is_name_cell (take 25 (drop 1 r))) (is_cell (take 26 (drop 26 r))) (zeros (drop 52 r)) (is_some (table_named ts n)))

-- a row stood there, or nothing did
pub event_is : (p : Profile) (ts : List Table) (r : List ℕ) → Coded p → Bytes r → length r ≡ event_width p → is_event p ts r ≡ cond (eqb (get_or r 0 0) 2) (is_row p ts (drop 1 r)) (is_absent ts r)
event_is p ts r k b l = on (eqb (get_or r 0 0) 2) refl
  where
    on : (q : Bool) → eqb (get_or r 0 0) 2 ≡ q → is_event p ts r ≡ cond q (is_row p ts (drop 1 r)) (is_absent ts r)
    on true e = event-row p ts k r b l e
    on false e = event-absent p ts k r b l e

pub wide_is : (p : Profile) → p.cell ≡ 26 → event_width p ≡ 26 + p.columns * 26
unfolding event_width row_width
wide_is p e = rw e (omega arith)

pub ruleset places = (event_is, wide_is, row_is, rest, rest-length)

-- ---- an open journal

module _ (p : Profile) (ts : List Table) (k : Coded p) (few : (t : Table) → In t ts → length t.columns ≤ p.columns) where
  few-read : (n : Name) (o : Option Table) → table_named ts n ≡ o → length (or_default o (unknown n)).columns ≤ p.columns
  few-read n none e = omega arith
  few-read n (some t) e = few t (find-in (is_named n) ts t e).0

  -- any bytes are read as a row that fits a record
  read-good : (c : List ℕ) → Bytes c → GoodRow p (read_row p ts c)
  unfolding read_row
  read-good c h =
      let n : ℕ = length (or_default (table_named ts (read_name c)) (unknown (read_name c))).columns in
      let m : n ≤ p.columns = few-read (read_name c) (table_named ts (read_name c)) refl in
      record {
        name = ap good_name (row-name p ts c) ∙ good-read-name c h;
        cells = rw k.cells (cells-canonical n c h);
        few = rw k.cells (omega (arith, cells-long n c, m));
      }

  pub event-wide : (c : List ℕ) → Bytes c → length (event_record p (read_event p ts c)) ≡ event_width p
  unfolding read_event event_record event_width
  event-wide c h = go (eqb (get_or c 0 0) 2)
    where
      go : (q : Bool) → length (event_record p (cond q (stood (read_row p ts (drop 1 c))) (absent (read_name (drop 1 c)) (read_value (drop 26 c))))) ≡ event_width p
      go true = omega (arith, row-long p k.known.cell (read_row p ts (drop 1 c)) (read-good (drop 1 c) (drop-bytes 1 c h)))
      go false =
          event-long p k.known.cell k.known.some-column ts (absent (read_name (drop 1 c)) (read_value (drop 26 c)))
          (nothing (read_name (drop 1 c)) (read_value (drop 26 c)) (good-read-name (drop 1 c) (drop-bytes 1 c h)) (canonical-read (drop 26 c) (drop-bytes 26 c h)))

  module _ (j : List ℕ) (b : Bytes j) (J : ℕ) (long : length j ≡ journal_length p J) where
    abbrev n : ℕ
    n = count_at used_at 2 j

    abbrev w : ℕ
    w = event_width p

    abbrev rs : List (List ℕ)
    rs = map (event_record p) (map (read_event p ts) (pages_in p j))

    journal-wide : length j ≡ 3 + J * event_width p
    unfolding journal_length
    journal-wide = long

    pub places-many : length (map (read_event p ts) (pages_in p j)) ≡ count_at used_at 2 j
    unfolding pages_in
    places-many = length-map (pages_in p j) (read_event p ts) ∙ length-records w n (drop 3 j)

    pub journal-piece : count_at used_at 2 j ≤ J → leqb (open_image p J (map (read_event p ts) (pages_in p j))) j
        ≡ (eqb 1 (get_or j 0 0) && (every (λ c. leqb (event_record p (read_event p ts c)) c) (pages_in p j) && zeros (drop (3 + count_at used_at 2 j * event_width p) j)))
    unfolding open_image framed filled area pages_in count_at
    journal-piece h =
        let m : length rs ≡ n = length-map (map (read_event p ts) (pages_in p j)) (event_record p) ∙ places-many in
        let q : n * w ≤ J * w = mul-le-mul h (le_refl w) in
        let g : length (drop 3 j) ≡ J * w = simp length-drop (omega (arith, journal-wide)) in
        let z : List ℕ = replicate ((J - length rs) * w) 0 in
        let o : length (joined rs) ≡ n * w = joined-long w (read_event p ts) (event_record p) event-wide n (drop 3 j) (drop-bytes 3 j b) in
        leqb-cons 1 (be 2 (length rs) [] ++ ((joined rs ++ z) ++ [])) j (omega (arith, journal-wide))
        ∙ ap (λ (x : Bool). eqb 1 (get_or j 0 0) && x)
        (leqb-append (be 2 (length rs) []) ((joined rs ++ z) ++ []) (drop 1 j) 2 (be-long 2 (length rs)) (simp length-drop (omega (arith, journal-wide)))
        ∙ and_same
        (ap (λ (x : List ℕ). leqb x (take 2 (drop 1 j))) (ap (λ (x : ℕ). be 2 x []) m ∙ counted_back j 1 2 b (omega (arith, journal-wide))) ∙ leqb-refl (take 2 (drop 1 j)))
        (ap (λ (x : List ℕ). leqb x (drop 2 (drop 1 j))) (append-nil (joined rs ++ z))
        ∙ ap (leqb (joined rs ++ z)) (drop-drop 2 1 j)
        ∙ leqb-append (joined rs) z (drop 3 j) (n * w) o (omega (arith, g, q))
        ∙ and_same (joined-piece w (read_event p ts) (event_record p) event-wide n (drop 3 j) (drop-bytes 3 j b) (omega (arith, g, q)))
        (zeros-piece ((J - length rs) * w) (drop (n * w) (drop 3 j))
        (length-drop (n * w) (drop 3 j) ∙ ap (λ (x : ℕ). x - n * w) g ∙ less-times J n w h ∙ ap (λ (x : ℕ). (J - x) * w) (sym m))
        ∙ ap zeros (drop-drop (n * w) 3 j))))
