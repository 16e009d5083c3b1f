-- A row's index entries searched in the index, as the code asks them. Assumes nothing.
use mathlib.Core.Path.{◌≡◌, refl, sym, ap, ◌∙◌, subst}
use mathlib.Core.Bool.{Bool, false, ◌&&◌}
use Prim.Native.Nat.{ℕ, suc, ◌+◌, ◌-◌, ◌*◌, ◌≤◌, ◌<◌, Ordering}
use native.Mathlib.Omega.{arith}
use mathlib.Core.List.{List, [], map}
use mathlib.Core.Option
use mathlib.Core.Option.{Option, none, some}
use lib.Dec.{compare_is_eq, eqb}
use lib.ListN.{length, get_or, take, drop, length-map}
use Rattle.values.specs.Basic.{is_lt, nth, maybe, or_default}
use Rattle.values.specs.Value.{Value, null, normalised, cmp_value}
use Rattle.values.specs.Cell.{read_name, read_value}
use Rattle.areas.specs.Records.{records}
use Rattle.areas.specs.Search.{cmp_named, cmp_content, cmp_entered, SearchIn}
use Rattle.areas.specs.Sorted.{Sorted, count_of}
use Rattle.areas.specs.Counted.{count_at}
use Rattle.values.proofs.Cells.{read-normal, normalised-twice}
use Rattle.rules.specs.declared.profile.Profile.{Profile}
use Rattle.rules.specs.State.{Name, Column, cell_at}
use Rattle.rules.specs.Index.{Entry, cmp_entry, entry_at}
use Rattle.rules.specs.Layout.{Entries, count_place, count_width, area_at, record_width, lists, parse, read_row, read_table, read_entry}
use Rattle.rules.proofs.Tests.{sorted-is}
use Rattle.rules.proofs.Index.{ord_entry}
use Rattle.laid.specs.Store.{Coded, Inside}
use Rattle.rules.specs.Sound.{every_cell}
use Rattle.laid.specs.Column.{column_at}
use Rattle.laid.specs.Entered.{entries_in}
use Rattle.sound.specs.Tested.{Here, Filed, cells_in, in_group, alike, stands, followed, entered_as, entered_cell}
use Rattle.laid.proofs.Inside.{area-count}
use Rattle.laid.proofs.Finding.{nth-map, nth-get_or, nth_past}
use Rattle.laid.proofs.Columns.{value-front}
use Rattle.sound.proofs.Asking.{entries-read}
use Rattle.sound.proofs.RowPieces.{row-name, row-cells, key-read, cell-read}
use Rattle.sound.proofs.Rowing.{rest_read}
use Rattle.sound.proofs.Walks.{entry_is, count_byte, cells_turn}
use Rattle.sound.proofs.Placed.{searched, ranked, place-past, place_here}

-- ---- the same table, column and value

pub group_is : (p : Profile) (rec : List ℕ) (n : Name) (i : ℕ) (v : Value)
    → in_group n i v (read_entry p rec) ≡ (compare_is_eq (cmp_named rec n) && (eqb (get_or rec 25 0) i && compare_is_eq (cmp_value (read_value (take 26 (drop 26 rec))) v)))
unfolding cmp_named read_entry
group_is p rec n i v = rw (value-front 26 (drop 26 rec) (omega arith)) refl

pub ruleset grouped = (entry_is, group_is)

-- ---- an entry searched

module _ (p : Profile) (R : ℕ) (s : List ℕ) (d : Filed p R s) (e : Entry) where
  abbrev ins : Inside p R s
  ins = d.tabled.schemed.catalog.inside

  abbrev es : List Entry
  es = entries_in p R s

  -- a record beside the entry, as the code compares them
  abbrev besides : List ℕ → Ordering
  besides r = cmp_entered 26 r e.table e.column e.value e.key

  srt : Sorted cmp_entry (map (read_entry p) (lists p R s).entries)
  srt = subst (Sorted cmp_entry) (entries-read p R s) (sorted-is cmp_entry es d.sorted)

  entered-same : (r : List ℕ) → besides r ≡ cmp_entry (read_entry p r) e
  unfolding cmp_entered cmp_content cmp_named cmp_entry read_entry
  entered-same r = rw ins.coded.cells

  module _ (from w n : ℕ) (ef : from ≡ area_at p R Entries) (ew : w ≡ record_width p Entries) (en : n ≡ count_at (count_place Entries) (count_width Entries) s) where
    pub entries-searched : SearchIn (λ r. is_lt (besides r)) (take (length s - from) (drop from s)) n w
    entries-searched = searched ord_entry p R s ins Entries (read_entry p) e besides entered-same srt from w n ef ew en

    module _ (i : ℕ) (ei : i ≡ count_of (λ r. is_lt (besides r)) (records w n (take (length s - from) (drop from s)))) where
      many : length es ≡ n
      many = ap length (entries-read p R s) ∙ length-map (lists p R s).entries (read_entry p) ∙ area-count p R s Entries ∙ sym en

      placed : i ≡ count_of (λ x. is_lt (cmp_entry x e)) es
      placed = ranked ord_entry p R s ins Entries (read_entry p) e besides entered-same srt from w n ef ew en i ei ∙ ap (count_of (λ x. is_lt (cmp_entry x e))) (sym (entries-read p R s))

      pub entry_past : n ≤ i → stands es e ≡ false
      unfolding stands
      entry_past l = ap (λ (l : List Entry). stands l e) (entries-read p R s) ∙ place-past ord_entry p R s ins Entries (read_entry p) e besides entered-same srt from w n ef ew en i ei l

      pub entry_here : i < n → (r : List ℕ) → r ≡ get_or (lists p R s).entries i [] → (o : Ordering) → o ≡ besides r → stands es e ≡ compare_is_eq o
      unfolding stands
      entry_here l r er o eo = ap (λ (l : List Entry). stands l e) (entries-read p R s) ∙ place_here ord_entry p R s ins Entries (read_entry p) e besides entered-same srt from w n ef ew en i ei l r er o eo

      pub entry_last : n ≤ i + 1 → followed es e ≡ false
      unfolding followed maybe
      entry_last k =
          let q : nth es (suc (count_of (λ x. is_lt (cmp_entry x e)) es)) ≡ none = nth_past es _ (omega (arith, placed, many)) in
          ap (λ (x : Option Entry). maybe x false (alike e)) q

      pub entry_next : i + 1 < n → (y : List ℕ) → y ≡ get_or (lists p R s).entries (i + 1) [] → followed es e ≡ alike e (read_entry p y)
      unfolding followed maybe
      entry_next k y ey =
          let j : suc (count_of (λ x. is_lt (cmp_entry x e)) es) ≡ i + 1 = omega (arith, placed) in
          let q : nth es (i + 1) ≡ some (read_entry p y) =
          ap (λ (l : List Entry). nth l (i + 1)) (entries-read p R s) ∙ nth-map (read_entry p) (lists p R s).entries (i + 1)
          ∙ ap (Option.map (read_entry p)) (nth-get_or (lists p R s).entries (i + 1) [] (omega (arith, area-count p R s Entries, k, en)))
          ∙ ap (λ (l : List ℕ). some (read_entry p l)) (sym ey)
          in
          ap (λ (x : Option Entry). maybe x false (alike e)) (ap (nth es) j ∙ q)

-- ---- a cell

-- the code's entry is the row's
module _ (p : Profile) (R : ℕ) (s row rec : List ℕ) (k : Coded p) (h : Here p R s (read_name row) rec) (n : Name) (en : n ≡ read_name row) (at : ℕ) (ea : at ≡ 25 + (read_table p rec).key * 26)
    (key : Value) (ek : key ≡ read_value (take (length row - at) (drop at row))) (i : ℕ) (l : i < length (read_table p rec).columns) (v : Value) (ev : v ≡ read_value (drop (25 + i * 26) row)) where
  same-entry : ◌≡◌ {A = Entry} (record { table = n; column = i; value = v; key = key }) (entry_at (read_row p (parse p R s).tables row) i)
  same-entry =
      let ts = (parse p R s).tables in
      let t = read_table p rec in
      let c1 : n ≡ (read_row p ts row).table = en ∙ sym (row-name p ts row) in
      let q : cell_at (read_row p ts row).cells i ≡ read_value (drop (25 + i * 26) row) =
      ap (λ (vs : List Value). cell_at vs i) (row-cells p ts row k t h.named) ∙ ap (λ (x : Option Value). or_default x null) (cell-read (length t.columns) row i l)
      in
      let c2 : v ≡ normalised (cell_at (read_row p ts row).cells i) = ev ∙ sym (read-normal (drop (25 + i * 26) row)) ∙ ap normalised (sym q) in
      let x : key ≡ read_value (drop (25 + t.key * 26) row) = rest_read row at key ek ∙ ap (λ (j : ℕ). read_value (drop j row)) ea in
      let c3 : key ≡ normalised (read_row p ts row).key =
      x ∙ sym (read-normal (drop (25 + t.key * 26) row)) ∙ sym (normalised-twice (read_value (drop (25 + t.key * 26) row))) ∙ ap normalised (sym (key-read p ts row k t h.named h.keyed))
      in
      rw (c1, c2, c3)

  entered-cell-is : (es : List Entry) (c : Column) (b : Bool) → b ≡ entered_as es c v (record { table = n; column = i; value = v; key = key })
      → b ≡ entered_cell es (read_row p (parse p R s).tables row) i c v
  unfolding entered_cell
  entered-cell-is es c b e = e ∙ ap (entered_as es c v) same-entry

  pub entered_turn : (es : List Entry) (c : Column) → c ≡ column_at p rec i → (x : Bool) → x ≡ entered_as es c v (record { table = n; column = i; value = v; key = key })
      → every_cell (entered_cell es (read_row p (parse p R s).tables row)) i (drop i (read_table p rec).columns) (drop i (cells_in (length (read_table p rec).columns) row))
      ≡ (x && every_cell (entered_cell es (read_row p (parse p R s).tables row)) (i + 1) (drop (i + 1) (read_table p rec).columns) (drop (i + 1) (cells_in (length (read_table p rec).columns) row)))
  entered_turn es c ec x e =
      cells_turn p rec row (entered_cell es (read_row p (parse p R s).tables row)) h.bytes i (omega (arith, count_byte p rec)) c ec v ev x (entered-cell-is es c x e)
