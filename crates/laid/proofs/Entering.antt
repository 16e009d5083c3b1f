-- The index of a buffer that is laid out: an entry's rank, and the lists after one is put in or taken out. Assumes nothing.
use mathlib.Core.Path.{◌≡◌, sym, ap, ◌∙◌, subst}
use mathlib.Core.Bool.{Bool, true, false, cond}
use Prim.Native.Nat.{ℕ, ◌+◌, ◌-◌, ◌*◌, ◌≤◌, ◌<◌}
use native.Mathlib.Nat.{add-sub_cancel_left}
use native.Mathlib.Omega.{arith}
use mathlib.Core.List.{List, map}
use lib.ListN.{length, take, drop, replicate, length-map, length-drop, length-replicate}
use lib.Seq.{length-take-le}
use borrow.Rule.Slice.PartMut.{put_mid}
use Rattle.values.specs.Basic.{is_lt}
use Rattle.values.specs.Area.{with_part}
use Rattle.values.specs.Cell.{cell_width}
use Rattle.areas.specs.Counted.{count_at, Grows, Shrinks, grown, shrunk}
use Rattle.areas.specs.Records.{records}
use Rattle.areas.specs.Search.{cmp_named, cmp_content, cmp_entered, SearchIn}
use Rattle.areas.specs.Sorted.{Sorted, count_of, Falls, insert_at, remove_run, replace_at}
use Rattle.areas.proofs.Changes.{replace-insert, length-insert-at, length-remove-run, map-remove-run, remove-one}
use Rattle.areas.proofs.Halving.{count-le, count_same, falls-same, count_map}
use Rattle.areas.proofs.Nest.{mid_back}
use Rattle.areas.proofs.Placing.{falls-sorted, found_at, sorted-remove-at}
use Rattle.rules.specs.declared.profile.Profile.{Profile}
use Rattle.rules.specs.Profile.{entry_width, entries_at}
use Rattle.rules.specs.Index.{Entry, cmp_entry}
use Rattle.rules.specs.Layout.{Lists, layout, lists, Laid, Entries, entries_count, entry_record, read_entry, with_area}
use Rattle.rules.proofs.Index.{ord_entry}
use Rattle.rules.proofs.Laid.{laid-lists, laid-grows, laid-grown, laid-shrinks, laid-shrunk, laid-replaced, laid-within}
use Rattle.laid.specs.Store.{Inside}
use Rattle.laid.specs.Entered.{entries_in, Entered, entry_rank, entry_in, entry_added, entry_removed, entry_exchanged, entry_bytes}
use Rattle.laid.proofs.Finding.{falls-unmap}
use Rattle.laid.proofs.Stores.{laid-inside}
use Rattle.laid.proofs.Ranking.{all_of, area-read, area-inside}

pub entry-width : (p : Profile) → p.cell ≡ cell_width → entry_width p ≡ 78
unfolding entry_width
entry-width p e = rw e

-- an entry as it is written is its record
pub entry-bytes : (p : Profile) → p.cell ≡ cell_width → (e : Entry) → entry_bytes e ≡ entry_record p e
unfolding entry_bytes entry_record
entry-bytes p h e = rw h

module _ (p : Profile) (R : ℕ) (s : List ℕ) (b : Entered p R s) where
  pub entered-inside : Inside p R s
  entered-inside = laid-inside p b.coded R b.places s (lists p R s) b.laid

  pub entries-long : length (entries_in p R s) ≡ length (lists p R s).entries
  unfolding entries_in
  entries-long = length-map (lists p R s).entries (read_entry p)

  -- records compare as the entries that they are read as
  module _ (e : Entry) where
    pub agree : (r : List ℕ) → cmp_entered cell_width r e.table e.column e.value e.key ≡ cmp_entry (read_entry p r) e
    unfolding cmp_entered cmp_named cmp_content cmp_entry read_entry
    agree r = rw b.coded.cells

    falls : Falls (λ r. is_lt (cmp_entry (read_entry p r) e)) (lists p R s).entries
    unfolding entries_in
    falls = falls-unmap (read_entry p) (λ x. is_lt (cmp_entry x e)) (lists p R s).entries (falls-sorted ord_entry e (entries_in p R s) b.sorted)

    rank-le : entry_rank p R e s ≤ length (lists p R s).entries
    rank-le = omega (arith, count-le (λ x. is_lt (cmp_entry x e)) (entries_in p R s), entries-long)

    -- ---- the search, with the code's own numbers

    module _ (from w count : ℕ) (ef : from ≡ entries_at p R) (ew : w ≡ entry_width p) (ec : count ≡ count_at entries_count 4 s) where
      pub entries-searched : SearchIn (λ r. is_lt (cmp_entered cell_width r e.table e.column e.value e.key)) (take (length s - from) (drop from s)) count w
      entries-searched =
          area-inside p R s entered-inside Entries from w count ef ew ec (λ r. cmp_entered cell_width r e.table e.column e.value e.key)
          (falls-same (λ r. is_lt (cmp_entry (read_entry p r) e)) (λ r. is_lt (cmp_entered cell_width r e.table e.column e.value e.key)) (lists p R s).entries
          (all_of _ (lists p R s).entries (λ r m. ap is_lt (sym (agree r)))) falls)

      pub entries-ranked : (i : ℕ) → i ≡ count_of (λ r. is_lt (cmp_entered cell_width r e.table e.column e.value e.key)) (records w count (take (length s - from) (drop from s)))
          → i ≡ entry_rank p R e s
      unfolding entries_in
      entries-ranked i h =
          h ∙ ap (count_of (λ r. is_lt (cmp_entered cell_width r e.table e.column e.value e.key))) (area-read p R s entered-inside Entries from w count ef ew ec)
          ∙ count_same (λ r. is_lt (cmp_entered cell_width r e.table e.column e.value e.key)) (λ r. is_lt (cmp_entry (read_entry p r) e)) (lists p R s).entries
          (all_of _ (lists p R s).entries (λ r m. ap is_lt (agree r)))
          ∙ sym (count_map (read_entry p) (λ x. is_lt (cmp_entry x e)) (lists p R s).entries)

    module _ (from w m i : ℕ) (ef : from ≡ entries_at p R) (ew : w ≡ entry_width p) (em : m ≡ p.entries * R) (ei : i ≡ entry_rank p R e s) where
      -- ---- put in: a place of zeros is opened, and the record written there

      module _ (room : length (entries_in p R s) < p.entries * R) where
        pub entry-grows : Grows s entries_count 4 from m i w
        entry-grows =
            laid-grows p R s (lists p R s) b.laid Entries from w m ef ew em i (omega (arith, ei, rank-le)) (omega (arith, em, room, entries-long))

        module _ (s₁ : List ℕ) (e₁ : s₁ ≡ grown entries_count 4 from m i (replicate w 0) s) where
          abbrev opened : Lists
          opened = with_area Entries (insert_at i (replicate w 0) (lists p R s).entries) (lists p R s)

          opened-laid : Laid p R s₁ opened
          opened-laid =
              subst (λ (l : List ℕ). Laid p R l opened) (sym e₁)
              (laid-grown p R s (lists p R s) b.laid Entries from w m ef ew em i (replicate w 0)
              (record { width = length-replicate w 0; at-le = omega (arith, ei, rank-le); room = omega (arith, em, room, entries-long) }))

          pub entry-room : from + i * w + w ≤ length s₁
          entry-room = laid-within p R s₁ opened opened-laid Entries from w m ef ew em i (omega (arith, ei, rank-le, em, room, entries-long))

          pub place-wide : length (take (from + i * w + w - (from + i * w)) (drop (from + i * w) s₁)) ≡ 78
          place-wide = rw (add-sub_cancel_left (from + i * w) w) (length-take-le w (drop (from + i * w) s₁) (rw length-drop (omega (arith, entry-room))) ∙ ew ∙ entry-width p b.coded.cells)

          pub entry-placed : (y : List ℕ) → y ≡ entry_bytes e → length y ≡ 78 → Laid p R (put_mid (from + i * w) (from + i * w + w - (from + i * w)) s₁ y) (entry_added p R e s)
          unfolding entry_added
          entry-placed y ey ly =
              let es : List (List ℕ) = (lists p R s).entries in
              let f : replace_at i y (insert_at i (replicate w 0) es) ≡ insert_at (entry_rank p R e s) (entry_record p e) es =
              replace-insert i y (replicate w 0) es (omega (arith, ei, rank-le))
              ∙ ap (λ (r : List ℕ). insert_at i r es) (ey ∙ entry-bytes p b.coded.cells e)
              ∙ ap (λ (n : ℕ). insert_at n (entry_record p e) es) ei
              in
              subst (λ (l : List ℕ). Laid p R l (with_area Entries (insert_at (entry_rank p R e s) (entry_record p e) es) (lists p R s))) (sym (mid_back (from + i * w) (from + i * w + w) s₁ y (omega arith)))
              (subst (λ (rs : List (List ℕ)). Laid p R (with_part (from + i * w) (from + i * w + w) y s₁) (with_area Entries rs (lists p R s))) f
              (laid-replaced p R s₁ opened opened-laid Entries from w m ef ew em i y (ly ∙ sym (entry-width p b.coded.cells) ∙ sym ew)
              (omega (arith, ei, rank-le, length-insert-at i (replicate w 0) es (omega (arith, ei, rank-le))))))

      -- ---- taken out

      module _ (there : entry_in p R e s ≡ true) where
        one_more : i + 1 ≤ length (lists p R s).entries
        one_more = omega (arith, ei, entries-long, (found_at ord_entry e e (entries_in p R s) b.sorted there).0)

        pub entry-shrinks : Shrinks s entries_count 4 from m w i 1
        entry-shrinks = laid-shrinks p R s (lists p R s) b.laid Entries from w m ef ew em i 1 one_more

        pub entry_gone : (s₁ : List ℕ) → s₁ ≡ shrunk entries_count 4 from m w i 1 s → Laid p R s₁ (entry_removed p R e s)
        unfolding entry_removed
        entry_gone s₁ e₁ =
            subst (λ (n : ℕ). Laid p R s₁ (with_area Entries (remove_run n 1 (lists p R s).entries) (lists p R s))) ei
            (subst (λ (l : List ℕ). Laid p R l (with_area Entries (remove_run i 1 (lists p R s).entries) (lists p R s))) (sym e₁)
            (laid-shrunk p R s (lists p R s) b.laid Entries from w m ef ew em i 1 one_more))

-- ---- an entry exchanged: after the old one is taken out, there is a place for the new one

module _ (p : Profile) (R : ℕ) (s : List ℕ) (b : Entered p R s) (e : Entry) (there : entry_in p R e s ≡ true) (s₁ : List ℕ) (l : Laid p R s₁ (entry_removed p R e s)) where
  gone-lists : lists p R s₁ ≡ entry_removed p R e s
  gone-lists = laid-lists p R s₁ (entry_removed p R e s) l

  gone-run : entries_in p R s₁ ≡ remove_run (entry_rank p R e s) 1 (entries_in p R s)
  unfolding entries_in entry_removed
  gone-run =
      ap (λ (x : Lists). map (read_entry p) x.entries) gone-lists
      ∙ map-remove-run (read_entry p) (entry_rank p R e s) 1 (lists p R s).entries

  pub gone-entered : Entered p R s₁
  gone-entered =
      record {
        coded = b.coded;
        places = b.places;
        laid = subst (Laid p R s₁) (sym gone-lists) l;
        sorted = subst (Sorted cmp_entry) (sym (gone-run ∙ sym (remove-one (entry_rank p R e s) (entries_in p R s)))) (sorted-remove-at ord_entry e (entries_in p R s) b.sorted there);
      }

  pub gone-room : length (entries_in p R s₁) < p.entries * R
  gone-room =
      let h : entry_rank p R e s < length (entries_in p R s) = (found_at ord_entry e e (entries_in p R s) b.sorted there).0 in
      omega (arith, ap length gone-run, length-remove-run (entry_rank p R e s) 1 (entries_in p R s) (omega (arith, h)), h, entries-long p R s b, b.laid.fits.entries-le)

  -- and then the new one stands there
  pub exchange-done : (new : Entry) (q : Bool) → q ≡ false → (y : List ℕ) → Laid p R y (entry_added p R new s₁) → Laid p R y (cond q (lists p R s) (entry_exchanged p R e new s))
  unfolding entry_exchanged
  exchange-done new q h y m =
      subst (λ (z : Bool). Laid p R y (cond z (lists p R s) (entry_added p R new (layout p R (entry_removed p R e s))))) (sym h)
      (subst (λ (z : List ℕ). Laid p R y (entry_added p R new z)) l.whole m)

-- the same value: nothing changes
pub exchange-none : (p : Profile) (R : ℕ) (s : List ℕ) → Entered p R s → (q : Bool) (x : Lists) → q ≡ true → Laid p R s (cond q (lists p R s) x)
exchange-none p R s b q x h = subst (λ (z : Bool). Laid p R s (cond z (lists p R s) x)) (sym h) b.laid
