-- Places of an area inside a buffer: products within the buffer, and what `open_at` and `close_at` do to a laid-out area. Assumes nothing.
use mathlib.Core.Path.{◌≡◌, sym, ap, ◌∙◌}
use Prim.Native.Nat.{ℕ, suc, ◌+◌, ◌-◌, ◌*◌, ◌≤◌, ◌<◌}
use native.Mathlib.Nat.{mul-le-mul_right, add-sub_cancel_left}
use native.Mathlib.Omega.{arith}
use mathlib.Core.List.{List, ◌++◌}
use lib.ListN.{length, take, drop, length-take, length-drop}
use borrow.Rule.Slice.PartMut.{put_mid}
use Rattle.values.specs.Area.{inserted, closed, part, inserted_at, removed_at, with_record, Spare, Taken, Room, Place}
use Rattle.areas.specs.Records.{Wide, area}
use Rattle.areas.specs.Sorted.{insert_at, remove_run}
use Rattle.areas.proofs.Nest.{part_of, with-of, mid_back}
use Rattle.areas.proofs.Records.{insert-area, remove-area, length-area, times-lt, run_fits}

module _ (s : List ℕ) (from places count at w : ℕ) where
  pub spare-place : Spare s from places count at w → (at * w ≤ count * w) × (count * w + w ≤ places * w)
  spare-place h = (mul-le-mul_right w h.at-le, times-lt count places w h.room)

  pub spare-room : Spare s from places count at w → Room (take (from + places * w - from) (drop from s)) (at * w) (count * w) w
  spare-room h =
      let p = spare-place h in
      let i = h.inside in
      record { at-le = p.0; fits = simp (length-take, length-drop) (omega arith) }

  pub inserted-back : (r y : List ℕ) → length r ≡ w → y ≡ inserted (at * w) (count * w) r (take (from + places * w - from) (drop from s)) → put_mid from (from + places * w - from) s y ≡ inserted_at from places count at r s
  unfolding inserted_at part
  inserted-back r y l e =
      rw (e, l) (mid_back from (from + places * w) s (inserted (at * w) (count * w) r (take (from + places * w - from) (drop from s))) (omega arith))

  module _ (run : ℕ) where
    pub taken-place : Taken s from places w count at run → (at * w + run * w ≤ count * w) × (count * w ≤ places * w)
    taken-place h = (run_fits at run count w h.run-le, mul-le-mul_right w h.count-le)

    pub taken-room : Taken s from places w count at run → Place (take (from + places * w - from) (drop from s)) (at * w) (count * w) (run * w)
    taken-room h =
        let p = taken-place h in
        let i = h.inside in
        record { at-le = p.0; fits = simp (length-take, length-drop) (omega arith) }

    pub removed-back : (y : List ℕ) → y ≡ closed (at * w) (count * w) (run * w) (take (from + places * w - from) (drop from s)) → put_mid from (from + places * w - from) s y ≡ removed_at from places w count at run s
    unfolding removed_at part
    removed-back y e = rw e (mid_back from (from + places * w) s (closed (at * w) (count * w) (run * w) (take (from + places * w - from) (drop from s))) (omega arith))

pub written_back : (s y r : List ℕ) (from at : ℕ) → y ≡ r → put_mid (from + at * length r) (from + at * length r + length r - (from + at * length r)) s y ≡ with_record from at r s
unfolding with_record
written_back s y r from at e = rw e (mid_back (from + at * length r) (from + at * length r + length r) s r (omega arith))

module _ (from places w : ℕ) (rs : List (List ℕ)) (a z : List ℕ) (wide : Wide w rs) (ea : length a ≡ from) where
  full : (k : ℕ) → length rs + k ≡ places → length (area w rs k) ≡ from + places * w - from
  full k e = length-area w k rs wide ∙ ap (λ (n : ℕ). n * w) e ∙ sym (add-sub_cancel_left from (places * w))

  -- a record put in
  pub insert-place : (i : ℕ) (r : List ℕ) → length r ≡ w → i ≤ length rs → length rs < places
      → inserted_at from places (length rs) i r (a ++ (area w rs (places - length rs) ++ z)) ≡ a ++ (area w (insert_at i r rs) (places - suc (length rs)) ++ z)
  unfolding inserted_at
  insert-place i r e h k =
      let x = area w rs (places - length rs) in
      let f = full (places - length rs) (omega arith) in
      rw (e, part_of from (from + places * w) a x z ea f, with-of from (from + places * w) (inserted (i * w) (length rs * w) r x) a x z ea f (omega arith))
      (ap (λ (l : List ℕ). a ++ (l ++ z)) (ap (λ (n : ℕ). inserted (i * w) (length rs * w) r (area w rs n)) spare ∙ insert-area w i (places - suc (length rs)) r rs wide e h))
    where
      spare : places - length rs ≡ suc (places - suc (length rs))
      spare = omega arith

  -- a run of records taken out
  pub remove-place : (i n : ℕ) → i + n ≤ length rs → length rs ≤ places
      → removed_at from places w (length rs) i n (a ++ (area w rs (places - length rs) ++ z)) ≡ a ++ (area w (remove_run i n rs) (n + (places - length rs)) ++ z)
  unfolding removed_at
  remove-place i n h k =
      let x = area w rs (places - length rs) in
      let f = full (places - length rs) (omega arith) in
      rw (part_of from (from + places * w) a x z ea f, with-of from (from + places * w) (closed (i * w) (length rs * w) (n * w) x) a x z ea f (omega arith))
      (ap (λ (l : List ℕ). a ++ (l ++ z)) (remove-area w i n (places - length rs) rs wide h))
