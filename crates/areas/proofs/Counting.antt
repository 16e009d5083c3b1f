-- Laws of counted areas. Assumes nothing.
use mathlib.Core.Path.{◌≡◌, sym, ap, ◌∙◌}
use mathlib.Core.Bool.{Bool}
use Prim.Native.Nat.{ℕ, suc, ◌+◌, ◌-◌, ◌*◌, ◌≤◌, ◌<◌}
use native.Mathlib.Nat.{add-sub_cancel_left, add-zero, add_assoc, mul-le-mul_right}
use native.Mathlib.Numerals.{add-one}
use native.Mathlib.Omega.{arith}
use mathlib.Core.List.{List, [], ◌++◌, append_assoc, append-nil}
use lib.ListN.{length, take, drop, get_or, replicate, length-append, length-take, length-drop, length-replicate}
use lib.Seq.{take_at, drop_at}
use borrow.Rule.Slice.PartMut.{put_mid}
use Rattle.values.specs.Bytes.{be, num}
use Rattle.values.specs.Area.{with_part, inserted_at, removed_at, record_at, with_record}
use Rattle.areas.specs.Records.{Wide, area, filled, records}
use Rattle.areas.specs.Sorted.{Falls, insert_at, remove_run, replace_at}
use Rattle.areas.specs.Search.{SearchIn}
use Rattle.areas.specs.Counted.{framed, count_at, grown, shrunk, Grows, Shrinks, Fresh, Frame}
use Rattle.areas.proofs.Changes.{length-insert-at, length-remove-run, length-replace-at, replace-insert}
use Rattle.areas.proofs.Nest.{mid_back, with-of, with-inside}
use Rattle.values.proofs.Shifts.{drop_past}
use Rattle.values.proofs.Numbers.{num-be}
use Rattle.values.proofs.Parts.{be-length}
use Rattle.areas.proofs.Records.{length-area, place-fits, record-at, records-joined, replace-area, wide-insert, wide-remove-run, wide-replace}
use Rattle.areas.proofs.Places.{insert-place, remove-place}

pub be-long : (k w : ℕ) → length (be k w []) ≡ k
be-long k w = be-length k w [] ∙ add-zero k

pub length-filled : (w places : ℕ) (rs : List (List ℕ)) → Wide w rs → length rs ≤ places → length (filled w places rs) ≡ places * w
unfolding filled
length-filled w places rs h l =
    let e : length rs + (places - length rs) ≡ places = omega arith in
    length-area w (places - length rs) rs h ∙ ap (λ (n : ℕ). n * w) e

-- what was put into an area, read back
pub records-filled : (w places : ℕ) (rs : List (List ℕ)) (z : List ℕ) → Wide w rs → records w (length rs) (filled w places rs ++ z) ≡ rs
unfolding filled area
records-filled w places rs z h = rw append_assoc (records-joined w rs _ h)

module _ (from places w : ℕ) (rs : List (List ℕ)) (a z : List ℕ) (wide : Wide w rs) (ea : length a ≡ from) where
  insert-filled : (i : ℕ) (r : List ℕ) → Fresh w places i r rs
      → inserted_at from places (length rs) i r (a ++ (filled w places rs ++ z)) ≡ a ++ (filled w places (insert_at i r rs) ++ z)
  unfolding filled
  insert-filled i r h =
      let e : places - suc (length rs) ≡ places - length (insert_at i r rs) = rw (length-insert-at i r rs h.at-le, add-one) in
      insert-place from places w rs a z wide ea i r h.width h.at-le h.room
      ∙ ap (λ (n : ℕ). a ++ (area w (insert_at i r rs) n ++ z)) e

  remove-filled : (i n : ℕ) → i + n ≤ length rs → length rs ≤ places
      → removed_at from places w (length rs) i n (a ++ (filled w places rs ++ z)) ≡ a ++ (filled w places (remove_run i n rs) ++ z)
  unfolding filled
  remove-filled i n h k =
      let l = length-remove-run i n rs h in
      let e : n + (places - length rs) ≡ places - length (remove_run i n rs) = omega arith in
      remove-place from places w rs a z wide ea i n h k
      ∙ ap (λ (m : ℕ). a ++ (area w (remove_run i n rs) m ++ z)) e

  -- another record over the one at place i, its place as a part
  pub write-filled : (i : ℕ) (r : List ℕ) → i < length rs → length rs ≤ places
      → with_part (from + i * w) (from + i * w + w) r (a ++ (filled w places rs ++ z)) ≡ a ++ (filled w places (replace_at i r rs) ++ z)
  unfolding filled
  write-filled i r h k =
      let l : i * w + w ≤ length (area w rs (places - length rs)) = place-fits i (length rs + (places - length rs)) w (length (area w rs (places - length rs))) (omega arith) (rw length-area (omega arith)) in
      let e : places - length rs ≡ places - length (replace_at i r rs) = rw (length-replace-at i r rs h) in
      rw add_assoc (with-inside from (i * w) (i * w + w) r a (area w rs (places - length rs)) z ea (omega arith) l)
      ∙ ap (λ (l : List ℕ). a ++ (l ++ z)) (replace-area w i (places - length rs) r rs wide h ∙ ap (area w (replace_at i r rs)) e)

  -- the record at place i
  pub read-filled : (i : ℕ) → i < length rs → record_at from w i (a ++ (filled w places rs ++ z)) ≡ get_or rs i []
  unfolding filled area record_at
  read-filled i h = rw (drop_past a, append_assoc) (record-at w i rs (replicate ((places - length rs) * w) 0 ++ z) wide h)

-- a framed buffer: the count and the area at their places
module _ (pre : List ℕ) (cat k : ℕ) (mid : List ℕ) (from w places : ℕ) (rs : List (List ℕ)) (post : List ℕ)
    (fr : Frame pre cat k mid from w places rs) where
  lp : length pre ≡ cat
  lp = fr.start

  lm : cat + k + length mid ≡ from
  lm = fr.end

  wide : Wide w rs
  wide = fr.wide

  few : length rs ≤ places
  few = fr.few

  pub framed-length : length (framed pre k mid w places rs post) ≡ from + places * w + length post
  unfolding framed
  framed-length =
      let a = length-filled w places rs wide few in
      let b = be-long k (length rs) in
      simp length-append (omega (arith, lp, lm))

  pub framed-count : count_at cat k (framed pre k mid w places rs post) ≡ length rs
  unfolding framed count_at num
  framed-count =
      rw (drop_at pre (be k (length rs) [] ++ (mid ++ (filled w places rs ++ post))) cat lp, take_at (be k (length rs) []) (mid ++ (filled w places rs ++ post)) k (be-long k (length rs)))
      (num-be k (length rs) [] (omega (arith, fr.small, fr.few)))

  -- where the area starts
  front : length (pre ++ (be k (length rs) [] ++ mid)) ≡ from
  front = let b = be-long k (length rs) in simp length-append (omega (arith, lp, lm))

  regroup : framed pre k mid w places rs post ≡ (pre ++ (be k (length rs) [] ++ mid)) ++ (filled w places rs ++ post)
  unfolding framed
  regroup = simp append_assoc

  here : records w (length rs) (drop from (framed pre k mid w places rs post)) ≡ rs
  here = rw (regroup, drop_at (pre ++ (be k (length rs) [] ++ mid)) (filled w places rs ++ post) from front) (records-filled w places rs post wide)

  -- what is framed is read back
  pub framed-records : records w (count_at cat k (framed pre k mid w places rs post)) (drop from (framed pre k mid w places rs post)) ≡ rs
  framed-records = ap (λ (n : ℕ). records w n (drop from (framed pre k mid w places rs post))) framed-count ∙ here

  recounted : (n : ℕ) (ts : List (List ℕ)) → n ≡ length ts
      → with_part cat (cat + k) (be k n []) ((pre ++ (be k (length rs) [] ++ mid)) ++ (filled w places ts ++ post)) ≡ framed pre k mid w places ts post
  unfolding framed
  recounted n ts e =
      ap (with_part cat (cat + k) (be k n [])) (simp append_assoc)
      ∙ with-of cat (cat + k) (be k n []) pre (be k (length rs) []) (mid ++ (filled w places ts ++ post)) lp (be-long k (length rs) ∙ sym (add-sub_cancel_left cat k)) (omega arith)
      ∙ rw e

  pub grown-framed : (i : ℕ) (r : List ℕ) → Fresh w places i r rs → grown cat k from places i r (framed pre k mid w places rs post) ≡ framed pre k mid w places (insert_at i r rs) post
  unfolding grown
  grown-framed i r h =
      rw framed-count (ap (λ (l : List ℕ). with_part cat (cat + k) (be k (length rs + 1) []) (inserted_at from places (length rs) i r l)) regroup
      ∙ ap (with_part cat (cat + k) (be k (length rs + 1) [])) (insert-filled from places w rs (pre ++ (be k (length rs) [] ++ mid)) post wide front i r h)
      ∙ recounted (length rs + 1) (insert_at i r rs) (sym (length-insert-at i r rs h.at-le)))

  pub shrunk-framed : (i n : ℕ) → i + n ≤ length rs → shrunk cat k from places w i n (framed pre k mid w places rs post) ≡ framed pre k mid w places (remove_run i n rs) post
  unfolding shrunk
  shrunk-framed i n h =
      rw framed-count (ap (λ (l : List ℕ). with_part cat (cat + k) (be k (length rs - n) []) (removed_at from places w (length rs) i n l)) regroup
      ∙ ap (with_part cat (cat + k) (be k (length rs - n) [])) (remove-filled from places w rs (pre ++ (be k (length rs) [] ++ mid)) post wide front i n h few)
      ∙ recounted (length rs - n) (remove_run i n rs) (sym (length-remove-run i n rs h)))

  -- the area as a part, in which a search runs over the records
  pub area-framed : take (from + places * w - from) (drop from (framed pre k mid w places rs post)) ≡ filled w places rs
  area-framed =
      ap (λ (s : List ℕ). take (from + places * w - from) (drop from s)) regroup
      ∙ rw (drop_at (pre ++ (be k (length rs) [] ++ mid)) (filled w places rs ++ post) from front, add-sub_cancel_left from (places * w))
      (take_at (filled w places rs) post (places * w) (length-filled w places rs wide few))

  pub area-records : records w (length rs) (take (from + places * w - from) (drop from (framed pre k mid w places rs post))) ≡ rs
  area-records = ap (records w (length rs)) (area-framed ∙ sym (append-nil (filled w places rs))) ∙ records-filled w places rs [] wide

  pub searched-framed : (p : List ℕ → Bool) → Falls p rs → SearchIn p (take (from + places * w - from) (drop from (framed pre k mid w places rs post))) (length rs) w
  searched-framed p f = record {
    inside = rw area-framed (rw (length-filled w places rs wide few) (mul-le-mul_right w few));
    falls = rw area-records f;
  }

  -- another record over the one at place i, and the record there
  pub part-framed : (i : ℕ) (r : List ℕ) → i < length rs → with_part (from + i * w) (from + i * w + w) r (framed pre k mid w places rs post) ≡ framed pre k mid w places (replace_at i r rs) post
  unfolding framed
  part-framed i r h =
      ap (with_part (from + i * w) (from + i * w + w) r) regroup
      ∙ write-filled from places w rs (pre ++ (be k (length rs) [] ++ mid)) post wide front i r h few
      ∙ rw (length-replace-at i r rs h) (simp append_assoc)

  pub written-framed : (i : ℕ) (r : List ℕ) → length r ≡ w → i < length rs → with_record from i r (framed pre k mid w places rs post) ≡ framed pre k mid w places (replace_at i r rs) post
  unfolding with_record
  written-framed i r e h = rw e (part-framed i r h)

  pub record-framed : (i : ℕ) → i < length rs → record_at from w i (framed pre k mid w places rs post) ≡ get_or rs i []
  record-framed i h = ap (record_at from w i) regroup ∙ read-filled from places w rs (pre ++ (be k (length rs) [] ++ mid)) post wide front i h

  -- so a record can go in, and a run of records out
  pub grows : (i : ℕ) → k ≤ 8 → i ≤ length rs → length rs < places → Grows (framed pre k mid w places rs post) cat k from places i w
  grows i s a b =
      let l = framed-length in
      let c = framed-count in
      record { small = s; before = omega (arith, lm); spare = record { inside = omega arith; room = omega arith; at-le = omega arith } }

  pub shrinks : (i n : ℕ) → k ≤ 8 → i + n ≤ length rs → Shrinks (framed pre k mid w places rs post) cat k from places w i n
  shrinks i n s h =
      let l = framed-length in
      let c = framed-count in
      record { small = s; before = omega (arith, lm); taken = record { inside = omega arith; count-le = omega (arith, few); run-le = omega arith } }

-- the frame of a list that was changed
module _ (pre : List ℕ) (cat k : ℕ) (mid : List ℕ) (from w places : ℕ) (rs : List (List ℕ)) (fr : Frame pre cat k mid from w places rs) where
  frame-of : (ts : List (List ℕ)) → Wide w ts → length ts ≤ places → Frame pre cat k mid from w places ts
  frame-of ts h l = record { start = fr.start; end = fr.end; wide = h; few = l; small = fr.small }

  pub frame-insert : (i : ℕ) (r : List ℕ) → Fresh w places i r rs → Frame pre cat k mid from w places (insert_at i r rs)
  frame-insert i r h = frame-of (insert_at i r rs) (wide-insert w i r rs fr.wide h.width) (omega (arith, length-insert-at i r rs h.at-le, h.room))

  pub frame-remove : (i n : ℕ) → i + n ≤ length rs → Frame pre cat k mid from w places (remove_run i n rs)
  frame-remove i n h = frame-of (remove_run i n rs) (wide-remove-run w i n rs fr.wide) (omega (arith, length-remove-run i n rs h, fr.few))

  pub frame-replace : (i : ℕ) (r : List ℕ) → length r ≡ w → i < length rs → Frame pre cat k mid from w places (replace_at i r rs)
  frame-replace i r e h = frame-of (replace_at i r rs) (wide-replace w i r rs fr.wide e) (omega (arith, length-replace-at i r rs h, fr.few))

  -- a place is opened, and then a record is written there
  pub opened-written : (post : List ℕ) (i : ℕ) (r : List ℕ) → Fresh w places i r rs
      → with_part (from + i * w) (from + i * w + w) r (grown cat k from places i (replicate w 0) (framed pre k mid w places rs post)) ≡ framed pre k mid w places (insert_at i r rs) post
  opened-written post i r h =
      let z : Fresh w places i (replicate w 0) rs = record { width = length-replicate w 0; at-le = h.at-le; room = h.room } in
      ap (with_part (from + i * w) (from + i * w + w) r) (grown-framed pre cat k mid from w places rs post fr i (replicate w 0) z)
      ∙ part-framed pre cat k mid from w places (insert_at i (replicate w 0) rs) post (frame-insert i (replicate w 0) z) i r
      (omega (arith, length-insert-at i (replicate w 0) rs h.at-le, h.at-le))
      ∙ ap (λ (ts : List (List ℕ)). framed pre k mid w places ts post) (replace-insert i r (replicate w 0) rs h.at-le)

  pub opened-recorded : (post : List ℕ) (i : ℕ) (r : List ℕ) → Fresh w places i r rs
      → with_record from i r (grown cat k from places i (replicate w 0) (framed pre k mid w places rs post)) ≡ framed pre k mid w places (insert_at i r rs) post
  unfolding with_record
  opened-recorded post i r h = rw h.width (opened-written post i r h)

-- as the code has it: the count was read as n, records moved in or out, and the new count written
module _ (s₁ y : List ℕ) (cat k m : ℕ) (long : cat + k ≤ length s₁)
    (put : y ≡ be (length (take (cat + k - cat) (drop cat s₁))) m []) where
  pub count-put : put_mid cat (cat + k - cat) s₁ y ≡ with_part cat (cat + k) (be k m []) s₁
  count-put =
      let l : length (take (cat + k - cat) (drop cat s₁)) ≡ k = simp (length-take, length-drop) (omega arith) in
      mid_back cat (cat + k) s₁ y (omega arith) ∙ ap (λ (z : List ℕ). with_part cat (cat + k) z s₁) (put ∙ rw l)

pub grown-back : (s s₁ y r : List ℕ) (cat k from places at n : ℕ) → n ≡ count_at cat k s → cat + k ≤ length s₁
    → y ≡ be (length (take (cat + k - cat) (drop cat s₁))) (n + 1) [] → s₁ ≡ inserted_at from places n at r s
    → put_mid cat (cat + k - cat) s₁ y ≡ grown cat k from places at r s
unfolding grown
grown-back s s₁ y r cat k from places at n e l f g =
    count-put s₁ y cat k (n + 1) l f ∙ rw (g, e)

pub shrunk-back : (s s₁ y : List ℕ) (cat k from places w at run n : ℕ) → n ≡ count_at cat k s → cat + k ≤ length s₁
    → y ≡ be (length (take (cat + k - cat) (drop cat s₁))) (n - run) [] → s₁ ≡ removed_at from places w n at run s
    → put_mid cat (cat + k - cat) s₁ y ≡ shrunk cat k from places w at run s
unfolding shrunk
shrunk-back s s₁ y cat k from places w at run n e l f g =
    count-put s₁ y cat k (n - run) l f ∙ rw (g, e)
