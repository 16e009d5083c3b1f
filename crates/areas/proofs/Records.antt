-- Laws of records in an area, once for every width. Assumes nothing.
use mathlib.Core.Path.{◌≡◌, refl, sym, ap, ◌∙◌, subst}
use Prim.Native.Nat.{ℕ, zero, suc, ◌+◌, ◌-◌, ◌*◌, ◌≤◌, ◌<◌}
use native.Mathlib.Nat.{not-suc-le-zero, le_of_suc-le-suc, le_trans, suc-mul, zero-mul, add_comm, add-sub_cancel_left, mul-le-mul_right, add-mul}
use native.Mathlib.Omega.{arith}
use mathlib.Core.List.{List, [], ◌∷◌, ◌++◌, append_assoc}
use lib.ListN.{length, take, drop, get_or, replicate, length-append, length-take, length-drop, length-replicate, replicate-append-replicate, take-append-drop}
use lib.Seq.{length-take-le, drop-cons, take_at, drop_at, drop-drop}
use Rattle.values.specs.Area.{closed, inserted, with_part}
use Rattle.areas.specs.Records.{joined, Wide, area, records}
use Rattle.areas.specs.Sorted.{insert_at, remove_run, remove_at, replace_at}
use Rattle.areas.proofs.Changes.{remove-one}
use Rattle.areas.proofs.Nest.{with-of}

-- one more of w bytes
pub times-lt : (a b w : ℕ) → a < b → a * w + w ≤ b * w
times-lt a b w h = subst (λ (k : ℕ). k ≤ b * w) (suc-mul a w) (mul-le-mul_right w h)

-- a place below the count lies within
pub place-fits : (m n w l : ℕ) → m < n → n * w ≤ l → m * w + w ≤ l
place-fits m n w l h k = le_trans (times-lt m n w h) k

pub joined-append : (a b : List (List ℕ)) → joined (a ++ b) ≡ joined a ++ joined b
unfolding joined
joined-append [] b = refl
joined-append (r ∷ a) b = rw (joined-append a b, append_assoc)

pub length-joined : (w : ℕ) (rs : List (List ℕ)) → Wide w rs → length (joined rs) ≡ length rs * w
unfolding joined Wide
length-joined w [] h = sym (zero-mul w)
length-joined w (r ∷ rs) h = rw (length-append, suc-mul, length-joined w rs h.1, h.0) (add_comm w (length rs * w))

pub wide-take : (w i : ℕ) (rs : List (List ℕ)) → Wide w rs → Wide w (take i rs)
unfolding Wide
wide-take w zero rs h = tt
wide-take w (suc i) [] h = tt
wide-take w (suc i) (r ∷ rs) h = (h.0, wide-take w i rs h.1)

pub wide-drop : (w i : ℕ) (rs : List (List ℕ)) → Wide w rs → Wide w (drop i rs)
unfolding Wide
wide-drop w zero rs h = h
wide-drop w (suc i) [] h = tt
wide-drop w (suc i) (r ∷ rs) h = wide-drop w i rs h.1

pub wide-append : (w : ℕ) (a b : List (List ℕ)) → Wide w a → Wide w b → Wide w (a ++ b)
unfolding Wide
wide-append w [] b h k = k
wide-append w (r ∷ a) b h k = (h.0, wide-append w a b h.1 k)

-- what stands at place i
pub wide_at : (w i : ℕ) (rs : List (List ℕ)) → Wide w rs → i < length rs → length (get_or rs i []) ≡ w
unfolding Wide
wide_at w i [] h k = absurd (not-suc-le-zero k)
wide_at w zero (r ∷ rs) h k = h.0
wide_at w (suc i) (r ∷ rs) h k = wide_at w i rs h.1 (le_of_suc-le-suc k)

-- the bytes of an area whose parts are known: a record is put in the middle
pub inserted-parts : (at used : ℕ) (r a b g z : List ℕ) → length a ≡ at → length b ≡ used - at → at ≤ used → length g ≡ length r
    → inserted at used r (a ++ (b ++ (g ++ z))) ≡ a ++ (r ++ (b ++ z))
unfolding inserted
inserted-parts at used r a b g z ea eb h eg =
    let n : length (a ++ b) ≡ used = length-append a b ∙ omega arith in
    let m : length ((a ++ b) ++ g) ≡ used + length r = length-append (a ++ b) g ∙ omega arith in
    rw (
      take_at a (b ++ (g ++ z)) at ea,
      drop_at a (b ++ (g ++ z)) at ea,
      take_at b (g ++ z) (used - at) eb,
    ) (rw (← append_assoc a b (g ++ z), ← append_assoc (a ++ b) g z, drop_at ((a ++ b) ++ g) z (used + length r) m))

pub closed-of-parts : (at used w : ℕ) (a x b z : List ℕ) → length a ≡ at → length x ≡ w → length b ≡ used - (at + w) → at + w ≤ used
    → closed at used w (a ++ (x ++ (b ++ z))) ≡ a ++ (b ++ (replicate w 0 ++ z))
unfolding closed
closed-of-parts at used w a x b z ea ex eb h =
    let n : length (a ++ x) ≡ at + w = length-append a x ∙ omega arith in
    let m : length ((a ++ x) ++ b) ≡ used = length-append (a ++ x) b ∙ omega arith in
    rw (
      take_at a (x ++ (b ++ z)) at ea,
      ← append_assoc a x (b ++ z),
      drop_at (a ++ x) (b ++ z) (at + w) n,
      take_at b z (used - (at + w)) eb,
      ← append_assoc (a ++ x) b z,
      drop_at ((a ++ x) ++ b) z used m,
    )

sub-times : (n i w : ℕ) → i ≤ n → (n - i) * w ≡ n * w - i * w
sub-times n i w h =
    let e : n ≡ i + (n - i) = omega arith in
    let f : n * w ≡ i * w + (n - i) * w = ap (λ (m : ℕ). m * w) e ∙ add-mul i (n - i) w in
    omega arith

module _ (w i : ℕ) (rs : List (List ℕ)) (wide : Wide w rs) where
  pub length_front : i ≤ length rs → length (joined (take i rs)) ≡ i * w
  length_front h = length-joined w (take i rs) (wide-take w i rs wide) ∙ ap (λ (n : ℕ). n * w) (length-take-le i rs h)

  pub length_back : i ≤ length rs → length (joined (drop i rs)) ≡ length rs * w - i * w
  length_back h = length-joined w (drop i rs) (wide-drop w i rs wide) ∙ ap (λ (n : ℕ). n * w) (length-drop i rs) ∙ sub-times (length rs) i w h

joined-split : (i : ℕ) (rs : List (List ℕ)) → joined rs ≡ joined (take i rs) ++ joined (drop i rs)
joined-split i rs = ap joined (sym (take-append-drop i rs)) ∙ joined-append (take i rs) (drop i rs)

-- zeros of n places more
zeros-places : (n k w : ℕ) → replicate {A = ℕ} ((n + k) * w) 0 ≡ replicate (n * w) 0 ++ replicate (k * w) 0
zeros-places n k w = ap (λ (m : ℕ). replicate m 0) (add-mul n k w) ∙ sym (replicate-append-replicate (n * w) (k * w) 0)

zeros-place : (k w : ℕ) → replicate {A = ℕ} (suc k * w) 0 ≡ replicate w 0 ++ replicate (k * w) 0
zeros-place k w = ap (λ (n : ℕ). replicate n 0) (suc-mul k w ∙ add_comm (k * w) w) ∙ sym (replicate-append-replicate w (k * w) 0)

-- a record put in at place i
pub insert-area : (w i k : ℕ) (r : List ℕ) (rs : List (List ℕ)) → Wide w rs → length r ≡ w → i ≤ length rs
    → inserted (i * w) (length rs * w) r (area w rs (suc k)) ≡ area w (insert_at i r rs) k
unfolding area insert_at joined
insert-area w i k r rs wide e h =
    ap (inserted (i * w) (length rs * w) r) (rw (joined-split i rs, zeros-place k w, append_assoc))
    ∙ inserted-parts (i * w) (length rs * w) r (joined (take i rs)) (joined (drop i rs)) (replicate w 0) (replicate (k * w) 0)
    (length_front w i rs wide h) (length_back w i rs wide h) (mul-le-mul_right w h) (length-replicate w 0 ∙ sym e)
    ∙ sym (rw (joined-append (take i rs) (r ∷ drop i rs), append_assoc, append_assoc))

-- the record at place i
pub record-at : (w i : ℕ) (rs : List (List ℕ)) (z : List ℕ) → Wide w rs → i < length rs → take w (drop (i * w) (joined rs ++ z)) ≡ get_or rs i []
unfolding joined
record-at w i rs z wide h =
    let n : length (joined (take i rs)) ≡ i * w = length_front w i rs wide (omega arith) in
    let m : length (get_or rs i []) ≡ w = wide_at w i rs wide h in
    rw (
      joined-split i rs,
      append_assoc,
      drop_at (joined (take i rs)) (joined (drop i rs) ++ z) (i * w) n,
      drop-cons rs i [] h,
      append_assoc,
      take_at (get_or rs i []) (joined (drop (suc i) rs) ++ z) w m,
    )

pub wide-insert : (w i : ℕ) (r : List ℕ) (rs : List (List ℕ)) → Wide w rs → length r ≡ w → Wide w (insert_at i r rs)
unfolding insert_at Wide
wide-insert w i r rs h e = wide-append w (take i rs) (r ∷ drop i rs) (wide-take w i rs h) (e, wide-drop w i rs h)

pub wide-remove-run : (w i n : ℕ) (rs : List (List ℕ)) → Wide w rs → Wide w (remove_run i n rs)
unfolding remove_run
wide-remove-run w i n rs h = wide-append w (take i rs) (drop (i + n) rs) (wide-take w i rs h) (wide-drop w (i + n) rs h)

pub wide-remove : (w i : ℕ) (rs : List (List ℕ)) → Wide w rs → Wide w (remove_at i rs)
wide-remove w i rs h = rw (remove-one i rs) (wide-remove-run w i 1 rs h)

-- n records from place i on, between those before and those behind
joined-run : (i n : ℕ) (rs : List (List ℕ)) → joined rs ≡ joined (take i rs) ++ (joined (take n (drop i rs)) ++ joined (drop (i + n) rs))
joined-run i n rs =
    joined-split i rs
    ∙ ap (λ (l : List ℕ). joined (take i rs) ++ l) (joined-split n (drop i rs) ∙ ap (λ (ts : List (List ℕ)). joined (take n (drop i rs)) ++ joined ts) (drop-drop n i rs))

-- the places of a run lie within
pub run_fits : (i n m w : ℕ) → i + n ≤ m → i * w + n * w ≤ m * w
run_fits i n m w h = subst (λ (k : ℕ). k ≤ m * w) (add-mul i n w) (mul-le-mul_right w h)

-- the run of n records from place i on taken out
pub remove-area : (w i n k : ℕ) (rs : List (List ℕ)) → Wide w rs → i + n ≤ length rs
    → closed (i * w) (length rs * w) (n * w) (area w rs k) ≡ area w (remove_run i n rs) (n + k)
unfolding area remove_run
remove-area w i n k rs wide h =
    ap (closed (i * w) (length rs * w) (n * w)) (rw (joined-run i n rs, append_assoc, append_assoc))
    ∙ closed-of-parts (i * w) (length rs * w) (n * w) (joined (take i rs)) (joined (take n (drop i rs))) (joined (drop (i + n) rs)) (replicate (k * w) 0)
    (length_front w i rs wide (omega arith)) (length_front w n (drop i rs) (wide-drop w i rs wide) (simp length-drop (omega arith)))
    (length_back w (i + n) rs wide h ∙ ap (λ (m : ℕ). length rs * w - m) (add-mul i n w)) (run_fits i n (length rs) w h)
    ∙ sym (rw (joined-append (take i rs) (drop (i + n) rs), append_assoc, zeros-places n k w))

pub length-area : (w k : ℕ) (rs : List (List ℕ)) → Wide w rs → length (area w rs k) ≡ (length rs + k) * w
unfolding area
length-area w k rs wide = length-append (joined rs) (replicate (k * w) 0) ∙ rw (length-joined w rs wide, length-replicate, add-mul)

-- another record over the one at place i
pub replace-area : (w i k : ℕ) (r : List ℕ) (rs : List (List ℕ)) → Wide w rs → i < length rs
    → with_part (i * w) (i * w + w) r (area w rs k) ≡ area w (replace_at i r rs) k
unfolding area replace_at joined
replace-area w i k r rs wide h =
    ap (with_part (i * w) (i * w + w) r) (rw (joined-split i rs, drop-cons rs i [] h, append_assoc, append_assoc))
    ∙ with-of (i * w) (i * w + w) r (joined (take i rs)) (get_or rs i []) (joined (drop (suc i) rs) ++ replicate (k * w) 0)
    (length_front w i rs wide (omega arith)) (wide_at w i rs wide h ∙ sym (add-sub_cancel_left (i * w) w)) (omega arith)
    ∙ sym (rw (joined-append (take i rs) (r ∷ drop (suc i) rs), append_assoc, append_assoc))

pub wide-replace : (w i : ℕ) (r : List ℕ) (rs : List (List ℕ)) → Wide w rs → length r ≡ w → Wide w (replace_at i r rs)
unfolding replace_at Wide
wide-replace w i r rs h e = wide-append w (take i rs) (r ∷ drop (suc i) rs) (wide-take w i rs h) (e, wide-drop w (suc i) rs h)

-- ---- the records of any bytes

pub length-records : (w n : ℕ) (xs : List ℕ) → length (records w n xs) ≡ n
unfolding records
length-records w zero xs = refl
length-records w (suc n) xs = ap suc (length-records w n (drop w xs))

-- the i-th record is w bytes from i * w on
pub get_or-records : (w n i : ℕ) (xs : List ℕ) → i < n → get_or (records w n xs) i [] ≡ take w (drop (i * w) xs)
unfolding records
get_or-records w zero i xs h = absurd (not-suc-le-zero h)
get_or-records w (suc n) zero xs h = rw zero-mul
get_or-records w (suc n) (suc i) xs h =
    get_or-records w n i (drop w xs) (le_of_suc-le-suc h) ∙ ap (take w) (drop-drop (i * w) w xs ∙ ap (λ (m : ℕ). drop m xs) (sym (suc-mul i w ∙ add_comm (i * w) w)))

-- the part from a place to the next is the record there
pub part-record : (w n i : ℕ) (xs : List ℕ) → i < n → take (i * w + w - i * w) (drop (i * w) xs) ≡ get_or (records w n xs) i []
part-record w n i xs h = rw (add-sub_cancel_left (i * w) w) (sym (get_or-records w n i xs h))

-- the records of an area are those that it holds
pub records-joined : (w : ℕ) (rs : List (List ℕ)) (z : List ℕ) → Wide w rs → records w (length rs) (joined rs ++ z) ≡ rs
unfolding records joined Wide
records-joined w [] z h = refl
records-joined w (r ∷ rs) z h =
    rw (append_assoc, take_at r (joined rs ++ z) w h.0, drop_at r (joined rs ++ z) w h.0, records-joined w rs z h.1)

pub wide-records : (w n : ℕ) (xs : List ℕ) → n * w ≤ length xs → Wide w (records w n xs)
unfolding records Wide
wide-records w zero xs h = tt
wide-records w (suc n) xs h =
    let e : suc n * w ≡ n * w + w = suc-mul n w in
    (simp length-take (omega arith), wide-records w n (drop w xs) (simp length-drop (omega arith)))
