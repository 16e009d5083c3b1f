-- The test of the layout: where it is passed the bytes are the layout of the records that they are read as, and where they are any records' layout
-- it is passed. Assumes nothing.
use mathlib.Core.Path.{◌≡◌, refl, sym, ap, ◌∙◌}
use mathlib.Core.Bool.{true}
use Prim.Native.Nat.{ℕ, zero, suc, ◌+◌, ◌-◌, ◌*◌, ◌≤◌}
use native.Mathlib.Nat.{suc-mul, zero-mul, add-mul, add-sub_cancel_left, mul-le-mul_right}
use native.Mathlib.Omega.{arith}
use mathlib.Core.List.{List, [], ◌∷◌, ◌++◌, append-nil, append_assoc}
use lib.ListN.{length, get_or, take, drop, replicate, length-take, length-drop, take-append-drop}
use lib.Seq.{take_all, drop_at, drop-drop, drop-cons, take-add, take-take, length-take-le}
use borrow.Author.Tests.{leb-true, eqb-true, le-leb, eq-eqb}
use Rattle.values.specs.Bytes.{be, num, zeros, Bytes}
use Rattle.values.specs.Area.{part}
use Rattle.areas.specs.Records.{joined, records, area, filled}
use Rattle.areas.specs.Counted.{count_at}
use Rattle.values.proofs.Numbers.{be-num}
use Rattle.values.proofs.Packing.{zeros-are, replicate-zeros, take-bytes, drop-bytes}
use Rattle.areas.proofs.Records.{length-records, length-joined}
use Rattle.areas.proofs.Counting.{area-framed}
use Rattle.rules.specs.declared.profile.Profile.{Profile}
use Rattle.rules.specs.Profile.{header_width, rows_at, entries_at, entry_width, store_length, places_most}
use Rattle.rules.specs.Layout.{Lists, Area, Schemas, Rows, Entries, count_place, count_width, area_at, record_width, area_places, in_area, layout, lists, Laid}
use Rattle.rules.proofs.Tests.{all_head, all_tail, all_nil, all_cons}
use Rattle.rules.proofs.Widths.{area-within, header-within}
use Rattle.rules.proofs.Laid.{around, frame, area-wide, area-few, laid-count, told-length, told-version, ahead, between, behind}
use Rattle.laid.specs.Store.{Coded, Inside}
use Rattle.sound.specs.Tested.{headed, spare, laid_out}
use Rattle.laid.proofs.Inside.{area-count, area-lists}

-- ---- records one after the other are the front of what they were read from

joined-records : (w n : ℕ) (xs : List ℕ) → n * w ≤ length xs → joined (records w n xs) ≡ take (n * w) xs
unfolding records joined
joined-records w zero xs h = rw zero-mul
joined-records w (suc n) xs h =
    let e : suc n * w ≡ w + n * w = suc-mul n w ∙ omega arith in
    rw (joined-records w n (drop w xs) (simp length-drop (omega arith)), e) (sym (take-add w (n * w) xs))

-- a part and what follows it
glue : (s : List ℕ) (n k m : ℕ) → n + k ≡ m → take k (drop n s) ++ drop m s ≡ drop n s
glue s n k m e = ap (λ (l : List ℕ). take k (drop n s) ++ l) (ap (λ (j : ℕ). drop j s) (sym e) ∙ sym (drop-drop k n s)) ∙ take-append-drop k (drop n s)

-- a count, written
pub counted_back : (s : List ℕ) (n k : ℕ) → Bytes s → n + k ≤ length s → be k (num 0 (take k (drop n s))) [] ≡ take k (drop n s)
unfolding be
counted_back s n k b h =
    let x : List ℕ = take k (drop n s) in
    let l : 0 + length x ≡ k = omega (arith, length-take-le k (drop n s) (simp length-drop (omega arith))) in
    ap (λ (j : ℕ). be j (num 0 x) []) (sym l) ∙ be-num x 0 0 [] (take-bytes k (drop n s) (drop-bytes n s b)) ∙ append-nil x

pub less-times : (m n w : ℕ) → n ≤ m → m * w - n * w ≡ (m - n) * w
less-times m n w h =
    let e : m ≡ n + (m - n) = omega arith in
    let f : m * w ≡ n * w + (m - n) * w = ap (λ (j : ℕ). j * w) e ∙ add-mul n (m - n) w in
    omega arith

-- an area, written
filled-back : (w n m : ℕ) (xs : List ℕ) → n ≤ m → m * w ≤ length xs → zeros (drop (n * w) (take (m * w) xs)) ≡ true
    → filled w m (records w n xs) ≡ take (m * w) xs
unfolding filled area
filled-back w n m xs h l z =
    let f : n * w ≤ m * w = mul-le-mul_right w h in
    let g : drop (n * w) (take (m * w) xs) ≡ replicate (length (drop (n * w) (take (m * w) xs))) 0 = zeros-are _ z in
    let k : length (drop (n * w) (take (m * w) xs)) ≡ (m - n) * w = simp (length-drop, length-take) (omega (arith, less-times m n w h)) in
    rw (length-records w n xs, joined-records w n xs (omega arith))
    (ap (λ (j : ℕ). take (n * w) xs ++ replicate j 0) (sym k)
    ∙ ap (λ (l : List ℕ). take (n * w) xs ++ l) (sym g)
    ∙ ap (λ (l : List ℕ). l ++ drop (n * w) (take (m * w) xs)) (sym (take-take (n * w) (m * w) xs f))
    ∙ take-append-drop (n * w) (take (m * w) xs))

-- where the areas end
ends-schemas : (p : Profile) (R : ℕ) → area_at p R Schemas + area_places p R Schemas * record_width p Schemas ≡ rows_at p
unfolding rows_at
ends-schemas p R = refl

ends-rows : (p : Profile) (R : ℕ) → area_at p R Rows + area_places p R Rows * record_width p Rows ≡ entries_at p R
unfolding entries_at
ends-rows p R = refl

ends-entries : (p : Profile) (R n : ℕ) → n ≡ store_length p R → n - entries_at p R ≤ p.entries * R * entry_width p
unfolding store_length
ends-entries p R n e = omega arith

module _ (p : Profile) (R : ℕ) (s : List ℕ) where
  abbrev count_in : Area → ℕ
  count_in a = count_at (count_place a) (count_width a) s

  pub record Headed : Type 0 where
    pub told : num 0 (take 4 s) ≡ store_length p R
    pub version : get_or s 4 0 ≡ p.version
    pub tables : count_in Schemas ≤ p.tables
    pub rows : count_in Rows ≤ R
    pub entries : count_in Entries ≤ p.entries * R

  pub headed-is : headed p R s ≡ true → Headed
  unfolding headed
  headed-is h =
      let h1 = all_tail _ _ h in
      let h2 = all_tail _ _ h1 in
      let h3 = all_tail _ _ h2 in
      record {
        told = eqb-true _ _ (all_head _ _ h);
        version = eqb-true _ _ (all_head _ _ h1);
        tables = leb-true _ _ (all_head _ _ h2);
        rows = leb-true _ _ (all_head _ _ h3);
        entries = leb-true _ _ (all_head _ _ (all_tail _ _ h3));
      }

  -- ---- passed: the bytes are laid out

  module _ (long : length s ≡ store_length p R) (b : Bytes s) where
    inside : (a : Area) → area_places p R a * record_width p a ≤ length (drop (area_at p R a) s)
    inside a = simp length-drop (omega (arith, long, area-within p R a))

    area-back : (a : Area) → count_in a ≤ area_places p R a → spare p R s a ≡ true
        → filled (record_width p a) (area_places p R a) (in_area a (lists p R s)) ≡ take (area_places p R a * record_width p a) (drop (area_at p R a) s)
    unfolding spare part
    area-back a h z =
        rw (area-lists p R s a)
        (filled-back (record_width p a) (count_in a) (area_places p R a) (drop (area_at p R a) s) h (inside a)
        (ap (λ (n : ℕ). zeros (drop (count_in a * record_width p a) (take n (drop (area_at p R a) s)))) (sym (add-sub_cancel_left (area_at p R a) (area_places p R a * record_width p a))) ∙ z))

    area-glued : (a : Area) (m : ℕ) → area_at p R a + area_places p R a * record_width p a ≡ m → count_in a ≤ area_places p R a → spare p R s a ≡ true
        → filled (record_width p a) (area_places p R a) (in_area a (lists p R s)) ++ drop m s ≡ drop (area_at p R a) s
    area-glued a m e h z = ap (λ (l : List ℕ). l ++ drop m s) (area-back a h z) ∙ glue s (area_at p R a) (area_places p R a * record_width p a) m e

    count-glued : (a : Area) (m : ℕ) → count_place a + count_width a ≡ m → m ≤ header_width → be (count_width a) (length (in_area a (lists p R s))) [] ++ drop m s ≡ drop (count_place a) s
    unfolding count_at
    count-glued a m e h =
        ap (λ (n : ℕ). be (count_width a) n [] ++ drop m s) (area-count p R s a)
        ∙ ap (λ (l : List ℕ). l ++ drop m s) (counted_back s (count_place a) (count_width a) b (omega (arith, long, header-within p R)))
        ∙ glue s (count_place a) (count_width a) m e

    head-glued : store_length p R ≡ num 0 (take 4 s) → p.version ≡ get_or s 4 0 → be 4 (store_length p R) (p.version ∷ []) ++ drop 5 s ≡ s
    unfolding be
    head-glued e v =
        let l : 4 ≡ 0 + length (take 4 s) = simp length-take (omega (arith, long, header-within p R)) in
        let f : be 4 (store_length p R) (p.version ∷ []) ≡ take 4 s ++ (get_or s 4 0 ∷ []) =
        rw (e, v) (ap (λ (j : ℕ). be j (num 0 (take 4 s)) (get_or s 4 0 ∷ [])) l ∙ be-num (take 4 s) 0 0 (get_or s 4 0 ∷ []) (take-bytes 4 s b))
        in
        ap (λ (l : List ℕ). l ++ drop 5 s) f
        ∙ append_assoc (take 4 s) (get_or s 4 0 ∷ []) (drop 5 s)
        ∙ ap (λ (l : List ℕ). take 4 s ++ l) (sym (drop-cons s 4 0 (omega (arith, long, header-within p R))))
        ∙ take-append-drop 4 s

    pub laid_of : laid_out p R s ≡ true → s ≡ layout p R (lists p R s)
    unfolding laid_out layout
    laid_of h =
        let d = headed-is (all_head _ _ h) in
        let h1 = all_tail _ _ h in
        let h2 = all_tail _ _ h1 in
        let h3 = all_tail _ _ h2 in
        let n = long in
        let x = lists p R s in
        let f3 = area-back Entries d.entries (all_head _ _ h3) ∙ take_all (p.entries * R * entry_width p) (drop (entries_at p R) s) (simp length-drop (last n)) in
        let f2 = area-glued Rows (entries_at p R) rows_end d.rows (all_head _ _ h2) in
        let f1 = area-glued Schemas (rows_at p) schemas-end d.tables (all_head _ _ h1) in
        sym
        (rw (f3, f2, f1, count-glued Entries 12 refl (omega arith), count-glued Rows 8 refl (omega arith), count-glued Schemas 6 refl (omega arith))
        (head-glued (sym d.told) (sym d.version)))
      where
        rows_end : area_at p R Rows + area_places p R Rows * record_width p Rows ≡ entries_at p R
        rows_end = ends-rows p R

        schemas-end : area_at p R Schemas + area_places p R Schemas * record_width p Schemas ≡ rows_at p
        schemas-end = ends-schemas p R

        last : length s ≡ store_length p R → length s - entries_at p R ≤ p.entries * R * entry_width p
        last e = ends-entries p R (length s) e

    pub inside_of : Coded p → R ≤ places_most → laid_out p R s ≡ true → Inside p R s
    unfolding laid_out
    inside_of c m h =
        let d = headed-is (all_head _ _ h) in
        record { coded = c; places = m; long = long; tables-le = d.tables; rows-le = d.rows; entries-le = d.entries }

  -- ---- laid out: it is passed

  module _ (x : Lists) (l : Laid p R s x) where
    spare_of : (a : Area) → spare p R s a ≡ true
    unfolding spare part filled area
    spare_of a =
        let rs = in_area a x in
        let w = record_width p a in
        let f = frame p R a x l.fits in
        let e : take (area_at p R a + area_places p R a * w - area_at p R a) (drop (area_at p R a) s) ≡ joined rs ++ replicate ((area_places p R a - length rs) * w) 0 =
        ap (λ (y : List ℕ). take (area_at p R a + area_places p R a * w - area_at p R a) (drop (area_at p R a) y)) (l.whole ∙ around p R a x)
        ∙ area-framed (ahead p R a x) (count_place a) (count_width a) (between p R a x) (area_at p R a) w (area_places p R a) rs (behind p R a x) f
        in
        rw (e, laid-count p R s x l a, drop_at (joined rs) (replicate ((area_places p R a - length rs) * w) 0) (length rs * w) (length-joined w rs (area-wide p R a x l.fits)))
        (replicate-zeros ((area_places p R a - length rs) * w))

    pub laid-tested : laid_out p R s ≡ true
    unfolding laid_out headed
    laid-tested =
        let k = l.fits.known in
        let m = l.fits.places in
        let few : (a : Area) → count_in a ≤ area_places p R a = λ a. rw (laid-count p R s x l a) (area-few p R a x l.fits) in
        all_cons _ _
        (all_cons _ _ (eq-eqb _ _ (ap (λ (y : List ℕ). num 0 (take 4 y)) l.whole ∙ told-length p R x k m))
        (all_cons _ _ (eq-eqb _ _ (ap (λ (y : List ℕ). get_or y 4 0) l.whole ∙ told-version p R x))
        (all_cons _ _ (le-leb _ _ (few Schemas)) (all_cons _ _ (le-leb _ _ (few Rows)) (all_cons _ _ (le-leb _ _ (few Entries)) all_nil)))))
        (all_cons _ _ (spare_of Schemas) (all_cons _ _ (spare_of Rows) (all_cons _ _ (spare_of Entries) all_nil)))
