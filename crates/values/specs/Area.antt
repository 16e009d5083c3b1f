-- What opening and closing a place of fixed width does to the bytes of an area, and to a buffer that the area is a part of. Assumes nothing.
use Rattle.std.specs.Prelude.{ℕ, ◌+◌, ◌-◌, ◌*◌, ◌≤◌, ◌<◌, List, ◌++◌, length, take, drop, replicate}

-- a place of `width` bytes at `at` can be opened: the used part and the place fit
pub record Room (xs : List ℕ) (at used width : ℕ) : Type 0 where
  pub at-le : at ≤ used
  pub fits : used + width ≤ length xs

-- a place of `width` bytes at `at` can be closed
pub record Place (xs : List ℕ) (at used width : ℕ) : Type 0 where
  pub at-le : at + width ≤ used
  pub fits : used ≤ length xs

-- the bytes from `at` to `used` moved up by `width`; what the opened place holds is what stood there
unfoldable pub raised : ℕ → ℕ → ℕ → List ℕ → List ℕ
raised at used width xs = take (at + width) xs ++ (take (used - at) (drop at xs) ++ drop (used + width) xs)

-- `i - at` bytes, which start at `at + width`, moved down by `width`
unfoldable pub lowered : ℕ → ℕ → ℕ → List ℕ → List ℕ
lowered at i width xs = take at xs ++ (take (i - at) (drop (at + width) xs) ++ drop i xs)

-- zeros from `from` to `to`
unfoldable pub cleared : ℕ → ℕ → List ℕ → List ℕ
cleared from to xs = take from xs ++ (replicate (to - from) 0 ++ drop to xs)

-- a record put in at `at`: what stood from there to `used` moves up by the record's length
unfoldable pub inserted : ℕ → ℕ → List ℕ → List ℕ → List ℕ
inserted at used r xs = take at xs ++ (r ++ (take (used - at) (drop at xs) ++ drop (used + length r) xs))

-- the bytes from `at + width` to `used` moved down by `width`, and `width` zeros after them
unfoldable pub closed : ℕ → ℕ → ℕ → List ℕ → List ℕ
closed at used width xs = take at xs ++ (take (used - (at + width)) (drop (at + width) xs) ++ (replicate width 0 ++ drop used xs))

-- ---- an area inside a buffer

-- the part from `from` to `to` of a buffer, and the buffer with another part there
unfoldable pub part : ℕ → ℕ → List ℕ → List ℕ
part from to s = take (to - from) (drop from s)

unfoldable pub with_part : ℕ → ℕ → List ℕ → List ℕ → List ℕ
with_part from to p s = take from s ++ (p ++ drop to s)

-- a place among `count` records of `width` bytes at `from`, with room for one more among `places`
pub record Spare (s : List ℕ) (from places count at width : ℕ) : Type 0 where
  pub inside : from + places * width ≤ length s
  pub room : count < places
  pub at-le : at ≤ count

-- a run of places, from `at` on, that some of `count` records hold
pub record Taken (s : List ℕ) (from places width count at run : ℕ) : Type 0 where
  pub inside : from + places * width ≤ length s
  pub count-le : count ≤ places
  pub run-le : at + run ≤ count

-- a record put in at place `at` of the `count` records that start at `from`
unfoldable pub inserted_at : ℕ → ℕ → ℕ → ℕ → List ℕ → List ℕ → List ℕ
inserted_at from places count at r s = with_part from (from + places * length r) (inserted (at * length r) (count * length r) r (part from (from + places * length r) s)) s

-- the run of records from place `at` on taken out
unfoldable pub removed_at : ℕ → ℕ → ℕ → ℕ → ℕ → ℕ → List ℕ → List ℕ
removed_at from places width count at run s = with_part from (from + places * width) (closed (at * width) (count * width) (run * width) (part from (from + places * width) s)) s

-- the record of w bytes at place `at`, and another over it
unfoldable pub record_at : ℕ → ℕ → ℕ → List ℕ → List ℕ
record_at from w at s = take w (drop (from + at * w) s)

unfoldable pub with_record : ℕ → ℕ → List ℕ → List ℕ → List ℕ
with_record from at r s = with_part (from + at * length r) (from + at * length r + length r) r s
