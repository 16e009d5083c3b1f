-- An area of records whose count stands elsewhere in the buffer, in k bytes. Assumes nothing.
use Rattle.std.specs.Prelude.{◌≡◌, ℕ, ◌+◌, ◌-◌, ◌^◌, ◌≤◌, ◌<◌, List, [], ◌++◌, length, take, drop}
use Rattle.values.specs.Bytes.{be, num}
use Rattle.values.specs.Area.{with_part, inserted_at, removed_at, Spare, Taken}
use Rattle.areas.specs.Records.{filled, Wide}

-- a buffer with a count and its area, among other parts
unfoldable pub framed : List ℕ → ℕ → List ℕ → ℕ → ℕ → List (List ℕ) → List ℕ → List ℕ
framed pre k mid w places rs post = pre ++ (be k (length rs) [] ++ (mid ++ (filled w places rs ++ post)))

unfoldable pub count_at : ℕ → ℕ → List ℕ → ℕ
count_at cat k s = num 0 (take k (drop cat s))

-- a record put in, and the count one more
unfoldable pub grown : ℕ → ℕ → ℕ → ℕ → ℕ → List ℕ → List ℕ → List ℕ
grown cat k from places at r s = with_part cat (cat + k) (be k (count_at cat k s + 1) []) (inserted_at from places (count_at cat k s) at r s)

-- a run of records taken out, and the count less by as many
unfoldable pub shrunk : ℕ → ℕ → ℕ → ℕ → ℕ → ℕ → ℕ → List ℕ → List ℕ
shrunk cat k from places w at run s = with_part cat (cat + k) (be k (count_at cat k s - run) []) (removed_at from places w (count_at cat k s) at run s)

pub record Grows (s : List ℕ) (cat k from places at w : ℕ) : Type 0 where
  pub small : k ≤ 8
  pub before : cat + k ≤ from
  pub spare : Spare s from places (count_at cat k s) at w

pub record Shrinks (s : List ℕ) (cat k from places w at run : ℕ) : Type 0 where
  pub small : k ≤ 8
  pub before : cat + k ≤ from
  pub taken : Taken s from places w (count_at cat k s) at run

-- a record of w bytes can go in at place i
pub record Fresh (w places i : ℕ) (r : List ℕ) (rs : List (List ℕ)) : Type 0 where
  pub width : length r ≡ w
  pub at-le : i ≤ length rs
  pub room : length rs < places

-- a count of k bytes at `cat` and its area at `from`: where they stand in `framed pre k mid w places rs post`, and that they fit
pub record Frame (pre : List ℕ) (cat k : ℕ) (mid : List ℕ) (from w places : ℕ) (rs : List (List ℕ)) : Type 0 where
  pub start : length pre ≡ cat
  pub end : cat + k + length mid ≡ from
  pub wide : Wide w rs
  pub few : length rs ≤ places
  pub small : places < 256 ^ k
