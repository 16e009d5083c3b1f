-- How many row lines of an outcome are written in a room: the next of them fits or not, or none is left. Assumes nothing.
use Prim.Native.Nat.{ℕ, suc, ◌+◌, ◌-◌, ◌≤◌, ◌<◌}
use native.Mathlib.Omega.{arith}
use mathlib.Core.Path.{◌≡◌, sym, ap, ◌∙◌}
use mathlib.Core.Bool.{Bool, true, false, cond}
use mathlib.Core.List.{List, [], ◌∷◌}
use lib.Dec.{leb}
use lib.ListN.{length, drop, length-drop, drop_of_length-le}
use lib.Seq.{drop-drop}
use borrow.Author.Tests.{le-leb, lt-leb}
use Rattle.values.specs.Value.{Value}
use Rattle.rules.specs.Step.{Outcome}
use Rattle.requests.specs.Lines.{row_line}
use Rattle.requests.specs.Places.{fitting, lines_to}

fitting-few : (ls : List (List Value)) (room : ℕ) → fitting ls room ≤ length ls
unfolding fitting
fitting-few [] room = omega arith
fitting-few (l ∷ ls) room = go (leb (length (row_line l)) room) (fitting-few ls (room - length (row_line l)))
  where
    go : (b : Bool) → fitting ls (room - length (row_line l)) ≤ length ls
        → cond b (suc (fitting ls (room - length (row_line l)))) 0 ≤ suc (length ls)
    go true h = omega arith
    go false h = omega arith

module _ (o : Outcome) (i room : ℕ) where
  -- no more than there are, and those before are among them
  pub lines-few : lines_to o i room ≤ length o.lines
  unfolding lines_to
  lines-few = omega (arith, fitting-few (drop i o.lines) room, length-drop i o.lines)

  pub lines-least : i ≤ length o.lines → i ≤ lines_to o i room
  unfolding lines_to
  lines-least h = omega arith

  pub lines-all : length o.lines ≤ i → lines_to o i room ≡ length o.lines
  unfolding lines_to fitting
  lines-all h = rw (drop_of_length-le o.lines {i = i} h) (omega arith)

  module _ (l : List Value) (rest : List (List Value)) (e : drop i o.lines ≡ l ∷ rest) where
    one_left : i < length o.lines
    one_left = omega (arith, length-drop i o.lines, ap length e)

    pub lines_stay : room < length (row_line l) → lines_to o i room ≡ i
    unfolding lines_to fitting
    lines_stay h = rw (e, lt-leb (length (row_line l)) room h) (omega (arith, one_left))

    pub lines_next : length (row_line l) ≤ room → lines_to o i room ≡ lines_to o (i + 1) (room - length (row_line l))
    unfolding lines_to fitting
    lines_next h =
        let d : rest ≡ drop (i + 1) o.lines = ap (drop 1) (sym e) ∙ drop-drop 1 i o.lines in
        rw (e, le-leb (length (row_line l)) room h, d) (omega (arith, one_left))
