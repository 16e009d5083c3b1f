-- The lines of an answer (document 01, "Requests"): `row` lines first, then `ok N` or `no CODE AT GONE`. Assumes nothing.
use Rattle.std.specs.Prelude.{ℕ, cond, List, [], ◌∷◌, ◌++◌}
use Rattle.values.specs.Value.{Value}
use Rattle.forms.specs.Print.{decimal, printed}
use Rattle.rules.specs.Refusal.{number_of}
use Rattle.rules.specs.Request.{Reply}
use Rattle.rules.specs.Step.{is_accepted, Written}

abbrev pub space : ℕ
space = 32

abbrev pub newline : ℕ
newline = 10

-- each value after a single space
unfoldable pub spaced : List Value → List ℕ
spaced [] = newline ∷ []
spaced (v ∷ vs) = space ∷ (printed v ++ spaced vs)

-- `row` and the values
unfoldable pub row_line : List Value → List ℕ
row_line vs = 114 ∷ 111 ∷ 119 ∷ spaced vs

unfoldable pub row_lines : List (List Value) → List ℕ
row_lines [] = []
row_lines (l ∷ ls) = row_line l ++ row_lines ls

-- `ok N`, or `no CODE AT GONE`
unfoldable pub answer_line : Reply → List ℕ
answer_line r =
    cond (is_accepted r)
    (111 ∷ 107 ∷ space ∷ (decimal r.count ++ (newline ∷ [])))
    (110 ∷ 111 ∷ space
    ∷ (decimal (number_of r.kind) ++ (space ∷ (decimal r.at ++ (space ∷ (decimal (cond r.gone 1 0) ++ (newline ∷ [])))))))

-- the longest answer line: `no`, three numbers of at most 20 digits after spaces, a newline
abbrev pub answer_most : ℕ
answer_most = 66

-- what is written for one request, and for a stream of them
unfoldable pub lines_of : Written → List ℕ
lines_of w = row_lines w.lines ++ answer_line w.reply

unfoldable pub stream : List Written → List ℕ
stream [] = []
stream (w ∷ ws) = lines_of w ++ stream ws

-- the longest row line: `row`, eight values of at most 50 bytes after spaces, a newline
abbrev pub row_most : ℕ
row_most = 412
