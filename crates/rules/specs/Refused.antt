-- Which numbers each request can be refused with, what N counts, and the numbers after which earlier rows or pairs stay (document 01,
-- "Requests", "Numbers of refusal"). Assumes nothing.
use Rattle.std.specs.Prelude.{◌≡◌, ℕ, Bool, true, false, cond, List, [], ◌∷◌, eqb, length}
use Rattle.values.specs.Basic.{any, is_some}
use Rattle.values.specs.Value.{Value}
use Rattle.rules.specs.Refusal.{Refusal, number_of}
use Rattle.rules.specs.State.{State, table_named}
use Rattle.rules.specs.Request.{Request, Create, Drop, Insert, Update, Delete, Get, Lookup, Scan, Names, Open, Keep, Back}
use Rattle.rules.specs.Step.{Outcome, is_accepted}

-- ---- the numbers that a request can be refused with; 38 and 1 come before the rules are asked

abbrev pub create_numbers : List ℕ
create_numbers = 3 ∷ 4 ∷ 5 ∷ 6 ∷ 7 ∷ 8 ∷ 9 ∷ 10 ∷ 11 ∷ 12 ∷ 13 ∷ 14 ∷ 15 ∷ 16 ∷ 17 ∷ 18 ∷ 19 ∷ []

abbrev pub insert_numbers : List ℕ
insert_numbers = 2 ∷ 24 ∷ 21 ∷ 22 ∷ 23 ∷ 26 ∷ 27 ∷ 28 ∷ 29 ∷ 30 ∷ 31 ∷ 33 ∷ 43 ∷ []

abbrev pub pair_numbers : List ℕ
pair_numbers = 26 ∷ 27 ∷ 28 ∷ 29 ∷ 30 ∷ 31 ∷ 32 ∷ 33 ∷ 34 ∷ 43 ∷ []

abbrev pub update_numbers : List ℕ
update_numbers = 2 ∷ 35 ∷ 25 ∷ 26 ∷ 27 ∷ 28 ∷ 29 ∷ 30 ∷ 31 ∷ 32 ∷ 33 ∷ 34 ∷ 43 ∷ []

abbrev pub numbers_of : Request → List ℕ
numbers_of (Create t) = 44 ∷ create_numbers
numbers_of (Drop n ifExists) = 44 ∷ 2 ∷ 20 ∷ []
numbers_of (Insert n m rows) = insert_numbers
numbers_of (Update n qs) = update_numbers
numbers_of (Delete n ks) = 2 ∷ 32 ∷ 43 ∷ []
numbers_of (Get n ks) = []
numbers_of (Lookup n i vs) = 2 ∷ 37 ∷ []
numbers_of (Scan n) = []
numbers_of Names = []
numbers_of Open = 45 ∷ []
numbers_of Keep = 45 ∷ []
numbers_of Back = 45 ∷ []

-- N: 0 for create and for batches; 1 or 0 for drop; rows, pairs or keys given; lines written
abbrev pub count_for : State → Request → List (List Value) → ℕ
count_for s (Create t) ls = 0
count_for s (Drop n ifExists) ls = cond (is_some (table_named s.tables n)) 1 0
count_for s (Insert n m rows) ls = length rows
count_for s (Update n qs) ls = length qs
count_for s (Delete n ks) ls = length ks
count_for s (Get n ks) ls = length ls
count_for s (Lookup n i vs) ls = length ls
count_for s (Scan n) ls = length ls
count_for s Names ls = length ls
count_for s Open ls = 0
count_for s Keep ls = 0
count_for s Back ls = 0

-- ---- the answer: refused with one of the numbers, N 0 and no lines; accepted with N

abbrev pub one_of : List ℕ → Refusal → Bool
one_of ns k = any (eqb (number_of k)) ns

pub record Answers (ns : List ℕ) (n : ℕ) (o : Outcome) : Type 0 where
  pub number : is_accepted o.reply ≡ false → one_of ns o.reply.kind ≡ true
  pub no-count : is_accepted o.reply ≡ false → o.reply.count ≡ 0
  pub no_lines : is_accepted o.reply ≡ false → o.lines ≡ []
  pub count : is_accepted o.reply ≡ true → o.reply.count ≡ n

-- ---- the store afterwards

-- the numbers after which earlier rows or pairs stay; any other leaves the store unchanged
abbrev pub stay_numbers : List ℕ
stay_numbers = pair_numbers

-- what is carried out row by row or pair by pair; a refusal of any other request changes nothing
abbrev pub in_steps : Request → Bool
in_steps (Create t) = false
in_steps (Drop n ifExists) = false
in_steps (Insert n m rows) = true
in_steps (Update n qs) = true
in_steps (Delete n ks) = false
in_steps (Get n ks) = false
in_steps (Lookup n i vs) = false
in_steps (Scan n) = false
in_steps Names = false
in_steps Open = false
in_steps Keep = false
in_steps Back = false
