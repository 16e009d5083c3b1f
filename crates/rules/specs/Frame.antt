-- The table that a request names, and what it is to leave any other as it was (document 01, demand 3). Assumes nothing.
use Rattle.std.specs.Prelude.{◌≡◌, List, Bool, true, false}
use Rattle.std.proofs.Math.Option.{Option, none, some}
use Rattle.values.specs.Basic.{keep}
use Rattle.rules.specs.State.{Name, same_name, State, table_named, rows_of}
use Rattle.rules.specs.Index.{Entry, index_of}
use Rattle.rules.specs.Request.{Request, Create, Drop, Insert, Update, Delete, Get, Lookup, Scan, Names, Open, Keep, Back}

-- a list names none
abbrev pub names : Request → Option Name
names (Create t) = some t.name
names (Drop n ifExists) = some n
names (Insert n m rows) = some n
names (Update n qs) = some n
names (Delete n ks) = some n
names (Get n ks) = some n
names (Lookup n i vs) = some n
names (Scan n) = some n
names Names = none
names Open = none
names Keep = none
names Back = none

-- the index entries of a table
abbrev pub entries_named : State → Name → List Entry
entries_named s n = keep (λ (e : Entry). same_name e.table n) (index_of s.tables s.rows)

-- the table n in a store and in a later one
pub record Untouched (n : Name) (s z : State) : Type 0 where
  pub schema : table_named z.tables n ≡ table_named s.tables n
  pub rows : rows_of z.rows n ≡ rows_of s.rows n
  pub entries : entries_named z n ≡ entries_named s n

-- a taking back changes what it does not name
abbrev pub takes_back : Request → Bool
takes_back Back = true
takes_back (Create t) = false
takes_back (Drop n ifExists) = false
takes_back (Insert n m rows) = false
takes_back (Update n qs) = false
takes_back (Delete n ks) = false
takes_back (Get n ks) = false
takes_back (Lookup n i vs) = false
takes_back (Scan n) = false
takes_back Names = false
takes_back Open = false
takes_back Keep = false
