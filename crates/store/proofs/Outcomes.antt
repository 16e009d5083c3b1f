-- What create and drop come to, case by case, and a store that stays as it is. Assumes nothing.
use mathlib.Core.Path.{◌≡◌}
use mathlib.Core.Bool.{Bool, true, false}
use mathlib.Core.Option.{none, some}
use Prim.Native.Nat.{ℕ, ◌≤◌, ◌<◌}
use mathlib.Core.List.{List, [], ◌∷◌, ◌++◌, map}
use lib.ListN.{length}
use borrow.Author.Tests.{le-leb, lt-leb}
use Rattle.values.specs.Basic.{◌or_else◌, maybe}
use Rattle.rules.specs.declared.profile.Profile.{Profile}
use Rattle.rules.specs.Request.{Answer}
use Rattle.rules.specs.Refusal.{Refusal}
use Rattle.rules.specs.Refusal.{UnknownTable, TableExists, TablesFull, TableReferenced}
use Rattle.rules.specs.State.{Name, Table, State, table_named, rows_of}
use Rattle.rules.specs.Request.{Reply, said, ok, no, Carried, no_carrying}
use Rattle.rules.specs.Schema.{first, at, schema_fault}
use Rattle.rules.specs.Rows.{table_referenced}
use Rattle.rules.specs.Step.{created, dropped, removed, Outcome, did, refused, apply_all, create_fault, create, drop}
use Rattle.laid.specs.Store.{Store, Stored}

-- ---- create

module _ (p : Profile) (s : State) (t : Table) where
  pub create-known : (x : Table) → table_named s.tables t.name ≡ some x → create p s t ≡ refused (no TableExists 0)
  unfolding create create_fault first at maybe ◌or_else◌
  create-known x f = rw f

  module _ (f : table_named s.tables t.name ≡ none) where
    pub create-faulty : (k : Refusal) (i : ℕ) → schema_fault s.tables t ≡ some (k, i) → create p s t ≡ refused (no k i)
    unfolding create create_fault first at maybe ◌or_else◌
    create-faulty k i g = rw (f, g)

    module _ (g : schema_fault s.tables t ≡ none) where
      pub create-full : p.tables ≤ length s.tables → create p s t ≡ refused (no TablesFull 0)
      unfolding create create_fault first at maybe ◌or_else◌
      create-full h = rw (f, g, le-leb p.tables (length s.tables) h)

      pub create-new : length s.tables < p.tables → create p s t ≡ did (created t ∷ []) 0
      unfolding create create_fault first at maybe ◌or_else◌
      create-new h = rw (f, g, lt-leb p.tables (length s.tables) h)

-- ---- drop

module _ (s : State) (n : Name) where
  pub drop-unknown : table_named s.tables n ≡ none → drop s n false ≡ refused (no UnknownTable 0)
  unfolding drop maybe
  drop-unknown f = rw f

  pub drop-nothing : table_named s.tables n ≡ none → drop s n true ≡ refused (ok 0)
  unfolding drop maybe
  drop-nothing f = rw f

  module _ (b : Bool) (t : Table) (f : table_named s.tables n ≡ some t) where
    pub drop-referenced : (x : Carried) → table_referenced n s.tables ≡ some x → drop s n b ≡ refused (no_carrying TableReferenced 0 x)
    unfolding drop maybe
    drop-referenced x g = rw (f, g)

    pub drop-known : table_referenced n s.tables ≡ none → drop s n b ≡ did (map removed (rows_of s.rows n) ++ (dropped t ∷ [])) 1
    unfolding drop maybe
    drop-known g = rw (f, g)

-- ---- a store that stays as it is

pub unchanged : (p : Profile) (R : ℕ) (s : List ℕ) → Store p R s → (o : Outcome) (r : Reply) → o ≡ refused r → (a : Answer) → said a ≡ r → Stored p R o s s a
unfolding apply_all
unchanged p R s b o r e a h = rw e (record { answer = h; bytes = b.bytes })
