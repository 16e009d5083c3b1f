use Rattle.values.specs.Meaning.{text_bytes}
use Rattle.checks.specs.Keys.{values_of}
use Rattle.walks.proofs.Searched.{FromTable, FromColumn, FromRow, AtTable}
use Rattle.walks.proofs.referrer.row_references.Given as goal

abbrev pub invariant-loop-t : goal.invariant-loop-t
invariant-loop-t l = FromTable l.p l.places l.s (text_bytes l.name) (values_of l.values) l.t

abbrev pub invariant-loop-j : goal.invariant-loop-j
invariant-loop-j l =
    record {
      table : AtTable l.p l.places l.s (text_bytes l.name) l.t l.j-end l.table l.own;
      left : FromColumn l.p l.places l.s (text_bytes l.name) (values_of l.values) l.t l.j;
    }

abbrev pub invariant-loop-k : goal.invariant-loop-k
invariant-loop-k l = FromRow l.p l.places l.s (text_bytes l.name) (values_of l.values) l.t l.j l.own l.k-end l.k
