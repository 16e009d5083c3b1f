use Rattle.std.proofs.Common.{◌≡◌, ◌-◌, true}
use Rattle.rules.specs.Layout.{read_table}
use Rattle.rules.specs.Rows.{fills_fault}
use Rattle.records.specs.Reading.{times}
use Rattle.records.specs.Record.{values_at}
use Rattle.mapping.specs.Got.{is_got}
use Rattle.mapping.specs.Mapped.{map_of, rows_at}
use Rattle.mapping.proofs.executor.fills_fault.Given as goal

-- what is said of the rows that remain is what is said of all
abbrev pub invariant-loop-i : goal.invariant-loop-i
invariant-loop-i l =
    let t = read_table l.p l.table in
    (is_got (times (values_at l.rec) (l.n - l.i-counter) l.q) ≡ true)
    × (fills_fault t (map_of l.rec l.m) l.i-counter (rows_at l.rec (l.n - l.i-counter) l.q) ≡ fills_fault t (map_of l.rec l.m) 0 (rows_at l.rec l.n l.fn.at))
