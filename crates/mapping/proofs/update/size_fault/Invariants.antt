use Rattle.std.proofs.Common.{◌≡◌, ◌-◌, true}
use Rattle.rules.specs.Layout.{read_table}
use Rattle.rules.specs.Rows.{size_fault}
use Rattle.records.specs.Reading.{times}
use Rattle.records.specs.Record.{pair_at}
use Rattle.mapping.specs.Got.{is_got}
use Rattle.mapping.specs.Mapped.{pairs_at}
use Rattle.mapping.proofs.update.size_fault.Given as goal

-- what is said of the pairs that remain is what is said of all
abbrev pub invariant-loop-i : goal.invariant-loop-i
invariant-loop-i l =
    let t = read_table l.fn.p l.table in
    (is_got (times (pair_at l.rec) (l.n - l.i) l.q) ≡ true)
    × (size_fault t l.i (pairs_at l.rec (l.n - l.i) l.q) ≡ size_fault t 0 (pairs_at l.rec l.n l.fn.at))
