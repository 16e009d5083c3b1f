use Rattle.std.proofs.Common.{◌≡◌, ◌-◌, true}
use Rattle.std.proofs.Math.Option.{map}
use Rattle.std.specs.Option.{IfSome}
use Rattle.values.specs.Meaning.{meaning, option_of, Proper}
use Rattle.rules.specs.Rows.{rising_fault}
use Rattle.records.specs.Reading.{times}
use Rattle.records.specs.Record.{pair_at}
use Rattle.mapping.specs.Got.{is_got}
use Rattle.mapping.specs.Mapped.{pairs_at}
use Rattle.mapping.proofs.Pairs.{rising_after}
use Rattle.mapping.proofs.update.rising_fault.Given as goal

-- what is said of the pairs that remain is what is said of all
abbrev pub invariant-loop-i : goal.invariant-loop-i
invariant-loop-i l =
    (is_got (times (pair_at l.rec) (l.n - l.i) l.q) ≡ true)
    × (rising_after (map meaning (option_of l.last)) l.i (pairs_at l.rec (l.n - l.i) l.q) ≡ rising_fault 0 (pairs_at l.rec l.n l.fn.at))
    × IfSome l.last Proper
