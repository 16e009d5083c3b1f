-- What the loop of `journal_test::are_events` has found. Assumes nothing.
use Rattle.std.proofs.Common.{◌≡◌, drop}
use Rattle.rules.specs.Layout.{parse}
use Rattle.rules.specs.Sound.{every}
use Rattle.sound.specs.Journal.{is_event, pages_in}
use Rattle.sound.proofs.journal_test.are_events.Given as goal

abbrev pub invariant-loop-i : goal.invariant-loop-i
invariant-loop-i l =
    every (is_event l.p (parse l.p l.places l.s).tables) (pages_in l.p l.j) ≡ every (is_event l.p (parse l.p l.places l.s).tables) (drop l.i (pages_in l.p l.j))
