-- A place of a row is the row's record behind its first byte. Assumes nothing.
use Rattle.std.proofs.Common.{arith}
use Rattle.std.proofs.lemmas.Grind.{common_steps}
use Rattle.rules.specs.Layout.{parse}
use Rattle.sound.proofs.PlacePieces.{places, event_is}
use Rattle.sound.proofs.journal_test.is_event.Goals as goal

pub returns-then-rec-eq-A_ROW : goal.returns-then-rec-eq-A_ROW
returns-then-rec-eq-A_ROW c =
    let a = c.args in
    grind (arith, common_steps, places, event_is a.p (parse a.p a.places a.s.now).tables a.rec.now c.requires.0.catalog.inside.coded (λ i. (c.type_inv.rec i).fits) c.requires.1)
