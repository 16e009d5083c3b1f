use Rattle.std.proofs.Common.{◌∙◌}
use Rattle.values.specs.Meaning.{text_bytes, meaning}
use Rattle.rules.specs.State.{is_row}
use Rattle.rules.specs.Layout.{parse}
use Rattle.checks.proofs.Checking.{found-some}
use Rattle.checks.proofs.row_fault.is_stored.Goals as goal

pub returns : goal.returns
returns c =
    c.is_some.ensures
    ∙ found-some (is_row (text_bytes c.args.name) (meaning c.args.key)) (parse c.args.p c.args.places c.args.s.now).rows c.find_row.result c.find_row.ensures
