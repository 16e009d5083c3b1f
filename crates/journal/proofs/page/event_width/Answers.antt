use Rattle.std.proofs.Common.{arith}
use Rattle.rules.proofs.Widths.{row-most}
use Rattle.rules.specs.Pages.{event_width}
use Rattle.journal.proofs.page.event_width.Goals as goal

pub overflow_add-result : goal.overflow_add-result
overflow_add-result c = omega (arith, row-most c.args.p c.requires)

pub returns : goal.returns
unfolding event_width
returns c = omega arith
