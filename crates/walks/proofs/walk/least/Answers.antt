use Rattle.std.proofs.Common.{sym, ap, ◌∙◌}
use Rattle.values.specs.Basic.{is_lt}
use Rattle.values.proofs.Orders.{is_lt-ordering}
use Rattle.walks.specs.Looked.{next_of}
use Rattle.walks.proofs.LeastKey.{none-least, least-none, second-least, first-least}
use Rattle.walks.proofs.walk.least.Goals as goal

pub returns-in-None-default : goal.returns-in-None-default
returns-in-None-default c = (rw c.in-None-default.is-0 (sym (none-least (next_of c.args.b))), c.requires.1)

pub returns-in_default-None : goal.returns-in_default-None
returns-in_default-None c = (rw c.in_default-None.is-1 (sym (least-none (next_of c.args.a))), c.requires.0)

pub returns-then-is_lt : goal.returns-then-is_lt
returns-then-is_lt c =
    (rw (c.in-Some-Some.is-0, c.in-Some-Some.is-1) (second-least _ _ (ap is_lt (sym c.compare.ensures) ∙ sym (is_lt-ordering c.compare.result) ∙ sym c.is_lt.ensures ∙ c.if-is_lt.true)), c.requires.1)

pub returns-else-is_lt : goal.returns-else-is_lt
returns-else-is_lt c =
    (rw (c.in-Some-Some.is-0, c.in-Some-Some.is-1) (first-least _ _ (ap is_lt (sym c.compare.ensures) ∙ sym (is_lt-ordering c.compare.result) ∙ sym c.is_lt.ensures ∙ c.if-is_lt.false)), c.requires.0)
