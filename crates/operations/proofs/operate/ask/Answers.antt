use mathlib.Core.Path.{◌∙◌}
use borrow.Author.Rules.{rules}
use Rattle.records.specs.Record.{operands_at}
use Rattle.laid.proofs.Inside.{inside-header}
use Rattle.laid.proofs.Stores.{held-inside}
use Rattle.operations.proofs.Asked.{names-answered, tables-counted, reads_known}
use Rattle.operations.proofs.operate.ask.Goals as goal

pub get-requires : goal.get-requires
unfolding operands_at
get-requires c = (c.requires.0, rw c.in-6.is at c.requires.2)

pub lookup-requires : goal.lookup-requires
unfolding operands_at
lookup-requires c = (c.requires.0, rw c.in-7.is at c.requires.2)

pub scan-requires : goal.scan-requires
unfolding operands_at
scan-requires c = (c.requires.0, rw c.in-8.is at c.requires.2)

pub table_count-requires : goal.table_count-requires
table_count-requires c = inside-header _ _ _ (held-inside _ _ _ c.requires.0)

pub returns-in-6 : goal.returns-in-6
unfolding operands_at
returns-in-6 c = rw c.in-6.is c.get.ensures

pub returns-in-7 : goal.returns-in-7
unfolding operands_at
returns-in-7 c = rw c.in-7.is c.lookup.ensures

pub returns-in-8 : goal.returns-in-8
unfolding operands_at
returns-in-8 c = rw c.in-8.is c.scan.ensures

pub returns-in-9 : goal.returns-in-9
unfolding operands_at
returns-in-9 c = rw c.in-9.is (λ j. names-answered _ _ _ 2 (c.table_count.ensures ∙ tables-counted _ _ _))

pub unreachable-requires : goal.unreachable-requires
unreachable-requires c = reads_known c.args.rec.now c.args.p c.args.k 2 c.requires.2 c.requires.1 (search rules) (search rules) (search rules) (search rules)
