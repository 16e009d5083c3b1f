use borrow.Author.Rules.{rules}
use Rattle.records.specs.Record.{operands_at}
use Rattle.operations.proofs.Shut.{journal-there}
use Rattle.operations.proofs.Asked.{writes-known}
use Rattle.operations.proofs.Batching.{open-acted, keep-acted, back-acted}
use Rattle.operations.proofs.operate.write.Goals as goal

pub create-requires : goal.create-requires
unfolding operands_at
create-requires c = (c.requires.0, rw c.in-1.is at c.requires.2)

pub drop-requires : goal.drop-requires
unfolding operands_at
drop-requires c = (c.requires.0, rw c.in-2.is at c.requires.2)

pub insert-requires : goal.insert-requires
unfolding operands_at
insert-requires c = (c.requires.0, rw c.in-3.is at c.requires.2)

pub update-requires : goal.update-requires
unfolding operands_at
update-requires c = (c.requires.0, rw c.in-4.is at c.requires.2)

pub delete-requires : goal.delete-requires
unfolding operands_at
delete-requires c = (c.requires.0, rw c.in-5.is at c.requires.2)

pub open-requires : goal.open-requires
open-requires c = journal-there c.requires.0

pub keep-requires : goal.keep-requires
keep-requires c = journal-there c.requires.0

pub returns-in-1 : goal.returns-in-1
unfolding operands_at
returns-in-1 c = rw c.in-1.is c.create.ensures

pub returns-in-2 : goal.returns-in-2
unfolding operands_at
returns-in-2 c = rw c.in-2.is c.drop.ensures

pub returns-in-3 : goal.returns-in-3
unfolding operands_at
returns-in-3 c = rw c.in-3.is c.insert.ensures

pub returns-in-4 : goal.returns-in-4
unfolding operands_at
returns-in-4 c = rw c.in-4.is c.update.ensures

pub returns-in-5 : goal.returns-in-5
unfolding operands_at
returns-in-5 c = rw c.in-5.is c.delete.ensures

pub returns-in-12 : goal.returns-in-12
unfolding operands_at
returns-in-12 c = rw c.in-12.is (open-acted c.requires.0 2 c.open.ensures)

pub returns-in-13 : goal.returns-in-13
unfolding operands_at
returns-in-13 c = rw c.in-13.is (keep-acted c.requires.0 2 c.keep.ensures)

pub returns-in-14 : goal.returns-in-14
unfolding operands_at
returns-in-14 c = rw c.in-14.is (back-acted 2 c.back.ensures)

pub unreachable-requires : goal.unreachable-requires
unreachable-requires c =
    writes-known c.args.rec.now c.args.p c.args.k 2 c.requires.2 c.requires.1
    (search rules) (search rules) (search rules) (search rules) (search rules) (search rules) (search rules) (search rules)
