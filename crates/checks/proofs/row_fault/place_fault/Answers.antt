-- The rows are counted in the header.
use Rattle.std.proofs.Common.{length, arith}
use borrow.Author.Tests.{le-leb, lt-leb}
use Rattle.rules.specs.Layout.{parse}
use Rattle.rules.specs.Schema.{first}
use Rattle.laid.proofs.Inside.{inside-header}
use Rattle.laid.proofs.Stores.{held-inside}
use Rattle.laid.proofs.Keyed.{rows-counted}
use Rattle.checks.specs.Asked.{place_fault}
use Rattle.checks.proofs.row_fault.place_fault.Goals as goal

pub row_count-requires : goal.row_count-requires
row_count-requires c = inside-header _ _ _ (held-inside _ _ _ c.requires)

pub returns-then-places-row_count : goal.returns-then-places-row_count
unfolding place_fault first
returns-then-places-row_count c =
    rw (c.if-update.false, le-leb c.args.places (length (parse c.args.p c.args.places c.args.s.now).rows) (omega (arith, rows-counted _ _ _ c.requires)))

pub returns-else-places-row_count : goal.returns-else-places-row_count
unfolding place_fault first
returns-else-places-row_count c =
    rw (c.if-update.false, lt-leb c.args.places (length (parse c.args.p c.args.places c.args.s.now).rows) (omega (arith, rows-counted _ _ _ c.requires)))
