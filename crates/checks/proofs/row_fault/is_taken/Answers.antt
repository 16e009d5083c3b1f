-- The two entries from the rank of the value with NULL on decide.
use Rattle.std.proofs.Common.{arith}
use Rattle.values.specs.Meaning.{text_bytes, meaning}
use Rattle.checks.proofs.Checking.{held-entered, rank-small, taken-here}
use Rattle.checks.proofs.Taking.{null-proper, null-means}
use Rattle.checks.proofs.row_fault.is_taken.Goals as goal

pub entry_rank-i-requires : goal.entry_rank-i-requires
entry_rank-i-requires c = (held-entered _ _ _ c.requires.laid_store.0, record { name = c.requires.laid_store.1; value = c.requires.laid_store.2; key = null-proper })

pub overflow_add-i : goal.overflow_add-i
overflow_add-i c = omega (arith, rank-small _ _ _ c.requires.laid_store.0 _ c.entry_rank-i.result c.entry_rank-i.ensures)

pub returns-then-is_other : goal.returns-then-is_other
returns-then-is_other c =
    rw (
      taken-here _ _ _ c.requires.laid_store.0 (text_bytes c.args.name) c.args.column (meaning c.args.v) c.args.update (meaning c.args.key) c.requires.column_value _ null-means c.entry_rank-i.result c.entry_rank-i.ensures,
      ← c.is_other.ensures,
      c.if-is_other.true,
    )

pub returns-else-is_other : goal.returns-else-is_other
returns-else-is_other c =
    rw (
      taken-here _ _ _ c.requires.laid_store.0 (text_bytes c.args.name) c.args.column (meaning c.args.v) c.args.update (meaning c.args.key) c.requires.column_value _ null-means c.entry_rank-i.result c.entry_rank-i.ensures,
      ← c.is_other.ensures,
      c.if-is_other.false,
    )
    c.is_other-else-is_other.ensures
