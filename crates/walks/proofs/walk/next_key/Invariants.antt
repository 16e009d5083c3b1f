use Rattle.std.proofs.Common.{◌≡◌}
use Rattle.std.specs.Prelude.{IfSome}
use Rattle.values.specs.Meaning.{text_bytes, meaning, ProperCell}
use Rattle.rules.specs.Layout.{parse}
use Rattle.checks.specs.Keys.{values_of}
use Rattle.walks.specs.Looked.{next_with, least_of, next_of}
use Rattle.walks.proofs.walk.next_key.Given as goal

abbrev pub invariant-loop-cell : goal.invariant-loop-cell
invariant-loop-cell l =
    record {
      least :
          least_of (next_of l.best) (next_with (parse l.p l.places l.s).rows (text_bytes l.name) l.column (values_of l.cell-iterator) (meaning l.after))
          ≡ next_with (parse l.p l.places l.s).rows (text_bytes l.name) l.column (values_of l.values) (meaning l.after);
      proper : IfSome l.best ProperCell;
    }
