use Rattle.std.proofs.Common.{◌≡◌, ◌+◌, length}
use Rattle.values.specs.Meaning.{text_bytes, meaning, Proper}
use Rattle.rules.specs.Layout.{parse}
use Rattle.checks.specs.Keys.{values_of}
use Rattle.walks.specs.Looked.{keys_with}
use Rattle.walks.proofs.KeysCounted.{left_behind}
use Rattle.walks.proofs.walk.key_count.Given as goal

abbrev pub invariant-loop-key : goal.invariant-loop-key
invariant-loop-key l =
    let keys = keys_with (parse l.p l.places l.s).rows (text_bytes l.name) l.column (values_of l.values) in
    record {
      proper : Proper l.last;
      counted : l.n + left_behind (meaning l.last) keys ≡ length keys;
    }

abbrev pub decreases-loop-key : goal.decreases-loop-key
decreases-loop-key l = left_behind (meaning l.last) (keys_with (parse l.p l.places l.s).rows (text_bytes l.name) l.column (values_of l.values))
