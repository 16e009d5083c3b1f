-- The first of the keys that are left goes, and one more was turned.
use Rattle.std.proofs.Common.{length, arith, ap}
use Rattle.checks.proofs.KeysRead.{values-few}
use Rattle.store.proofs.KeysRemoved.{keys-room, keys-next, keys-end}
use Rattle.store.proofs.rows.remove_keys.Goals as goal

pub remove_key-requires : goal.remove_key-requires
remove_key-requires c =
    let x = c.loop-cell.invariant in
    let e = c.in-Some.ensures.steps in
    (x.books, x.known, e.1, keys-room _ _ _ _ _ _ x e.0)

pub overflow_add-keys : goal.overflow_add-keys
overflow_add-keys c = omega (arith, c.loop-cell.invariant.counted, ap length c.in-Some.ensures.steps.0, values-few c.args.values)

pub loop-cell-preserved : goal.loop-cell-preserved
loop-cell-preserved c = keys-next _ _ _ _ _ _ c.loop-cell.invariant c.in-Some.ensures.steps.0 c.remove_key.ensures.0

pub returns : goal.returns
returns c = keys-end _ _ _ _ _ _ c.loop-cell.invariant c.in-None.ensures.steps.0
