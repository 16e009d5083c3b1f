-- A stored row's table is stored, and the order is that of names and keys. Assumes nothing.
use Rattle.std.proofs.Common.{arith}
use Rattle.sound.proofs.Rowing.{row_none, row_order}
use Rattle.std.proofs.lemmas.Grind.{common_steps}
use Rattle.sound.proofs.row_test.is_row_before.Goals as goal

pub unreachable-requires : goal.unreachable-requires
unreachable-requires c =
    let a = c.args in let e = row_none a.p a.places a.s.now c.requires.0 a.b.now (λ i. (c.type_inv.b i).fits) c.requires.2 _ c.read_name-name.ensures.0 c.in_default.ensures in cc (e, c.requires.3)

pub returns : goal.returns
returns c =
    let a = c.args in grind (arith, common_steps, row_order a.p a.places a.s.now c.requires.0 a.a.now a.b.now _ c.read_name-name.ensures.0 _ c.in-Some.ensures _ c.key_at-at.ensures.0 _ c.read_cell.ensures.0)
