use Rattle.std.proofs.Common.{refl, ◌∙◌, arith}
use Rattle.values.specs.Bytes.{be}
use Rattle.values.specs.Meaning.{words}
use Rattle.values.proofs.Parts.{one, fill-be, whole}
use Rattle.values.proofs.Packing.{name-cell}
use Rattle.values.proofs.cell.write_name.Goals as goal

-- each write adds a part to what the slice starts with
pub returns : goal.returns
unfolding be words
returns c =
    let t = c.args.t in
    let s1 = one 25 t.len _ c.requires.0 (omega arith) in
    let s2 = fill-be 25 1 8 t.a _ _ _ s1 refl (omega arith) c.put.ensures in
    let s3 = fill-be 25 9 8 t.b _ _ _ s2 refl (omega arith) c.put-2.ensures in
    let s4 = fill-be 25 17 8 t.c _ _ _ s3 refl (omega arith) c.put-3.ensures in
    whole 25 _ _ s4 refl ∙ name-cell t c.requires.1
