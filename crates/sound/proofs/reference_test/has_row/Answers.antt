-- The rows are searched by table and key. Assumes nothing.
use Rattle.std.proofs.Common.{arith}
use Rattle.std.proofs.lemmas.Grind.{common_steps}
use Rattle.values.specs.Meaning.{text_bytes, meaning}
use Rattle.sound.proofs.Placed.{has-nowhere, rows-searched, row_past, row_here}
use Rattle.sound.proofs.reference_test.has_row.Goals as goal

pub returns-in_default : goal.returns-in_default
returns-in_default c =
    let a = c.args in has-nowhere a.p a.places a.s.now c.requires.0 (text_bytes a.name) (meaning a.key) c.in_default.ensures

pub keyed_before-i-requires-clause-search_in : goal.keyed_before-i-requires-clause-search_in
keyed_before-i-requires-clause-search_in c =
    let a = c.args in
    rows-searched a.p a.places a.s.now c.requires.0 (text_bytes a.name) (meaning a.key) c.in-Some.rec.now c.in-Some.ensures _ c.key_at-at.ensures.0 _ _ _ c.rows_at.ensures c.row_width.ensures c.row_count-count.ensures

pub returns-then-i-count : goal.returns-then-i-count
returns-then-i-count c =
    let a = c.args in
    grind (arith, common_steps, row_here a.p a.places a.s.now c.requires.0 (text_bytes a.name) (meaning a.key) c.in-Some.rec.now c.in-Some.ensures _ c.key_at-at.ensures.0 _ _ _ c.rows_at.ensures c.row_width.ensures c.row_count-count.ensures _ c.keyed_before-i.ensures c.if-i-count.true _ c.row_record.ensures _ c.compare_keyed.ensures)

pub returns-else-i-count : goal.returns-else-i-count
returns-else-i-count c =
    let a = c.args in
    grind (arith, common_steps, row_past a.p a.places a.s.now c.requires.0 (text_bytes a.name) (meaning a.key) c.in-Some.rec.now c.in-Some.ensures _ c.key_at-at.ensures.0 _ _ _ c.rows_at.ensures c.row_width.ensures c.row_count-count.ensures _ c.keyed_before-i.ensures c.if-i-count.false)
