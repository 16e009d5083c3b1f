-- Each column is asked with its cell. Assumes nothing.
use Rattle.std.proofs.Common.{arith}
use Rattle.values.specs.Meaning.{text_bytes}
use Rattle.laid.specs.Column.{column_of}
use Rattle.laid.specs.Entered.{entries_in}
use Rattle.rules.specs.Layout.{parse, read_row}
use Rattle.sound.specs.Tested.{entered_cell}
use Rattle.sound.proofs.Walks.{cells, cells_past, count_byte}
use Rattle.sound.proofs.EntryTests.{entered_turn}
use Rattle.sound.proofs.index_test.are_cells_entered.Goals as goal

pub returns-then-not-is_cell_entered : goal.returns-then-not-is_cell_entered
returns-then-not-is_cell_entered c =
    let a = c.args in
    let q = c.requires.1 in
    grind (
      arith,
      cells,
      entered_turn a.p a.places a.s.now a.row.now a.rec.now q.bytes.coded q (text_bytes c.read_name-name.result) c.read_name-name.ensures.0 _ c.key_at.ensures.0 _ c.read_cell-key.ensures.0 c.loop-i.i
          (omega (arith, count_byte a.p a.rec.now)) _ (rw (c.from-j.ensures, q.bytes.coded.cells) at c.cell_in-v.ensures.0) (entries_in a.p a.places a.s.now) (column_of c.read_column-c.result) (rw c.from-j.ensures at c.read_column-c.ensures.is) _ c.is_cell_entered.ensures,
    )

pub loop-i-preserved : goal.loop-i-preserved
loop-i-preserved c =
    let a = c.args in
    let q = c.requires.1 in
    grind (
      arith,
      cells,
      entered_turn a.p a.places a.s.now a.row.now a.rec.now q.bytes.coded q (text_bytes c.read_name-name.result) c.read_name-name.ensures.0 _ c.key_at.ensures.0 _ c.read_cell-key.ensures.0 c.loop-i.i
          (omega (arith, count_byte a.p a.rec.now)) _ (rw (c.from-j.ensures, q.bytes.coded.cells) at c.cell_in-v.ensures.0) (entries_in a.p a.places a.s.now) (column_of c.read_column-c.result) (rw c.from-j.ensures at c.read_column-c.ensures.is) _ c.is_cell_entered.ensures,
    )

pub returns : goal.returns
returns c =
    let a = c.args in
    cc (c.loop-i.invariant, cells_past a.p a.rec.now a.row.now (entered_cell (entries_in a.p a.places a.s.now) (read_row a.p (parse a.p a.places a.s.now).tables a.row.now)) c.loop-i.i (omega arith))
