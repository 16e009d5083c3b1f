-- The record at the place that the search ends at is the row's, or no row has the key.
use Rattle.std.proofs.Common.{arith, refl}
use Rattle.std.proofs.lemmas.Bool.{le-ltb}
use Rattle.values.specs.Meaning.{text_bytes, meaning}
use Rattle.values.proofs.Orders.{is_eq-ordering}
use Rattle.rules.specs.Layout.{Rows}
use Rattle.laid.proofs.Inside.{name-within, inside-header}
use Rattle.laid.proofs.Stores.{held-inside}
use Rattle.laid.proofs.Keyed.{rows-counted, row_within, row-bytes, key-room, row-past, row-told}
use Rattle.laid.proofs.row.find_row.Goals as goal
use Rattle.laid.proofs.row.find_row.Goals.{then-i-row_count, else-i-row_count}

pub row_count-requires : goal.row_count-requires
row_count-requires c = inside-header _ _ _ (held-inside _ _ _ c.requires.0)

pub row_record-requires-clause-inside : goal.row_record-requires-clause-inside
row_record-requires-clause-inside c = held-inside _ _ _ c.requires.0

pub row_record-requires-clause-i_in_bounds : goal.row_record-requires-clause-i_in_bounds
row_record-requires-clause-i_in_bounds c =
    row_within _ _ _ c.requires.0 _ (omega (arith, rows-counted c.args.p c.args.places c.args.s.now c.requires.0))

pub compare_keyed-requires : goal.compare_keyed-requires
compare_keyed-requires c =
    let l = row-bytes _ _ _ c.requires.0 _ (omega (arith, rows-counted c.args.p c.args.places c.args.s.now c.requires.0)) _ c.row_record.ensures in
    let k = key-room _ _ _ c.requires.0 (text_bytes c.args.name) c.args.column c.requires.1 (meaning c.args.key) in
    (omega (arith, name-within c.args.p Rows), omega arith, c.requires.2, c.requires.3)

pub returns : goal.returns
returns c =
    elim c.if-i-row_count.branch [
      | then-i-row_count w ↦
          rw (c.then_some.ensures, w.found-is, w.is_eq-found.ensures, is_eq-ordering w.compare_keyed.result, w.compare_keyed.ensures)
          (row-told _ _ _ c.requires.0 (text_bytes c.args.name) c.args.column c.requires.1 (meaning c.args.key) _ c.rank_of-i.ensures
          (omega (arith, rows-counted c.args.p c.args.places c.args.s.now c.requires.0)) _ w.row_record.ensures _ refl)
      | else-i-row_count w ↦
          rw (c.then_some.ensures, w.found-is, le-ltb _ _ w.if-i-row_count.false)
          (row-past _ _ _ c.requires.0 (text_bytes c.args.name) c.args.column c.requires.1 (meaning c.args.key) _ c.rank_of-i.ensures _ c.row_count.ensures w.if-i-row_count.false)
    ]
