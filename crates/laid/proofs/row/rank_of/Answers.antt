-- The rows' records are searched by table and key.
use Rattle.std.proofs.Common.{arith}
use Rattle.values.specs.Meaning.{text_bytes, meaning}
use Rattle.rules.specs.Layout.{Rows}
use Rattle.laid.proofs.Inside.{area-start, inside-header, name-within}
use Rattle.laid.proofs.Stores.{held-inside}
use Rattle.laid.proofs.Keyed.{key-room, rows-searched, rows-ranked}
use Rattle.laid.proofs.row.rank_of.Goals as goal

pub slice_bounds-keyed_before-count : goal.slice_bounds-keyed_before-count
slice_bounds-keyed_before-count c = area-start _ _ _ (held-inside _ _ _ c.requires.0) Rows _ c.rows_at-from.ensures

pub slice_bounds-keyed_before-start : goal.slice_bounds-keyed_before-start
slice_bounds-keyed_before-start c = area-start _ _ _ (held-inside _ _ _ c.requires.0) Rows _ c.rows_at-from.ensures

pub row_count-requires : goal.row_count-requires
row_count-requires c = inside-header _ _ _ (held-inside _ _ _ c.requires.0)

pub keyed_before-requires-clause-name_width_le_width : goal.keyed_before-requires-clause-name_width_le_width
keyed_before-requires-clause-name_width_le_width c =
    let k = key-room _ _ _ c.requires.0 (text_bytes c.args.name) c.args.column c.requires.1 (meaning c.args.key) in
    (omega (arith, name-within c.args.p Rows), omega arith, c.requires.2, c.requires.3)

pub keyed_before-requires-clause-search_in : goal.keyed_before-requires-clause-search_in
keyed_before-requires-clause-search_in c =
    rows-searched _ _ _ c.requires.0 (text_bytes c.args.name) c.args.column c.requires.1 (meaning c.args.key) _ _ _ c.rows_at-from.ensures c.row_width.ensures c.row_count.ensures

pub returns : goal.returns
returns c =
    rows-ranked _ _ _ c.requires.0 (text_bytes c.args.name) c.args.column c.requires.1 (meaning c.args.key) _ _ _ c.rows_at-from.ensures c.row_width.ensures c.row_count.ensures _
    c.keyed_before.ensures
