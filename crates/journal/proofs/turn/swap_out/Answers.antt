use Rattle.std.proofs.Common.{◌∙◌, ap, List, ℕ, ◌∷◌}
use Rattle.values.specs.Area.{with_record}
use Rattle.rules.specs.Pages.{event_record, journal_header}
use Rattle.laid.proofs.Keyed.{row_within, row_read, row-bytes}
use Rattle.laid.proofs.Stores.{held-inside}
use Rattle.journal.proofs.turn.swap_out.Goals as goal

pub row_record-requires-clause-inside : goal.row_record-requires-clause-inside
row_record-requires-clause-inside c = held-inside c.args.p c.args.places c.args.s.now c.requires.0

pub row_record-requires-clause-i_in_bounds : goal.row_record-requires-clause-i_in_bounds
row_record-requires-clause-i_in_bounds c = row_within c.args.p c.args.places c.args.s.now c.requires.0 c.args.k c.requires.1.stored

pub put_row-requires : goal.put_row-requires
put_row-requires c = (c.requires.0.coded.known, row-bytes c.args.p c.args.places c.args.s.now c.requires.0 c.args.k c.requires.1.stored c.row_record.result.now c.row_record.ensures, c.requires.2)

pub returns : goal.returns
unfolding event_record
returns c =
    record {
      store = c.remove_row.ensures;
      journal = c.put_row.ensures ∙ ap (λ (l : List ℕ). with_record journal_header c.args.i (2 ∷ l) c.args.j.now) (c.row_record.ensures ∙ row_read c.args.p c.args.places c.args.s.now c.requires.0 c.args.k c.requires.1.stored);
    }
