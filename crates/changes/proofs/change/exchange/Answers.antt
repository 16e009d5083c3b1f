-- A value that changed has its old entry there: it is taken out, and the new one put in.
use Rattle.std.proofs.Common.{◌∙◌, sym, ap}
use Rattle.std.proofs.Math.Dec.{compare_is_eq}
use Rattle.values.proofs.Orders.{is_eq-ordering}
use Rattle.laid.specs.Entered.{entry_of}
use Rattle.laid.proofs.Entering.{gone-entered, gone-room, exchange-done}
use Rattle.changes.proofs.change.exchange.Goals as goal

pub add_entry-requires : goal.add_entry-requires
add_entry-requires c =
    let e = entry_of c.args.name c.args.column c.args.old c.args.key in
    let there = c.requires.3 (ap compare_is_eq (sym c.compare.ensures) ∙ sym (is_eq-ordering c.compare.result) ∙ sym c.if-not-is_eq.ensures) in
    (gone-entered _ _ _ c.requires.0 e there _ c.remove_entry.ensures, c.requires.2, gone-room _ _ _ c.requires.0 e there _ c.remove_entry.ensures)

pub returns-then-not-is_eq : goal.returns-then-not-is_eq
returns-then-not-is_eq c =
    let e = entry_of c.args.name c.args.column c.args.old c.args.key in
    let n = ap compare_is_eq (sym c.compare.ensures) ∙ sym (is_eq-ordering c.compare.result) ∙ sym c.if-not-is_eq.ensures in
    exchange-done _ _ _ c.requires.0 e (c.requires.3 n) _ c.remove_entry.ensures (entry_of c.args.name c.args.column c.args.new c.args.key) _ n _ c.add_entry.ensures
