use Rattle.std.proofs.Common.{sym, ◌∙◌, arith}
use Rattle.values.proofs.Orders.{is_eq-ordering}
use Rattle.laid.specs.Entered.{entry_of}
use Rattle.laid.proofs.Inside.{inside-header}
use Rattle.laid.proofs.Stores.{held-inside}
use Rattle.checks.proofs.Checking.{held-entered, entry-within}
use Rattle.walks.proofs.NextKey.{entry-long, behind-end, behind-next, behind-this}
use Rattle.walks.proofs.walk.entry_behind.Goals as goal

pub entry_rank-i-requires : goal.entry_rank-i-requires
entry_rank-i-requires c = (held-entered c.args.p c.args.places c.args.s.now c.requires.0, record { name = c.requires.1; value = c.requires.2; key = c.requires.3 })

pub entry_count-requires : goal.entry_count-requires
entry_count-requires c = let a = c.args in inside-header a.p a.places a.s.now (held-inside a.p a.places a.s.now c.requires.0)

pub returns-then-entry_count-i : goal.returns-then-entry_count-i
returns-then-entry_count-i c =
    let a = c.args in
    behind-end a.p a.places a.s.now c.requires.0 (entry_of a.name a.column a.v a.key) _ c.entry_rank-i.ensures _ c.entry_count.ensures c.if-entry_count-i.true

pub entry_record-rec-requires-clause-inside : goal.entry_record-rec-requires-clause-inside
entry_record-rec-requires-clause-inside c = held-inside c.args.p c.args.places c.args.s.now c.requires.0

pub entry_record-rec-requires-clause-i_in_bounds : goal.entry_record-rec-requires-clause-i_in_bounds
entry_record-rec-requires-clause-i_in_bounds c = let a = c.args in entry-within a.p a.places a.s.now c.requires.0 c.entry_rank-i.result _ c.entry_count.ensures c.if-entry_count-i.false

pub compare_entered-requires : goal.compare_entered-requires
compare_entered-requires c =
    let a = c.args in
    (omega (arith, entry-long a.p a.places a.s.now c.requires.0 _ _ c.entry_count.ensures c.if-entry_count-i.false _ c.entry_record-rec.ensures), c.requires.1, c.requires.2, c.requires.3)

pub returns-then-is_eq : goal.returns-then-is_eq
returns-then-is_eq c =
    let a = c.args in
    behind-next a.p a.places a.s.now c.requires.0 (entry_of a.name a.column a.v a.key) _ c.entry_rank-i.ensures (entry-within a.p a.places a.s.now c.requires.0 c.entry_rank-i.result _ c.entry_count.ensures c.if-entry_count-i.false)
    _ c.entry_record-rec.ensures _ c.compare_entered.ensures (sym (is_eq-ordering _) ∙ sym c.is_eq.ensures ∙ c.if-is_eq.true)

pub returns-else-is_eq : goal.returns-else-is_eq
returns-else-is_eq c =
    let a = c.args in
    behind-this a.p a.places a.s.now c.requires.0 (entry_of a.name a.column a.v a.key) _ c.entry_rank-i.ensures (entry-within a.p a.places a.s.now c.requires.0 c.entry_rank-i.result _ c.entry_count.ensures c.if-entry_count-i.false)
    _ c.entry_record-rec.ensures _ c.compare_entered.ensures (sym (is_eq-ordering _) ∙ sym c.is_eq.ensures ∙ c.if-is_eq.false)
