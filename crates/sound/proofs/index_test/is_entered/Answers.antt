-- The entries are searched for one, and the one behind it is asked. Assumes nothing.
use Rattle.std.proofs.Common.{arith}
use Rattle.std.proofs.lemmas.Grind.{common_steps}
use Rattle.laid.specs.Entered.{entry_of}
use Rattle.sound.proofs.EntryTests.{entries-searched, entry_past, entry_here, entry_last, entry_next}
use Rattle.sound.proofs.index_test.is_entered.Goals as goal

pub entered_before-i-requires-clause-search_in : goal.entered_before-i-requires-clause-search_in
entered_before-i-requires-clause-search_in c = let a = c.args in entries-searched a.p a.places a.s.now c.requires.0 (entry_of a.name a.column a.v a.key) _ _ _ c.entries_at.ensures c.entry_width-width.ensures c.entry_count-count.ensures

pub returns-then-count-i : goal.returns-then-count-i
returns-then-count-i c =
    let a = c.args in grind (arith, entry_past a.p a.places a.s.now c.requires.0 (entry_of a.name a.column a.v a.key) _ _ _ c.entries_at.ensures c.entry_width-width.ensures c.entry_count-count.ensures _ c.entered_before-i.ensures c.if-count-i.true)

pub returns-then-is_ne : goal.returns-then-is_ne
returns-then-is_ne c =
    let a = c.args in
    grind (arith, entry_here a.p a.places a.s.now c.requires.0 (entry_of a.name a.column a.v a.key) _ _ _ c.entries_at.ensures c.entry_width-width.ensures c.entry_count-count.ensures _ c.entered_before-i.ensures c.if-count-i.false _ c.entry_record-found.ensures _ c.compare_entered.ensures)

pub returns-then-not-alone : goal.returns-then-not-alone
returns-then-not-alone c =
    let a = c.args in
    let here = entry_here a.p a.places a.s.now c.requires.0 (entry_of a.name a.column a.v a.key) _ _ _ c.entries_at.ensures c.entry_width-width.ensures c.entry_count-count.ensures _ c.entered_before-i.ensures c.if-count-i.false _ c.entry_record-found.ensures _ c.compare_entered.ensures in
    grind (arith, common_steps, here, entry_last a.p a.places a.s.now c.requires.0 (entry_of a.name a.column a.v a.key) _ _ _ c.entries_at.ensures c.entry_width-width.ensures c.entry_count-count.ensures _ c.entered_before-i.ensures)

pub returns : goal.returns
returns c =
    let a = c.args in
    let here = entry_here a.p a.places a.s.now c.requires.0 (entry_of a.name a.column a.v a.key) _ _ _ c.entries_at.ensures c.entry_width-width.ensures c.entry_count-count.ensures _ c.entered_before-i.ensures c.if-count-i.false _ c.entry_record-found.ensures _ c.compare_entered.ensures in
    grind (arith, common_steps, here, entry_next a.p a.places a.s.now c.requires.0 (entry_of a.name a.column a.v a.key) _ _ _ c.entries_at.ensures c.entry_width-width.ensures c.entry_count-count.ensures _ c.entered_before-i.ensures c.if-count-next.false _ c.entry_record.ensures)
