-- `requests::entry::answer_record` meets its contract. Assumes nothing.
use mathlib.Core.Path.{sym, ap, ◌∙◌}
use Rattle.std.specs.declared.result.Result.TheVariants.{Err}
use Rattle.laid.proofs.Stores.{laid-store}
use Rattle.records.specs.Record.{request_of}
use Rattle.rules.specs.Pages.{books_of}
use Rattle.operations.specs.Told.{outcome_of}
use Rattle.requests.proofs.Answering.{broken-outcome, broken-answered, walk-breaks, Walks, walk-ends, walks-got, walks-operands, replies-of, read-answered, write-answered}
use Rattle.requests.proofs.entry.answer_record.Goals as goal
use Rattle.requests.proofs.entry.answer_record.Goals.{After-byte_of-k}

-- a record walked to its end, its operation's byte read
walks : (c : After-byte_of-k) → Walks c.args.p c.args.rec.now c.byte_of-k.result
walks c = walk-ends _ _ c.walk.result c.walk.ensures (sym c.is_err.ensures.value ∙ c.if-is_err.false) c.byte_of-k.result c.byte_of-k.ensures

pub returns-then-is_err : goal.returns-then-is_err
returns-then-is_err c =
    let a = c.args in
    let e = walk-breaks _ _ c.walk.result c.walk.ensures (sym c.is_err.ensures.value ∙ c.if-is_err.true) in
    let x = books_of a.p a.places a.s.now a.j.now in
    broken-answered a.p a.places a.s.now a.j.now (request_of a.rec.now a.p) a.from a.out.now c.put_only.new.out c.put_only.result c.requires.0
    (ap (outcome_of a.p a.places x) e.1 ∙ broken-outcome a.p a.places x _) (Err c.new.result) c.new.ensures c.put_only.ensures c.put_only.auto.out

pub ask-a-requires : goal.ask-a-requires
ask-a-requires c =
    (laid-store _ _ _ c.requires.0.store, sym c.is_read.ensures ∙ c.if-is_read.true, walks-operands (walks (goal.at.ask-a-requires c).After-byte_of-k))

pub put_lines-requires : goal.put_lines-requires
put_lines-requires c =
    let w = walks (goal.at.put_lines-requires c).After-byte_of-k in
    record { store = (c.requires.0.store, c.requires.0.paging.most, walks-got w); replies = replies-of w c.args.places c.args.s.now c.ask-a.result c.ask-a.ensures }

pub returns-then-is_read : goal.returns-then-is_read
returns-then-is_read c =
    read-answered (walks (goal.at.returns-then-is_read c).After-byte_of-k) c.requires.0 c.ask-a.result (sym c.is_read.ensures ∙ c.if-is_read.true) c.ask-a.ensures c.put_lines.ensures

pub write-a-requires : goal.write-a-requires
write-a-requires c = (c.requires.0, sym c.is_read.ensures ∙ c.if-is_read.false, walks-operands (walks (goal.at.write-a-requires c).After-byte_of-k))

pub returns : goal.returns
returns c =
    let o = c.put_only-2 in
    write-answered (walks (goal.at.returns c).After-byte_of-k) c.requires.0 c.write-a.result (sym c.is_read.ensures ∙ c.if-is_read.false) c.write-a.ensures o.ensures o.auto.out
