-- `serve::answer_all` meets its contract and ends. Assumes nothing.
use Rattle.serve.specs.Buffers.{lent}
use Rattle.serve.proofs.Resting.{answering-start, answering-turn, full-less, rested-unwritten, rested-waiting, rested-stopped}
use Rattle.serve.proofs.answer_all.Goals as goal

pub loop-e-init : goal.loop-e-init
loop-e-init g c =
    let a = c.args in
    answering-start a.p a.places a.f (lent a.s.now a.j.now) a.input.now a.out.now c.requires.booked c.requires.have_in_bounds c.requires.row_most_in_bounds

pub loop-e-smaller : goal.loop-e-smaller
loop-e-smaller g c =
    let a = c.args in
    let l = c.loop-e in
    let t = c.take_turn-t in
    full-less a.p a.places a.f (lent a.s.now a.j.now) a.input.now (lent l.s l.j) l.input l.out l.flow l.invariant
    (lent t.new.s t.new.j) t.new.input t.new.out t.result t.ensures t.auto.input t.auto.out c.in-Full.is

pub loop-e-preserved : goal.loop-e-preserved
loop-e-preserved g c =
    let a = c.args in
    let l = c.loop-e in
    let t = c.take_turn-t in
    answering-turn a.p a.places a.f (lent a.s.now a.j.now) a.input.now (lent l.s l.j) l.input l.out l.flow l.invariant
    (lent t.new.s t.new.j) t.new.input t.new.out t.result t.ensures t.auto.input t.auto.out

pub returns-in-Err : goal.returns-in-Err
returns-in-Err g c =
    let a = c.args in
    let l = c.loop-e in
    let t = c.take_turn-t in
    rested-unwritten a.p a.places a.f (lent a.s.now a.j.now) a.input.now (lent l.s l.j) l.input l.out l.flow l.invariant
    (lent t.new.s t.new.j) t.new.input t.new.out t.result t.ensures t.auto.input t.auto.out _ c.in-Err.e

pub returns-in-Waiting : goal.returns-in-Waiting
returns-in-Waiting g c =
    let a = c.args in
    let l = c.loop-e in
    let t = c.take_turn-t in
    rested-waiting a.p a.places a.f (lent a.s.now a.j.now) a.input.now (lent l.s l.j) l.input l.out l.flow l.invariant
    (lent t.new.s t.new.j) t.new.input t.new.out t.result t.ensures t.auto.input t.auto.out _ c.in-Waiting.is

pub returns-in-Stopped : goal.returns-in-Stopped
returns-in-Stopped g c =
    let a = c.args in
    let l = c.loop-e in
    let t = c.take_turn-t in
    rested-stopped a.p a.places a.f (lent a.s.now a.j.now) a.input.now (lent l.s l.j) l.input l.out l.flow l.invariant
    (lent t.new.s t.new.j) t.new.input t.new.out t.result t.ensures t.auto.input t.auto.out _ c.in-Stopped.is
