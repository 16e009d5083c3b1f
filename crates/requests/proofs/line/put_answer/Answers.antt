-- `requests::line::put_answer` meets its contract. Assumes nothing.
use mathlib.Core.Path.{refl, ◌∙◌}
use borrow.Author.Rules.{rules}
use native.Mathlib.Omega.{arith}
use Rattle.rules.specs.Request.{ok, told}
use Rattle.requests.proofs.Fronts.{tells, line-accepted, line-no}
use Rattle.requests.proofs.line.put_answer.Goals as goal

pub returns-in-Ok : goal.returns-in-Ok
returns-in-Ok c =
    rw c.in-Ok.is (line-accepted (ok c.in-Ok.count) _ c.args.out.now _ _ refl c.copy_from_slice.ensures.after (omega arith) c.put_last.ensures.0, omega (arith, c.put_last.ensures.1))

pub returns-in-Err : goal.returns-in-Err
returns-in-Err c =
    let f = c.in-Err.f in
    let n = c.put_spaced-n in
    let m = c.put_spaced-m in
    let l = c.put_last-in-Err in
    let t = tells f in
    rw c.in-Err.is (
      line-no (told f) _ c.args.out.now n.new.out m.new.out l.new.out c.number.result f.at c.from.result n.result m.result l.result t.refused (c.number.ensures ∙ t.code) t.at (search rules) c.copy_from_slice-in-Err.ensures.after (omega arith) (omega (arith, n.ensures.1)) (omega (arith, n.ensures.1, m.ensures.1)) n.ensures.0 m.ensures.0 l.ensures.0,
      omega (arith, n.ensures.1, m.ensures.1, l.ensures.1),
    )
