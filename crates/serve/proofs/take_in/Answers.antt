-- `serve::take_in` meets its contract: what was read stands behind the bytes at hand, whether the log has it or not. Assumes nothing.
use Rattle.std.proofs.Common.{◌≡◌, ◌-◌, length, rules}
use Rattle.std.specs.Result.{MatchResult, IsErrAnd}
use Rattle.std.specs.declared.io.Error.{Error}
use Rattle.std.specs.declared.result.Result.{Result}
use Rattle.std.specs.declared.result.Result.TheVariants.{Ok, Err}
use Rattle.serve.specs.declared.End.{End}
use Rattle.serve.specs.declared.End.TheVariants.{Unlogged}
use Rattle.serve.specs.Course.{Fails}
use Rattle.serve.proofs.Serving.{taken_in}
use Rattle.serve.proofs.take_in.Goals as goal

unlogged : (r : Result (Unit {0}) Error) (x : Result (Unit {0}) End) → MatchResult r (λ v. x ≡ Ok v) (λ e. IsErrAnd x (λ y. y ≡ Unlogged e)) → (e : End) → x ≡ Err e → Fails e
unlogged (Ok v) x h e f = absurd cc
unlogged (Err b) (Ok v) h e f = absurd h
unlogged (Err b) (Err y) h e f = (λ k. cc, λ k. cc)

pub returns-in-Ok : goal.returns-in-Ok
returns-in-Ok g c =
    let a = c.args in
    taken_in a.f c.arrived-in-Ok.result c.in-Ok.n (length a.input.now - a.f.have) a.input.now c.read.new.buf c.map_err.result (search rules) (search rules) (search rules) c.arrived-in-Ok.ensures (unlogged c.keep_log.result c.map_err.result c.map_err.ensures.cases)
