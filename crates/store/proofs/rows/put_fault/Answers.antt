-- The row's own checks, and a place behind them.
use Rattle.std.proofs.Common.{◌≡◌, arith, ap, sym, ◌∙◌}
use Rattle.std.proofs.lemmas.Grind.{common_steps}
use Rattle.std.proofs.lemmas.Result.{err_from_is_err_and}
use Rattle.std.specs.declared.result.Result.TheVariants.{Ok, Err}
use Rattle.rules.specs.Schema.{at}
use Rattle.checks.specs.Faults.{broken_rule}
use Rattle.journal.proofs.Booking.{laid-books}
use Rattle.store.proofs.Settling.{paged-of, has_room, no_room}
use Rattle.store.proofs.Written.{put-faulty, put_full, put-free}
use Rattle.store.proofs.rows.put_fault.Goals as goal

pub returns-in_err-map_err : goal.returns-in_err-map_err
unfolding at
returns-in_err-map_err c =
    let p = err_from_is_err_and c.from_residual.result c.from_residual.ensures.1 in
    let f = c.in_err-map_err.field-0.0 in
    let e : c.validate_row-own.result ≡ Err f.kind = grind (arith, common_steps) in
    let a : f.at ≡ c.args.n = grind (arith, common_steps) in
    rw (p.1, p.2, a) (ap (at c.args.n) (put-faulty _ _ _ _ _ _ _ (ap broken_rule (sym e) ∙ c.validate_row-own.ensures)))

pub has_places-requires : goal.has_places-requires
has_places-requires c = paged-of (laid-books c.requires.0)

pub returns-then-not-has_places : goal.returns-then-not-has_places
unfolding at
returns-then-not-has_places c =
    let e : c.validate_row-own.result ≡ Ok tt = grind (arith, common_steps) in
    ap (at c.args.n) (put_full _ _ _ _ _ _ (ap broken_rule (sym e) ∙ c.validate_row-own.ensures) (no_room (laid-books c.requires.0) 1 c.has_places.ensures c.if-not-has_places.true))

pub returns : goal.returns
unfolding at
returns c =
    let e : c.validate_row-own.result ≡ Ok tt = grind (arith, common_steps) in
    ap (at c.args.n) (put-free _ _ _ _ _ _ (ap broken_rule (sym e) ∙ c.validate_row-own.ensures) (has_room (laid-books c.requires.0) 1 c.has_places.ensures c.if-not-has_places.false))
