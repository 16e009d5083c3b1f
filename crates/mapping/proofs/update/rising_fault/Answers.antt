-- The first of the pairs that remain stands where the code reads.
use Rattle.std.proofs.Common.{◌≡◌, ◌∙◌, ◌+◌, ◌-◌, arith, rules, refl, sym, ap}
use native.Mathlib.Nat.{sub-zero}
use Rattle.std.proofs.Math.Option.{map, some}
use Rattle.std.specs.declared.option.Option.{Option as Held}
use Rattle.std.specs.declared.option.Option.TheVariants.{None}
use Rattle.values.specs.declared.value.Value.{Value as V}
use Rattle.values.specs.Meaning.{meaning, option_of}
use Rattle.mapping.proofs.ValuesFrom.{cell-proper}
use Rattle.mapping.proofs.Pairs.{pair-there, pairs-none, rising_after, rising_none, row-end, row-never, old-never, old-end, rising-over, rising-again, others-left, before-told}
use Rattle.mapping.proofs.update.rising_fault.Goals as goal
use Rattle.mapping.proofs.update.rising_fault.Goals.{in_default-via-in-None-1, in_default-via-in-Some+else-not-is_lt}

pub loop-i-init : goal.loop-i-init
unfolding rising_after
loop-i-init c = simp sub-zero (c.requires, refl, tt)

pub unreachable-requires : goal.unreachable-requires
unreachable-requires c =
    let l = c.loop-i in
    let g = pair-there c.args.rec.now (c.args.n - l.i) l.q (omega arith) l.invariant.0 in
    old-never _ _ _ g c.value_at.result c.value_at.ensures _ c.in_default.is

pub compare-requires : goal.compare-requires
compare-requires c =
    let l = c.loop-i in
    (rw c.in-Some.is at l.invariant.2, cell-proper _ (c.args.n - l.i) _ c.value_at.result c.value_at.ensures _ _ c.in-Ok.is)

pub returns-in-loop-i : goal.returns-in-loop-i
returns-in-loop-i c =
    let l = c.loop-i in
    let g = pair-there c.args.rec.now (c.args.n - l.i) l.q (omega arith) l.invariant.0 in
    rising-over _ _ _ g c.value_at.result c.value_at.ensures _ _ c.in-Ok.is l.i _ _ l.invariant.1 _ (ap (λ (h : Held V). map meaning (option_of h)) c.in-Some.is)
    (before-told _ _ _ _ c.compare.ensures c.is_lt.ensures ∙ c.if-not-is_lt.true)

pub unreachable-requires-in_default-values_end : goal.unreachable-requires-in_default-values_end
unreachable-requires-in_default-values_end c =
    let l = c.loop-i in
    let g = pair-there c.args.rec.now (c.args.n - l.i) l.q (omega arith) l.invariant.0 in
    let ea = old-end _ _ _ g c.value_at.result c.value_at.ensures _ _ c.in-Ok.is in
    row-never _ _ _ g _ ea _ _ c.values_end.ensures c.in_default-values_end.is

pub loop-i-preserved : goal.loop-i-preserved
loop-i-preserved c =
    let l = c.loop-i in
    let g = pair-there c.args.rec.now (c.args.n - l.i) l.q (omega arith) l.invariant.0 in
    let ea = old-end _ _ _ g c.value_at.result c.value_at.ensures _ _ c.in-Ok.is in
    let ee = row-end _ _ _ g _ ea _ _ c.values_end.ensures c.in-Ok-values_end.is in
    let n : c.args.n - (l.i + 1) ≡ c.args.n - l.i - 1 = omega arith in
    rw n (
      others-left _ _ _ g _ ee,
      rising-again _ _ _ g c.value_at.result c.value_at.ensures _ _ c.in-Ok.is l.i _ _ l.invariant.1 _ ee
          (elim c.in_default.branch [
            | in_default-via-in-None-1 w ↦ λ v e. let n : l.last ≡ None = search rules in absurd (let z = sym e ∙ ap (λ (h : Held V). map meaning (option_of h)) n in cc)
            | in_default-via-in-Some+else-not-is_lt w ↦ λ v e.
                let b = before-told _ _ _ _ w.compare.ensures w.is_lt.ensures ∙ w.if-not-is_lt.false in
                let k : some (meaning w.in-Some.before) ≡ some v = sym (ap (λ (h : Held V). map meaning (option_of h)) w.in-Some.is) ∙ e in
                let m : meaning w.in-Some.before ≡ v = cc in
                rw (← m) b
          ]),
      cell-proper _ (c.args.n - l.i) _ c.value_at.result c.value_at.ensures _ _ c.in-Ok.is,
    )

pub returns : goal.returns
returns c =
    let l = c.loop-i in
    rising_none (map meaning (option_of l.last)) l.i
    ∙ ap (rising_after (map meaning (option_of l.last)) l.i) (sym (pairs-none c.args.rec.now (c.args.n - l.i) l.q (omega arith)))
    ∙ l.invariant.1
