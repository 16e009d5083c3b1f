use Rattle.std.proofs.Common.{◌≡◌, ◌∙◌, ◌+◌, ◌-◌, true, ℕ, List, ◌<◌, length, sym, drop, take}
use Rattle.rules.specs.Rows.{map_fault}
use Rattle.mapping.proofs.Mapping.{map_range, map-twice, whole-map}
use Rattle.mapping.proofs.executor.is_bad_map.Goals as goal
use Rattle.mapping.proofs.executor.is_bad_map.Goals.{then-columns-x-via-then-columns-x, then-columns-x-via-else-columns-x+then-contains}

pub returns-then-columns-x : goal.returns-then-columns-x
returns-then-columns-x c =
    let m = c.in-Some.m in
    let ns : List ℕ = take (m.at + m.count - m.at) (drop m.at c.args.rec.now) in
    let h : c.loop-i.i < length ns = c.loop-i-test.true in
    let is : true ≡ map_fault c.args.columns (drop c.loop-i.i ns) =
    elim c.then-columns-x.branch [
      | then-columns-x-via-then-columns-x w ↦ map_range _ _ ns h w.if-columns-x.true
      | then-columns-x-via-else-columns-x+then-contains w ↦ map-twice _ _ ns h (sym w.contains.ensures.value ∙ w.if-contains.true)
    ] in
    is ∙ c.loop-i.invariant ∙ whole-map _ _ m _ c.in-Some.is
