use Rattle.std.proofs.Common.{◌∙◌, sym, ap, arith}
use Rattle.values.specs.Meaning.{text_bytes, meaning}
use Rattle.checks.specs.Keys.{values_of}
use Rattle.checks.proofs.Taking.{null-proper, null-means}
use Rattle.walks.specs.Looked.{next_of}
use Rattle.walks.proofs.KeysCounted.{few-keys, all_left, key-passed, all-passed}
use Rattle.walks.proofs.walk.key_count.Goals as goal

pub loop-key-init : goal.loop-key-init
loop-key-init c =
    let a = c.args in
    record {
      proper = null-proper;
      counted = omega (arith, all_left a.p a.places a.s.now c.requires.0 (text_bytes a.name) a.column (values_of a.values) _ null-means);
    }

pub overflow_add-n : goal.overflow_add-n
overflow_add-n c =
    let a = c.args in
    omega (arith, few-keys a.p a.places a.s.now c.requires.0 (text_bytes a.name) a.column (values_of a.values), c.loop-key.invariant.counted)

pub loop-key-smaller : goal.loop-key-smaller
loop-key-smaller c =
    let a = c.args in
    omega (arith, key-passed a.p a.places a.s.now c.requires.0 (text_bytes a.name) a.column (values_of a.values) (meaning c.loop-key.last) (meaning c.in-Some.key.value) c.in-Some.ensures.0)

pub loop-key-preserved : goal.loop-key-preserved
loop-key-preserved c =
    let a = c.args in
    record {
      proper = c.in-Some.ensures.1;
      counted = omega (arith, c.loop-key.invariant.counted, key-passed a.p a.places a.s.now c.requires.0 (text_bytes a.name) a.column (values_of a.values) (meaning c.loop-key.last) (meaning c.in-Some.key.value) c.in-Some.ensures.0);
    }

pub returns : goal.returns
returns c =
    let a = c.args in
    omega (arith, c.loop-key.invariant.counted, all-passed a.p a.places a.s.now c.requires.0 (text_bytes a.name) a.column (values_of a.values) (meaning c.loop-key.last) (sym (ap next_of c.in_default.is) ∙ c.next_key.ensures.0))
