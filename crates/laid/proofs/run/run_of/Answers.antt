-- The run begins behind the records before the name.
use Rattle.std.proofs.Common.{arith}
use Rattle.values.specs.Basic.{is_lt}
use Rattle.values.specs.Meaning.{text_bytes}
use Rattle.areas.specs.Records.{records}
use Rattle.areas.specs.Search.{cmp_named}
use Rattle.areas.proofs.Records.{length-records}
use Rattle.areas.proofs.Halving.{count-le}
use Rattle.laid.proofs.run.run_of.Goals as goal

pub run_from-requires : goal.run_from-requires
run_from-requires c =
    let a = c.args in
    let xs = records a.width a.count a.area.now in (
      c.requires.name_width_le_width.0,
      c.requires.search_in.inside,
      omega (arith, c.named_before-i.ensures, count-le (λ x. is_lt (cmp_named x (text_bytes a.name))) xs, length-records a.width a.count a.area.now),
      c.requires.name_width_le_width.1,
    )
