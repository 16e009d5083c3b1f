-- What a search for a referencing table answers. Assumes nothing.
use Rattle.std.proofs.Math.Option.{Option, map}
use Rattle.std.specs.declared.option.Option.{Option as Held}
use Rattle.values.specs.Meaning.{option_of}
use Rattle.rules.specs.declared.answer.Carried as C
use Rattle.rules.specs.Request.{Carried, carried_of}

abbrev pub reference_of : Held C.Carried → Option Carried
reference_of r = map carried_of (option_of r)
