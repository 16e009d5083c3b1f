-- What the code's texts and values mean: a text its bytes, a float its bits. Assumes nothing.
use Prim.Native.Nat.{ℕ, ◌^◌, ◌≤◌, ◌<◌, Ordering}
use Rattle.std.specs.Prelude.{◌≡◌, true, List, [], T, take, drop}
use Rattle.std.specs.Float.Ieee as Ieee
use Rattle.std.specs.Float.{binary64}
use Rattle.std.specs.Float.Ieee.{to_bits}
use Rattle.std.specs.Int.{w64}
use Rattle.std.proofs.Common.{SFits}
use Rattle.values.specs.Bytes.{be, zeros}
use Rattle.values.specs.Value.{Value, null, boolean, integer, float, text, text_most}
use Rattle.values.specs.declared.value.Text.{Text}
use Rattle.values.specs.declared.value.Cell.{Cell}
use Rattle.values.specs.declared.value.Value as D
use Rattle.values.specs.declared.value.Value.TheVariants.{Null, Boolean, Integer, Float, Text as Words}
use Rattle.std.specs.declared.cmp.Ordering.{Ordering as Compared}
use Rattle.std.specs.declared.cmp.Ordering.TheVariants.{Less, Equal, Greater}
use Rattle.std.specs.declared.option.Option.{Option as Held}
use Rattle.std.specs.declared.option.Option.TheVariants.{None, Some}
use Rattle.std.proofs.Math.Option.{Option, none, some}

-- the 24 bytes of a text's three words
unfoldable pub words : Text → List ℕ
unfolding be
words t = be 8 t.a (be 8 t.b (be 8 t.c []))

unfoldable pub text_bytes : Text → List ℕ
unfolding words
text_bytes t = take t.len (words t)

-- at most 24 bytes, and zeros past the length
pub record Packed (t : Text) : Type 0 where
  pub short : t.len ≤ text_most
  pub tail : zeros (drop t.len (words t)) ≡ true
  pub a-fits : t.a < 2 ^ 64
  pub b-fits : t.b < 2 ^ 64
  pub c-fits : t.c < 2 ^ 64

unfoldable pub meaning : D.Value → Value
unfolding text_bytes
meaning Null = null
meaning (Boolean b) = boolean b
meaning (Integer i) = integer i
meaning (Float x) = float (to_bits binary64 x)
meaning (Words t) = text (text_bytes t)

-- a value as code makes it: within its type, a text packed
unfoldable pub Proper : D.Value → Type 0
Proper Null = Unit {0}
Proper (Boolean b) = Unit {0}
Proper (Integer i) = SFits w64 i
Proper (Float x) = T (Ieee.fits binary64 x)
Proper (Words t) = Packed t

abbrev pub held : Cell → Value
held c = meaning c.value

abbrev pub ProperCell : Cell → Type 0
ProperCell c = Proper c.value

abbrev pub ordering : Compared → Ordering
ordering Less = Ordering.lt
ordering Equal = Ordering.eq
ordering Greater = Ordering.gt

-- the code's option
abbrev pub option_of : {A : Type 0} → Held A → Option A
option_of None = none
option_of (Some a) = some a
