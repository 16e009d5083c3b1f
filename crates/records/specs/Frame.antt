-- Framing (document 01, "Requests", and the order of refusals): what comes next of the bytes at hand. Assumes nothing.
use Rattle.std.specs.Prelude.{ℕ, ◌+◌, ◌*◌, Bool, cond, List, ltb, eqb, length, get_or}
use Rattle.records.specs.declared.frame.Framed.{Framed}
use Rattle.records.specs.declared.frame.Framed.TheVariants.{Whole, Skip, More, Cut, Done}

-- a record's length, of what follows: 2 to 4,096
abbrev pub least_length : ℕ
least_length = 2

abbrev pub most_length : ℕ
most_length = 4096

abbrev pub length_of : List ℕ → ℕ
length_of s = get_or s 0 0 * 256 + get_or s 1 0

-- where bytes are missing: cut off at the end of the input, else more are needed
abbrev pub short : Bool → Framed
short ended = cond ended Cut More

-- the next record, whole, ends after so many bytes; or a record of bad length, to be skipped; or more bytes are needed; or it is cut off, and all stops
unfoldable pub framed : List ℕ → Bool → Framed
framed s ended =
    cond (eqb (length s) 0) (cond ended Done More)
    (cond (eqb (length s) 1) (short ended)
    (cond (ltb (length_of s) least_length) (Skip (2 + length_of s))
    (cond (ltb most_length (length_of s)) (Skip (2 + length_of s))
    (cond (ltb (length s) (2 + length_of s)) (short ended) (Whole (2 + length_of s))))))
