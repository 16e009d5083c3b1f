-- What stands between two reads of an input, and one turn over the bytes at hand, as equations. Assumes nothing.
use Rattle.std.specs.Prelude.{◌≡◌, ℕ, ◌+◌, ◌-◌, false, cond, List, take, drop, ◌==◌}
use Rattle.rules.specs.declared.profile.Profile.{Profile}
use Rattle.requests.specs.Stream.{Runs}
use Rattle.serve.specs.declared.flow.Flow.{Flow}
use Rattle.serve.specs.declared.flow.Turn.{Turn}
use Rattle.serve.specs.Buffers.{Buffers}

abbrev pub started : Flow
started = record { have = 0; skip = 0; lines = 0; ended = false }

-- the bytes at hand
abbrev pub hand : Flow → List ℕ → List ℕ
hand f input = take f.have input

-- n bytes came in
pub record Arrived (f : Flow) (n : ℕ) (r : Flow) : Type 0 where
  pub have : r.have ≡ f.have + n
  pub skip : r.skip ≡ f.skip
  pub lines : r.lines ≡ f.lines
  pub ended : r.ended ≡ (n == 0)

-- passed over, as far as it is at hand
pub record Passes (f : Flow) (before after : List ℕ) (r : Flow) : Type 0 where
  pub hand : hand r after ≡ drop f.skip (hand f before)
  pub have : r.have ≡ f.have - f.skip
  pub skip : r.skip ≡ f.skip - f.have
  pub lines : r.lines ≡ f.lines
  pub ended : r.ended ≡ f.ended

-- kept: all but the first `taken` bytes
pub record Keeps (f : Flow) (taken over shown : ℕ) (before after : List ℕ) (r : Flow) : Type 0 where
  pub hand : hand r after ≡ drop taken (hand f before)
  pub have : r.have ≡ f.have - taken
  pub skip : r.skip ≡ cond (f.skip == 0) over f.skip
  pub lines : r.lines ≡ shown
  pub ended : r.ended ≡ f.ended

-- a turn: a run over what is at hand behind what is passed over; what it did not take stays at hand
pub record Turned (p : Profile) (R : ℕ) (f : Flow) (before after : Buffers) (input kept out done : List ℕ) (t : Turn) : Type 0 where
  pub ran : Runs p R (drop f.skip (hand f input)) f.ended f.lines before.store before.journal after.store after.journal out done t.ran
  pub hand : hand t.flow kept ≡ drop t.ran.taken (drop f.skip (hand f input))
  pub have : t.flow.have ≡ f.have - f.skip - t.ran.taken
  pub skip : t.flow.skip ≡ cond (f.skip - f.have == 0) t.ran.skip (f.skip - f.have)
  pub lines : t.flow.lines ≡ t.ran.lines
  pub ended : t.flow.ended ≡ f.ended
