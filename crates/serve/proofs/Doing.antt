-- Reads and turns in any order, over any buffers, are a run over the whole input. Assumes nothing.
use Rattle.std.proofs.Common.{◌≡◌, ℕ, ◌≤◌, Bool, true, false, List, [], ◌∷◌, ◌++◌, length, take, sym, ap, ◌∙◌, subst, true≢false}
use Rattle.rules.specs.Profile.{full}
use Rattle.serve.specs.declared.flow.Flow.{Flow}
use Rattle.serve.specs.declared.flow.Turn.{Turn}
use Rattle.serve.specs.declared.Taken.{Taken}
use Rattle.serve.specs.Buffers.{Buffers, BookedIn}
use Rattle.serve.specs.Flow.{Turned}
use Rattle.serve.specs.Course.{Standing, standing, Came, TakenIn}
use Rattle.serve.specs.Demanded.{Doing, reading, turning, Doings}
use Rattle.serve.proofs.Coming.{came-nowhere, came-taken, came-then}
use Rattle.serve.proofs.Turning.{came-turn}

module _ (R : ℕ) where
  -- behind the input's end nothing is read
  last-read : (ds : List Doing) (f g : Flow) (s : Buffers) (input read wrote : List ℕ) (after : Buffers) (kept : List ℕ) → f.ended ≡ true → Doings R ds f s input read wrote g after kept
      → (g.ended ≡ true) × (read ≡ [])
  unfolding Doings
  last-read [] f g s input read wrote after kept e d = (ap (λ (x : Flow). x.ended) d.0 ∙ e, d.3)
  last-read (reading ∷ ds) f g s input read wrote after kept e d = absurd (true≢false (sym e ∙ d.4))
  last-read (turning ∷ ds) f g s input read wrote after kept e d =
      last-read ds d.5.flow g d.0 d.1 read d.4 after kept (d.7.ended ∙ e) d.9

  -- nothing was done; a piece came in first; a turn was taken first
  none_done : (f g : Flow) (s : Buffers) (input read wrote : List ℕ) (after : Buffers) (kept : List ℕ) → BookedIn full R s → g ≡ f → after ≡ s → kept ≡ input → read ≡ []
      → wrote ≡ []
      → Came full R g.ended (standing s f input) read (standing after g kept) wrote
  none_done f g s input read wrote after kept b e₁ e₂ e₃ e₄ e₅ =
      rw (e₁, e₂, e₃, e₄, e₅) (came-nowhere full R f.ended (standing s f input) b)

  taken_then : (f : Flow) (s : Buffers) (input mid : List ℕ) (t : Taken) (i : TakenIn f input mid t) → BookedIn full R s
      → (ended : Bool) (y : Standing) (rest read wrote : List ℕ)
      → read ≡ i.piece ++ rest
      → Came full R ended (standing s t.flow mid) rest y wrote
      → Came full R ended (standing s f input) read y wrote
  taken_then f s input mid t i b ended y rest read wrote e c =
      subst (λ (l : List ℕ). Came full R ended (standing s f input) l y wrote) (sym e)
      (came-then full R false ended (standing s f input) (standing s t.flow mid) y i.piece rest [] wrote
      (came-taken full R f s input mid t i b) c
      (λ u. absurd (true≢false (sym u))))

  turned_then : (f : Flow) (s now : Buffers) (input mid out done : List ℕ) (t : Turn) → f.have ≤ length input
      → Turned full R f s now input mid out done t
      → (ended : Bool) (y : Standing) (read rest wrote : List ℕ) → wrote ≡ take t.ran.written done ++ rest
      → (f.ended ≡ true → (ended ≡ true) × (read ≡ []))
      → (BookedIn full R now → Came full R ended (standing now t.flow mid) read y rest)
      → Came full R ended (standing s f input) read y wrote
  turned_then f s now input mid out done t l turn ended y read rest wrote e ends go =
      let c = came-turn full R f s now input mid out done t l turn in
      subst (λ (w : List ℕ). Came full R ended (standing s f input) read y w) (sym e)
      (came-then full R f.ended ended (standing s f input) (standing now t.flow mid) y [] read (take t.ran.written done) rest c
      (go c.booked) ends)

  pub came-doings : (ds : List Doing) (f g : Flow) (s : Buffers) (input read wrote : List ℕ) (after : Buffers) (kept : List ℕ) → BookedIn full R s → Doings R ds f s input read wrote g after kept
      → Came full R g.ended (standing s f input) read (standing after g kept) wrote
  unfolding Doings
  came-doings [] f g s input read wrote after kept b d = none_done f g s input read wrote after kept b d.0 d.1 d.2 d.3 d.4
  came-doings (reading ∷ ds) f g s input read wrote after kept b d =
      taken_then f s input d.0 d.2 d.3 b g.ended (standing after g kept) d.1 read wrote d.5
      (came-doings ds d.2.flow g s d.0 d.1 wrote after kept b d.6)
  came-doings (turning ∷ ds) f g s input read wrote after kept b d =
      let t = d.5 in
      turned_then f s d.0 input d.1 d.2 d.3 t d.6 d.7 g.ended (standing after g kept) read d.4 wrote d.8
      (λ e. last-read ds t.flow g d.0 d.1 read d.4 after kept (d.7.ended ∙ e) d.9)
      (λ k. came-doings ds t.flow g d.0 d.1 read d.4 after kept k d.9)
