-- How many row places a buffer has, whether its length is a store's, and a fresh store of the right length. Assumes nothing.
use mathlib.Core.Path.{◌≡◌, refl, sym, ◌∙◌}
use mathlib.Core.Bool.{true}
use Prim.Native.Nat.{ℕ, ◌-◌, ◌≤◌}
use native.Mathlib.Nat.{le_refl}
use native.Mathlib.Omega.{arith}
use mathlib.Core.List.{List, [], ◌++◌, append-nil}
use lib.ListN.{length, take, drop, set, replicate, drop_of_length-le}
use borrow.Author.Tests.{leb-true, eqb-true}
use Rattle.values.specs.Bytes.{be}
use Rattle.values.specs.Area.{cleared}
use Rattle.rules.specs.declared.profile.Profile.{Profile}
use Rattle.rules.specs.Profile.{header_width, store_length, places_most}
use Rattle.rules.specs.State.{empty}
use Rattle.rules.specs.Layout.{places_of, image}
use Rattle.rules.specs.Sound.{right_length}
use Rattle.rules.proofs.Tests.{all_head, all_tail}
use Rattle.rules.proofs.Widths.{place-positive, header-within}
use Rattle.rules.proofs.Laid.{fresh-written}
use Rattle.rules.proofs.Whole.{fresh-image}

module _ (p : Profile) (s : List ℕ) where
  -- ---- the right length

  pub record RightLength : Type 0 where
    pub least : 1 ≤ places_of p s
    pub most : places_of p s ≤ places_most
    pub long : length s ≡ store_length p (places_of p s)

  pub right_is : right_length p s ≡ true → RightLength
  unfolding right_length
  right_is h =
      let h1 = all_tail _ _ h in
      record { least = leb-true _ _ (all_head _ _ h); most = leb-true _ _ (all_head _ _ h1); long = eqb-true _ _ (all_head _ _ (all_tail _ _ h1)) }

  pub right_least : right_length p s ≡ true → header_width ≤ length s
  right_least h = omega (arith, (right_is h).long, header-within p (places_of p s))

  -- ---- a fresh store

  cleared_all : replicate (length s) 0 ≡ cleared 0 (length s) s
  unfolding cleared
  cleared_all = rw (drop_of_length-le s (le_refl (length s)), append-nil, sub_zero (length s)) refl
    where
      sub_zero : (n : ℕ) → n - 0 ≡ n
      sub_zero n = omega arith

  pub freshened : (s₁ y : List ℕ) → right_length p s ≡ true → s₁ ≡ replicate (length s) 0 → y ≡ be (length (take 4 s₁)) (length s) [] → set (y ++ drop 4 s₁) 4 p.version ≡ image p (places_of p s) empty
  freshened s₁ y h f g = fresh-written p (places_of p s) s s₁ y (right_is h).long (f ∙ cleared_all) g ∙ sym (fresh-image p (places_of p s))

pub ruleset lengths = (place-positive)
