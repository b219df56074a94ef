-- The search for the stage after a number: the next of its shape without a loop, or the first of the next shape.
-- Assumes nothing.
use Rattle.std.specs.Prelude.{Some, None}
use Prim.Native.Nat.{ℕ, ◌+◌, ◌*◌, ◌-◌, ◌≤◌, ◌<◌}
use native.Mathlib.Omega.{arith}
use mathlib.Core.Path.{◌≡◌, sym, ap, subst, ◌∙◌}
use mathlib.Core.Bool.{Bool, true, false}
use mathlib.Core.List.{List, ◌∷◌, ◌++◌}
use lib.ListN.{drop}
use Rattle.check_spec.specs.Content.{Content}
use Rattle.next_spec.specs.Numbered.{stages, stage_numbered}
use Rattle.next_spec.specs.Listing.{InShape, free, loop_free_from, stages_of, shapes, onward}
use Rattle.next_spec.proofs.Onward.{zero_free, stages_some, from_free, from_loop, from_none, onward_free, onward_start}
use Rattle.call_next.specs.declared.Place.{Place}
use Rattle.call_next.specs.declared.Place.TheVariants as place
use Rattle.call_next.specs.Steps.{FoundFree, First}

-- ---- the search

-- the numbers before z have loops
pub record SearchTo (n g from count z : ℕ) : Type 0 where
  pub within : z ≤ count
  pub counted : count ≡ stages n g
  pub rest : loop_free_from n g z (count - z) ≡ loop_free_from n g from (stages n g - from)

module _ (n g from count : ℕ) where
  pub search_start : count ≡ stages n g → from ≤ stages n g → SearchTo n g from count from
  search_start e l = record { within = omega arith; counted = e; rest = rw e }

  pub search_passed : (z : ℕ) (b : Bool) → SearchTo n g from count z → z < count → b ≡ free n g z → b ≡ false → SearchTo n g from count (z + 1)
  search_passed z b s l e f = record { within = omega arith; counted = s.counted; rest = sym (from_loop n g count z l (sym e ∙ f)) ∙ s.rest }

  pub search_found : (z : ℕ) (b : Bool) → InShape n g → SearchTo n g from count z → z < count → b ≡ free n g z → b ≡ true → FoundFree n g from (Some z)
  unfolding FoundFree
  search_found z b i s l e t =
      let f : free n g z ≡ true = sym e ∙ t in
      let h = s.counted in (
        record { shaped = i; below = omega arith; loop_free = f },
        sym s.rest ∙ from_free n g count z l f ∙ ap (λ (k : ℕ). stage_numbered n g z ∷ loop_free_from n g (z + 1) (k - (z + 1))) h,
      )

  pub search_end : (z : ℕ) → SearchTo n g from count z → count ≤ z → FoundFree n g from None
  unfolding FoundFree
  search_end z s l = sym s.rest ∙ from_none n g count z l

-- ---- from a number on

-- the first stage of a shape
pub first_shape : (n g k : ℕ) → InShape n g → k ≡ 3 * (n - 1) + g → First (stages_of (drop k shapes)) (place.Stage n g 0)
unfolding First
first_shape n g k i e =
    let l : 0 < stages n g = stages_some n g i in (
      record { shaped = i; below = l; loop_free = zero_free n g i },
      ap (λ (j : ℕ). stages_of (drop j shapes)) e ∙ onward_start n g i
          ∙ onward_free n g 0 l (zero_free n g i),
    )

pub first-none : (k : ℕ) → k ≡ 6 → First (stages_of (drop k shapes)) place.Outside
unfolding First shapes
first-none k e = rw e

module _ (n g from : ℕ) where
  pub first_number : (y : ℕ) → FoundFree n g from (Some y) → First (onward n g from) (place.Stage n g y)
  unfolding First onward FoundFree
  first_number y r = (r.0, ap (λ (cs : List Content). cs ++ stages_of (drop (3 * (n - 1) + g + 1) shapes)) r.1)

  pub first_later : (p : Place) → FoundFree n g from None → First (stages_of (drop (3 * (n - 1) + g + 1) shapes)) p → First (onward n g from) p
  unfolding onward FoundFree
  first_later p e h = subst (λ (cs : List Content). First (cs ++ stages_of (drop (3 * (n - 1) + g + 1) shapes)) p) (sym e) h
