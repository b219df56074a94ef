-- The list from a number of a shape on, and where a listed stage stands in it.
-- Assumes nothing.
use Prim.Native.Nat.{ℕ, zero, suc, ◌+◌, ◌*◌, ◌-◌, ◌≤◌, ◌<◌}
use native.Mathlib.Omega.{arith}
use mathlib.Core.Path.{◌≡◌, refl, sym, ap, ◌∙◌}
use mathlib.Core.Bool.{Bool, true, false}
use mathlib.Core.List.{List, [], ◌∷◌, ◌++◌, append_assoc}
use lib.ListN.{drop}
use Rattle.check_spec.specs.Content.{Content}
use Rattle.next_spec.specs.Numbered.{stages, lists, stage_numbered}
use Rattle.next_spec.specs.Listing.{InShape, free, loop_free_from, group, Shape, shape, stages_of, shapes, listing, Listed, onward}
use Rattle.next_spec.proofs.Loops.{each_shape}

-- ---- shapes

-- the stages with all pins on net 0 have no loop
pub zero_free : (n g : ℕ) → InShape n g → free n g 0 ≡ true
unfolding free
zero_free = each_shape (λ n g. free n g 0 ≡ true) refl refl refl refl refl refl

pub stages_some : (n g : ℕ) → InShape n g → 1 ≤ stages n g
unfolding lists
stages_some = each_shape (λ n g. 1 ≤ stages n g) (omega arith) (omega arith) (omega arith) (omega arith) (omega arith) (omega arith)

pub stages_most : (n g : ℕ) → InShape n g → stages n g ≤ 186624
unfolding lists
stages_most = each_shape (λ n g. stages n g ≤ 186624) (omega arith) (omega arith) (omega arith) (omega arith) (omega arith) (omega arith)

-- the place of a shape among the shapes
shape_at : (n g : ℕ) → InShape n g → drop (3 * (n - 1) + g) shapes ≡ shape n g ∷ drop (3 * (n - 1) + g + 1) shapes
unfolding shapes
shape_at = each_shape (λ n g. drop (3 * (n - 1) + g) shapes ≡ shape n g ∷ drop (3 * (n - 1) + g + 1) shapes) refl refl refl refl refl refl

-- ---- one number more

module _ (n g count : ℕ) where
  -- of those from z on: z, where it has no loop, and those after it
  pub from_free : (z : ℕ) → z < count → free n g z ≡ true → loop_free_from n g z (count - z) ≡ stage_numbered n g z ∷ loop_free_from n g (z + 1) (count - (z + 1))
  unfolding loop_free_from
  from_free z l f = let a : count - z ≡ suc (count - (z + 1)) = omega arith in let b : z + 1 ≡ suc z = omega arith in rw (a, b, f)

  pub from_loop : (z : ℕ) → z < count → free n g z ≡ false → loop_free_from n g z (count - z) ≡ loop_free_from n g (z + 1) (count - (z + 1))
  unfolding loop_free_from
  from_loop z l f = let a : count - z ≡ suc (count - (z + 1)) = omega arith in let b : z + 1 ≡ suc z = omega arith in rw (a, b, f)

  pub from_none : (z : ℕ) → count ≤ z → loop_free_from n g z (count - z) ≡ []
  unfolding loop_free_from
  from_none z l = let a : count - z ≡ 0 = omega arith in rw a

-- ---- from a number on

pub onward_free : (n g z : ℕ) → z < stages n g → free n g z ≡ true → onward n g z ≡ stage_numbered n g z ∷ onward n g (z + 1)
unfolding onward
onward_free n g z l f = ap (λ (cs : List Content). cs ++ stages_of (drop (3 * (n - 1) + g + 1) shapes)) (from_free n g (stages n g) z l f)

pub onward_start : (n g : ℕ) → InShape n g → stages_of (drop (3 * (n - 1) + g) shapes) ≡ onward n g 0
unfolding onward group
onward_start n g i = let e : stages n g - 0 ≡ stages n g = omega arith in rw (shape_at n g i, e)

-- ---- the place of a listed stage in the list

split-group : (n g j z m : ℕ) → (front : List Content) × (loop_free_from n g j (z + m) ≡ front ++ loop_free_from n g (j + z) m)
unfolding loop_free_from
split-group n g j zero m = let a : 0 + m ≡ m = omega arith in let b : j + 0 ≡ j = omega arith in ([], rw (a, b))
split-group n g j (suc z) m = go (free n g j) refl (split-group n g (suc j) z m)
  where
    a : suc z + m ≡ suc (z + m)
    a = omega arith

    b : j + suc z ≡ suc j + z
    b = omega arith

    go : (t : Bool) → free n g j ≡ t → (front : List Content) × (loop_free_from n g (suc j) (z + m) ≡ front ++ loop_free_from n g (suc j + z) m)
        → (front : List Content) × (loop_free_from n g j (suc z + m) ≡ front ++ loop_free_from n g (j + suc z) m)
    go true t later = (stage_numbered n g j ∷ later.0, rw (a, b, t) (ap (λ (l : List Content). stage_numbered n g j ∷ l) later.1))
    go false t later = (later.0, rw (a, b, t) later.1)

split-shapes : (k : ℕ) (hs : List Shape) → (front : List Content) × (stages_of hs ≡ front ++ stages_of (drop k hs))
split-shapes zero hs = ([], refl)
split-shapes (suc k) [] = ([], refl)
split-shapes (suc k) (h ∷ hs) =
    let r = split-shapes k hs in
    let a = group h.inputs h.gates in
    (a ++ r.0, ap (λ (l : List Content). a ++ l) r.1 ∙ sym (append_assoc a r.0 (stages_of (drop k hs))))

onward-split : (n g z : ℕ) → z < stages n g → (front : List Content)
    → loop_free_from n g 0 (z + (stages n g - z)) ≡ front ++ loop_free_from n g (0 + z) (stages n g - z)
    → onward n g 0 ≡ front ++ onward n g z
unfolding onward
onward-split n g z l front h =
    let rest = stages_of (drop (3 * (n - 1) + g + 1) shapes) in
    let c : stages n g - 0 ≡ z + (stages n g - z) = omega arith in
    let d : 0 + z ≡ z = omega arith in
    ap (λ (m : ℕ). loop_free_from n g 0 m ++ rest) c
    ∙ ap (λ (t : List Content). t ++ rest) h
    ∙ append_assoc front (loop_free_from n g (0 + z) (stages n g - z)) rest
    ∙ ap (λ (i : ℕ). front ++ (loop_free_from n g i (stages n g - z) ++ rest)) d

pub place_in_listing : (n g z : ℕ) → Listed n g z → (front : List Content) × (listing ≡ front ++ (stage_numbered n g z ∷ onward n g (z + 1)))
unfolding listing
place_in_listing n g z l =
    let f = split-shapes (3 * (n - 1) + g) shapes in
    let a = split-group n g 0 z (stages n g - z) in
    let later = stage_numbered n g z ∷ onward n g (z + 1) in
    let e : onward n g 0 ≡ a.0 ++ later = onward-split n g z l.below a.0 a.1
    ∙ ap (λ (t : List Content). a.0 ++ t) (onward_free n g z l.below l.loop_free) in
    (f.0 ++ a.0, f.1 ∙ ap (λ (t : List Content). f.0 ++ t) (onward_start n g l.shaped ∙ e) ∙ sym (append_assoc f.0 a.0 later))
