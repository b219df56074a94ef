-- An array whose first part was lent and came back.
-- Assumes nothing.
use Prim.Native.Nat.{ℕ, ◌≤◌}
use native.Mathlib.Omega.{arith}
use mathlib.Core.Path.{◌≡◌, ◌∙◌}
use mathlib.Core.List.{List, ◌++◌}
use lib.ListN.{length, take, drop, length-append, length-take, length-drop}
use lib.Seq.{length-take-le, take_at}

-- a part is no longer than it was asked for
pub part_few : {A : Type 0} (m k : ℕ) (all : List A) → m ≤ k → length (take m all) ≤ k
part_few m k all h = omega (arith, length-take m all)

module _ {A : Type 0} (m : ℕ) (all part : List A) (few : m ≤ length all) (same : length part ≡ length (take m all)) where
  pub part_long : length part ≡ m
  part_long = same ∙ length-take-le m all few

  pub whole_long : length (part ++ drop m all) ≡ length all
  whole_long = omega (arith, length-append part (drop m all), length-drop m all, part_long)

  pub part_back : take m (part ++ drop m all) ≡ part
  part_back = take_at part (drop m all) m part_long
