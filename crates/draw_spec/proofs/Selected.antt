-- Numbers that pass a test: how many there are, and where they are.
-- Assumes nothing.
use Prim.Native.Nat.{ℕ, zero, suc, ◌≤◌, ◌<◌}
use native.Mathlib.Omega.{arith}
use mathlib.Core.Path.{refl}
use mathlib.Core.Bool.{Bool, true, false, cond}
use mathlib.Core.Logic.{inl, inr}
use mathlib.Core.List.{List, [], ◌∷◌}
use lib.ListN.{length}
use Rattle.netlist.specs.Writing.{All}
use Rattle.verdict.specs.Graph.{In}
use Rattle.check_spec.specs.Lists.{numbers, select}
use Rattle.verdict.proofs.Names.{select_in}
use Rattle.verdict.proofs.Words.{in_index}

pub in_some : (x : ℕ) (xs : List ℕ) → In x xs → 1 ≤ length xs
in_some x [] i = absurd i
in_some x (y ∷ xs) i = omega arith

in_all : (P : ℕ → Type 0) (l : List ℕ) → ((x : ℕ) → In x l → P x) → All P l
in_all P [] h = tt
in_all P (x ∷ l) h = (h x (inl refl), in_all P l (λ y i. h y (inr i)))

module _ (test : ℕ → Bool) where
  pub selected_below : (m : ℕ) → All (λ v. v < m) (select test (numbers 0 m))
  selected_below m = in_all (λ v. v < m) (select test (numbers 0 m)) (λ x i. in_index m x (select_in test (numbers 0 m) x i).0)

  pub selected_few : (x m : ℕ) → length (select test (numbers x m)) ≤ m
  unfolding select numbers
  selected_few x zero = omega arith
  selected_few x (suc m) = go (test x) (selected_few (suc x) m)
    where
      go : (b : Bool) → length (select test (numbers (suc x) m)) ≤ m
          → length (cond b (x ∷ select test (numbers (suc x) m)) (select test (numbers (suc x) m))) ≤ suc m
      go true l = omega arith
      go false l = omega arith
