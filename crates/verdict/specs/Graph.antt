-- A test that computes of nets that lead to others step by step. `next x` are the nets one step from net x.
use Rattle.std.specs.Prelude.{ℕ, zero, suc, Bool, false, ◌||◌, List, [], ◌∷◌, eqb}
use Rattle.gates.specs.Cell.{bit}
use Rattle.verdict.specs.Rows.{high, rounds}
pub use Rattle.verdict.specs.Paths.{In, Leads, here, onward, OnLoop}

abbrev pub any_high : List ℕ → List ℕ → Bool
any_high row [] = false
any_high row (p ∷ nets) = high row p || any_high row nets

-- the first m values of a function
unfoldable pub tabulate : {A : Type 0} → (ℕ → A) → ℕ → List A
tabulate f zero = []
tabulate f (suc m) = f 0 ∷ tabulate (λ i. f (suc i)) m

-- of the first `size` nets those that lead to a goal, marked by 1: in each round a net that is a goal or has a marked net one step from it
unfoldable pub leading : (ℕ → List ℕ) → (ℕ → Bool) → ℕ → List ℕ
leading next goal size = rounds (λ marks. tabulate (λ x. bit (goal x || any_high marks (next x))) size) size size

-- x leads to a goal; x leads back to itself: that these tests pass exactly if that is so is a theorem
abbrev pub leads : (ℕ → List ℕ) → (ℕ → Bool) → ℕ → ℕ → Bool
leads next goal size x = high (leading next goal size) x

abbrev pub on_loop : (ℕ → List ℕ) → ℕ → ℕ → Bool
on_loop next size x = any_high (leading next (eqb x) size) (next x)
