-- Numbers in order, tests of lists, sums, and steps from one number to others.
use Rattle.std.specs.Prelude.{ℕ, zero, suc, ◌+◌, Bool, true, false, cond, List, [], ◌∷◌}

-- m numbers from j on
unfoldable pub numbers : ℕ → ℕ → List ℕ
numbers j zero = []
numbers j (suc m) = j ∷ numbers (suc j) m

-- those of some numbers that pass a test
unfoldable pub select : (ℕ → Bool) → List ℕ → List ℕ
select test [] = []
select test (x ∷ xs) = let later = select test xs in cond (test x) (x ∷ later) later

abbrev pub sum : List ℕ → ℕ
sum [] = 0
sum (x ∷ xs) = x + sum xs

-- whether some of a list pass a test, and whether all do
unfoldable pub some : {A : Type 0} → (A → Bool) → List A → Bool
some test [] = false
some test (x ∷ xs) = let later = some test xs in cond (test x) true later

unfoldable pub every : {A : Type 0} → (A → Bool) → List A → Bool
every test [] = true
every test (x ∷ xs) = let later = every test xs in cond (test x) later false

-- in 1 to k steps, each to one of the next, x comes to a goal
unfoldable pub reaches : (ℕ → List ℕ) → (ℕ → Bool) → ℕ → ℕ → Bool
reaches next goal zero x = false
reaches next goal (suc k) x = some (λ y. let further = reaches next goal k y in cond (goal y) true further) (next x)

-- one of a list is a goal, or comes to one in at most k steps
abbrev pub lead_to : (ℕ → List ℕ) → (ℕ → Bool) → ℕ → List ℕ → Bool
lead_to next goal k = some (λ y. let further = reaches next goal k y in cond (goal y) true further)
