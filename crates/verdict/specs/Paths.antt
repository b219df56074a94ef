-- Numbers that lead to others step by step, as nets do. `next x` are those one step from x.
use Rattle.std.specs.Prelude.{ℕ, ◌≡◌, ◌⊎◌, List, [], ◌∷◌}

abbrev pub In : ℕ → List ℕ → Type 0
In x [] = ⊥
In x (y ∷ ys) = (x ≡ y) ⊎ In x ys

-- x leads to y: it is y, or a net one step from it leads to y
pub data Leads (next : ℕ → List ℕ) (y : ℕ) : ℕ → Type 0 where
  here : Leads next y y
  onward : {x z : ℕ} → In z (next x) → Leads next y z → Leads next y x

-- x leads back to itself
abbrev pub OnLoop : (ℕ → List ℕ) → ℕ → Type 0
OnLoop next x = (z : ℕ) × In z (next x) × Leads next x z
