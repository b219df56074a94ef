-- Placing the C-elements of a flat form in an order in which each comes after those at its pins. Eight numbers stand for each net after
-- the gates: number 0 is 3 for a C-element, 1 to 4 are the nets at its pins, and 5 is its place, 0 as long as it has none.
use Rattle.std.specs.Prelude.{ℕ, ◌+◌, ◌*◌, ◌-◌, ◌≤◌, ◌<◌, ◌≡◌, Bool, true, false, cond, ◌&&◌, List, [], ◌∷◌, length, get_or, eqb, leb, ltb}
use Rattle.verdict.specs.Loops.{In}
use Rattle.verdict.specs.Lists.{some}
use Rattle.wiring_spec.specs.Counting.{passing}
use Rattle.wiring_spec.specs.Parts.{Pipeline}
use Rattle.wiring_spec.specs.Wiring.{openings}
use Rattle.wiring_spec.specs.Tables.{slot}

-- the place of the C-element that drives net x, 0 for another net; `first` is the first net after the gates
unfoldable pub place : List ℕ → ℕ → ℕ → ℕ
place code first x = cond (ltb x first) 0 (slot code (x - first) 5)

-- net x is a C-element without a place; `count` nets stand after the gates
unfoldable pub waiting : List ℕ → ℕ → ℕ → ℕ → Bool
waiting code first count x =
    cond (ltb x first) false (cond (leb count (x - first)) false (eqb (slot code (x - first) 0) 3 && eqb (slot code (x - first) 5) 0))

-- the four numbers from a place on
abbrev pub four : List ℕ → ℕ → List ℕ
four code at = get_or code at 0 ∷ get_or code (at + 1) 0 ∷ get_or code (at + 2) 0 ∷ get_or code (at + 3) 0 ∷ []

-- C-element i comes after those at its pins
pub record InOrder (code : List ℕ) (first count i : ℕ) : Type 0 where
  pub sort : slot code i 0 ≡ 3
  pub done : (y : ℕ) → In y (four code (8 * i + 1)) → waiting code first count y ≡ false
  pub falls : (y : ℕ) → In y (four code (8 * i + 1)) → place code first y < slot code i 5

-- `placed` of the C-elements have a place, each after those at its pins
pub record Placing (code₀ code : List ℕ) (first count placed : ℕ) : Type 0 where
  pub long : length code ≡ 8 * count
  pub kept : (i j : ℕ) → j < 8 → (j ≡ 5 → ⊥) → slot code i j ≡ slot code₀ i j
  pub few : placed ≤ passing (λ i. ltb 0 (slot code i 5)) count
  pub top : (i : ℕ) → slot code i 5 ≤ placed
  pub order : (i : ℕ) → i < count → 0 < slot code i 5 → InOrder code first count i

-- every C-element without a place has such a one at a pin
abbrev pub Stuck : List ℕ → ℕ → ℕ → ℕ → Type 0
Stuck code first count m = (i : ℕ) → i < m → waiting code first count (first + i) ≡ true → some (waiting code first count) (four code (8 * i + 1)) ≡ true

-- a pass places more C-elements, or those without a place are stuck
pub record Passed (code₀ code : List ℕ) (first count before placed : ℕ) : Type 0 where
  pub placing : Placing code₀ code first count placed
  pub more : before ≤ placed
  pub none : placed ≡ before → Stuck code first count count

-- What the places are worth in a pipeline: the C-elements at the pins of one with a place have places, before its own; one without a place has such a one
-- at a pin.
pub record Placed (p : Pipeline) (code : List ℕ) (first : ℕ) : Type 0 where
  pub before : (x v w : ℕ) → In v (openings p x) → In w (openings p v) → 0 < place code first x
      → (0 < place code first v) × (place code first v < place code first x)
  pub stuck : (x w : ℕ) → In w (openings p x) → place code first x ≡ 0 → (v u : ℕ) × In v (openings p x) × In u (openings p v) × (place code first v ≡ 0)
