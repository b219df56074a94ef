-- Opening the C-elements behind a Ki in the table of the nets after the gates: what stands behind a net, and what is known of that already.
use Rattle.std.specs.Prelude.{ℕ, ◌+◌, ◌*◌, ◌-◌, ◌<◌, ◌≡◌, Bool, true, false, cond, ◌&&◌, List, [], ◌∷◌, length, get_or, eqb, ltb}
use Rattle.std.specs.Prelude.{Option, Some, None}
use Rattle.verdict.specs.Paths.{In}
use Rattle.lane_cells.specs.Lane.{lane}
use Rattle.wiring_spec.specs.Tables.{slot}
use Rattle.wiring_spec.specs.Gathering.{Gathers}
use Rattle.circuit_place.specs.Placing.{place, four}
use Rattle.check_open.specs.declared.Behind.{Behind}

-- the numbers at the pins of a C-element that has a place; none for another net
unfoldable pub pins : List ℕ → ℕ → ℕ → List ℕ
pins nets first x = cond (ltb 0 (place nets first x)) (four nets (8 * (x - first) + 1)) []

-- behind nothing, nothing stands
abbrev pub nothing_behind : Behind
nothing_behind = record { kos = 0; other = false }

-- what a net is by itself: the Ko of register t; or one that carries data
unfoldable pub own_ko : List ℕ → ℕ → ℕ → ℕ → Bool
own_ko nets first t x = cond (ltb x first) false (eqb (slot nets (x - first) 0) 2 && eqb t (slot nets (x - first) 6))

unfoldable pub own_data : List ℕ → ℕ → ℕ → Bool
own_data nets first x = cond (ltb x first) true (eqb (slot nets (x - first) 0) 1)

-- a net by itself
pub record Own (nets : List ℕ) (first x : ℕ) (b : Behind) : Type 0 where
  pub of_kos : (t : ℕ) → t < 64 → lane t b.kos ≡ own_ko nets first t x
  pub of_other : b.other ≡ own_data nets first x

-- what stands behind some nets, once the C-elements are opened
pub record ToldOf (nets : List ℕ) (first : ℕ) (xs : List ℕ) (b : Behind) : Type 0 where
  pub of_kos : (t : ℕ) → t < 64 → Gathers (pins nets first) (own_ko nets first t) xs (lane t b.kos)
  pub of_other : Gathers (pins nets first) (own_data nets first) xs b.other

abbrev pub Told : List ℕ → ℕ → ℕ → Behind → Type 0
Told nets first x b = ToldOf nets first (x ∷ []) b

-- the table with its order, and what was found of each C-element that was opened
pub record Table (nets : List ℕ) (first : ℕ) (met : List (Option Behind)) : Type 0 where
  pub rows : length nets ≡ 8 * length met
  pub ko_in : (i : ℕ) → slot nets i 0 ≡ 2 → slot nets i 6 < 64
  pub others : (i : ℕ) → 0 < slot nets i 5 → slot nets i 0 ≡ 3
  pub falls : (x y : ℕ) → In y (pins nets first x) → place nets first y < place nets first x
  pub right : (i : ℕ) (b : Behind) → get_or met i None ≡ Some b → Told nets first (first + i) b

-- what opening a net answers and leaves
pub record Opened (nets : List ℕ) (first x : ℕ) (b : Behind) (long : ℕ) (met : List (Option Behind)) : Type 0 where
  pub told : Told nets first x b
  pub met_long : length met ≡ long
  pub table : Table nets first met
