-- The registers' graph in numbers of 64 bits: bit k of number t says that register k reaches register t.
use Rattle.std.specs.Prelude.{ℕ, ◌≤◌, ◌<◌, ◌≡◌, Bool, true, false, cond, List, length, get_or, eqb, ltb}
use Rattle.std.specs.Int.Bits.{bit_and, bit_or, bit_xor}
use Rattle.lane_cells.specs.Lane.{lane}
use Rattle.wiring_spec.specs.Parts.{Pipeline, register_count}
use Rattle.wiring_spec.specs.Wiring.{reaches}
use Rattle.wiring_spec.specs.Passing.{ReachesOn}

-- register k is among the sources of register t
abbrev pub source_in : List ℕ → ℕ → ℕ → Bool
source_in sources k t = lane k (get_or sources t 0)

-- the sources of each register are those that reach it through gates or straight ..
pub record SourcesOf (p : Pipeline) (sources : List ℕ) : Type 0 where
  pub long : length sources ≡ register_count p
  pub each : (k t : ℕ) → k < 64 → t < register_count p → source_in sources k t ≡ reaches p k t

-- .. or those that it comes from, also through other registers
pub record ComesFrom (p : Pipeline) (sources : List ℕ) : Type 0 where
  pub long : length sources ≡ register_count p
  pub sound : (k t : ℕ) → k < register_count p → t < register_count p → source_in sources k t ≡ true → ReachesOn p k t
  pub complete : (k t : ℕ) → k < register_count p → t < register_count p → ReachesOn p k t → source_in sources k t ≡ true

-- the sources of a register after those of register j were added, where j is among them
abbrev pub through_one : List ℕ → ℕ → ℕ → ℕ
through_one sources j t = cond (source_in sources j t) (bit_or (get_or sources t 0) (get_or sources j 0)) (get_or sources t 0)

-- this was done to the registers before t, and to no other
pub record Through (before : List ℕ) (j t : ℕ) (after : List ℕ) : Type 0 where
  pub long : length after ≡ length before
  pub done : (i : ℕ) → i < t → get_or after i 0 ≡ through_one before j i
  pub rest : (i : ℕ) → t ≤ i → get_or after i 0 ≡ get_or before i 0

-- ---- levels

-- all sources of register t are known
abbrev pub is_ready : List ℕ → ℕ → ℕ → Bool
is_ready sources known t = eqb (bit_and (get_or sources t 0) (bit_xor (get_or sources t 0) known)) 0

-- a round has come to register t: those before it whose sources are known are known next, the others of them have a new level
pub record RaisedTo (sources : List ℕ) (known level : ℕ) (before levels : List ℕ) (next t : ℕ) : Type 0 where
  pub long : length levels ≡ length before
  pub noted : (i : ℕ) → i < 64 → lane i next ≡ cond (ltb i t) (is_ready sources known i) false
  pub done : (i : ℕ) → i < t → get_or levels i 0 ≡ cond (is_ready sources known i) (get_or before i 0) level
  pub rest : (i : ℕ) → t ≤ i → get_or levels i 0 ≡ get_or before i 0
