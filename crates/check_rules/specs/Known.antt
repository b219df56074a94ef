-- What tables hold of the registers of a pipeline.
use Rattle.std.specs.Prelude.{ℕ, ◌*◌, ◌≤◌, ◌<◌, ◌≡◌, List, length, get_or}
use Rattle.lane_cells.specs.Lane.{lane}
use Rattle.wiring_spec.specs.Parts.{Pipeline, register_count, ki_of, driver_of}
use Rattle.wiring_spec.specs.Wiring.{from_input, level, behind, is_ko_of}
use Rattle.wiring_spec.specs.Named.{carries_data}
use Rattle.wiring_spec.specs.Tables.{register_slot}
use Rattle.check_open.specs.declared.Behind.{Behind}
use Rattle.check_open.specs.Opening.{nothing_behind}
use Rattle.check_levels.specs.Graph.{source_in, SourcesOf}

-- the net at the Ki of each register
abbrev pub KisOf : Pipeline → List ℕ → Type 0
KisOf p regs = (k : ℕ) → k < register_count p → register_slot regs k 3 ≡ ki_of p k

-- whether some data of a register comes from an input, in bit 0; and its level
abbrev pub InputsOf : Pipeline → List ℕ → Type 0
InputsOf p inputs = (t : ℕ) → t < register_count p → source_in inputs 0 t ≡ from_input p t

abbrev pub LevelsOf : Pipeline → List ℕ → Type 0
LevelsOf p levels = (t : ℕ) → t < register_count p → get_or levels t 0 ≡ level p t

-- what stands behind the Ki of a register: the registers whose Ko does, and whether a net that carries data does
pub record BehindOf (p : Pipeline) (found : List Behind) : Type 0 where
  pub kos_of : (k t : ℕ) → k < register_count p → t < 64 → lane t (get_or found k nothing_behind).kos ≡ behind p (λ x. is_ko_of t (driver_of p x)) k
  pub others_of : (k : ℕ) → k < register_count p → (get_or found k nothing_behind).other ≡ behind p (λ x. carries_data (driver_of p x)) k

pub record Known (p : Pipeline) (regs sources inputs levels : List ℕ) (found : List Behind) : Type 0 where
  pub kis_of : KisOf p regs
  pub sources_of : SourcesOf p sources
  pub inputs_of : InputsOf p inputs
  pub levels_of_holds : LevelsOf p levels
  pub behind_of : BehindOf p found

-- the tables have a place for each register, and levels are those that 64 registers can have
pub record Sized (regs sources inputs levels : List ℕ) (found : List Behind) : Type 0 where
  pub few : length sources ≤ 64
  pub regs_room : 4 * length sources ≤ length regs
  pub inputs_long : length inputs ≡ length sources
  pub levels_long : length levels ≡ length sources
  pub behind_long : length found ≡ length sources
  pub low : (k : ℕ) → k < length sources → 1 ≤ get_or levels k 0
  pub high : (k : ℕ) → k < length sources → get_or levels k 0 ≤ 64
