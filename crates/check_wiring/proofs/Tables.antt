-- The tables of where the registers' data comes from are filled: which registers reach each, whether an input does, and their levels.
-- Assumes nothing.
use Prim.Native.Nat.{ℕ, zero, suc, ◌*◌, ◌≤◌, ◌<◌}
use native.Mathlib.Omega.{arith}
use mathlib.Core.Path.{◌≡◌, refl, sym, ◌∙◌}
use mathlib.Core.Bool.{Bool}
use mathlib.Core.List.{List, []}
use lib.ListN.{length, get_or, take, replicate}
use Rattle.std.specs.Prelude.{Option, None}
use Rattle.netlist.specs.declared.Counts.{Counts}
use Rattle.check_open.specs.declared.Behind.{Behind}
use Rattle.wiring_spec.specs.Parts.{Pipeline, register_count, driver_of, data_of}
use Rattle.wiring_spec.specs.Wiring.{gate_steps, is_rail_of, is_input}
use Rattle.wiring_spec.specs.Gathering.{Gathers}
use Rattle.wiring_spec.specs.Tables.{RegisterRow}
use Rattle.circuit_wire.specs.Wire.{RawLoaded}
use Rattle.check_levels.specs.Sources.{RailsIn, Gatherable, Seeds}
use Rattle.check_levels.specs.Graph.{source_in, SourcesOf}
use Rattle.check_levels.proofs.Sources as levels
use Rattle.check_rules.specs.Known.{InputsOf}
use Rattle.check_wiring.specs.Loaded.{part_nets, Loaded}

-- ---- tables of which nothing is known yet

-- a number, so many times
abbrev pub times : ℕ → ℕ → List ℕ
times n v = replicate n v

pub none_at : (n x : ℕ) → ◌≡◌ {A = ℕ} (get_or (times n 0) x 0) 0
none_at zero x = refl
none_at (suc n) zero = refl
none_at (suc n) (suc x) = none_at n x

pub none_taken : (m n x : ℕ) → ◌≡◌ {A = ℕ} (get_or (take m (times n 0)) x 0) 0
none_taken zero n x = refl
none_taken (suc m) zero x = refl
none_taken (suc m) (suc n) zero = refl
none_taken (suc m) (suc n) (suc x) = none_taken m n x

-- nothing was found yet
pub met_taken : (m n x : ℕ) → ◌≡◌ {A = Option Behind} (get_or (take m (replicate n None)) x None) None
met_taken zero n x = refl
met_taken (suc m) zero x = refl
met_taken (suc m) (suc n) zero = refl
met_taken (suc m) (suc n) (suc x) = met_taken m n x

pub no_rails : RailsIn []
no_rails = record { rows = refl; registers = λ i e. absurd (omega arith) }

-- ---- what was gathered

-- what `gather_sources` ensures of the sources that it leaves
abbrev pub Gathered : List ℕ → List ℕ → Counts → List ℕ → List ℕ → ℕ → List ℕ → Type 0
Gathered rails raw c regs sets count sources =
    (p : Pipeline) (own : ℕ → Bool) (t : ℕ) → t < 64 → RawLoaded p c raw → Seeds p own t rails c sets → (u : ℕ) → u < count → u < register_count p → RegisterRow p regs u
    → Gathers (gate_steps p) own (data_of p u) (source_in sources t u)

module _ (c : Counts) (raw order nets regs : List ℕ) (l : Loaded c raw order nets regs) where
  pub few_registers : c.registers ≤ 64
  few_registers = omega (arith, l.registers_are, l.parts.few)

  pub gatherable : (rails sets : List ℕ) → RailsIn rails → 276 ≤ length sets → Gatherable rails order raw c sets
  gatherable rails sets r h = record {
    rails_in_holds = r;
    within = l.raw_loaded.within;
    room = omega (arith, l.raw_loaded.within.inputs_in, l.raw_loaded.within.gates_in_holds);
    raw-room = omega (arith, l.raw_loaded.room);
    order_room = l.order_room;
    ordered = l.in_order;
  }

  pub rails : RailsIn nets
  rails = levels.rails_in_holds l.pipeline c raw l.raw_loaded (part_nets c) nets regs l.parts l.long

  pub sources_gathered : (sets : List ℕ) (count : ℕ) (sources : List ℕ) → ((x : ℕ) → get_or sets x 0 ≡ 0) → count ≡ c.registers → length sources ≡ c.registers
      → Gathered nets raw c regs sets count sources → SourcesOf l.pipeline sources
  sources_gathered sets count sources none same long g =
      levels.sources_of l.pipeline c raw l.raw_loaded (part_nets c) nets regs l.parts l.long sources (long ∙ sym l.registers_are)
      (λ t h u k. g l.pipeline (λ x. is_rail_of t (driver_of l.pipeline x)) t h l.raw_loaded (levels.rail_seeds l.pipeline c raw l.raw_loaded (part_nets c) nets regs l.parts l.long t sets none) u (omega (arith, l.registers_are)) k (l.parts.register_row u k))

  pub inputs_gathered : (sets : List ℕ) (count : ℕ) (inputs : List ℕ) → ((x : ℕ) → x < 2 * c.inputs → get_or sets x 0 ≡ 1) → count ≡ c.registers
      → Gathered [] raw c regs sets count inputs → InputsOf l.pipeline inputs
  inputs_gathered sets count inputs ones same g u k =
      levels.inputs_of l.pipeline c raw l.raw_loaded (part_nets c) nets regs l.parts l.long inputs u
      (g l.pipeline (λ x. is_input (driver_of l.pipeline x)) 0 (omega arith) l.raw_loaded (levels.input_seeds l.pipeline c raw l.raw_loaded (part_nets c) nets regs l.parts l.long sets ones) u (omega (arith, l.registers_are)) k (l.parts.register_row u k))
