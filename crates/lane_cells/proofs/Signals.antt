-- The gates of a reference in file order, in all 64 lanes.
-- Assumes nothing.
use Prim.Native.Nat.{ℕ, ◌+◌, ◌*◌, ◌≤◌, ◌<◌}
use native.Mathlib.Omega.{arith}
use mathlib.Core.Path.{◌≡◌, refl, ap, ◌∙◌}
use mathlib.Core.List.{List}
use lib.ListN.{length, get_or, take, set, length-set}
use Rattle.netlist.specs.declared.Counts.{Counts}
use Rattle.verdict.specs.Words.{bits_of}
use Rattle.verdict.specs.Answers.{operate, values_at, signal_values}
use Rattle.circuit.specs.Reference.{operator_in, operators_in}
use Rattle.circuit.proofs.Values.{ValuesTo, values_start, values_turn, values_done}
use Rattle.lane_cells.specs.Lane.{level_in, lane_of}
use Rattle.lane_cells.proofs.Lane.{level_small}
use Rattle.lane_cells.proofs.Blocks.{level_at, lane_set, length_lane}

small : (j : ℕ) (l : List ℕ) (i : ℕ) → get_or (lane_of j l) i 0 ≤ 1
small j l i = rw (level_at j l i) (level_small j (get_or l i 0))

-- in each lane the values of the inputs and of the first k gates are written
pub record SignalsTo (c : Counts) (code start values : List ℕ) (k : ℕ) : Type 0 where
  pub within : k ≤ c.gates
  pub same_long : length values ≡ length start
  pub each : (j : ℕ) → j < 64 → ValuesTo c code (lane_of j start) (lane_of j values) k

module _ (c : Counts) (code : List ℕ) where
  pub signals_start : (start : List ℕ) → SignalsTo c code start start 0
  signals_start start = record { within = omega arith; same_long = refl; each = λ j d. values_start c code (lane_of j start) (small j start) }

  module _ (start values : List ℕ) (k : ℕ) (s : SignalsTo c code start values k) where
    pub signals_turn : c.inputs + c.gates ≤ length start → k < c.gates → (x : ℕ) →
        ((j : ℕ) → j < 64 → level_in j x ≡ operate (operator_in code k).code (values_at (take (c.inputs + k) (lane_of j values)) (operator_in code k).operands))
        → SignalsTo c code start (set values (c.inputs + k) x) (k + 1)
    signals_turn room h x is = record {
      within = omega arith;
      same_long = length-set values (c.inputs + k) x ∙ s.same_long;
      each = λ j d. rw (lane_set j values (c.inputs + k) x)
          (values_turn c code (lane_of j start) (lane_of j values) k (s.each j d) (omega (arith, length_lane j start)) h (level_in j x) (is j d, level_small j x));
    }

    pub signals_done : c.gates ≤ k → (b : ℕ) → ((j : ℕ) → j < 64 → take c.inputs (lane_of j start) ≡ bits_of c.inputs (64 * b + j)) → (j : ℕ) → j < 64
        → take (c.inputs + c.gates) (lane_of j values) ≡ signal_values (bits_of c.inputs (64 * b + j)) (operators_in c code)
    signals_done h b spelled j d =
        values_done c code (lane_of j start) (lane_of j values) k (s.each j d) h ∙ ap (λ (bits : List ℕ). signal_values bits (operators_in c code)) (spelled j d)
