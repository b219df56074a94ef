-- Once all gates have their levels, a row holds all nets.
-- Assumes nothing.
use Prim.Native.Nat.{ℕ, ◌+◌, ◌-◌, ◌*◌, ◌<◌}
use native.Mathlib.Omega.{arith}
use native.Mathlib.Decide.{dec_lt}
use mathlib.Core.Path.{◌≡◌}
use mathlib.Core.List.{List}
use Rattle.runs.specs.Row.{Row}
use Rattle.netlist.specs.declared.Counts.{Counts}
use Rattle.circuit.specs.Stage.{net_count, gate_at_place, place_of}
use Rattle.circuit.specs.Order.{InOrder}
use Rattle.lane_cells.specs.Lane.{row_in}
use Rattle.lane_settle.specs.Block.{LanesSettledTo, Holding}

module _ (c : Counts) (code : List ℕ) (ordered : InOrder c code) (rows : ℕ → Row) where
  pub settled_rest : (row : List ℕ) → LanesSettledTo c code rows row c.gates → Holding c rows row
  settled_rest row s = record { ground = s.spelled.ground; nets = λ j p d h. go j p d h (dec_lt p (2 * c.inputs)) }
    where
      go : (j p : ℕ) → j < 64 → p < net_count c → Dec (p < 2 * c.inputs) → row_in j row p ≡ rows j p
      go j p d h (yes a) = s.spelled.rails j p d a
      go j p d h (no a) =
          let k = p - 2 * c.inputs in
          let e : 2 * c.inputs + gate_at_place code (place_of code k) ≡ p = omega (arith, ordered.stands_there k (omega arith)) in
          rw e at (s.gates j (place_of code k) d (ordered.place_in k (omega arith)))
