-- Topological orders and loops: where every gate is placed there is an order; where those that wait are stuck there is a loop.
-- Assumes nothing.
use Prim.Native.Nat.{ℕ, ◌+◌, ◌*◌, ◌≤◌, ◌<◌}
use native.Mathlib.Omega.{arith}
use mathlib.Core.Path.{◌≡◌, sym, ap, ◌∙◌}
use mathlib.Core.List.{List}
use lib.ListN.{length, get_or}
use borrow.Author.Tests.{le-ltb}
use Rattle.netlist.specs.declared.Counts.{Counts}
use Rattle.verdict.specs.Loops.{Feeds, LoopFree}
use Rattle.verdict.proofs.Reaching.{placed_free}
use Rattle.circuit.specs.Stage.{gate_at_place, place_of, stage_gates}
use Rattle.circuit.specs.Order.{order_in, InOrder}
use Rattle.circuit.proofs.Tabulate.{length_tabulate}
use Rattle.circuit.proofs.Settling.{length_stage_gates, order_at}
use Rattle.circuit_order.specs.Placing.{Gone, Placing, Ordered}
use Rattle.circuit_order.proofs.Sums.{get-≤-sum}

module _ (c : Counts) (code waiting : List ℕ) (placed : ℕ) (p : Placing c code waiting placed) where
  -- ---- all placed

  module _ (full : placed ≡ c.gates) where
    gone : (k : ℕ) → Gone c waiting k
    gone k = le-ltb 0 (get_or waiting (2 * c.inputs + k) 0) (omega (arith, p.total, get-≤-sum waiting (2 * c.inputs + k)))

    size : length (stage_gates c code) ≡ c.gates
    size = length_stage_gates c code

    order_long : length (order_in c code) ≡ c.gates
    unfolding order_in
    order_long = length_tabulate (gate_at_place code) c.gates

    abbrev order : List ℕ
    order = order_in c code

    at : (i : ℕ) → i < length (stage_gates c code) → get_or order i 0 ≡ gate_at_place code i
    at i h = order_at c code i (omega (arith, size))

    taken : (i : ℕ) → i < length (stage_gates c code) → (get_or order i 0 < c.gates) × (place_of code (get_or order i 0) ≡ i)
    taken i h = let t = p.taken i (omega (arith, size)) in rw (at i h) (t.0, t.2)

    stands : (k : ℕ) → k < length (stage_gates c code) → (place_of code k < length (stage_gates c code)) × (get_or order (place_of code k) 0 ≡ k)
    stands k h =
        let s = p.stands k (omega (arith, size)) (gone k) in
        let l : place_of code k < length (stage_gates c code) = omega (arith, s.0, size) in
        (l, at (place_of code k) l ∙ s.1)

    before : (j k : ℕ) → j < length (stage_gates c code) → k < length (stage_gates c code) → Feeds c.inputs (stage_gates c code) j k → place_of code j < place_of code k
    before j k hj hk f = (p.earlier j k (omega (arith, size)) (omega (arith, size)) (gone k) f).1

    in_order : InOrder c code
    in_order = record {
      ordered = record {
        long = omega (arith, size, order_long);
        gate = λ i h. omega (arith, (taken i h).0, size);
        stands = λ k h. let s = stands k h in (place_of code k, s.0, s.1);
        once = λ i j h h' e. sym (taken i h).1 ∙ ap (place_of code) e ∙ (taken j h').1;
        earlier = λ i j h hj f.
            let t = taken i h in
            (place_of code j, omega (arith, t.1, before j (get_or order i 0) hj (omega (arith, t.0, size)) f), (stands j hj).1);
      };
      place_in = λ k h. omega (arith, (p.stands k h (gone k)).0);
      stands_there = λ k h. (p.stands k h (gone k)).1;
    }

    pub all_ordered : InOrder c code × LoopFree c.inputs (stage_gates c code)
    all_ordered = (in_order, placed_free c.inputs (stage_gates c code) (place_of code) before)

  pub ordered_full : c.gates ≤ placed → Ordered c code placed
  ordered_full h =
      let e : placed ≡ c.gates = omega (arith, p.total) in
      record { loaded = p.loaded; all = all_ordered; some = λ d. absurd (d e) }
