-- The pipeline whose C-elements were placed, and what the first pass of 33 says of the checks.
-- Assumes nothing.
use Rattle.std.specs.Prelude.{Option, Some, None, Err}
use Prim.Native.Nat.{ℕ, ◌+◌, ◌<◌}
use native.Mathlib.Omega.{arith}
use mathlib.Core.Path.{◌≡◌, refl, sym, ◌∙◌}
use mathlib.Core.List.{List}
use Rattle.netlist.specs.declared.Counts.{Counts}
use Rattle.verdict.specs.Checks.{verdict, first_fault}
use Rattle.verdict.specs.Search.{least}
use Rattle.verdict.proofs.Least.{least_says}
use Rattle.wiring_spec.specs.Parts.{Pipeline, register_count}
use Rattle.wiring_spec.specs.Wiring.{circular}
use Rattle.wiring_spec.specs.Passing.{Nowhere}
use Rattle.wiring_spec.specs.Table.{of_registers, wiring_checks}
use Rattle.circuit.specs.Stage.{net_count}
use Rattle.circuit_order.proofs.Findings.{found_at, found_nothing, faulty, passed_on}
use Rattle.circuit_place.specs.Placing.{Placing, Passed}
use Rattle.circuit_place.proofs.Order.{parts_placed}
use Rattle.check_rules.specs.Rules.{later_checks}
use Rattle.check_wiring.specs.Loaded.{part_nets, Loaded, Unplaced, Ordered}

-- ---- placing

module _ (c : Counts) (raw order nets regs : List ℕ) (l : Loaded c raw order nets regs) where
  pub few_numbers : net_count c + part_nets c < 65536
  few_numbers = omega (arith, l.raw_loaded.within.inputs_in, l.raw_loaded.within.gates_in_holds, l.registers_are, l.parts.few, l.few_elements)

  pub placing_none : Unplaced nets → Placing nets nets (net_count c) (part_nets c) 0
  placing_none none = record {
    long = l.long;
    kept = λ i j h d. refl;
    few = omega arith;
    top = λ i. omega (arith, none i);
    order = λ i h p. absurd (omega (arith, none i));
  }

  module _ (after : List ℕ) (w : (placed : ℕ) × Passed nets after (net_count c) (part_nets c) placed placed) where
    abbrev pub loaded_placed : Loaded c raw order after regs
    loaded_placed = record {
      pipeline = l.pipeline;
      registers_are = l.registers_are;
      few_elements = l.few_elements;
      raw_loaded = l.raw_loaded;
      parts = parts_placed l.pipeline (net_count c) (part_nets c) nets after regs w.1.placing.kept l.parts;
      long = w.1.placing.long;
      regs_room = l.regs_room;
      order_room = l.order_room;
      in_order = l.in_order;
    }

    pub ordered_placed : Ordered l.pipeline c after regs
    ordered_placed = record {
      registers_are = l.registers_are;
      few_elements = l.few_elements;
      within = l.raw_loaded.within;
      parts = parts_placed l.pipeline (net_count c) (part_nets c) nets after regs w.1.placing.kept l.parts;
      long = w.1.placing.long;
      regs_room = l.regs_room;
      before = nets;
      placed = w.0;
      passed = w.1;
    }

-- ---- the first pass of 33

module _ (p : Pipeline) (found : Option ℕ) (is : found ≡ least (circular p) 0 (register_count p)) where
  pub circular_at : (k : ℕ) → found ≡ Some k → Err (verdict 33 1 k 0) ≡ first_fault (wiring_checks p)
  unfolding first_fault wiring_checks
  circular_at k e = sym (faulty _ _ (verdict 33 1 k 0) (found_at (of_registers 33 circular p) refl found is k e))

  module _ (none : found ≡ None) where
    pub circular_nowhere : Nowhere p (circular p)
    circular_nowhere k h = least_says (circular p) 0 (register_count p) None (sym is ∙ none) k (omega arith) (omega arith)

    pub others_follow : first_fault (later_checks p) ≡ first_fault (wiring_checks p)
    unfolding first_fault wiring_checks
    others_follow = sym (passed_on _ _ (found_nothing (of_registers 33 circular p) refl found is none))
