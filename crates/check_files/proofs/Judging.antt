-- The checks of two circuits in their order: 10, 11, 12, 33, 34, 35, 28, and those that settle the stage in its words.
-- Assumes nothing.
use Rattle.std.specs.Prelude.{Option, Some, None, Ok, Err}
use Prim.Native.Nat.{ℕ, ◌<◌}
use mathlib.Core.Path.{◌≡◌, refl, sym, ap, ap₂, ◌∙◌}
use mathlib.Core.List.{List, ◌∷◌, ◌++◌}
use lib.ListN.{length}
use borrow.Author.Tests.{eq-eqb, ne_eqb}
use Rattle.netlist.specs.declared.Counts.{Counts}
use Rattle.gates.specs.Cell.{is_retired}
use Rattle.netlist.specs.Content.{Gate, Stage, Reference}
use Rattle.verdict.specs.declared.Verdict.{Verdict}
use Rattle.verdict.specs.declared.WordOrder.{WordOrder}
use Rattle.verdict.specs.FourNumbers.{Finding}
use Rattle.verdict.specs.Nets.{no_gate}
use Rattle.verdict.specs.Retired.{retired_at}
use Rattle.verdict.specs.Search.{least}
use Rattle.verdict.specs.Checks.{verdict, Check, first, at_fault, sweep, finding, or_later, first_fault, unequal, looped, retired, word_checks, checks}
use Rattle.wiring_spec.specs.Table.{wiring_checks}
use Rattle.check_spec.specs.Content.{pipeline_of, wired}
use Rattle.check_spec.specs.Loaded.{stage_view}
use Rattle.circuit.specs.Stage.{cell_in, gate_in, stage_gates, output_in, stage_outputs, stage_in}
use Rattle.circuit.specs.Reference.{signal_in, signals_in, reference_in, ReferenceLoaded}
use Rattle.circuit.proofs.Tabulate.{length_tabulate, get_d_tabulate}
use Rattle.circuit.proofs.Settling.{length_stage_gates}
use Rattle.circuit_order.proofs.Findings.{passed_on, faulty, found_at, found_nothing}
use Rattle.check_word.specs.Loaded.{BothLoaded}
use Rattle.check_files.specs.Held.{StageHeld, content_in, StageOrdered}
use Rattle.check_files.proofs.Findings.{then_later}
use Rattle.check_files.proofs.Holding.{raw_same}

-- ---- one check

differ : (number a b : ℕ) → (a ≡ b → ⊥) → finding (unequal number a b) ≡ Err (verdict number 0 a b)
unfolding finding sweep first at_fault
differ number a b d = rw (ne_eqb a b d)

agree : (number a b : ℕ) → a ≡ b → finding (unequal number a b) ≡ Ok tt
unfolding finding sweep first at_fault
agree number a b e = rw (eq-eqb a b e)

-- gate k is of a retired kind by the number of its cell
pub retired_in : (c : Counts) (code : List ℕ) (k : ℕ) → k < c.gates → retired_at (stage_gates c code) k ≡ is_retired (cell_in code k)
unfolding retired_at stage_gates
retired_in c code k h = ap (λ (g : Gate). is_retired g.cell) (get_d_tabulate (gate_in code) c.gates k no_gate h)

-- ---- a stage file and a reference

pub comparable : {c : Counts} {after : List ℕ} {s : Stage} {sizes : Counts} {reference : List ℕ} → c.inputs ≡ sizes.inputs → c.outputs ≡ sizes.outputs
    → StageOrdered c after s → ReferenceLoaded sizes reference → BothLoaded c after sizes reference
comparable inputs outputs o a = record { stage = o.loaded; ordered = o.ordered; answers = a; inputs = inputs; outputs = outputs }

module _ (order : WordOrder) {c : Counts} {code nets regs : List ℕ} (h : StageHeld c code nets regs) (sizes : Counts) (reference : List ℕ) where
  abbrev raw : Stage
  raw = stage_view (content_in h)

  abbrev s : Stage
  s = stage_view (wired (content_in h))

  abbrev r : Reference
  r = reference_in sizes reference

  abbrev wiring : List Check
  wiring = wiring_checks (pipeline_of (content_in h))

  abbrev all : Finding
  all = first_fault (checks order raw wiring s r)

  raw_outputs : length raw.outputs ≡ c.outputs
  unfolding stage_outputs
  raw_outputs = ap (λ (x : Stage). length x.outputs) (sym (raw_same h)) ∙ length_tabulate (output_in c code) c.outputs

  reference_outputs : length r.outputs ≡ sizes.outputs
  unfolding signals_in
  reference_outputs = length_tabulate (signal_in sizes reference) sizes.outputs

  -- the checks after those of the wiring
  abbrev later : List Check
  later = retired s ∷ word_checks order s r

  in_order : all ≡ first_fault (unequal 10 c.inputs sizes.inputs ∷ unequal 11 c.outputs sizes.outputs ∷ ((looped raw ∷ wiring) ++ later))
  unfolding checks
  in_order =
      ap₂ (λ (a b : ℕ). first_fault (unequal 10 raw.inputs sizes.inputs ∷ unequal 11 a b ∷ ((looped raw ∷ wiring) ++ later))) raw_outputs reference_outputs
      ∙ ap (λ (x : Stage). first_fault (unequal 10 x.inputs sizes.inputs ∷ unequal 11 c.outputs sizes.outputs ∷ ((looped raw ∷ wiring) ++ later))) (sym (raw_same h))

  pub is_10 : (c.inputs ≡ sizes.inputs → ⊥) → Err (verdict 10 0 c.inputs sizes.inputs) ≡ all
  unfolding first_fault
  is_10 d = sym (in_order ∙ faulty _ _ _ (differ 10 c.inputs sizes.inputs d))

  module _ (inputs : c.inputs ≡ sizes.inputs) where
    after-10 : all ≡ first_fault (unequal 11 c.outputs sizes.outputs ∷ ((looped raw ∷ wiring) ++ later))
    unfolding first_fault
    after-10 = in_order ∙ passed_on _ _ (agree 10 c.inputs sizes.inputs inputs)

    pub is_11 : (c.outputs ≡ sizes.outputs → ⊥) → Err (verdict 11 0 c.outputs sizes.outputs) ≡ all
    unfolding first_fault
    is_11 d = sym (after-10 ∙ faulty _ _ _ (differ 11 c.outputs sizes.outputs d))

    module _ (outputs : c.outputs ≡ sizes.outputs) where
      after-11 : all ≡ or_later (first_fault (looped raw ∷ wiring)) (first_fault later)
      unfolding first_fault
      after-11 = after-10 ∙ passed_on _ _ (agree 11 c.outputs sizes.outputs outputs) ∙ then_later (looped raw ∷ wiring) later

      pub is_wiring : {v : Verdict} → Err v ≡ first_fault (looped raw ∷ wiring) → Err v ≡ all
      is_wiring {v} e = sym (after-11 ∙ faulty _ _ v (sym e))

      module _ (none : Ok tt ≡ first_fault (looped raw ∷ wiring)) {after : List ℕ} (o : StageOrdered c after s) {old : Option ℕ}
          (is : old ≡ least (retired_at (stage_gates c after)) 0 c.gates) where
        after-wiring : all ≡ first_fault later
        after-wiring = after-11 ∙ passed_on _ _ (sym none)

        -- the order is no part of the stage
        least-old : old ≡ least (retired_at s.gates) 0 (length s.gates)
        least-old =
            is ∙ ap (least (retired_at (stage_gates c after)) 0) (sym (length_stage_gates c after))
            ∙ ap (λ (x : Stage). least (retired_at x.gates) 0 (length x.gates)) o.same

        pub is_28 : (g : ℕ) → old ≡ Some g → Err (verdict 28 1 g 0) ≡ all
        unfolding first_fault
        is_28 g q = sym (after-wiring ∙ faulty _ _ _ (found_at (retired s) refl old least-old g q))

        pub is_swept : old ≡ None → {f : Finding} → f ≡ first_fault (word_checks order (stage_in c after) r) → f ≡ all
        unfolding first_fault
        is_swept nothing q =
            q ∙ ap (λ (x : Stage). first_fault (word_checks order x r)) o.same
            ∙ sym (after-wiring ∙ passed_on _ _ (found_nothing (retired s) refl old least-old nothing))
