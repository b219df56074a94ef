-- The settled-row call by its cases: on a stage that was loaded, and on what reading answers.
-- Assumes nothing.
use Rattle.std.specs.Prelude.{Option, Some, None, Ok, Err}
use Prim.Native.Nat.{ℕ, ◌+◌, ◌*◌, ◌/◌, ◌≤◌, ◌<◌}
use native.Mathlib.Omega.{arith}
use mathlib.Core.Path.{◌≡◌, sym, ap, subst, ◌∙◌}
use mathlib.Core.List.{List}
use lib.ListN.{length, get_or, take}
use borrow.Author.Tests.{eq-eqb, ne_eqb}
use Rattle.netlist.specs.declared.File.TheVariants as file
use Rattle.netlist.specs.declared.Counts.{Counts}
use Rattle.netlist.specs.Types.{refusal}
use Rattle.netlist.specs.Reading.{Reading, read_file, stage_limits}
use Rattle.netlist.specs.Read.{outcome_of}
use Rattle.netlist.specs.Content.{Stage}
use Rattle.verdict.specs.declared.Verdict.{Verdict}
use Rattle.verdict.specs.FourNumbers.{Finding}
use Rattle.verdict.specs.Rows.{settled}
use Rattle.verdict.specs.Checks.{verdict, first, at_fault, sweep, finding, or_later, first_fault, illegal, row_checks}
use Rattle.verdict.specs.Search.{least}
use Rattle.verdict.specs.Verdicts.{RowAnswer, answer_with, accepted, settle_unless, settle_reading, settled_row, settled_row_within}
use Rattle.check_spec.specs.Verdicts.{row_verdict, row_after}
use Rattle.check_spec.specs.Demands.{DemandRow}
use Rattle.check_spec.proofs.Row.{row_is}
use Rattle.verdict.proofs.Least.{least_says}
use Rattle.circuit.specs.Stage.{stage_gates, stage_in}
use Rattle.circuit.proofs.Settling.{length_stage_gates}
use Rattle.circuit_order.specs.Marks.{LoopFound}
use Rattle.circuit_order.proofs.Findings.{passed_on, faulty, loop-at, no_loop}
use Rattle.circuit_load.specs.Load.{HoldsStage}
use Rattle.circuit_load.proofs.Reading.{was_refused, stage_held}
use Rattle.call_row.proofs.Illegal.{legal_low}

-- ---- a stage that was loaded

module _ (c : Counts) (code after row : List ℕ) (found : Option ℕ) (l : LoopFound c code after found) where
  abbrev s : Stage
  s = stage_in c code

  abbrev call : RowAnswer
  call = settle_unless (first_fault (row_checks s row)) s row

  size : 2 * c.inputs + length s.gates ≡ 2 * c.inputs + c.gates
  size = ap (λ (g : ℕ). 2 * c.inputs + g) (length_stage_gates c code)

  -- a fault of the checks leaves the row
  refuses : (v : Verdict) → first_fault (row_checks s row) ≡ Err v → answer_with v row ≡ call
  unfolding settle_unless
  refuses v e = sym (ap (λ (f : Finding). settle_unless f s row) e)

  pub is_12 : (g : ℕ) → found ≡ Some g → answer_with (verdict 12 1 g 0) row ≡ call
  unfolding first_fault row_checks
  is_12 g e = refuses (verdict 12 1 g 0) (faulty _ _ _ (loop-at c code after found l g e))

  module _ (e : found ≡ None) where
    pub is_16 : (length row ≡ 2 * c.inputs + c.gates → ⊥) → answer_with (verdict 16 3 (length row) 0) row ≡ call
    unfolding first_fault row_checks finding sweep first at_fault
    is_16 d =
        refuses (verdict 16 3 (length row) 0)
        (passed_on _ _ (no_loop c code after found l e) ∙ faulty _ _ _
        (rw (ne_eqb (length row) (2 * c.inputs + length s.gates) (λ q. d (q ∙ size)))))

    module _ (long : length row ≡ 2 * c.inputs + c.gates) (illegal-at : Option ℕ) (i : illegal-at ≡ least (illegal row) 0 c.inputs) where
      after-16 : first_fault (row_checks s row) ≡ or_later (at_fault 17 3 0 illegal-at (Ok tt)) (Ok tt)
      unfolding first_fault row_checks finding sweep first at_fault
      after-16 =
          passed_on _ _ (no_loop c code after found l e)
          ∙ passed_on _ _ (rw (eq-eqb (length row) (2 * c.inputs + length s.gates) (long ∙ sym size)))
          ∙ ap (λ (f : Option ℕ). or_later (at_fault 17 3 0 f (Ok tt)) (Ok tt)) (sym i)

      pub is_17 : (k : ℕ) → illegal-at ≡ Some k → answer_with (verdict 17 3 k 0) row ≡ call
      unfolding at_fault or_later
      is_17 k q = refuses (verdict 17 3 k 0) (after-16 ∙ ap (λ (f : Option ℕ). or_later (at_fault 17 3 0 f (Ok tt)) (Ok tt)) q)

      module _ (q : illegal-at ≡ None) where
        pub is-0 : (row' : List ℕ) → row' ≡ settled (stage_gates c after) (take (2 * c.inputs) row) → answer_with accepted row' ≡ call
        unfolding at_fault or_later settle_unless
        is-0 row' f =
            ap (answer_with accepted) (f ∙ ap (λ (x : Stage). settled x.gates (take (2 * c.inputs) row)) l.same)
            ∙ sym (ap (λ (y : Finding). settle_unless y s row) (after-16 ∙ ap (λ (y : Option ℕ). or_later (at_fault 17 3 0 y (Ok tt)) (Ok tt)) q))

        -- legal rails are 0 and 1
        pub rails_bits : (p : ℕ) → p < 2 * c.inputs → get_or row p 0 ≤ 1
        rails_bits p h = legal_low row p (least_says (illegal row) 0 c.inputs None (sym i ∙ q) (p / 2) (omega arith) (omega arith))

-- ---- what reading answers

module _ (bytes row : List ℕ) where
  abbrev reading : Reading
  reading = read_file file.Stage stage_limits bytes

  pub by_refusal : (number at : ℕ) → Err (refusal number at) ≡ outcome_of reading → answer_with (verdict number 1 at 0) row ≡ settled_row bytes row
  unfolding settle_reading settled_row_within
  by_refusal number at e = sym (ap (settle_reading bytes row) (was_refused reading number at e))

  pub by_stage : (c : Counts) (code : List ℕ) → Ok c ≡ outcome_of reading → HoldsStage bytes reading code →
      (v : Verdict) (row' : List ℕ) →
      answer_with v row' ≡ settle_unless (first_fault (row_checks (stage_in c code) row)) (stage_in c code) row → answer_with v row' ≡ settled_row bytes row
  unfolding settle_reading settled_row_within
  by_stage c code e h v row' j =
      let r = stage_held bytes reading c code e h in
      j ∙ ap (λ (x : Stage). settle_unless (first_fault (row_checks x row)) x row) r.2 ∙ sym (ap (settle_reading bytes row) r.1)

  -- the answer has the verdict and the row, and so the demands
  pub answered : (v : Verdict) (row' : List ℕ) → answer_with v row' ≡ settled_row bytes row →
      (v ≡ row_verdict bytes row) × ((row' ≡ row_after bytes row) × DemandRow bytes row v row')
  answered v row' e =
      let is = row_is bytes row in (
        ap (λ (a : RowAnswer). a.verdict) e ∙ sym is.verdict_is,
        (
          ap (λ (a : RowAnswer). a.row) e ∙ sym is.row_is,
          subst (λ (a : RowAnswer). DemandRow bytes row a.verdict a.row) (sym e) is.demand,
        ),
      )
