-- Both rails of one input set low: that input is NULL, and the others are as they were. 14 for that input.
-- Assumes nothing.
use Prim.Native.Nat.{ℕ, zero, suc, ◌+◌, ◌*◌, ◌<◌}
use native.Mathlib.Omega.{arith}
use mathlib.Core.Path.{◌≡◌, refl, sym, ap, ap₂, ◌∙◌, fun_ext}
use mathlib.Core.Bool.{Bool, false, cond}
use mathlib.Core.List.{List, [], ◌∷◌}
use lib.ListN.{length, set}
use lib.Seq.{take-set-lt}
use lib.Dec.{eqb-zero-suc, eqb-suc-zero, eqb-suc-suc}
use Rattle.runs.specs.Row.{only}
use Rattle.netlist.specs.declared.Counts.{Counts}
use Rattle.verdict.specs.Words.{bits_of, rails_of}
use Rattle.verdict.specs.Rows.{with_null, settled, all_data}
use Rattle.verdict.specs.Checks.{incomplete}
use Rattle.circuit.specs.Stage.{stage_gates, stage_outputs, stage_in}
use Rattle.circuit.specs.Rows.{RowFor, rail_part, settled_in}
use Rattle.circuit.proofs.Settling.{length_rails, row_set}

-- no input is missing
null_none : (rails : List ℕ) → with_null (λ i. false) rails ≡ rails
unfolding with_null
null_none [] = refl
null_none (a ∷ []) = refl
null_none (a ∷ b ∷ rails) = ap (λ (l : List ℕ). a ∷ b ∷ l) (null_none rails)

-- an input after the first is missing
null_later : (i a b : ℕ) (rails : List ℕ) → with_null (only (suc i)) (a ∷ b ∷ rails) ≡ a ∷ b ∷ with_null (only i) rails
unfolding with_null
null_later i a b rails =
    ap₂ (λ (t : Bool) (m : ℕ → Bool). cond t (0 ∷ 0 ∷ with_null m rails) (a ∷ b ∷ with_null m rails)) (eqb-zero-suc i) (fun_ext (λ k. eqb-suc-suc k i))

-- rail 0 of input i stands at 2 i
pub null_input : (rails : List ℕ) (i : ℕ) → 2 * i + 1 < length rails → set (set rails (2 * i) 0) (2 * i + 1) 0 ≡ with_null (only i) rails
unfolding with_null
null_input [] i h = absurd (omega arith)
null_input (a ∷ []) i h = absurd (omega arith)
null_input (a ∷ b ∷ rails) zero h =
    sym (ap (λ (m : ℕ → Bool). 0 ∷ 0 ∷ with_null m rails) (fun_ext (λ k. eqb-suc-zero k)) ∙ ap (λ (l : List ℕ). 0 ∷ 0 ∷ l) (null_none rails))
null_input (a ∷ b ∷ rails) (suc i) h =
    let e : 2 * suc i ≡ suc (suc (2 * i)) = omega arith in
    let f : 2 * suc i + 1 ≡ suc (suc (2 * i + 1)) = omega arith in
    ap₂ (λ (x y : ℕ). set (set (a ∷ b ∷ rails) x 0) y 0) e f ∙ ap (λ (l : List ℕ). a ∷ b ∷ l) (null_input rails i (omega arith))
    ∙ sym (null_later i a b rails)

-- ---- 14

module _ (c : Counts) (row : List ℕ) (r : RowFor c row) (i : ℕ) (h : i < c.inputs) where
  pub null_row : RowFor c (set (set row (2 * i) 0) (2 * i + 1) 0)
  null_row = row_set c (set row (2 * i) 0) (row_set c row r (2 * i) 0 (omega arith) (omega arith)) (2 * i + 1) 0 (omega arith) (omega arith)

  null_rails : rail_part c (set (set row (2 * i) 0) (2 * i + 1) 0) ≡ with_null (only i) (rail_part c row)
  null_rails =
      take-set-lt (2 * c.inputs) (set row (2 * i) 0) (2 * i + 1) 0 (omega arith)
      ∙ ap (λ (l : List ℕ). set l (2 * i + 1) 0) (take-set-lt (2 * c.inputs) row (2 * i) 0 (omega arith))
      ∙ null_input (rail_part c row) i (omega (arith, length_rails c row r))

  pub null_word : (code : List ℕ) (w : ℕ) → rail_part c row ≡ rails_of (bits_of c.inputs w) → (nets : List ℕ) →
      nets ≡ settled_in c code (set (set row (2 * i) 0) (2 * i + 1) 0) →
      (b : Bool) → b ≡ all_data nets (stage_outputs c code) → b ≡ incomplete (stage_in c code) w i
  unfolding incomplete
  null_word code w spelt nets is b e =
      e ∙ ap (λ (l : List ℕ). all_data l (stage_outputs c code)) is
      ∙ ap (λ (l : List ℕ). all_data (settled (stage_gates c code) l) (stage_outputs c code)) (null_rails ∙ ap (with_null (only i)) spelt)
