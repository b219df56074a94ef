-- A net switches in a flat row. Assumes nothing.
use Prim.Native.Nat.{ℕ, zero, suc, ◌-◌, ◌≤◌, ◌<◌}
use native.Mathlib.Omega.{arith}
use mathlib.Core.Path.{◌≡◌, refl, sym, ap, ◌∙◌, fun_ext}
use mathlib.Core.Logic.{◌⊎◌, inl, inr, ◌≢◌}
use mathlib.Core.Bool.{not}
use mathlib.Core.List.{List}
use lib.ListN.{get_or, set}
use lib.Seq.{get_or-set_same, get_or-set_other, take-set-lt, length-take-le}
use lib.Dec.{ltb}
use Rattle.runs.specs.Row.{toggle}
use Rattle.runs.proofs.Test.{same?}
use Rattle.runs.proofs.Row.{toggle_same, toggle_other}
use Rattle.netlist.specs.declared.Counts.{Counts}
use Rattle.verdict.specs.Rows.{high}
use Rattle.circuit.specs.Stage.{net_count}
use Rattle.circuit.specs.Rows.{RowFor, nets_in}
use Rattle.circuit.proofs.Pins.{nets_at}
use Rattle.circuit.proofs.Settling.{row_set}
use Rattle.circuit_steps.specs.Moves.{row_in}

turned : (x : ℕ) → x ≤ 1 → ltb 0 (1 - x) ≡ not (ltb 0 x)
turned zero h = refl
turned (suc zero) h = refl
turned (suc (suc x)) h = absurd (omega arith)

module _ (c : Counts) (row : List ℕ) (r : RowFor c row) (k : ℕ) (h : k < net_count c) where
  abbrev now : List ℕ
  now = set row k (1 - get_or row k 0)

  pub switched_row : RowFor c now
  switched_row = row_set c row r k (1 - get_or row k 0) h (omega arith)

  pub switched : row_in c now ≡ toggle (row_in c row) k
  switched = fun_ext (λ i. ap (λ (l : List ℕ). high l i) (take-set-lt (net_count c) row k (1 - get_or row k 0) h) ∙ go i (same? i k))
    where
      go : (i : ℕ) → (i ≡ k) ⊎ (i ≢ k) → high (set (nets_in c row) k (1 - get_or row k 0)) i ≡ toggle (row_in c row) k i
      go i (inl p) =
          rw p (
          ap (λ (x : ℕ). ltb 0 x) (get_or-set_same (nets_in c row) k (1 - get_or row k 0) 0 (omega (arith, length-take-le (net_count c) row (omega (arith, r.long)))))
          ∙ turned (get_or row k 0) (r.bit k (omega arith))
          ∙ ap (λ (x : ℕ). not (ltb 0 x)) (sym (nets_at c row r k (omega arith)))
          ∙ sym (toggle_same (row_in c row) k)
          )
      go i (inr n) = ap (λ (x : ℕ). ltb 0 x) (get_or-set_other (nets_in c row) k i (1 - get_or row k 0) 0 n) ∙ sym (toggle_other (row_in c row) k i n)
