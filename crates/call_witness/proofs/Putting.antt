-- A rise and a fall that are listed one after the other are those of the verdict. Assumes nothing.
use Prim.Native.Nat.{ℕ, ◌+◌, ◌≤◌}
use native.Mathlib.Omega.{arith}
use mathlib.Core.Path.{◌≡◌, sym, ap, ◌∙◌, subst, subst₂}
use mathlib.Core.Bool.{Bool, true, false, cond}
use mathlib.Core.List.{List, []}
use lib.ListN.{replicate}
use lib.Dec.{eqb}
use Rattle.runs.specs.Row.{Row, low, after}
use Rattle.runs.specs.Net.{Net, nets}
use Rattle.netlist.specs.declared.Counts.{Counts}
use Rattle.verdict.specs.declared.Verdict.{Verdict}
use Rattle.check_spec.specs.Lists.{some}
use Rattle.circuit.specs.Stage.{net_count}
use Rattle.circuit.specs.Rows.{row_size}
use Rattle.circuit.proofs.Settling.{length_stage_gates}
use Rattle.circuit_steps.specs.Moves.{loaded_net, row_in}
use Rattle.circuit_steps.proofs.Goals.{low_levels}
use Rattle.run_spec.specs.Witness.{of_falls}
use Rattle.run_spec.proofs.Played.{played_few}
use Rattle.write_run.specs.Listing.{ListedRun}
use Rattle.call_witness.specs.Lists.{moving, least_first, without, alone, GoalIn, input_under, gate_under, rise_in, fall_in}
use Rattle.call_witness.proofs.Steps.{listed_goal}

-- each net is listed at most once
pub listed_few : (c : Counts) (code : List ℕ) (goal : Row) (held : ℕ) (before : List ℕ) (start : ℕ) (r₀ : Row) (end : ℕ) (list : List ℕ) (r : Row)
    → ListedRun (least_first (loaded_net c code) goal held r₀) before start r₀ end list r → end ≤ start + net_count c
listed_few c code goal held before start r₀ end list r l =
    let N = loaded_net c code in
    omega (arith, l.end_is, played_few (moving N goal held) (λ k. k) (nets N) (nets N) r₀, length_stage_gates c code)

module _ (c : Counts) (code : List ℕ) (v : Verdict) (w : ℕ) (i g : ℕ) (goal before : List ℕ) (end : ℕ) (list : List ℕ) (r : Row) where
  abbrev N : Net
  N = loaded_net c code

  pub rise_listed : i ≡ input_under c v 14 → g ≡ gate_under c v 15 → GoalIn c goal (without w i)
      → ListedRun (least_first N (row_in c goal) g (row_in c (replicate row_size 0))) before 0 (row_in c (replicate row_size 0)) end list r
      → ListedRun (rise_in c code v w) before 0 low end list r
  unfolding rise_in
  rise_listed p q is l =
      let zeros = row_in c (replicate row_size 0) in
      subst (λ (s : Row). ListedRun (least_first N (without w (input_under c v 14)) (gate_under c v 15) s) before 0 s end list r) (low_levels c)
      (subst₂ (λ (x y : ℕ). ListedRun (least_first N (without w x) y zeros) before 0 zeros end list r) p q (listed_goal c code goal (without w i) g is before 0 zeros end list r l))

  pub fall_listed : (start : ℕ) (R : Row) → i ≡ input_under c v 20 → g ≡ gate_under c v 21 → GoalIn c goal (alone w i) → some (eqb v.number) of_falls ≡ true
      → R ≡ after low (rise_in c code v w) → ListedRun (least_first N (row_in c goal) g R) before start R end list r → ListedRun (fall_in c code v w) before start R end list r
  unfolding fall_in
  fall_listed start R p q is h e l =
      let fall = least_first N (alone w (input_under c v 20)) (gate_under c v 21) (after low (rise_in c code v w)) in
      subst (λ (x : List ℕ). ListedRun x before start R end list r)
      (ap (least_first N (alone w (input_under c v 20)) (gate_under c v 21)) e ∙ sym (ap (λ (b : Bool). cond b fall []) h))
      (subst₂ (λ (x y : ℕ). ListedRun (least_first N (alone w x) y R) before start R end list r) p q (listed_goal c code goal (alone w i) g is before start R end list r l))

pub no_fall : (c : Counts) (code : List ℕ) (v : Verdict) (w : ℕ) → some (eqb v.number) of_falls ≡ false → fall_in c code v w ≡ []
unfolding fall_in
no_fall c code v w h =
    let fall = least_first (loaded_net c code) (alone w (input_under c v 20)) (gate_under c v 21) (after low (rise_in c code v w)) in
    ap (λ (b : Bool). cond b fall []) h
