-- A row that is left is written as bytes, and the call is what is said of it. Assumes nothing.
use Prim.Native.Nat.{ℕ, zero, suc, ◌+◌, ◌*◌, ◌≤◌, ◌<◌}
use native.Mathlib.Omega.{arith}
use mathlib.Core.Path.{◌≡◌, refl, sym, ap, ap₂, ◌∙◌}
use mathlib.Core.Bool.{Bool}
use mathlib.Core.List.{List, [], ◌∷◌, map}
use lib.ListN.{length, get_or, take}
use lib.Seq.{length-take-le, get_or-take}
use lib.Dec.{ltb}
use Rattle.gates.specs.Cell.{bit}
use Rattle.runs.specs.Row.{low, after}
use Rattle.runs.specs.Net.{Net}
use Rattle.netlist.specs.declared.Counts.{Counts}
use Rattle.verdict.specs.declared.Verdict.{Verdict}
use Rattle.verdict.specs.declared.WordOrder.{WordOrder}
use Rattle.verdict.specs.FourNumbers.{accepted}
use Rattle.verdict.specs.Words as flat
use Rattle.check_spec.specs.Cases.{judge}
use Rattle.check_spec.specs.Lists.{numbers}
use Rattle.check_spec.specs.Words.{rails_for, spelled}
use Rattle.check_spec.proofs.Alike.{spelled_alike}
use Rattle.circuit.specs.Stage.{net_count}
use Rattle.circuit.specs.Rows.{RowFor}
use Rattle.circuit.proofs.Settling.{length_stage_gates}
use Rattle.circuit_steps.specs.Moves.{loaded_net, row_in}
use Rattle.run_spec.specs.declared.PlayAnswer.{PlayAnswer}
use Rattle.run_spec.specs.Play.{play_checks_on, steps_of, played_steps, levels_of, PlayDemand}
use Rattle.run_spec.proofs.Calls.{played_accepted, played_refused, play_demand}
use Rattle.call_open.specs.Opened.{StageOpened}
use Rattle.call_play.specs.Steps.{Played, LeftBy}

-- ---- a row as bytes

level : (x : ℕ) → x ≤ 1 → x ≡ bit (ltb 0 x)
level zero h = refl
level (suc zero) h = refl
level (suc (suc x)) h = absurd (omega arith)

by_place : (l : List ℕ) (j : ℕ) (f : ℕ → Bool) → ((k : ℕ) → k < length l → get_or l k 0 ≡ bit (f (j + k))) → l ≡ map (λ k. bit (f k)) (numbers j (length l))
unfolding numbers
by_place [] j f h = refl
by_place (x ∷ l) j f h =
    let z : j + 0 ≡ j = omega arith in
    ap₂ (λ (y : ℕ) (m : List ℕ). y ∷ m) (h 0 (omega arith) ∙ ap (λ (k : ℕ). bit (f k)) z)
    (by_place l (suc j) f (λ k b. let e : j + suc k ≡ suc j + k = omega arith in h (suc k) (omega arith) ∙ ap (λ (i : ℕ). bit (f i)) e))

module _ (c : Counts) (code row : List ℕ) (ro : RowFor c row) where
  pub first_long : length (take (net_count c) row) ≡ net_count c
  first_long = length-take-le (net_count c) row (omega (arith, ro.long))

  pub levels_are : take (net_count c) row ≡ levels_of (loaded_net c code) (row_in c row)
  levels_are =
      by_place (take (net_count c) row) 0 (row_in c row)
      (λ k h.
      let z : k ≡ 0 + k = omega arith in
      level (get_or (take (net_count c) row) k 0) (omega (arith, get_or-take (net_count c) row k 0 (omega (arith, first_long)), ro.bit k (omega (arith, first_long))))
      ∙ ap (λ (i : ℕ). bit (row_in c row i)) z)
      ∙ ap (λ (n : ℕ). map (λ k. bit (row_in c row k)) (numbers 0 n)) (first_long ∙ ap (λ (g : ℕ). 2 * c.inputs + g) (sym (length_stage_gates c code)))

-- ---- a stage that was opened

pub left_by : (order : WordOrder) (c : Counts) (code : List ℕ) (name fall : ℕ) (list : List ℕ) (w : ℕ) → w ≡ flat.spelled order c.inputs name
    → (steps : ℕ) (own : List ℕ) → Played c code w fall list steps own → (after' : List ℕ) → after' ≡ take (net_count c) own
    → (r : PlayAnswer) → r ≡ record { verdict = accepted; steps = steps } → LeftBy order c code name fall list r after'
left_by order c code name fall list w e steps own p after' h r q =
    let s : steps ≡ steps_of (loaded_net c code) (rails_for (flat.spelled order c.inputs name)) fall list =
    p.steps_are ∙ ap (λ (x : ℕ). steps_of (loaded_net c code) (rails_for x) fall list) e in
    record {
      answer = q ∙ ap {B = PlayAnswer} (λ (n : ℕ). record { verdict = accepted; steps = n }) s;
      row_is =
          h ∙ levels_are c code own p.row_for_holds
          ∙ ap (levels_of (loaded_net c code)) p.row_is
          ∙ ap (λ (n : ℕ). levels_of (loaded_net c code) (after low (take n list))) s;
    }

-- ---- the call

module _ (order : WordOrder) (stage : List ℕ) (name fall : ℕ) (list before : List ℕ) where
  abbrev v : Verdict
  v = judge (play_checks_on stage before)

  pub by_refusal : (x : Verdict) → (x ≡ v) × (¬ (x.number ≡ 0)) → (r : PlayAnswer) → r ≡ record { verdict = x; steps = 0 } → PlayDemand order stage name fall list before r before
  by_refusal x h r q =
      let p = played_refused order stage name fall list before (λ z. h.1 (ap (λ (y : Verdict). y.number) h.0 ∙ z)) in
      play_demand order stage name fall list before r before (q ∙ ap {B = PlayAnswer} (λ (y : Verdict). record { verdict = y; steps = 0 }) h.0 ∙ sym p.0) (sym p.1)

  pub by_steps : (c : Counts) (code : List ℕ) → StageOpened stage c code × (v ≡ accepted) → (r : PlayAnswer) (row : List ℕ) → LeftBy order c code name fall list r row
      → PlayDemand order stage name fall list before r row
  by_steps c code (o, is) r row l =
      let p = played_accepted order stage name fall list before (ap (λ (y : Verdict). y.number) is) in
      let s : steps_of (loaded_net c code) (rails_for (flat.spelled order c.inputs name)) fall list ≡ played_steps order stage name fall list =
      ap₂ (λ (N : Net) (w : ℕ). steps_of N (rails_for w) fall list) o.net (sym (spelled_alike order c.inputs name) ∙ ap (λ (n : ℕ). spelled order n name) o.inputs) in
      play_demand order stage name fall list before r row
      (l.answer ∙ ap₂ {C = PlayAnswer} (λ (y : Verdict) (n : ℕ). record { verdict = y; steps = n }) (sym is) s ∙ sym p.0)
      (l.row_is ∙ ap₂ (λ (N : Net) (n : ℕ). levels_of N (after low (take n list))) o.net s ∙ sym p.1)
