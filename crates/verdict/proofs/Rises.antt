-- "Rises are judged as before": the checks of the rise do not look at hold. Assumes nothing.
use Prim.Native.Nat.{ℕ, ◌+◌, ◌*◌}
use mathlib.Core.Path.{◌≡◌, refl, ap, ap₂, fun_ext}
use mathlib.Core.Bool.{true, false}
use mathlib.Core.List.{List, [], ◌∷◌, ◌++◌, map}
use lib.ListN.{length, set, length-map}
use Rattle.runs.specs.Row.{only}
use Rattle.netlist.specs.Content.{Gate, Stage, Reference}
use Rattle.verdict.specs.declared.WordOrder.{WordOrder}
use Rattle.verdict.specs.Rows.{high, is_set, rounds, settled_levels, levels_holding, with_null, all_data}
use Rattle.verdict.specs.Words.{words, rails_in, names}
use Rattle.verdict.specs.Checks.{finding, first_fault, wrong, incomplete, unobservable, rise_sweeps}

-- a gate with hold in place of what it has, and a stage of such gates
abbrev pub held : Gate → Gate
held g = record { cell = g.cell; hold = true; pins = g.pins }

abbrev pub all_held : Stage → Stage
all_held s = record { inputs = s.inputs; gates = map held s.gates; outputs = s.outputs; care = s.care }

-- ---- levels

set-alike : (row : List ℕ) (gates : List Gate) → map (is_set row) (map held gates) ≡ map (is_set row) gates
unfolding is_set
set-alike row [] = refl
set-alike row (g ∷ gates) = ap (λ (l : List ℕ). is_set row g ∷ l) (set-alike row gates)

levels_alike : (gates : List Gate) (rails : List ℕ) → settled_levels (map held gates) rails ≡ settled_levels gates rails
unfolding settled_levels
levels_alike gates rails =
    rw (length-map gates held) (ap (λ (step : List ℕ → List ℕ). rounds step (length gates) (length gates)) (fun_ext (λ v. set-alike (rails ++ v) gates)))

holding-alike : (h : ℕ) (gates : List Gate) (rails : List ℕ) → levels_holding h (map held gates) rails ≡ levels_holding h gates rails
unfolding levels_holding
holding-alike h gates rails =
    rw (length-map gates held)
    (ap (λ (step : List ℕ → List ℕ). rounds step (length gates) (length gates)) (fun_ext (λ v. ap (λ (l : List ℕ). set l h 0) (set-alike (rails ++ v) gates))))

-- ---- the checks

module _ (s : Stage) (r : Reference) where
  wrong-alike : wrong (all_held s) r ≡ wrong s r
  unfolding wrong
  wrong-alike = fun_ext (λ w. fun_ext (λ j. rw (levels_alike s.gates (rails_in s w)) refl))

  incomplete-alike : incomplete (all_held s) ≡ incomplete s
  unfolding incomplete
  incomplete-alike = fun_ext (λ w. fun_ext (λ i. rw (levels_alike s.gates (with_null (only i) (rails_in s w))) refl))

  unobservable-alike : unobservable (all_held s) ≡ unobservable s
  unfolding unobservable
  unobservable-alike = fun_ext (λ w. fun_ext (λ g.
      ap₂ (λ (row other : List ℕ). elim (high (rails_in s w ++ row) (2 * s.inputs + g)) [ true ↦ all_data (rails_in s w ++ other) s.outputs | false ↦ false ])
      (levels_alike s.gates (rails_in s w)) (holding-alike g s.gates (rails_in s w))))

  pub rises_as_before : (order : WordOrder) → first_fault (rise_sweeps order (all_held s) r) ≡ first_fault (rise_sweeps order s r)
  unfolding rise_sweeps first_fault finding words names
  rises_as_before order = rw (wrong-alike, incomplete-alike, unobservable-alike, length-map s.gates held) refl
